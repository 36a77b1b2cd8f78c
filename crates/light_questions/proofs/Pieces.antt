-- One step of cutting a string up.
use Rattle.std.proofs.Common.{◌≡◌, ℕ, ◌+◌, ◌<◌, List, ◌∷◌, length, take, drop, get_or, sum}
use Rattle.std.proofs.lemmas.List.{at_drop_more}
use Rattle.std.proofs.lemmas.List.Sums.{sum_by-drop_more}
use Rattle.light_questions.specs.ByteStrings.{cut}

pub cut_step : (lengths : List ℕ) (i : ℕ) (rest : List ℕ) → i < length lengths
    → cut (drop i lengths) rest
    ≡ take (get_or lengths i 0) rest ∷ cut (drop (i + 1) lengths) (drop (get_or lengths i 0) rest)
cut_step lengths i rest h = at_drop_more (λ (ls : List ℕ). cut ls rest) lengths i 0 h

pub sum_step : (lengths : List ℕ) (i : ℕ) → i < length lengths
    → sum (drop i lengths) ≡ get_or lengths i 0 + sum (drop (i + 1) lengths)
sum_step lengths i h = sum_by-drop_more (λ (n : ℕ). n) lengths i 0 h
