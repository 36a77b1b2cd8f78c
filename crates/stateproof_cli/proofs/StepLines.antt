-- Lines of words with one blank between them.
use Rattle.std.proofs.Common.{◌≡◌, ℕ, List, ◌∷◌, ◌++◌, ◌<◌, length, get_or, ap, sym, ◌∙◌, eqb→eq}
use Rattle.std.proofs.lemmas.List.Sums.{passes_at_first, split_at_first}
use Rattle.std.specs.Prelude.{◌==◌}
use Rattle.std.specs.Bool.{passes}
use Rattle.std.specs.List.{after_first, before_first, position_or_len}

-- a line from what stands before its first blank and what stands after it
pub around_blank : (line word rest : List ℕ) → word ≡ before_first (λ b. b == 32) line
    → rest ≡ after_first (λ b. b == 32) line → position_or_len (λ b. b == 32) line < length line
    → line ≡ word ++ 32 ∷ rest
around_blank line word rest front back inside =
    let blank : get_or line (position_or_len (λ b. b == 32) line) 0 ≡ 32 = eqb→eq _ 32 (passes _ (passes_at_first (λ b. b == 32) line 0 inside)) in
    split_at_first (λ b. b == 32) line 0 inside
    ∙ ap (λ b. before_first (λ b. b == 32) line ++ (b ∷ after_first (λ b. b == 32) line)) blank
    ∙ ap (λ w. w ++ 32 ∷ after_first (λ b. b == 32) line) (sym front)
    ∙ ap (λ r. word ++ 32 ∷ r) (sym back)
