-- Beginnings of what is appended.
use Rattle.std.proofs.Common.{◌≡◌, ℕ, List, ◌++◌, Result, Ok, Err, OnErr, ap, ◌∙◌, append_assoc}

-- two parts, one after the other
pub appended : (old first second : List ℕ) {mid new : List ℕ} → mid ≡ old ++ first → new ≡ mid ++ second
    → new ≡ old ++ (first ++ second)
appended old first second p q = q ∙ (ap (λ (t : List ℕ). t ++ second) p ∙ append_assoc old first second)

pub on_err : {A E : Type 0} {P : Type 0} (r : Result A E) → P → OnErr r P
on_err (Ok x) p = tt
on_err (Err e) p = p
