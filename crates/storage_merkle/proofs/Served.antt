-- Digests that are kept at positions, one after another.
use Rattle.std.proofs.Common.{◌≡◌, ℕ, List, [], ◌∷◌, map, refl, ap₂, Option, Some, Result, Ok, Err}
use Rattle.std.specs.Prelude.{IfOk}
use Rattle.std.specs.List.{AllZip}

pub serves : {D : Type 0} (kept : ℕ → Option D) (ps : List ℕ) (ds : List D) → AllZip (λ p d. Some d ≡ kept p) ps ds
    → map Some ds ≡ map kept ps
serves kept [] [] z = refl
serves kept [] (d ∷ ds) z = absurd z
serves kept (p ∷ ps) [] z = absurd z
serves kept (p ∷ ps) (d ∷ ds) z = ap₂ (λ x xs. x ∷ xs) z.0 (serves kept ps ds z.1)

pub if_ok : {X E : Type 0} (r : Result X E) {P Q : X → Type 0} → ((x : X) → P x → Q x) → IfOk r P → IfOk r Q
if_ok (Ok x) f p = f x p
if_ok (Err e) f p = p
