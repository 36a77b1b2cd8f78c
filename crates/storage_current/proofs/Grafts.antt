-- Which chunk is grafted over a node.
use Rattle.std.proofs.Common.{◌≡◌, ℕ, ◌-◌, ◌/◌, ◌%◌, ◌^◌, ◌<◌, ◌≤◌, true, List, [], length, map, get_or, refl, sym, ap, ◌∙◌}
use Rattle.std.proofs.lemmas.Bool.{eq-eqb, lt-ltb, le-ltb}
use Rattle.std.proofs.lemmas.List.{get_or-map}
use Rattle.storage_current.specs.Grafted.{grafted_over, supplied}

pub over_yes : (h r a k : ℕ) → k ≡ h → a % 2 ^ k ≡ 0 → a / 2 ^ k < r → grafted_over h r a k ≡ true
over_yes h r a k e al below = rw (← e, eq-eqb k k refl, eq-eqb (a % 2 ^ k) 0 al, lt-ltb (a / 2 ^ k) r below) refl

pub supplied_from : (start j : ℕ) (chunks : List (List ℕ)) → start ≤ j
    → supplied start chunks j ≡ get_or chunks (j - start) []
supplied_from start j chunks h = rw (le-ltb j start h) refl

supplied_at : {X : Type 0} (f : X → List ℕ) (start j : ℕ) (chunks : List X) (x : X) → start ≤ j
    → j - start < length chunks → x ≡ get_or chunks (j - start) x
    → supplied start (map f chunks) j ≡ f x
supplied_at f start j chunks x from below e =
    supplied_from start j (map f chunks) from ∙ (get_or-map f chunks (j - start) x [] below ∙ ap f (sym e))

pub grafted_some : {X : Type 0} (f : X → List ℕ) (h start r a k : ℕ) (chunks : List X) (x : X) → k ≡ h → a % 2 ^ k ≡ 0
    → a / 2 ^ k < r → start ≤ a / 2 ^ k
    → a / 2 ^ k - start < length chunks → x ≡ get_or chunks (a / 2 ^ k - start) x
    → (grafted_over h r a k ≡ true) × (supplied start (map f chunks) (a / 2 ^ h) ≡ f x)
grafted_some f h start r a k chunks x e al below from inside read =
    (over_yes h r a k e al below, rw (← e) (supplied_at f start (a / 2 ^ k) chunks x from inside read))
