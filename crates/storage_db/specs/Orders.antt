-- Entries in the order of their keys.
use Rattle.std.specs.Prelude.{◌≡◌, List, [], ◌∷◌}
use Rattle.std.specs.declared.cmp.Ordering.{Ordering}
use Rattle.std.specs.declared.cmp.Ordering.TheVariants.{Less}

-- each key comes after a key
abbrev pub Above : {K X : Type 0} → (K → K → Ordering) → K → List (K × X) → Type 0
Above cmp k [] = Unit {0}
Above cmp k (c ∷ es) = (cmp k c.0 ≡ Less) × Above cmp k es

-- each key comes before those that follow it
abbrev pub Sorted : {K X : Type 0} → (K → K → Ordering) → List (K × X) → Type 0
Sorted cmp [] = Unit {0}
Sorted cmp (c ∷ es) = Above cmp c.0 es × Sorted cmp es
