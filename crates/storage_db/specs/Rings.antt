-- Keys in a ring: after the greatest comes the least.
use Rattle.std.specs.Prelude.{List, [], ◌∷◌, ◌++◌, Option, Some, None, slice_get, option_map, unwrap_or}
use Rattle.std.specs.declared.cmp.Ordering.{Ordering}
use Rattle.std.specs.declared.ops.Bound.TheVariants.{Excluded, Unbounded}
use Rattle.std.specs.BTreeMap.Range.{entries_between}

-- the last of a list
abbrev pub last_of : {X : Type 0} → List X → Option X
last_of [] = None
last_of (x ∷ xs) = Some (unwrap_or (last_of xs) x)

module _ {K X : Type 0} (cmp : K → K → Ordering) where
  -- the entries of the other keys, from a key on: those after it, and then those before it
  abbrev pub around : List (K × X) → K → List (K × X)
  around entries key = entries_between cmp (Excluded key) Unbounded entries
      ++ entries_between cmp Unbounded (Excluded key) entries

  -- the key that comes after a key: the next greater one, else the least; itself, where there is no other
  abbrev pub next_key : List (K × X) → K → K
  next_key entries key = unwrap_or (option_map (λ (entry : K × X). entry.0) (slice_get (around entries key) 0)) key

  -- the entry of the key that comes before a key: the next lesser one, else the greatest; none, where there is no other
  abbrev pub previous : List (K × X) → K → Option (K × X)
  previous entries key = last_of (around entries key)
