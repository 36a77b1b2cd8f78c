-- Positions of two stores, of which one is read at once and the other later.
use Rattle.std.specs.Prelude.{◌≡◌, ℕ, suc, List, [], ◌∷◌, Option, Some, None}
use Rattle.storage_current.specs.declared.qmdb.current.grafting.storage.Look.{Look}
use Rattle.storage_current.specs.declared.qmdb.current.grafting.storage.Look.TheVariants.{Absent, Below, Found}

-- what `node` has at a position: nothing, what `later` has, or a digest that is found at once
abbrev pub IsLook : {D : Type 0} → (ℕ → Option D) → (ℕ → Option D) → ℕ → Look D → Type 0
IsLook node later p Absent = node p ≡ None
IsLook node later p Below = node p ≡ later p
IsLook node later p (Found d) = node p ≡ Some d

-- of the positions before the rest, each digest that is found, and the positions where `later` has what `node` has
abbrev pub IsSplit : {D : Type 0} → (ℕ → Option D) → (ℕ → Option D) → List ℕ → List (Option D) → List ℕ
    → List ℕ → Type 0
IsSplit node later rest [] ps os = (ps ≡ rest) × (os ≡ [])
IsSplit node later rest (Some d ∷ ds) (p ∷ ps) os = (node p ≡ Some d) × IsSplit node later rest ds ps os
IsSplit node later rest (None ∷ ds) (p ∷ ps) (o ∷ os) = (o ≡ p) × (node p ≡ later p) × IsSplit node later rest ds ps os
IsSplit node later rest (Some d ∷ ds) [] os = ⊥
IsSplit node later rest (None ∷ ds) [] os = ⊥
IsSplit node later rest (None ∷ ds) (p ∷ ps) [] = ⊥

-- how many digests are not found, and the digests with others in their places
abbrev pub gaps : {D : Type 0} → List (Option D) → ℕ
gaps [] = 0
gaps (Some d ∷ ds) = gaps ds
gaps (None ∷ ds) = suc (gaps ds)

abbrev pub filled : {D : Type 0} → List (Option D) → List D → List D
filled [] es = []
filled (Some d ∷ ds) es = d ∷ filled ds es
filled (None ∷ ds) [] = []
filled (None ∷ ds) (e ∷ es) = e ∷ filled ds es
