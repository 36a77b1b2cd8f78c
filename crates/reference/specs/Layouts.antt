-- Layouts, and what a calculation over one is given.
use Rattle.std.specs.Prelude.{ℕ, List, Bool}
use Rattle.storage_merkle.specs.Shape.{Shape}
use Rattle.storage_merkle.specs.Calc.{Site, Values}
use Rattle.storage_merkle.specs.Trees.{Layout}
use Rattle.storage_current.specs.Snapshots.{Snapshot}

-- a family's layout with a chunk grafted over these nodes
abbrev pub laid_out : Shape → (ℕ → ℕ → Bool) → Layout
laid_out S grafted = record { shape = S; position = S.position; grafted = grafted }

-- digests, elements and chunks
abbrev pub valued : (Site → List ℕ) → (ℕ → List ℕ) → (ℕ → List ℕ) → Values
valued digest element chunk = record { digest = digest; element = element; chunk = chunk }

-- operations with their bits and a floor
abbrev pub snapshot : List (List ℕ) → List Bool → ℕ → Snapshot
snapshot operations bits floor = record { operations = operations; bits = bits; floor = floor }
