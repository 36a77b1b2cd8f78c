-- Pages that are taken one after another.
use Rattle.std.specs.Prelude.{◌≡◌, ℕ, ◌+◌, ◌≤◌, Bool, List, [], ◌∷◌, length, Some}
use Rattle.storage_codec.specs.Digests.{HashFunction}
use Rattle.storage_current.specs.Snapshots.{Grafting}
use Rattle.storage_sync.specs.Syncs.{Taken, IsTaken, place}

-- these pages, as they are written, are taken one after another
abbrev pub IsRun : HashFunction → Grafting → Bool → ℕ → List (List ℕ) → Taken → Taken → Type 0
IsRun h g has_pending d [] old new = new ≡ old
IsRun h g has_pending d (bytes ∷ more) old new =
    (between : Taken) × IsTaken h g has_pending d old between bytes × IsRun h g has_pending d more between new

-- No more pages are taken, one after another, than operations were left.
abbrev pub RunsEnd : Type 0
RunsEnd =
    (h : HashFunction) (g : Grafting) (has_pending : Bool) (d : ℕ) (bytes : List ℕ) (more : List (List ℕ)) (old new : Taken)
    → IsRun h g has_pending d (bytes ∷ more) old new → (leaves : ℕ) → new.leaves ≡ Some leaves
    → place old + length (bytes ∷ more) ≤ leaves
