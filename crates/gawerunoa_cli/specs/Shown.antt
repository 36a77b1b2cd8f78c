-- What is shown of a snapshot: its canonical root, and its own proof of an operation.
use Rattle.std.specs.Prelude.{◌≡◌, ◌≤◌, ◌<◌, ℕ, Bool, List, Option, Some, None, MatchOption}
use Rattle.std.specs.Option.{IsSomeAnd}
use Rattle.storage_codec.specs.Digests.{HashFunction}
use Rattle.storage_current.specs.CurrentWire.{operation_text}
use Rattle.storage_current.specs.Snapshots.{Grafting, Snapshot, canonical_root, own_operation_proof}
use Rattle.gawerunoa_cli.specs.declared.shown.Refusal.{Refusal}
use Rattle.gawerunoa_cli.specs.declared.shown.Refusal.TheVariants.{Floor, Location, Memory}

-- the snapshot of operations with a bit for each and a floor
abbrev pub snapshot_of : List (List ℕ) → List Bool → ℕ → Snapshot
snapshot_of operations bits floor = record { operations = operations; bits = bits; floor = floor }

-- what a snapshot's own proof of the operation at a location is written as
abbrev pub own_text : HashFunction → Grafting → Bool → Snapshot → ℕ → List ℕ
own_text h g has_pending s location = operation_text has_pending (own_operation_proof h g s location)

-- this is the canonical root of a snapshot, and this its own proof of the operation at a location, where one is named
pub record IsShown (h : HashFunction) (g : Grafting) (has_pending : Bool) (s : Snapshot) (at : Option ℕ) (digest : List ℕ)
    (proof : Option (List ℕ)) : Type 0 where
  pub root : digest ≡ canonical_root h g s
  pub own : MatchOption at (proof ≡ None) (λ location. proof ≡ Some (own_text h g has_pending s location))

-- a floor is within so many operations, and so is a location, where one is named
abbrev pub IsWithin : ℕ → ℕ → Option ℕ → Type 0
IsWithin count floor at = (floor ≤ count) × MatchOption at (Unit {0}) (λ location. location < count)

-- why nothing is shown of so many operations: the first reason that holds, else want of memory
abbrev pub IsRefused : ℕ → ℕ → Option ℕ → Refusal → Type 0
IsRefused count floor at (Floor n) = (n ≡ count) × (count < floor)
IsRefused count floor at (Location n) = (n ≡ count) × (floor ≤ count) × IsSomeAnd at (λ location. count ≤ location)
IsRefused count floor at Memory = Unit {0}
