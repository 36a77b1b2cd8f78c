-- Copies that begin at a location: what is before it is told by pins alone.
use Rattle.std.specs.Prelude.{◌≡◌, ◌⊎◌, ℕ, ◌/◌, ◌^◌, Bool, List, ◌++◌, drop, map, Option}
use Rattle.storage_codec.specs.Digests.{HashFunction, IsSized, Cross}
use Rattle.storage_merkle.specs.RangeProofs.{Proof}
use Rattle.storage_merkle.specs.Shape.{Laws}
use Rattle.storage_current.specs.GraftedTrees.{KeptChunks}
use Rattle.storage_current.specs.Openings.{MeansOpening, opening_strings}
use Rattle.storage_current.specs.Pins.{MeansPins, chunk_pins, kept_texts, low_texts, operation_pins, told_strings}
use Rattle.storage_current.specs.Snapshots.{Grafting, Snapshot, IsSnapshot, Witness, aligned, canonical_root, height, ops_root_of, snapshot_strings}
use Rattle.storage_sync.specs.Pages.{AreProved, FirstNames, FirstRoot, IsCopy, Page, bits_of, hashed_by, operations_of}

-- a snapshot's operations from a location on, and their bits, with its operations root
pub record IsTail (h : HashFunction) (g : Grafting) (s : Snapshot) (begin : ℕ) (operations : List (List ℕ)) (bits : List Bool)
    (ops_root : List ℕ) : Type 0 where
  pub operations_are : operations ≡ drop begin s.operations
  pub bits_are : bits ≡ drop begin s.bits
  pub ops_root_is : ops_root ≡ ops_root_of h g s

-- From the first operation on it is a copy.
abbrev pub TailsAreCopies : Type 0
TailsAreCopies =
    (h : HashFunction) (g : Grafting) (s : Snapshot) (operations : List (List ℕ)) (bits : List Bool) (ops_root : List ℕ)
    → IsTail h g s 0 operations bits ops_root → IsCopy h g s operations bits ops_root

-- Pages that are proved against a root, of the operations from a location on of as many as the first one names, give together what each
-- snapshot with that root has from there on, or a string that one of their checks hashed and a different one of the root's calculation
-- have one digest.
abbrev pub PagesAreTails : Type 0
PagesAreTails =
    (d : ℕ) (h : HashFunction) → (d ≡ 32) ⊎ (d ≡ 64) → IsSized d h → (g : Grafting) → Laws g.shape →
    (root : List ℕ) (begin leaves : ℕ) (ops_root : List ℕ) (pages : List Page) → FirstNames leaves pages → FirstRoot ops_root pages →
    AreProved h g d root begin leaves pages → (s : Snapshot) → IsSnapshot s → canonical_root h g s ≡ root →
    IsTail h g s begin (operations_of pages) (bits_of g.bytes pages) ops_root
    ⊎ Cross h (hashed_by h g begin pages) (snapshot_strings h g s)

-- what a snapshot has from a location on, where a chunk begins, and the pins of what is before: over its operations and its chunks
pub record IsCopyFrom (h : HashFunction) (g : Grafting) (s : Snapshot) (begin : ℕ) (operations : List (List ℕ)) (bits : List Bool)
    (ops_root : List ℕ) (pins over_chunks : List (List ℕ)) : Type 0 where
  pub tail : IsTail h g s begin operations bits ops_root
  pub pins_are : pins ≡ operation_pins h g s begin
  pub over_chunks_are : over_chunks ≡ chunk_pins h g s (begin / 2 ^ height g)

-- An opening that is accepted, pages that are proved from where it begins, and a grafted root that its pins give and its witness has:
-- together they are a copy of each snapshot with that root, or a string that was hashed on the way and a different one of the root's
-- calculation have one digest.
abbrev pub CopiesFromPins : {D : Type 0} → (D → List ℕ) → Type 0
CopiesFromPins {D} bytes_of =
    (d : ℕ) (h : HashFunction) → (d ≡ 32) ⊎ (d ≡ 64) → IsSized d h → (g : Grafting) → Laws g.shape →
    (root : List ℕ) (begin leaves floor : ℕ) (ops_root : List ℕ) (w : Witness) (proof : Proof) (first pins : List (List ℕ)) →
    MeansOpening h g.shape w ops_root proof begin first pins root →
    (pages : List Page) → FirstNames leaves pages → AreProved h g d root begin leaves pages →
    (t : KeptChunks D) (below : ℕ → Option D) → t.pruned ≡ begin / 2 ^ height g →
    MeansPins h bytes_of g leaves floor t below w.grafted_root →
    (s : Snapshot) → IsSnapshot s → canonical_root h g s ≡ root →
    IsCopyFrom h g s begin (operations_of pages) (bits_of g.bytes pages) ops_root pins (map bytes_of t.pinned)
    ⊎ Cross h (opening_strings h g.shape w ops_root proof begin first pins ++ (hashed_by h g begin pages
    ++ told_strings h g (kept_texts bytes_of g.shape t) (low_texts h bytes_of g.shape below) leaves
    (aligned g.shape leaves floor (height g)))) (snapshot_strings h g s)
