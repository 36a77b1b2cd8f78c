-- Pages of a snapshot from strangers, and the copy that they give together.
use Rattle.std.specs.Prelude.{◌≡◌, ◌⊎◌, ℕ, ◌+◌, ◌*◌, ◌/◌, ◌%◌, Bool, List, [], ◌∷◌, ◌++◌, length, map, get_or}
use Rattle.std.specs.List.{range_with_len}
use Rattle.storage_codec.specs.Digests.{HashFunction, IsSized, Cross}
use Rattle.storage_merkle.specs.Shape.{Laws}
use Rattle.storage_bitmap.specs.Packed.{bit_in}
use Rattle.storage_current.specs.Snapshots.{Grafting, Snapshot, IsSnapshot, canonical_root, ops_root_of, snapshot_strings, RangeProof}
use Rattle.storage_current.specs.CurrentProofs.{IsCurrent, current_strings}
use Rattle.storage_current.specs.CurrentSoundness.{HasDigests}

-- a range proof, operations from some location on, and the chunks that they touch
pub record Page : Type 0 where
  pub proof : RangeProof
  pub operations : List (List ℕ)
  pub chunks : List (List ℕ)

-- the first so many bits of chunks of n bytes
abbrev pub chunk_bits : (n count : ℕ) → List (List ℕ) → List Bool
chunk_bits n count chunks = map (λ j. bit_in (get_or chunks (j / (8 * n)) []) (j % (8 * n))) (range_with_len 0 count)

-- the bits of a page's operations, the first of which is the first of a chunk of n bytes
abbrev pub page_bits : ℕ → Page → List Bool
page_bits n p = chunk_bits n (length p.operations) p.chunks

-- what some pages give together, one after the other
abbrev pub operations_of : List Page → List (List ℕ)
operations_of [] = []
operations_of (p ∷ ps) = p.operations ++ operations_of ps

abbrev pub bits_of : ℕ → List Page → List Bool
bits_of n [] = []
bits_of n (p ∷ ps) = page_bits n p ++ bits_of n ps

-- the number of leaves that the first page's proof names
abbrev pub FirstNames : ℕ → List Page → Type 0
FirstNames leaves [] = ⊥
FirstNames leaves (p ∷ ps) = p.proof.range.leaves ≡ leaves

-- its proof has this operations root
abbrev pub FirstRoot : List ℕ → List Page → Type 0
FirstRoot ops_root [] = ⊥
FirstRoot ops_root (p ∷ ps) = p.proof.ops_root ≡ ops_root

-- of digests of d bytes, against a root
module _ (h : HashFunction) (g : Grafting) (d : ℕ) (root : List ℕ) where
  -- the check of a page says yes of its operations from `start` on, where a chunk begins
  pub record IsProved (start : ℕ) (p : Page) : Type 0 where
    pub boundary : start % (8 * g.bytes) ≡ 0
    pub digests : HasDigests d p.proof
    pub current : IsCurrent h g p.proof start p.operations p.chunks root

  -- so it does of each page, of the operations from low to high - 1, and each begins where the one before it ends
  abbrev pub AreProved : ℕ → ℕ → List Page → Type 0
  AreProved low high [] = low ≡ high
  AreProved low high (p ∷ ps) = IsProved low p × AreProved (low + length p.operations) high ps

-- each string that the checks of pages from `start` on give to the digest function
abbrev pub hashed_by : HashFunction → Grafting → ℕ → List Page → List (List ℕ)
hashed_by h g start [] = []
hashed_by h g start (p ∷ ps) =
    current_strings h g p.proof start p.operations p.chunks ++ hashed_by h g (start + length p.operations) ps

-- all of a snapshot's operations, and their bits, with its operations root
pub record IsCopy (h : HashFunction) (g : Grafting) (s : Snapshot) (operations : List (List ℕ)) (bits : List Bool)
    (ops_root : List ℕ) : Type 0 where
  pub operations_are : operations ≡ s.operations
  pub bits_are : bits ≡ s.bits
  pub ops_root_is : ops_root ≡ ops_root_of h g s

-- a copy and an inactivity floor, as a snapshot
abbrev pub with_floor : List (List ℕ) → List Bool → ℕ → Snapshot
with_floor operations bits floor = record { operations = operations; bits = bits; floor = floor }

-- A copy with the snapshot's floor is the snapshot: it has its roots and its proofs.
abbrev pub CopiesAreSnapshots : Type 0
CopiesAreSnapshots =
    (h : HashFunction) (g : Grafting) (s : Snapshot) (operations : List (List ℕ)) (bits : List Bool) (ops_root : List ℕ) (floor : ℕ)
    → IsCopy h g s operations bits ops_root → floor ≡ s.floor → with_floor operations bits floor ≡ s

-- Pages that are proved against a root, of as many operations as the first one names, give together a copy of each snapshot with that
-- root, or a string that one of their checks hashed and a different one of the root's calculation have one digest.
abbrev pub PagesAreCopies : Type 0
PagesAreCopies =
    (d : ℕ) (h : HashFunction) → (d ≡ 32) ⊎ (d ≡ 64) → IsSized d h → (g : Grafting) → Laws g.shape →
    (root : List ℕ) (leaves : ℕ) (ops_root : List ℕ) (pages : List Page) → FirstNames leaves pages → FirstRoot ops_root pages →
    AreProved h g d root 0 leaves pages → (s : Snapshot) → IsSnapshot s → canonical_root h g s ≡ root →
    IsCopy h g s (operations_of pages) (bits_of g.bytes pages) ops_root
    ⊎ Cross h (hashed_by h g 0 pages) (snapshot_strings h g s)
