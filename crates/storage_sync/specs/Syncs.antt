-- What is kept of a copy while it is taken.
use Rattle.std.specs.Prelude.{◌≡◌, ◌⊎◌, ℕ, ◌+◌, ◌*◌, ◌/◌, ◌%◌, ◌<◌, ◌≤◌, Bool, List, [], ◌∷◌, ◌++◌, length, Option, Some, None, Ok, unwrap_or, is_some}
use Rattle.storage_codec.specs.Digests.{HashFunction, Cross}
use Rattle.storage_codec.specs.Codec.{whole}
use Rattle.storage_merkle.specs.Shape.{max_leaves}
use Rattle.storage_bitmap.specs.Chunks.{IsChunkSize, Retained}
use Rattle.storage_current.specs.Snapshots.{Grafting, Snapshot, IsSnapshot, canonical_root, snapshot_strings}
use Rattle.storage_sync.specs.declared.sync.limits.Limits.{Limits}
use Rattle.storage_sync.specs.Messages.{page_at}
use Rattle.storage_sync.specs.Floors.{IsTail}
use Rattle.storage_sync.specs.Pages.{Page, page_bits, operations_of, bits_of, FirstNames, FirstRoot, IsProved, AreProved, hashed_by}

-- the root that is trusted, the limits of a page, where the copy begins, the number of all operations and the operations root once they
-- are known, and the first operations from where it begins with their bits
pub record Taken : Type 0 where
  pub root : List ℕ
  pub limits : Limits
  pub begin : ℕ
  pub leaves : Option ℕ
  pub ops_root : Option (List ℕ)
  pub operations : List (List ℕ)
  pub bits : List Bool

-- nothing yet of what is to come from a location on
abbrev pub nothing_yet : List ℕ → Limits → ℕ → Taken
nothing_yet root limits begin = record {
  root = root;
  limits = limits;
  begin = begin;
  leaves = None;
  ops_root = None;
  operations = [];
  bits = [];
}

-- where the next operation stands
abbrev pub place : Taken → ℕ
place t = t.begin + length t.operations

-- all operations from where the copy begins are there
abbrev pub IsWhole : Taken → Type 0
IsWhole t = t.leaves ≡ Some (place t)

-- how many operations a page may have: those of the most whole chunks of n bytes that the limits admit
abbrev pub step : ℕ → Limits → ℕ
step n limits = limits.max_ops / (8 * n) * (8 * n)

-- the number of all operations, which the first page's proof names
abbrev pub leaves_with : Taken → Page → ℕ
leaves_with t p = unwrap_or t.leaves p.proof.range.leaves

-- the operations root, which that proof has
abbrev pub ops_root_with : Taken → Page → List ℕ
ops_root_with t p = unwrap_or t.ops_root p.proof.ops_root

-- a copy may begin at a location: a chunk begins there, and the limits admit a chunk's operations
pub record CanStart (n : ℕ) (limits : Limits) (begin : ℕ) : Type 0 where
  pub room : 8 * n ≤ limits.max_ops
  pub boundary : begin % (8 * n) ≡ 0
  pub few : begin ≤ max_leaves

-- so many operations may come next, of so many in all: some, no more than are wanted or left, and the last of them ends a chunk or all
pub record IsAsked (n : ℕ) (t : Taken) (leaves count : ℕ) : Type 0 where
  pub some : 0 < count
  pub few : count ≤ step n t.limits
  pub within : place t + count ≤ leaves
  pub ends : ((place t + count) % (8 * n) ≡ 0) ⊎ (place t + count ≡ leaves)

-- so many operations there may be in all
abbrev pub MayHave : Taken → ℕ → Type 0
MayHave t leaves = ((t.leaves ≡ None) × (t.begin < leaves)) ⊎ (t.leaves ≡ Some leaves)

-- what there is once a page is taken
abbrev pub after : ℕ → Taken → Page → Taken
after n t p = record t {
  leaves = Some (leaves_with t p);
  ops_root = Some (ops_root_with t p);
  operations = t.operations ++ p.operations;
  bits = t.bits ++ page_bits n p;
}

-- ---- what holds all along

-- the next operation is the first one, or one where a chunk begins, or there is none
abbrev pub IsAt : (n begin next : ℕ) → Option ℕ → Type 0
IsAt n begin next None = next ≡ begin
IsAt n begin next (Some leaves) = (next ≤ leaves) × (leaves ≤ max_leaves) × ((next % (8 * n) ≡ 0) ⊎ (next ≡ leaves))

-- the chunks before the first operation are those that are pruned
pub record IsConsistent (n : ℕ) (limits : Limits) (leaves : Option ℕ) (rooted : Bool) (kept : ℕ) (status : Retained)
    : Type 0 where
  pub size : IsChunkSize n
  pub room : 8 * n ≤ limits.max_ops
  pub few : status.pruned * (8 * n) ≤ max_leaves
  pub bit_each : length status.bits ≡ kept
  pub at : IsAt n (status.pruned * (8 * n)) (status.pruned * (8 * n) + kept) leaves
  -- the operations root is known just where the number of all operations is
  pub root : rooted ≡ is_some leaves

-- ---- what it is worth, for digests of d bytes

module _ (h : HashFunction) (g : Grafting) where
  -- what is kept is what these pages give, each of which is proved, of the first operations from where the copy begins
  pub record IsKept (d : ℕ) (t : Taken) (pages : List Page) : Type 0 where
    pub proved : AreProved h g d t.root t.begin (place t) pages
    pub named : (leaves : ℕ) → t.leaves ≡ Some leaves → FirstNames leaves pages
    pub unnamed : t.leaves ≡ None → pages ≡ []
    pub rooted : (ops_root : List ℕ) → t.ops_root ≡ Some ops_root → FirstRoot ops_root pages
    pub unrooted : t.ops_root ≡ None → pages ≡ []
    pub operations_are : t.operations ≡ operations_of pages
    pub bits_are : t.bits ≡ bits_of g.bytes pages

  -- bytes are a page that may come next and is proved, and what it gives is kept
  pub record IsTaken (has_pending : Bool) (d : ℕ) (old new : Taken) (bytes : List ℕ) : Type 0 where
    pub page : Page
    pub read : whole (page_at has_pending d g.bytes old.limits bytes) ≡ Ok (page, [])
    pub asked : IsAsked g.bytes old (leaves_with old page) (length page.operations)
    pub proved : IsProved h g d old.root (place old) page
    pub new_is : new ≡ after g.bytes old page
    pub kept : (pages : List Page) → IsKept d old pages → IsKept d new (pages ++ page ∷ [])

  -- what is kept is what each snapshot with the root has from there on, or a string that the checks of these pages hashed and a different
  -- one of the root's calculation have one digest
  abbrev pub IsPromised : Taken → List Page → Type 0
  IsPromised t pages = (ops_root : List ℕ) → t.ops_root ≡ Some ops_root → (s : Snapshot) → IsSnapshot s →
      canonical_root h g s ≡ t.root →
      IsTail h g s t.begin t.operations t.bits ops_root ⊎ Cross h (hashed_by h g t.begin pages) (snapshot_strings h g s)
