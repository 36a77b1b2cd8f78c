-- The keys of a snapshot whose operations are ordered updates, deletions and commits.
use Rattle.std.specs.Prelude.{◌≡◌, ℕ, ◌+◌, ◌-◌, ◌<◌, ◌≤◌, ◌^◌, ◌⊎◌, Bool, true, false, not, ◌&&◌, ◌||◌, if◌then◌else◌, List, ◌++◌, length, Option, option_map}
use Rattle.std.specs.Cmp.{IsTotalOrder}
use Rattle.std.specs.Ordering.{is_lt}
use Rattle.std.specs.declared.cmp.Ordering.{Ordering}
use Rattle.std.specs.declared.cmp.Ordering.TheVariants.{Equal}
use Rattle.storage_ops.specs.Operations.{OperationView, Update, CommitFloor}
use Rattle.storage_current.specs.Snapshots.{Snapshot, IsSnapshot, IsActive}

-- what keys, values and operations over them are written as, and the order of keys
pub record Keyed (K V : Type 0) : Type 0 where
  pub key : K → List ℕ
  pub value : V → List ℕ
  pub operation : OperationView (List ℕ) (List ℕ) (List ℕ) → List ℕ
  pub cmp : K → K → Ordering

abbrev pub keyed_by : {K V : Type 0} → (K → List ℕ) → (V → List ℕ) → (OperationView (List ℕ) (List ℕ) (List ℕ) → List ℕ)
    → (K → K → Ordering) → Keyed K V
keyed_by key value operation cmp = record { key = key; value = value; operation = operation; cmp = cmp }

module _ {K V : Type 0} (e : Keyed K V) where
  -- what an update is written as, and a commit
  abbrev pub update_text : K → V → K → List ℕ
  update_text key value next = e.operation (Update (e.key key ++ e.value value ++ e.key next))

  abbrev pub commit_text : Option V → ℕ → List ℕ
  commit_text value floor = e.operation (CommitFloor (option_map e.value value) floor)

  abbrev pub before : K → K → Bool
  before a b = is_lt (e.cmp a b)

  -- what the bytes of an operation settle, and that exactly those keys compare alike which are written alike
  pub record IsKeyed : Type 0 where
    pub one : (a b : K) (v w : V) (m n : K) → update_text a v m ≡ update_text b w n
        → (e.key a ≡ e.key b) × (e.value v ≡ e.value w) × (e.key m ≡ e.key n)
    pub apart : (a : K) (v : V) (m : K) (o : Option V) (floor : ℕ) → floor < 2 ^ 64
        → update_text a v m ≡ commit_text o floor → ⊥
    pub floors : (o p : Option V) (m n : ℕ) → m < 2 ^ 64 → n < 2 ^ 64 → commit_text o m ≡ commit_text p n → m ≡ n
    pub total : IsTotalOrder e.cmp
    pub exact : (a b : K) → e.cmp a b ≡ Equal → e.key a ≡ e.key b
    pub alike : (a b : K) → e.key a ≡ e.key b → e.cmp a b ≡ Equal

  -- from start on and before end, around past the greatest key where start is not before end
  abbrev pub in_span : K → K → K → Bool
  in_span start end key = if before start end then not (before key start) && before key end
      else not (before key start) || before key end

  -- the update of a key that names the next one excludes each other key of its span
  pub record Excludes (start next key : K) : Type 0 where
    pub other : e.key key ≡ e.key start → ⊥
    pub spanned : in_span start next key ≡ true

  -- no such key lies between a and the greater b; or none comes after a, and none before b
  abbrev pub Adjoin : (K → Type 0) → K → K → Type 0
  Adjoin Key a b =
      (before a b ≡ true × ((k : K) → Key k → before a k ≡ true → before k b ≡ false))
      ⊎ (((k : K) → Key k → before a k ≡ false) × ((k : K) → Key k → before k b ≡ false))

  module _ (s : Snapshot) where
    -- the update of a key to a value, which names the next key, is active
    abbrev pub Updates : ℕ → K → V → K → Type 0
    Updates location key value next = IsActive s location (update_text key value next)

    abbrev pub HasKey : K → Type 0
    HasKey key = (location : ℕ) × (value : V) × (next : K) × Updates location key value next

    -- a key has no active update
    abbrev pub IsAbsent : K → Type 0
    IsAbsent key = (location : ℕ) (value : V) (next : K) → ¬ Updates location key value next

    -- a key has an active update, and each is to this value
    pub record IsValue (key : K) (value : V) : Type 0 where
      pub updated : (location : ℕ) × (next : K) × Updates location key value next
      pub only : (location : ℕ) (other : V) (next : K) → Updates location key other next → e.value other ≡ e.value value

    pub record IsWellFormed : Type 0 where
      -- the last operation is an active commit with the floor
      pub committed : (value : Option V) × IsActive s (length s.operations - 1) (commit_text value s.floor)
      -- each other active operation is an update that stands at or past the floor
      pub updates : (location : ℕ) (operation : List ℕ) → IsActive s location operation
          → location + 1 < length s.operations
          → (s.floor ≤ location) × ((key : K) × (value : V) × (next : K) × (operation ≡ update_text key value next))
      -- no two are of one key
      pub distinct : (i j : ℕ) (key m n : K) (v w : V) → Updates i key v m → Updates j key w n → i ≡ j
      -- each names the next greater of their keys, and that of the greatest the least
      pub ring : (location : ℕ) (key : K) (value : V) (next : K) → Updates location key value next
          → HasKey next × Adjoin HasKey key next

  -- Each active update of a well-formed snapshot is to its key's value.
  abbrev pub UpdatesAreValues : Type 0
  UpdatesAreValues = (s : Snapshot) → IsWellFormed s → (location : ℕ) (key : K) (value : V) (next : K)
      → Updates s location key value next → IsValue s key value

  -- A key that an active update excludes is absent.
  abbrev pub ExcludedAreAbsent : Type 0
  ExcludedAreAbsent =
      (s : Snapshot) → IsWellFormed s → (location : ℕ) (start : K) (value : V) (next : K)
      → Updates s location start value next
      → (key : K) → Excludes start next key → IsAbsent s key

  -- Where an active commit stands at its own floor, every key is absent.
  abbrev pub NoneAtItsFloor : Type 0
  NoneAtItsFloor =
      (s : Snapshot) → IsSnapshot s → IsWellFormed s → (location : ℕ) (value : Option V)
      → IsActive s location (commit_text value location)
      → (key : K) → IsAbsent s key
