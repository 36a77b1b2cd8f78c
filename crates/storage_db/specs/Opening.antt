-- Databases that are opened again from their operations.
use Rattle.std.specs.Prelude.{◌≡◌, ℕ, ◌+◌, ◌<◌, ◌≤◌, List, [], ◌∷◌, ◌++◌, length, take, None, Ok, option_map, MatchOption, IsSomeAnd, if◌then◌else◌}
use Rattle.std.specs.List.{AllZip}
use Rattle.storage_codec.specs.Codec.{Answer}
use Rattle.storage_codec.specs.Digests.{HashFunction}
use Rattle.storage_ops.specs.Operations as operation
use Rattle.storage_ops.specs.Operations.{OperationView}
use Rattle.storage_current.specs.Keys.{Keyed, update_text, commit_text}
use Rattle.storage_current.specs.Snapshots.{Grafting}
use Rattle.storage_db.specs.declared.db.ordered.opening.OpenError.{OpenError}
use Rattle.storage_db.specs.declared.db.ordered.opening.OpenError.TheVariants.{NotALog, Memory}
use Rattle.storage_db.specs.Databases.{Command, Commit, Committed, Database, Delete, Put, done, empty, is_full, least_location, run}
use Rattle.storage_db.specs.Kept.{IsCopy, KeptDatabase, Keeps}
use Rattle.storage_db.specs.Rings.{next_key}

-- nothing is uncommitted: the last operation is the last commit, or there is none
abbrev pub IsCommitted : {K W : Type 0} → Database K W → Type 0
IsCommitted d = MatchOption d.last (d.operations ≡ []) (λ commit. commit.snapshot.operations ≡ d.operations)

-- ---- databases of the same operations

module _ {K W Y : Type 0} (e : Keyed K W) (seen : W → Y) where
  -- a commit of the same snapshot, whose value and keys are written alike and seen alike
  pub record IsSameCommit (commit other : Committed K W) : Type 0 where
    pub metadata : option_map e.value other.metadata ≡ option_map e.value commit.metadata
    pub seen_metadata : option_map seen other.metadata ≡ option_map seen commit.metadata
    pub entries : AllZip (IsCopy e seen) commit.entries other.entries
    pub snapshot : other.snapshot ≡ commit.snapshot

  -- a database of the same operations and bits, whose keys and values are written alike and seen alike
  pub record IsSame (d other : Database K W) : Type 0 where
    pub operations : other.operations ≡ d.operations
    pub bits : other.bits ≡ d.bits
    pub entries : AllZip (IsCopy e seen) d.entries other.entries
    pub last : MatchOption d.last (other.last ≡ None) (λ commit. IsSomeAnd other.last (IsSameCommit commit))

-- ---- logs: the operations that commands leave

module _ {K W : Type 0} (e : Keyed K W) where
  -- what the operation that a command appends first is written as
  abbrev pub own_text : Database K W → Command K W → List ℕ
  own_text d (Put key value) = update_text e key value (next_key e.cmp d.entries key)
  own_text d (Delete key) = e.operation (operation.Delete (e.key key))
  own_text d (Commit metadata) = commit_text e metadata (least_location d.entries (length d.operations))

-- reading the bytes answers what is seen of the operation, and perhaps leaves bytes behind it
abbrev pub ReadsAs : {O X : Type 0} → (List ℕ → Answer X) → (O → X) → List ℕ → O → Type 0
ReadsAs parse view bytes op = (rest : List ℕ) × (parse bytes ≡ Ok (view op, rest))

-- bytes are read as an operation of the command's key and value; `update` makes an update of a key, a value and the next key
abbrev pub ReadsCommand : {K W U : Type 0} → (List ℕ → OperationView K U W → Type 0) → (K → W → K → U) → List ℕ → Command K W → Type 0
ReadsCommand {K} reads update bytes (Put key value) = (next : K) × reads bytes (operation.Update (update key value next))
ReadsCommand reads update bytes (Delete key) = reads bytes (operation.Delete key)
ReadsCommand reads update bytes (Commit metadata) = (floor : ℕ) × reads bytes (operation.CommitFloor metadata floor)

-- `reads` is true of bytes and a command that is read from them
module _ {K W : Type 0} (e : Keyed K W) (reads : List ℕ → Command K W → Type 0) where
  -- of each of these commands, given to a database one after the other, the first operation is read so
  abbrev pub AreRead : Database K W → List (Command K W) → Type 0
  AreRead d [] = Unit {0}
  AreRead d (command ∷ commands) = reads (own_text e d command) command
      × AreRead (if is_full e d command then d else done e d command) commands

  -- some commands leave these operations, and perhaps more
  pub record Begins (operations : List (List ℕ)) : Type 0 where
    pub commands : List (Command K W)
    pub more : List (List ℕ)
    pub read : AreRead empty commands
    pub leave : (run e empty commands).operations ≡ operations ++ more

  -- these commands leave these operations, and nothing is uncommitted
  pub record Leave (operations : List (List ℕ)) (commands : List (Command K W)) : Type 0 where
    pub read : AreRead empty commands
    pub leave : (run e empty commands).operations ≡ operations
    pub committed : IsCommitted (run e empty commands)

  -- The operations before the place begin those that some commands leave, and with the one at the place they begin none; or the place
  -- is their end, and no commands leave them with nothing uncommitted.
  pub record IsRefusedAt (operations : List (List ℕ)) (place : ℕ) : Type 0 where
    pub within : place ≤ length operations
    pub before : Begins (take place operations)
    pub apart : place < length operations → Begins (take (place + 1) operations) → ⊥
    pub unfinished : place ≡ length operations → (commands : List (Command K W)) → Leave operations commands → ⊥

  -- why operations are refused: no commands leave them with nothing uncommitted, and this is the first place that shows it; or want
  -- of memory
  abbrev pub IsOpenRefused : {F : Type 0} → List (List ℕ) → OpenError F → Type 0
  IsOpenRefused operations (NotALog place) = IsRefusedAt operations place
  IsOpenRefused operations Memory = Unit {0}

  module _ {Y : Type 0} (seen : W → Y) (h : HashFunction) (g : Grafting) where
    -- It is a database in memory that some commands leave, these are its operations, and nothing is uncommitted. It is the same as any
    -- other that commands leave with these operations.
    pub record IsOpened (operations : List (List ℕ)) (kept : KeptDatabase K W) : Type 0 where
      pub commands : List (Command K W)
      pub log : Leave operations commands
      pub keeps : Keeps e seen h g kept (run e empty commands)
      pub same : (others : List (Command K W)) → Leave operations others
          → IsSame e seen (run e empty commands) (run e empty others)
