-- An ordered database as a machine: what it keeps, and what each command does to it.
use Rattle.std.specs.Prelude.{ℕ, ◌-◌, min, Bool, true, false, List, [], ◌∷◌, ◌++◌, length, map, slice_set, fold, Option, Some, None, is_some, option_map, nat_lt, if◌then◌else◌}
use Rattle.std.specs.Ordering.{eq_by_cmp}
use Rattle.std.specs.BTreeMap.{insert_entry, is_at}
use Rattle.std.specs.Map.{lookup, remove_entry, update, values_of}
use Rattle.storage_merkle.specs.Shape.{max_leaves}
use Rattle.storage_ops.specs.Operations as operation
use Rattle.storage_current.specs.Keys.{Keyed, update_text, commit_text}
use Rattle.storage_current.specs.Snapshots.{Snapshot}
use Rattle.storage_db.specs.declared.db.active.Active.{Active}
use Rattle.storage_db.specs.Rings.{next_key, previous}

-- ---- what a database keeps

-- of its last commit: the commit's value, the active keys as they were, and the snapshot
pub record Committed (K W : Type 0) : Type 0 where
  pub metadata : Option W
  pub entries : List (K × Active W)
  pub snapshot : Snapshot

-- what its operations are written as, of each whether it is active, the active keys in their order, each with its value and
-- the location of its update, and the last commit
pub record Database (K W : Type 0) : Type 0 where
  pub operations : List (List ℕ)
  pub bits : List Bool
  pub entries : List (K × Active W)
  pub last : Option (Committed K W)

abbrev pub empty : {K W : Type 0} → Database K W
empty = record { operations = []; bits = []; entries = []; last = None }

pub data Command (K W : Type 0) : Type 0 where
  Put : K → W → Command K W
  Delete : K → Command K W
  Commit : Option W → Command K W

-- the map as it is, and as it was at the last commit
pub record Maps (K W : Type 0) : Type 0 where
  pub now : K → Option W
  pub committed : K → Option W

abbrev pub no_maps : {K W : Type 0} → Maps K W
no_maps = record { now = λ key. None; committed = λ key. None }

-- ---- what each command does

-- the bits, with that of an active update cleared, and with that of the last commit
abbrev pub without : {W : Type 0} → Option (Active W) → List Bool → List Bool
without None bits = bits
without (Some active) bits = slice_set bits active.location false

abbrev pub without_commit : {K W : Type 0} → Option (Committed K W) → List Bool → List Bool
without_commit None bits = bits
without_commit (Some last) bits = slice_set bits (length last.snapshot.operations - 1) false

-- the least location of an active update; another one, where no key is active
abbrev pub least_location : {K W : Type 0} → List (K × Active W) → ℕ → ℕ
least_location {K} {W} entries end = fold min end (map (λ (active : Active W). active.location) (values_of entries))

module _ {K W : Type 0} (e : Keyed K W) where
  -- what an active key has
  abbrev pub active_at : List (K × Active W) → K → Option (Active W)
  active_at entries key = lookup (is_at (e.cmp key)) entries

  abbrev pub value_at : List (K × Active W) → K → Option W
  value_at entries key = option_map (λ (active : Active W). active.value) (active_at entries key)

  -- the update of a key to a value is appended, which names the next key: it is the active one of its key from now on
  abbrev pub updated : Database K W → K → W → K → Database K W
  updated d key value next = record {
    operations = d.operations ++ update_text e key value next ∷ [];
    bits = without (active_at d.entries key) d.bits ++ true ∷ [];
    entries = insert_entry e.cmp d.entries key (record { value = value; location = length d.operations });
    last = d.last;
  }

  -- the same of an active key, its value kept, if there is one
  abbrev pub relinked : Database K W → Option (K × Active W) → K → Database K W
  relinked d None next = d
  relinked d (Some entry) next = updated d entry.0 entry.1.value next

  -- the deletion of an active key is appended
  abbrev pub removed : Database K W → K → Database K W
  removed d key = record {
    operations = d.operations ++ e.operation (operation.Delete (e.key key)) ∷ [];
    bits = without (active_at d.entries key) d.bits ++ false ∷ [];
    entries = remove_entry (is_at (e.cmp key)) d.entries;
    last = d.last;
  }

  -- A put appends the update of its key, which names the key after it; where the key is new, then that of the key before it,
  -- which now names the new one.
  abbrev pub put : Database K W → K → W → Database K W
  put d key value =
      let after = updated d key value (next_key e.cmp d.entries key) in
      if is_some (active_at d.entries key) then after else relinked after (previous e.cmp d.entries key) key

  -- A delete of an active key appends its deletion, and then the update of the key before it, which now names the key after it.
  abbrev pub delete : Database K W → K → Database K W
  delete d key =
      if is_some (active_at d.entries key)
      then relinked (removed d key) (previous e.cmp d.entries key) (next_key e.cmp d.entries key) else d

  -- A commit appends itself, with the least location of an active update as the floor, else its own; the commit before it is
  -- not active any more.
  abbrev pub commit : Database K W → Option W → Database K W
  commit d metadata =
      let floor = least_location d.entries (length d.operations) in
      let operations = d.operations ++ commit_text e metadata floor ∷ [] in
      let bits = without_commit d.last d.bits ++ true ∷ [] in
      record {
        operations = operations;
        bits = bits;
        entries = d.entries;
        last = Some (record {
          metadata = metadata;
          entries = d.entries;
          snapshot = record { operations = operations; bits = bits; floor = floor };
        });
      }

  -- ---- lists of commands

  abbrev pub done : Database K W → Command K W → Database K W
  done d (Put key value) = put d key value
  done d (Delete key) = delete d key
  done d (Commit metadata) = commit d metadata

  -- the operations with those that the command appends would pass 2^62
  abbrev pub is_full : Database K W → Command K W → Bool
  is_full d command = nat_lt max_leaves (length (done d command).operations)

  -- what commands leave, one after the other; one that is refused changes nothing
  abbrev pub run : Database K W → List (Command K W) → Database K W
  run d [] = d
  run d (command ∷ commands) = run (if is_full d command then d else done d command) commands

  -- a put sets a key, a delete removes one, a commit keeps the map
  abbrev pub changed : Maps K W → Command K W → Maps K W
  changed m (Put key value) = record m { now = update (eq_by_cmp e.cmp) m.now key (Some value) }
  changed m (Delete key) = record m { now = update (eq_by_cmp e.cmp) m.now key None }
  changed m (Commit metadata) = record m { committed = m.now }

  -- the maps after commands; one that the database refuses changes nothing
  abbrev pub maps_after : Database K W → Maps K W → List (Command K W) → Maps K W
  maps_after d m [] = m
  maps_after d m (command ∷ commands) =
      maps_after (if is_full d command then d else done d command) (if is_full d command then m else changed m command)
      commands
