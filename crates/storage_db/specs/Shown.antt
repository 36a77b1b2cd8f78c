-- What the proofs of a database show: the value of a key at the last commit, or that it has none.
use Rattle.std.specs.Prelude.{◌≡◌, ℕ, ◌+◌, ◌-◌, List, length, Option, Some, None, option_map}
use Rattle.storage_codec.specs.Digests.{HashFunction}
use Rattle.storage_current.specs.HeldKeys.{exclusion_seen}
use Rattle.storage_current.specs.KeyProofs.{Exclusion, KeyValue, Commit}
use Rattle.storage_current.specs.Keys.{Keyed}
use Rattle.storage_current.specs.Served.{end_of}
use Rattle.storage_current.specs.Snapshots.{Grafting, Holds, OperationProof, RangeProof, Snapshot, own_operation_proof, own_range_proof}
use Rattle.storage_db.specs.declared.db.active.Active.{Active}
use Rattle.storage_db.specs.Databases.{Committed, active_at}
use Rattle.storage_db.specs.Rings.{next_key, previous}

-- A page of at most so many operations of a snapshot from one on: they and the chunks of bits that they touch, and the snapshot's own
-- proof of them.
pub record IsPage (h : HashFunction) (g : Grafting) (s : Snapshot) (start most : ℕ) (proof : RangeProof)
    (operations chunks : List (List ℕ)) : Type 0 where
  pub own : proof ≡ own_range_proof h g s start (end_of start most (length s.operations))
  pub count : start + length operations ≡ end_of start most (length s.operations)
  pub holds : Holds g s start operations chunks

module _ {K W : Type 0} (e : Keyed K W) (h : HashFunction) (g : Grafting) where
  -- the key's value and the key after it, as they are written, and the snapshot's own proof of the key's active update
  pub record IsValueProof (commit : Committed K W) (key : K) (value : W) (next : K) (proof : OperationProof) : Type 0 where
    pub active : Active W
    pub there : active_at e commit.entries key ≡ Some active
    pub value_is : e.value value ≡ e.value active.value
    pub next_is : e.key next ≡ e.key (next_key e.cmp commit.entries key)
    pub own : proof ≡ own_operation_proof h g commit.snapshot active.location

  -- the snapshot's own proof of the active update of the key before, with what that is written as; of the commit itself, where
  -- no key is active
  abbrev pub absence_by : Committed K W → Option (K × Active W) → Exclusion (List ℕ × List ℕ × List ℕ) (List ℕ)
  absence_by commit None =
      Commit (own_operation_proof h g commit.snapshot (length commit.snapshot.operations - 1)) (option_map e.value commit.metadata)
  absence_by commit (Some entry) =
      KeyValue (own_operation_proof h g commit.snapshot entry.1.location)
      (e.key entry.0, e.value entry.1.value, e.key (next_key e.cmp commit.entries entry.0))

  -- the key has no value, and this is the proof of it by the key before it
  pub record IsAbsenceProof (commit : Committed K W) (key : K) (x : Exclusion (K × W × K) W) : Type 0 where
    pub absent : active_at e commit.entries key ≡ None
    pub own : exclusion_seen e.key e.value x ≡ absence_by commit (previous e.cmp commit.entries key)
