use Rattle.std.proofs.Common.{◌≡◌, ℕ, ◌+◌, ◌≤◌, List, ◌++◌, length, map, take}
use Rattle.sqlite.specs.Held.{state}
use Rattle.sqlite.specs.State.{HasCleanDisk}
use Rattle.storage_file.specs.Kept.{Kept}
use Rattle.storage_file.specs.Tables.{IsMade, StaysInside}
use Rattle.storage_file.proofs.statements.add_operations.Given as goal

abbrev pub invariant-loop-bytes : goal.invariant-loop-bytes
invariant-loop-bytes g l = record {
  same_reference : l.tx.conn.ghost_name ≡ l.initial.tx.conn.ghost_name;
  inside : StaysInside (state g.S.Store l.initial.tx.conn.now) (state g.S.Store l.tx.conn.now);
  at : l.location ≡ l.from + l.bytes-index;
  added : HasCleanDisk (state g.S.Store l.tx.conn.now) → (kept : Kept) → IsMade (state g.S.Store l.initial.tx.conn.now) kept → l.from ≡ length kept.operations
      → IsMade (state g.S.Store l.tx.conn.now) (record kept { operations = kept.operations ++ map (λ b. b.items) (take l.bytes-index l.operations) });
}
