use Rattle.std.proofs.Common.{◌≡◌, ◌+◌, length, map}
use Rattle.storage_bitmap.specs.Chunks.{IsRest}
use Rattle.storage_current.specs.KeptTrees.{AreGraftsFrom}
use Rattle.storage_current.specs.NodeLists.{IsOver}
use Rattle.storage_current.specs.Snapshots.{Grafting, Snapshot}
use Rattle.storage_current.proofs.qmdb.current.chunk_tree.grafts_behind.Given as goal

abbrev pub invariant-loop-index : goal.invariant-loop-index
invariant-loop-index g l =
    let text = g.H.Digest.Digest.text in
    let h = g.H.Hasher.hash_of in
    let G : Grafting = record { shape = g.F.Family.shape; bytes = g.row.N } in
    record {
      place : l.status.pruned + length l.grafts.items ≡ l.index;
      own : (s : Snapshot) → IsRest g.row.N l.status s.bits → IsOver text h G.shape l.operations s.operations
          → AreGraftsFrom h G s l.status.pruned (map text l.grafts.items);
    }
