use Rattle.std.proofs.Common.{◌≡◌, ◌≤◌, List, ℕ}
use Rattle.storage_current.specs.KeptTrees.{HasMoreGrafts, StandsForChunks}
use Rattle.storage_current.specs.Snapshots.{Grafting}
use Rattle.storage_current.proofs.qmdb.current.chunk_tree.append_grafts.Given as goal

abbrev pub invariant-loop-index : goal.invariant-loop-index
invariant-loop-index g l =
    let text = g.H.Digest.Digest.text in
    let h = g.H.Hasher.hash_of in
    let G : Grafting = record { shape = g.F.Family.shape; bytes = g.row.N } in
    record {
      count : l.chunks.leaves ≡ l.index;
      first : l.fn.chunks.leaves ≤ l.index;
      boundary : l.chunks.boundary ≡ l.fn.chunks.boundary;
      pinned : l.chunks.pinned ≡ l.fn.chunks.pinned;
      room : l.fn.chunks.room ≤ l.chunks.room;
      grafts : (list : List (List ℕ)) → StandsForChunks text h G l.fn.chunks list
          → HasMoreGrafts text h G l.operations l.chunks l.status list;
    }
