use Rattle.std.proofs.Common.{◌≡◌, ◌+◌, ◌-◌, ◌*◌, ◌^◌, ◌≤◌, All, length, map, take, vec_len, vec_capacity}
use Rattle.storage_bitmap.specs.Chunks.{IsRest}
use Rattle.storage_current.specs.NodeLists.{IsOver}
use Rattle.storage_current.specs.Snapshots.{Grafting, Snapshot, height, view_node}
use Rattle.storage_current.proofs.qmdb.current.snapshot.extend.regraft.Given as goal

abbrev pub invariant-loop-index : goal.invariant-loop-index
invariant-loop-index g l =
    let text = g.H.Digest.Digest.text in
    let h = g.H.Hasher.hash_of in
    let S = g.F.Family.shape in
    let G : Grafting = record { shape = S; bytes = g.row.N } in
    record {
      room : vec_len l.updates + (length l.touched - l.index-index) ≤ vec_capacity l.updates;
      keys : map (λ u. u.0) l.updates.items ≡ take l.index-index l.touched;
      grafts : (s : Snapshot) → IsRest g.row.N l.status s.bits → IsOver text h S l.operations s.operations
          → All (λ u. text u.1 ≡ view_node h G s (u.0 * 2 ^ height G) (height G)) l.updates.items;
    }
