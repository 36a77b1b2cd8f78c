use Rattle.std.proofs.Common.{◌≡◌, ◌+◌, ◌≤◌, ◌++◌, List, ℕ, map, take}
use Rattle.storage_current.specs.NodeLists.{IsGrown, IsOver}
use Rattle.storage_current.proofs.qmdb.current.snapshot.extend.add_all.Given as goal

abbrev pub invariant-loop-operation : goal.invariant-loop-operation
invariant-loop-operation g l =
    let text = g.H.Digest.Digest.text in
    let h = g.H.Hasher.hash_of in
    let S = g.F.Family.shape in
    record {
      count : l.tree.leaves ≡ l.fn.tree.leaves + l.operation-index;
      room : l.fn.tree.room ≤ l.tree.room;
      boundary : l.tree.boundary ≡ l.fn.tree.boundary;
      grown : IsGrown text h S l.tree;
      over : (elements : List (List ℕ)) → IsOver text h S l.fn.tree elements
          → IsOver text h S l.tree (elements ++ take l.operation-index (map g.E.AsSlice.items l.operations));
    }
