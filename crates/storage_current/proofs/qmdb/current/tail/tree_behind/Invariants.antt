use Rattle.std.proofs.Common.{◌≡◌, ◌+◌, ◌++◌, List, ℕ, length, map, take}
use Rattle.storage_merkle.specs.Hashing.{leaf_digests}
use Rattle.storage_merkle.specs.Kept.{at_peaks}
use Rattle.storage_merkle.specs.Trees.{ungrafted}
use Rattle.storage_current.specs.NodeLists.{IsOver, plain_over}
use Rattle.storage_current.proofs.qmdb.current.tail.tree_behind.Given as goal

abbrev pub invariant-loop-operation : goal.invariant-loop-operation
invariant-loop-operation g l =
    let text = g.H.Digest.Digest.text in
    let h = g.H.Hasher.hash_of in
    let S = g.F.Family.shape in
    record {
      count : l.tree.leaves ≡ l.begin + l.operation-index;
      boundary : l.tree.boundary ≡ l.begin;
      pinned : l.tree.pinned ≡ l.pins;
      over : (first : List (List ℕ)) → length first ≡ l.begin
          → map text l.pins ≡ at_peaks (plain_over h S (leaf_digests h (ungrafted S) 0 first)) 0 (S.peaks l.begin)
          → IsOver text h S l.tree (first ++ take l.operation-index (map g.E.AsSlice.items l.operations));
    }
