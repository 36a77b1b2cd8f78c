use Rattle.std.proofs.Common.{[], map, ap, refl}
use Rattle.storage_current.specs.NodeLists.{plain_over}
use Rattle.storage_current.proofs.MemViews.{tree_over}
use Rattle.storage_current.proofs.qmdb.current.operation_tree.OperationTree.new.Goals as goal

pub returns : goal.returns
returns g c =
    let S = g.F.Family.shape in
    let h = g.H.Hasher.hash_of in
    let text = g.H.Digest.Digest.text in
    let m = c.new-operations.result in
    let kept = c.new-operations.ensures.kept in
    tree_over text h S m (record { leaves = m.leaves; nodes = map text m.nodes }) [] (ap (λ x. x.boundary) kept)
    (ap (λ x. x.pinned) kept) refl refl (c.new-operations.ensures.stands (plain_over h S))
