use Rattle.std.proofs.Common.{Some, ap, refl}
use Rattle.storage_merkle.proofs.merkle.plan.digests.Nodes.top.Goals as goal

pub returns-in-One : goal.returns-in-One
returns-in-One g c = λ digest_of are.
    let placed = rw c.in-One.is at c.requires.placed in
    rw c.in-One.is (ap Some
    (are _ _ _ c.node.result c.node.ensures (record { aligned = placed.aligned; at = refl })))

pub returns-in-Past : goal.returns-in-Past
returns-in-Past g c = λ digest_of are. rw c.in-Past.is (c.fold_back.ensures digest_of are)
