use Rattle.storage_current.proofs.MemViews.{over_tree}
use Rattle.std.proofs.Common.{rules}
use Rattle.storage_current.proofs.qmdb.current.snapshot.Snapshot.of_tree.Goals as goal

pub returns-in-Ok-clause-stands : goal.returns-in-Ok-clause-stands
returns-in-Ok-clause-stands g c operations over =
    let t = c.into_operations-operations.ensures in
    c.in-Ok.ensures.stands operations (over_tree g.H.Digest.Digest.text g.H.Hasher.hash_of g.F.Family.shape
    c.into_operations-operations.result c.args.tree operations t.all.unpruned t.all.unpinned t.leaves t.nodes over)

pub returns-in-Some-clause-why : goal.returns-in-Some-clause-why
returns-in-Some-clause-why g c =
    rw (← c.into_operations-operations.ensures.leaves) (rw (c.as_u64.ensures, c.leaves.ensures) at c.in-Some.ensures.why)

pub over-requires : goal.over-requires
over-requires g c = search rules

pub returns-in-Err-clause-why : goal.returns-in-Err-clause-why
returns-in-Err-clause-why g c = search rules
