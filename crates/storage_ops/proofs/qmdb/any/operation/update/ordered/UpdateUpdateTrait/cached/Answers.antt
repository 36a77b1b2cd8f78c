use Rattle.storage_ops.proofs.qmdb.any.operation.update.ordered.UpdateUpdateTrait.cached.Goals as goal

pub returns-clause-answered : goal.returns-clause-answered
returns-clause-answered g c _ =
    let kept = g.met.K.Key.clones c.deref.result.now.next_key c.in_ok-clone.field-0 c.in_ok-clone.ensures.cases in
    (c.update-update.result, c.deref.result.now, c.update-update.ensures, c.deref.ensures, kept)
