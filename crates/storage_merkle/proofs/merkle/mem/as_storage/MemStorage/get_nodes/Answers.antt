use Rattle.storage_merkle.specs.Kept.{kept_at}
use Rattle.storage_merkle.proofs.Served.{serves, if_ok}
use Rattle.storage_merkle.proofs.merkle.mem.as_storage.MemStorage.get_nodes.Goals as goal

pub returns-clause-answers : goal.returns-clause-answers
returns-clause-answers g c =
    rw (← c.self.view_is, ← c.deref.ensures.value, ← c.deref-2.ensures.value)
    (if_ok c.look_up_all.result (λ v z. serves (kept_at g.F.Family.shape c.self.inside.boundary c.deref.result.now
    c.deref-2.result.now) c.args.positions.now v.items z) c.look_up_all.ensures.served)

pub returns-clause-why : goal.returns-clause-why
returns-clause-why g c =
    rw (← c.self.view_is, ← c.deref.ensures.value, ← c.deref-2.ensures.value) c.look_up_all.ensures.why
