use Rattle.storage_ops.proofs.OwnStores.{given_of_own}
use Rattle.storage_ops.proofs.Verify.{on_ok}
use Rattle.storage_ops.proofs.qmdb.verify.create_proof_store.Goals as goal

pub returns-clause-made : goal.returns-clause-made
returns-clause-made g c = rw (c.deref.ensures.value, c.in_ok-elements.ensures.all, c.hasher.ensures) at
    c.new.ensures.made

pub returns-clause-own : goal.returns-clause-own
returns-clause-own g c = on_ok _ _ c.new.result
    (λ store made. given_of_own _ c.stores_of_own_proofs_give_accepted.ensures c.own_range_proofs_are_accepted.ensures _ _
    _ g.met.F.Family.laws _ _ _ _ store made)
    (rw (c.deref.ensures.value, c.in_ok-elements.ensures.all, c.hasher.ensures) at c.new.ensures.made)

pub returns-clause-why : goal.returns-clause-why
returns-clause-why g c = rw (c.deref.ensures.value, c.in_ok-elements.ensures.all, c.hasher.ensures) at
    c.new.ensures.why
