use Rattle.std.proofs.Common.{arith}
use Rattle.std.proofs.lemmas.Grind.{common_steps}
use Rattle.storage_ops.proofs.qmdb.verify.multi.verify_multi_proof.Goals as goal

pub returns-clause-exact : goal.returns-clause-exact
returns-clause-exact g c = rw (c.deref.ensures.value, c.in_ok-elements.ensures.all, c.hasher.ensures) at
    c.verify_multi_inclusion.ensures.exact

pub returns-clause-meaning : goal.returns-clause-meaning
returns-clause-meaning g c = rw (c.deref.ensures.value, c.in_ok-elements.ensures.all, c.hasher.ensures) at
    c.verify_multi_inclusion.ensures.meaning

pub returns-clause-none : goal.returns-clause-none
returns-clause-none g c = grind (arith, common_steps)
