use Rattle.std.proofs.Common.{sym}
use Rattle.std.proofs.Math.Bool.{and_assoc}
use Rattle.storage_ops.proofs.laws.equal_ordered_updates.Goals as goal

pub returns-clause-parts : goal.returns-clause-parts
returns-clause-parts g c x y =
    sym (and_assoc (g.K.PartialEq.eq x.key y.key) (g.V.Value.PartialEq.eq x.value y.value)
    (g.K.PartialEq.eq x.next_key y.next_key))
