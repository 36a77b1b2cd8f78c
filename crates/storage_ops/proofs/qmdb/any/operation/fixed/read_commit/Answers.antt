use Rattle.storage_ops.specs.Laws.Reading.{commit_steps}
use Rattle.storage_ops.specs.Fixed.{floor_at}
use Rattle.storage_codec.specs.Laws.Failing.{fails_then, hands_on}
use Rattle.std.proofs.Common.{arith}
use Rattle.storage_codec.specs.Laws.Parts.{ends_then}
use Rattle.storage_ops.proofs.qmdb.any.operation.fixed.read_commit.Goals as goal

pub returns-in_err-value-clause-gives : goal.returns-in_err-value-clause-gives
returns-in_err-value-clause-gives g c =
    let e = c.in_err-value.field-0.0 in
    hands_on _ c.from_residual.result e _ _ c.from_residual.ensures.1 (fails_then e _ _ c.in_err-value.ensures.gives)

pub returns-clause-gives : goal.returns-clause-gives
returns-clause-gives g c = rw c.new.ensures (commit_steps g.S.Key.Read.View g.S.Read.View _ floor_at _ _ _ _
    c.in_ok-value.ensures.gives c.in_ok-floor.ensures.gives)

pub returns-in_err-floor-clause-ends : goal.returns-in_err-floor-clause-ends
returns-in_err-floor-clause-ends g c = grind (arith, ends_then)

pub returns-clause-ends : goal.returns-clause-ends
returns-clause-ends g c = grind (arith, ends_then)
