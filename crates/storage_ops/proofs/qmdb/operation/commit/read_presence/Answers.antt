use Rattle.storage_codec.specs.Laws.Failing.{fails_then, hands_on, may_fail}
use Rattle.storage_ops.proofs.ReadingCommits.{value_read, value_fails, none_read, none_fails}
use Rattle.std.proofs.Common.{arith}
use Rattle.storage_codec.specs.Laws.Parts.{ends_same, ends_then}
use Rattle.storage_ops.proofs.qmdb.operation.commit.read_presence.Goals as goal

pub returns-in_err-read_cfg-clause-gives : goal.returns-in_err-read_cfg-clause-gives
returns-in_err-read_cfg-clause-gives g c =
    let e = c.in_err-read_cfg.field-0.0 in
    hands_on _ c.from_residual.result e _ _ c.from_residual.ensures.1 (fails_then e _ _ c.in_err-read_cfg.ensures.gives)

pub returns-in_err-read_cfg-2-clause-gives : goal.returns-in_err-read_cfg-2-clause-gives
returns-in_err-read_cfg-2-clause-gives g c =
    let e = c.in_err-read_cfg-2.field-0.0 in
    hands_on _ c.from_residual-in_err-read_cfg-2.result e _ _ c.from_residual-in_err-read_cfg-2.ensures.1
    (value_fails _ _ _ _ _ e c.in_ok-read_cfg.ensures.gives c.if-branch.true c.in_err-read_cfg-2.ensures.gives)

pub returns-then-branch-clause-gives : goal.returns-then-branch-clause-gives
returns-then-branch-clause-gives g c = value_read _ _ _ _ _ _ _ c.in_ok-read_cfg.ensures.gives c.if-branch.true
    c.in_ok-read_cfg-2.ensures.gives

pub returns-in_err-ensure_zeros-clause-gives : goal.returns-in_err-ensure_zeros-clause-gives
returns-in_err-ensure_zeros-clause-gives g c =
    let e = c.in_err-ensure_zeros.field-0.0 in
    hands_on _ c.from_residual-in_err-ensure_zeros.result e _ _ c.from_residual-in_err-ensure_zeros.ensures.1
    (none_fails _ _ _ _ _ e c.in_ok-read_cfg.ensures.gives c.if-branch.false
    (may_fail e _ (rw c.fixed_size.ensures at c.in_err-ensure_zeros.ensures.gives)))

pub returns-clause-gives : goal.returns-clause-gives
returns-clause-gives g c = none_read _ _ _ _ _ _ c.in_ok-read_cfg.ensures.gives c.if-branch.false
    (rw c.fixed_size.ensures at c.in_ok-ensure_zeros.ensures.gives)

pub returns-in_err-read_cfg-2-clause-ends : goal.returns-in_err-read_cfg-2-clause-ends
returns-in_err-read_cfg-2-clause-ends g c = grind (arith, ends_then, ends_same)

pub returns-then-branch-clause-ends : goal.returns-then-branch-clause-ends
returns-then-branch-clause-ends g c = grind (arith, ends_then, ends_same)

pub returns-in_err-ensure_zeros-clause-ends : goal.returns-in_err-ensure_zeros-clause-ends
returns-in_err-ensure_zeros-clause-ends g c = grind (arith, ends_then, ends_same)

pub returns-clause-ends : goal.returns-clause-ends
returns-clause-ends g c = grind (arith, ends_then, ends_same)
