use Rattle.storage_codec.specs.Laws.Failing.{hands_on, may_fail}
use Rattle.storage_ops.proofs.Padded.{padded_read, padded_fails}
use Rattle.std.proofs.Common.{arith}
use Rattle.storage_codec.specs.Laws.Parts.{ends_then}
use Rattle.storage_ops.proofs.qmdb.any.operation.fixed.read_payload.Goals as goal

pub returns-in_err-ensure_zeros-in-210-clause-gives : goal.returns-in_err-ensure_zeros-in-210-clause-gives
returns-in_err-ensure_zeros-in-210-clause-gives g c =
    let e = c.in_err-ensure_zeros-in-210.field-0.0 in
    let zeros = rw (
      c.total_size-total.ensures.value,
      c.small_size-key.ensures.value,
      c.update_size-update.ensures.value,
      c.small_size-value.ensures.value,
    ) at c.in_err-ensure_zeros-in-210.ensures.gives in
    rw c.in-210.is (hands_on _ c.from_residual-in_err-ensure_zeros-in-210.result e _ _
    c.from_residual-in_err-ensure_zeros-in-210.ensures.1
    (padded_fails _ _ _ _ _ e c.in_ok-payload-in-210.ensures.gives (may_fail e _ zeros)))

pub returns-in_ok-ensure_zeros-in-210-clause-gives : goal.returns-in_ok-ensure_zeros-in-210-clause-gives
returns-in_ok-ensure_zeros-in-210-clause-gives g c =
    let zeros = rw (
      c.total_size-total.ensures.value,
      c.small_size-key.ensures.value,
      c.update_size-update.ensures.value,
      c.small_size-value.ensures.value,
    ) at c.in_ok-ensure_zeros-in-210.ensures.gives in
    rw c.in-210.is (padded_read _ _ _ _ _ _ c.in_ok-payload-in-210.ensures.gives zeros)

pub returns-in_err-ensure_zeros-in-209-clause-ends : goal.returns-in_err-ensure_zeros-in-209-clause-ends
returns-in_err-ensure_zeros-in-209-clause-ends g c = grind (arith, ends_then)

pub returns-in_err-ensure_zeros-in-210-clause-ends : goal.returns-in_err-ensure_zeros-in-210-clause-ends
returns-in_err-ensure_zeros-in-210-clause-ends g c = grind (arith, ends_then)

pub returns-in_err-ensure_zeros-in-211-clause-ends : goal.returns-in_err-ensure_zeros-in-211-clause-ends
returns-in_err-ensure_zeros-in-211-clause-ends g c = grind (arith, ends_then)

pub returns-in_ok-ensure_zeros-in-209-clause-ends : goal.returns-in_ok-ensure_zeros-in-209-clause-ends
returns-in_ok-ensure_zeros-in-209-clause-ends g c = grind (arith, ends_then)

pub returns-in_ok-ensure_zeros-in-210-clause-ends : goal.returns-in_ok-ensure_zeros-in-210-clause-ends
returns-in_ok-ensure_zeros-in-210-clause-ends g c = grind (arith, ends_then)

pub returns-in_ok-ensure_zeros-in-211-clause-ends : goal.returns-in_ok-ensure_zeros-in-211-clause-ends
returns-in_ok-ensure_zeros-in-211-clause-ends g c = grind (arith, ends_then)
