use Rattle.std.proofs.Common.{arith, ◌∙◌, ◌+◌}
use Rattle.std.proofs.lemmas.Nat.{one_shl}
use Rattle.storage_current.proofs.Heights.{log_of_power, power_of_log, eight_powers, size_of_power}
use Rattle.storage_current.proofs.qmdb.current.grafting.chunk_height.Goals as goal

pub returns-then-exponent-ge60-clause-size : goal.returns-then-exponent-ge60-clause-size
returns-then-exponent-ge60-clause-size c = λ size.
    let p = power_of_log c.args.chunk_size c.ilog2-exponent.result size c.ilog2-exponent.ensures.power_le
    c.ilog2-exponent.ensures.next_power_gt in
    absurd (omega (arith, p.1))

pub returns-then-chunk_size-exponent-clause-size : goal.returns-then-chunk_size-exponent-clause-size
returns-then-chunk_size-exponent-clause-size c = λ size.
    let p = power_of_log c.args.chunk_size c.ilog2-exponent.result size c.ilog2-exponent.ensures.power_le
    c.ilog2-exponent.ensures.next_power_gt in
    let q = log_of_power c.args.chunk_size c.ilog2-exponent.result c.ilog2-exponent.ensures.power_le
    c.ilog2-exponent.ensures.next_power_gt (3 + c.ilog2-exponent.result) p.1 p.0 in
    c.if-chunk_size-exponent.true (rw (one_shl c.ilog2-exponent.result 64 (omega arith)) q.0)

pub returns-clause-size : goal.returns-clause-size
returns-clause-size c =
    size_of_power c.args.chunk_size c.ilog2-exponent.result (c.if-chunk_size-exponent.false
    ∙ one_shl c.ilog2-exponent.result 64 (omega arith)) (omega arith)

pub returns-clause-power : goal.returns-clause-power
returns-clause-power c = (
  eight_powers c.args.chunk_size c.ilog2-exponent.result (c.if-chunk_size-exponent.false
      ∙ one_shl c.ilog2-exponent.result 64 (omega arith)),
  omega arith,
  omega arith,
)
