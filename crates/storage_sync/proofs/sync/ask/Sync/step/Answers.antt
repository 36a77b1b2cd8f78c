use Rattle.std.proofs.Common.{◌*◌, ap, arith}
use Rattle.std.proofs.Math.Nat.{div-mul-le_self}
use Rattle.storage_sync.specs.Syncs.{Taken, step}
use Rattle.storage_sync.proofs.States.{some_step}
use Rattle.storage_sync.proofs.sync.ask.Sync.step.Goals as goal

pub overflow_mul-result : goal.overflow_mul-result
overflow_mul-result g c = omega (arith, div-mul-le_self c.self.inside.limits.max_ops (8 * g.row.N))

pub returns-clause-value : goal.returns-clause-value
returns-clause-value g c = ap (λ (t : Taken). step g.row.N t.limits) c.self.view_is

pub returns-clause-some : goal.returns-clause-some
returns-clause-some g c =
    some_step g.row.N c.self.inside.limits.max_ops c.self.invariant.size c.self.invariant.room
