use Rattle.std.proofs.Common.{arith, ◌^◌, rules}
use Rattle.reference.proofs.Digits.{small_height}
use Rattle.reference.proofs.node.Node.end.Goals as goal

pub power-requires : goal.power-requires
power-requires c =
    omega (arith, small_height c.self.inside.first c.self.inside.height (2 ^ 62) c.self.invariant (omega arith))

pub returns : goal.returns
returns c = search rules
