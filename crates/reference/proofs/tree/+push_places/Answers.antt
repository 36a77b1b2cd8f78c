use Rattle.std.proofs.Common.{arith, rules, ◌+◌, ◌≤◌, ◌^◌}
use Rattle.storage_merkle.specs.Shape.{leaves_under}
use Rattle.reference.proofs.Digits.{small_height}
use Rattle.reference.proofs.Nodes.{leaves_cons}
use Rattle.reference.proofs.tree.+push_places.Goals as goal

pub new-requires : goal.new-requires
new-requires t c =
    omega (arith, leaves_cons c.args.heights.now c.in-Some.rest.now c.in-Some.height.now c.in-Some.ensures.cases.0)

pub power-requires : goal.power-requires
power-requires t c =
    let l : c.args.first + 2 ^ c.in-Some.height.now ≤ 2 ^ 62 = omega (
      arith,
      leaves_cons c.args.heights.now c.in-Some.rest.now c.in-Some.height.now c.in-Some.ensures.cases.0,
    ) in
    omega (arith, small_height c.args.first c.in-Some.height.now (2 ^ 62) l (omega arith))

pub push_places-requires : goal.push_places-requires
push_places-requires t c =
    let l : c.args.first + c.power.result + leaves_under c.in-Some.rest.now ≤ 2 ^ 62 = omega (
      arith,
      c.power.ensures,
      leaves_cons c.args.heights.now c.in-Some.rest.now c.in-Some.height.now c.in-Some.ensures.cases.0,
    ) in
    (search rules, l)
