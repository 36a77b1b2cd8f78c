use Rattle.std.proofs.Common.{arith, rules, ℕ, ◌+◌, ◌≤◌, ◌^◌, ap₂, sym, ◌∙◌}
use Rattle.storage_merkle.specs.Shape.{leaves_under}
use Rattle.reference.proofs.Digits.{small_height}
use Rattle.reference.proofs.Nodes.{leaves_cons}
use Rattle.reference.proofs.Counts.{leaves_none}
use Rattle.reference.proofs.count.+leaves_of.Goals as goal

pub power-requires : goal.power-requires
power-requires t c =
    let l : 0 + 2 ^ c.in-Some.height.now ≤ 2 ^ 62 = omega (
      arith,
      leaves_cons c.args.heights.now c.in-Some.rest.now c.in-Some.height.now c.in-Some.ensures.cases.0,
    ) in
    omega (arith, small_height 0 c.in-Some.height.now (2 ^ 62) l (omega arith))

pub leaves_of-requires : goal.leaves_of-requires
leaves_of-requires t c =
    let l : leaves_under c.in-Some.rest.now ≤ 2 ^ 62 = omega (
      arith,
      leaves_cons c.args.heights.now c.in-Some.rest.now c.in-Some.height.now c.in-Some.ensures.cases.0,
    ) in
    (search rules, l)

pub overflow_add-result : goal.overflow_add-result
overflow_add-result t c =
    omega (arith, leaves_cons c.args.heights.now c.in-Some.rest.now c.in-Some.height.now c.in-Some.ensures.cases.0)

pub returns-in-None : goal.returns-in-None
returns-in-None t c = leaves_none c.args.heights.now c.in-None.ensures.cases

pub returns-in-Some : goal.returns-in-Some
returns-in-Some t c = ap₂ (λ (x y : ℕ). x + y) c.power.ensures c.leaves_of.ensures
    ∙ sym (leaves_cons c.args.heights.now c.in-Some.rest.now c.in-Some.height.now c.in-Some.ensures.cases.0)
