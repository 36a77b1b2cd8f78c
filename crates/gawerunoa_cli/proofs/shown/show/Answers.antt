use Rattle.std.proofs.Common.{◌∙◌, arith}
use Rattle.storage_merkle.specs.Plans.{PlanOf}
use Rattle.gawerunoa_cli.proofs.Parts.{if_some, planned_leaves, planned_start, planned_within}
use Rattle.gawerunoa_cli.proofs.shown.show.Goals as goal

pub returns-clause-shown : goal.returns-clause-shown
returns-clause-shown g c = λ list over.
    let planned = c.in_ok-plan.ensures.planned in
    rw (← planned_start c.args.at c.in_ok-plan.plan c.count-count.result planned) (c.in_ok-shown.ensures list over
    (if_some c.in_ok-plan.plan (λ (p : PlanOf) is. is ∙ c.count-count.ensures)
    (planned_leaves c.args.at c.in_ok-plan.plan c.count-count.result planned)))

pub returns-clause-within : goal.returns-clause-within
returns-clause-within g c = (
  omega arith,
  rw (← c.count-count.ensures) (planned_within c.args.at c.in_ok-plan.plan c.count-count.result c.in_ok-plan.ensures.planned),
)
