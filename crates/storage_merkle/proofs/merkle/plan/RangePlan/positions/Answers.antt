use Rattle.std.proofs.Common.{List, ℕ, ◌∙◌, sym, subst, rules}
use Rattle.std.specs.List.Sorted.{IsStrictlyIncreasing}
use Rattle.storage_merkle.proofs.Plan.Sites.{planned_rises}
use Rattle.storage_merkle.proofs.merkle.plan.RangePlan.positions.Goals as goal

pub returns-clause-rising : goal.returns-clause-rising
returns-clause-rising g c =
    subst (λ (ps : List ℕ). IsStrictlyIncreasing ps) (sym (c.deref.ensures.value ∙ c.self.invariant.positions_are))
    (planned_rises g.F.Family.shape g.met.F.Family.laws c.self.inside.leaves c.self.inside.start c.self.inside.end)

pub returns-clause-value : goal.returns-clause-value
returns-clause-value g c = search rules
