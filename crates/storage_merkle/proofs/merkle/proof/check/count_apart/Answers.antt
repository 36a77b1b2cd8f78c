use Rattle.std.proofs.Common.{arith, length, ap, ◌∙◌}
use Rattle.storage_merkle.specs.Rests.{peaks_from}
use Rattle.storage_merkle.proofs.Walked.{counts_met, few_met}
use Rattle.storage_merkle.proofs.merkle.proof.check.count_apart.Goals as goal

pub loop-top-init : goal.loop-top-init
loop-top-init g c = omega (
  arith,
  ap length (c.into_iter-top-iterator.ensures.into_iter_gives ∙ c.apart-top-items.ensures),
)

pub overflow_add-count : goal.overflow_add-count
overflow_add-count g c =
    let r = c.args.rest in
    let S = g.F.Family.shape in
    omega (
      arith,
      few_met c.args.start c.args.end r.folded r.first (S.peaks r.left),
      g.met.F.Family.laws.sum r.left,
      ap length c.in-Some.ensures.steps.0,
      c.loop-top.invariant,
      c.requires.few,
    )

pub loop-top-preserved : goal.loop-top-preserved
loop-top-preserved g c = omega (arith, ap length c.in-Some.ensures.steps.0, c.loop-top.invariant)

pub returns-clause-few : goal.returns-clause-few
returns-clause-few g c =
    let r = c.args.rest in
    let S = g.F.Family.shape in
    omega (
      arith,
      few_met c.args.start c.args.end r.folded r.first (S.peaks r.left),
      g.met.F.Family.laws.sum r.left,
      c.loop-top.invariant,
    )

pub returns-clause-exact : goal.returns-clause-exact
returns-clause-exact g c =
    let r = c.args.rest in
    let S = g.F.Family.shape in
    omega (
      arith,
      counts_met c.args.start c.args.end (peaks_from S r.first r.left) r.folded,
      ap length c.in-None.ensures.steps.0,
      c.loop-top.invariant,
    )
