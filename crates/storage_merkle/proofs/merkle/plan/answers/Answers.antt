use Rattle.std.proofs.Common.{inl, refl, Some}
use Rattle.storage_merkle.proofs.Plan.ByPosition.{zips_start, zips_more, zips_end, skips_more, absent_at}
use Rattle.storage_merkle.proofs.merkle.plan.answers.Goals as goal

pub loop-position-init : goal.loop-position-init
loop-position-init g c =
    record {
      zips = zips_start c.args.positions.now _ c.in_ok-answered.answered.items c.in_ok-answered.ensures.items;
      skips = λ p a. a;
    }

pub returns-in_default-clause-why : goal.returns-in_default-clause-why
returns-in_default-clause-why g c = inl (
  c.position-item.result,
  refl,
  absent_at c.args.positions.now
      (λ q a. g.G.Fn.post c.args.get_node (q, tt) a) c.loop-position.position-index c.position-item.result
      c.loop-position-test.true c.position-item.is c.in_default.ensures c.loop-position.invariant.skips,
)

pub loop-position-preserved : goal.loop-position-preserved
loop-position-preserved g c = record {
  zips = zips_more c.args.positions.now (λ p d. g.G.Fn.post c.args.get_node (p, tt) (Some d))
      c.loop-position.position-index c.position-item.result c.in-Some.digest _ _ c.loop-position-test.true
      c.position-item.is c.in-Some.ensures c.in_ok-push.ensures.items c.loop-position.invariant.zips;
  skips = skips_more c.args.positions.now
      (λ q a. g.G.Fn.post c.args.get_node (q, tt) a) c.loop-position.position-index c.position-item.result
      c.in-Some.digest c.loop-position-test.true c.position-item.is c.in-Some.ensures c.loop-position.invariant.skips;
}

pub returns-clause-served : goal.returns-clause-served
returns-clause-served g c =
    zips_end c.args.positions.now (λ p d. g.G.Fn.post c.args.get_node (p, tt) (Some d)) c.loop-position.position-index
    c.loop-position.answered.items c.loop-position-test.false c.loop-position.invariant.zips
