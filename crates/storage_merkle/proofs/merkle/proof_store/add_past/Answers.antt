use Rattle.std.proofs.Common.{◌-◌, ◌∷◌, [], ◌++◌, ap, ◌∙◌, refl, arith}
use Rattle.storage_merkle.proofs.Peaks.{none_left, peeled}
use Rattle.storage_merkle.proofs.Store.Steps.{past_folded, past_none, past_not_yet, past_positions, past_pushed}
use Rattle.storage_merkle.proofs.merkle.proof_store.add_past.Goals as goal

pub loop-first-init : goal.loop-first-init
loop-first-init g c =
    let S = g.F.Family.shape in
    let at = c.into_iter-first-iterator.ensures.into_iter_gives ∙ c.over-first-items.ensures in
    record {
      walk = record {
        first = 0;
        heights = S.peaks c.args.leaves;
        are = at;
        ends = omega (arith, g.met.F.Family.laws.sum c.args.leaves);
      };
      sites = ap (λ ps. c.args.positions.now.items ++ past_positions S c.args.past c.args.folded ps) at;
    }

pub loop-first-preserved-then-folded-gt0 : goal.loop-first-preserved-then-folded-gt0
loop-first-preserved-then-folded-gt0 g c =
    let first = c.in-Some.ensures.steps.0 in
    let u = peeled _ _ _ _ first c.loop-first.invariant.walk in
    record {
      walk = u.rest;
      sites = past_folded g.F.Family.shape c.args.past _ _ _ first _ _ c.loop-first.folded (c.loop-first.folded - 1)
          c.if-folded-gt0.true refl c.loop-first.invariant.sites;
    }

pub loop-first-preserved-in-Continue-1 : goal.loop-first-preserved-in-Continue-1
loop-first-preserved-in-Continue-1 g c =
    let first = c.in-Some.ensures.steps.0 in
    let u = peeled _ _ _ _ first c.loop-first.invariant.walk in
    record {
      walk = u.rest;
      sites = past_pushed g.F.Family.shape c.args.past _ _ _ first _ _ c.args.leaves c.loop-first.folded _ u.rest
          (omega (arith, c.if-folded-gt0.false)) c.if-past-first.true (omega (arith, u.next))
          (c.in_ok-push.ensures.items ∙ ap (λ x. c.loop-first.positions.items ++ x ∷ []) c.node_position.ensures)
          c.loop-first.invariant.sites;
    }

pub loop-first-preserved : goal.loop-first-preserved
loop-first-preserved g c =
    let first = c.in-Some.ensures.steps.0 in
    let u = peeled _ _ _ _ first c.loop-first.invariant.walk in
    record {
      walk = u.rest;
      sites = past_not_yet g.F.Family.shape c.args.past _ _ _ first _ _ c.loop-first.folded
          (omega (arith, c.if-folded-gt0.false)) (omega (arith, c.if-past-first.false)) c.loop-first.invariant.sites;
    }

pub returns : goal.returns
returns g c = none_left (past_positions g.F.Family.shape c.args.past c.loop-first.folded) _ _ _
    (past_none g.F.Family.shape c.args.past c.loop-first.folded) c.in-None.ensures.steps.0 c.loop-first.invariant.sites
