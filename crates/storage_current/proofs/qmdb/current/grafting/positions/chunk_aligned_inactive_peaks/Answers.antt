use Rattle.std.proofs.Common.{arith, ◌≡◌, ◌-◌, ◌^◌, refl}
use Rattle.std.proofs.lemmas.Bool.{false≢true}
use Rattle.std.proofs.lemmas.Nat.{pow_pos}
use Rattle.storage_merkle.specs.Laws.Inactive.{at_start, at_next, stopped, past_end, aligned_found, best_start, best_new, best_old}
use Rattle.storage_current.proofs.qmdb.current.grafting.positions.chunk_aligned_inactive_peaks.Goals as goal

pub loop-left-init : goal.loop-left-init
loop-left-init g c = record {
  below = omega arith;
  small = omega arith;
  reached = at_start g.F.Family.shape g.met.F.Family.laws c.args.leaves;
  early = omega arith;
  best = best_start g.F.Family.shape c.args.leaves c.args.height;
}

pub loop-left-preserved-then-is_multiple_of : goal.loop-left-preserved-then-is_multiple_of
loop-left-preserved-then-is_multiple_of g c =
    let r = at_next g.F.Family.shape g.met.F.Family.laws _ _ _ _ c.loop-left.invariant.reached
    c.first_peak.ensures.first c.first_peak.ensures.within in
    record {
      below = omega arith;
      small = omega (arith, c.power.ensures, c.first_peak.ensures.within, pow_pos c.first_peak.result);
      reached = rw c.power.ensures r;
      early = omega arith;
      best = best_new g.F.Family.shape c.args.leaves (c.loop-left.left - 2 ^ c.first_peak.result) c.args.height _ r
          (rw (← c.power-in-loop-left.ensures, ← c.power.ensures) (c.if-is_multiple_of.ensures.0 refl));
    }

pub loop-left-preserved : goal.loop-left-preserved
loop-left-preserved g c =
    let r = at_next g.F.Family.shape g.met.F.Family.laws _ _ _ _ c.loop-left.invariant.reached
    c.first_peak.ensures.first c.first_peak.ensures.within in
    record {
      below = omega arith;
      small = omega (arith, c.power.ensures, c.first_peak.ensures.within, pow_pos c.first_peak.result);
      reached = rw c.power.ensures r;
      early = omega arith;
      best = best_old g.F.Family.shape c.args.leaves (c.loop-left.left - 2 ^ c.first_peak.result) c.args.height _ _ r
          (λ z. false≢true (c.if-is_multiple_of.ensures.1 (rw (c.power-in-loop-left.ensures, c.power.ensures) z)))
          c.loop-left.invariant.best;
    }

pub returns-after-loop-left : goal.returns-after-loop-left
returns-after-loop-left g c =
    let z : c.loop-left.left ≡ 0 = omega arith in
    let r = rw z at c.loop-left.invariant.reached in
    aligned_found g.F.Family.shape _ _ _ _ _ _ c.loop-left.invariant.reached c.loop-left.invariant.early
    c.loop-left.invariant.best
    (past_end g.F.Family.shape g.met.F.Family.laws c.args.leaves c.loop-left.count c.args.floor r)

pub returns-then-leaves-rest : goal.returns-then-leaves-rest
returns-then-leaves-rest g c =
    aligned_found g.F.Family.shape _ _ _ _ _ _ c.loop-left.invariant.reached c.loop-left.invariant.early
    c.loop-left.invariant.best
    (stopped g.F.Family.shape g.met.F.Family.laws _ _ _ c.first_peak.result c.args.floor c.loop-left.invariant.reached
    c.first_peak.ensures.first c.first_peak.ensures.within (omega (arith, c.power.ensures, c.if-leaves-rest.true)))
