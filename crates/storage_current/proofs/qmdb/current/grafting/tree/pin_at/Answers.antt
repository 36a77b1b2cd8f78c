use Rattle.std.proofs.Common.{arith, length, ap, ◌∙◌, refl}
use Rattle.storage_merkle.specs.Kept.{pins}
use Rattle.storage_current.proofs.Pinned.{length_pins, pin_hit, pin_on}
use Rattle.storage_current.proofs.qmdb.current.grafting.tree.pin_at.Goals as goal

pub loop-at-init : goal.loop-at-init
loop-at-init g c = record {
  whole = rw (c.nodes_to_pin-left.ensures, c.new.ensures)
      (omega (arith, length_pins g.F.Family.shape c.args.pruned, c.requires.pins));
  same = rw (c.nodes_to_pin-left.ensures, c.new.ensures) refl;
}

pub returns-then-as_u64-place : goal.returns-then-as_u64-place
returns-then-as_u64-place g c =
    rw (← c.as_u64-place.ensures) (pin_hit (pins g.F.Family.shape c.args.pruned) c.args.pinned.now c.as_u64-place.result c.in-Some.at c.loop-at.index
    c.loop-at.left c.next.new.self _ c.loop-at.invariant.same c.in-Some.ensures.steps (omega arith)
    (omega (arith, c.loop-at.invariant.whole, ap length c.in-Some.ensures.steps)) c.index-pinned-index.is)

pub loop-at-preserved : goal.loop-at-preserved
loop-at-preserved g c = record {
  whole = omega (arith, c.loop-at.invariant.whole, ap length c.in-Some.ensures.steps);
  same = pin_on (pins g.F.Family.shape c.args.pruned) c.args.pinned.now c.as_u64-place.result c.in-Some.at c.loop-at.index
      c.loop-at.left c.next.new.self c.loop-at.invariant.same c.in-Some.ensures.steps
      (λ e. c.if-as_u64-place.false (c.as_u64.ensures ∙ e))
      (omega (arith, c.loop-at.invariant.whole, ap length c.in-Some.ensures.steps));
}
