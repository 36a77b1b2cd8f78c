use Rattle.std.proofs.Common.{arith, length, ap, ◌∙◌, refl}
use Rattle.storage_merkle.proofs.MemNodes.{length_pins, look_hit, look_on}
use Rattle.storage_merkle.proofs.merkle.mem.nodes.node_at_position.Goals as goal

pub loop-at-init : goal.loop-at-init
loop-at-init g c = record {
  whole = rw (c.nodes_to_pin-left.ensures, c.new.ensures)
      (omega (arith, length_pins g.F.Family.shape c.args.boundary, c.requires.pins));
  same = rw (c.nodes_to_pin-left.ensures, c.new.ensures) refl;
}

pub returns-then-as_u64-position : goal.returns-then-as_u64-position
returns-then-as_u64-position g c =
    look_hit g.F.Family.shape c.args.pinned.now c.args.nodes.now c.args.boundary c.args.position c.in-Some.at
    c.loop-at.index c.loop-at.left c.next.new.self _
    (omega arith) c.loop-at.invariant.same c.in-Some.ensures.steps (omega arith)
    (omega (arith, c.loop-at.invariant.whole, ap length c.in-Some.ensures.steps)) c.index-pinned-index.is

pub loop-at-preserved : goal.loop-at-preserved
loop-at-preserved g c = record {
  whole = omega (arith, c.loop-at.invariant.whole, ap length c.in-Some.ensures.steps);
  same = look_on g.F.Family.shape c.args.pinned.now c.args.boundary c.args.position c.in-Some.at c.loop-at.index
      c.loop-at.left c.next.new.self c.loop-at.invariant.same c.in-Some.ensures.steps
      (λ e. c.if-as_u64-position.false (c.as_u64.ensures ∙ e))
      (omega (arith, c.loop-at.invariant.whole, ap length c.in-Some.ensures.steps));
}
