use Rattle.std.proofs.Common.{◌≡◌, ◌+◌, ◌≤◌, drop, length}
use Rattle.storage_merkle.specs.Kept.{pins}
use Rattle.storage_merkle.proofs.merkle.peaks.count_pins.Given as goal

abbrev pub invariant-loop-position : goal.invariant-loop-position
invariant-loop-position g l = record {
  rest : l.position-iterator ≡ drop l.count (pins g.F.Family.shape l.fn.boundary);
  count : l.count + length l.position-iterator ≡ length (g.F.Family.shape.peaks l.fn.boundary);
  low : l.count ≤ l.given;
}
