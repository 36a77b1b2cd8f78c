use Rattle.std.proofs.Common.{Some}
use Rattle.storage_merkle.proofs.Plan.ByPosition.{Zips, Skips}
use Rattle.storage_merkle.proofs.merkle.plan.answers.Given as goal

abbrev pub invariant-loop-position : goal.invariant-loop-position
invariant-loop-position g l = record {
  zips : Zips l.positions (λ p d. goal.G-post g l.get_node p (Some d)) l.position-index l.answered.items;
  skips : Skips l.positions (λ q a. goal.G-post g l.get_node q a) l.position-index;
}
