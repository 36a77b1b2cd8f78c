use Rattle.std.proofs.Common.{◌≡◌, Some}
use Rattle.storage_merkle.specs.Kept.{kept_at}
use Rattle.storage_merkle.proofs.Plan.ByPosition.{Zips, Skips}
use Rattle.storage_merkle.proofs.merkle.mem.as_storage.look_up_all.Given as goal

abbrev pub invariant-loop-position : goal.invariant-loop-position
invariant-loop-position g l = record {
  zips : Zips l.positions
      (λ p d. Some d ≡ kept_at g.F.Family.shape l.boundary l.pinned l.nodes p) l.position-index l.digests.items;
  skips : Skips l.positions (λ q a. a ≡ kept_at g.F.Family.shape l.boundary l.pinned l.nodes q) l.position-index;
}
