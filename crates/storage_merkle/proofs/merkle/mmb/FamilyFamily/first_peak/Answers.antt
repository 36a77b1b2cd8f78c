use Rattle.std.proofs.Common.{arith, ◌+◌, ◌-◌}
use Rattle.storage_merkle.specs.Laws.Mmb.{mmb_top_big, mmb_top_mid, log_some, places_half}
use Rattle.storage_merkle.specs.Laws.Multiples.{quotient_at_least, quotient_below}
use Rattle.storage_merkle.proofs.merkle.mmb.FamilyFamily.first_peak.Goals as goal

pub returns-then-leaves-places-ge3-clause-first : goal.returns-then-leaves-places-ge3-clause-first
returns-then-leaves-places-ge3-clause-first c = mmb_top_big c.args.leaves c.ilog2-places.result
    (log_some _ _ c.requires.some c.ilog2-places.ensures.next_power_gt) c.ilog2-places.ensures.next_power_gt
    (quotient_at_least 3 (c.args.leaves + 1) (c.ilog2-places.result - 1) c.if-leaves-places-ge3.true)

pub returns-then-leaves-places-ge3-clause-within : goal.returns-then-leaves-places-ge3-clause-within
returns-then-leaves-places-ge3-clause-within c =
    omega (
      arith,
      quotient_at_least 3 (c.args.leaves + 1) (c.ilog2-places.result - 1) c.if-leaves-places-ge3.true,
      places_half c.ilog2-places.result (log_some _ _ c.requires.some c.ilog2-places.ensures.next_power_gt),
    )

pub returns-else-leaves-places-ge3-clause-first : goal.returns-else-leaves-places-ge3-clause-first
returns-else-leaves-places-ge3-clause-first c = mmb_top_mid c.args.leaves c.ilog2-places.result
    (log_some _ _ c.requires.some c.ilog2-places.ensures.next_power_gt) c.ilog2-places.ensures.power_le
    (quotient_below 3 (c.args.leaves + 1) (c.ilog2-places.result - 1) c.if-leaves-places-ge3.false)

pub returns-else-leaves-places-ge3-clause-within : goal.returns-else-leaves-places-ge3-clause-within
returns-else-leaves-places-ge3-clause-within c = omega (
  arith,
  c.ilog2-places.ensures.power_le,
  places_half c.ilog2-places.result (log_some _ _ c.requires.some c.ilog2-places.ensures.next_power_gt),
)
