use Rattle.storage_merkle.specs.Laws.Mmr.{mmr_top}
use Rattle.storage_merkle.proofs.merkle.mmr.FamilyFamily.first_peak.Goals as goal

pub returns-clause-first : goal.returns-clause-first
returns-clause-first c = mmr_top c.args.leaves c.ilog2.result c.ilog2.ensures.power_le c.ilog2.ensures.next_power_gt
