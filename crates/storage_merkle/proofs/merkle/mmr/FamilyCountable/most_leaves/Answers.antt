use Rattle.std.proofs.Common.{◌^◌, refl, arith}
use Rattle.storage_merkle.proofs.Countable.{mmr_fits, mmr_most}
use Rattle.storage_merkle.proofs.merkle.mmr.FamilyCountable.most_leaves.Goals as goal

pub returns-clause-fits : goal.returns-clause-fits
returns-clause-fits c = omega (arith, mmr_fits 9223372036854775808 (2 ^ 64) refl (omega arith))

pub returns-clause-most : goal.returns-clause-most
returns-clause-most c = omega (arith, mmr_most 9223372036854775808 (2 ^ 64) refl (omega arith))
