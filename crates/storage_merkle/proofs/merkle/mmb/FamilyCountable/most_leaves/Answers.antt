use Rattle.std.proofs.Common.{◌^◌, arith}
use Rattle.storage_merkle.proofs.Countable.{mmb_fits, mmb_most}
use Rattle.storage_merkle.proofs.merkle.mmb.FamilyCountable.most_leaves.Goals as goal

pub returns-clause-fits : goal.returns-clause-fits
returns-clause-fits c = mmb_fits 9223372036854775839 (2 ^ 64) (omega arith) (omega arith) (omega arith) (omega arith)

pub returns-clause-most : goal.returns-clause-most
returns-clause-most c = mmb_most 9223372036854775840 (2 ^ 64) (omega arith) (omega arith) (omega arith)
