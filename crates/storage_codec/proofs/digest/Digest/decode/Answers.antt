use Rattle.std.proofs.Common.{rules, arith}
use Rattle.std.proofs.lemmas.Grind.{common_steps}
use Rattle.storage_codec.proofs.digest.Digest.decode.Goals as goal

pub returns-then-left-gt0-clause-gives : goal.returns-then-left-gt0-clause-gives
returns-then-left-gt0-clause-gives g c = search rules

pub returns-clause-gives : goal.returns-clause-gives
returns-clause-gives g c = grind (arith, common_steps)
