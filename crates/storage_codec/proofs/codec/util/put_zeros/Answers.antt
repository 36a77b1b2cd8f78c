use Rattle.std.proofs.Common.{arith}
use Rattle.std.proofs.lemmas.Grind.{common_steps}
use Rattle.storage_codec.proofs.Zeros.{zeros_start, zeros_push}
use Rattle.storage_codec.proofs.codec.util.put_zeros.Goals as goal

pub returns-in_err-push-clause-err : goal.returns-in_err-push-clause-err
returns-in_err-push-clause-err c = grind (arith, zeros_start, zeros_push)

pub loop-preserved : goal.loop-preserved
loop-preserved c = grind (arith, common_steps)
