use Rattle.std.proofs.Common.{arith}
use Rattle.std.proofs.lemmas.Grind.{common_steps}
use Rattle.storage_codec.proofs.codec.Decode.decode_cfg.Goals as goal

pub returns : goal.returns
returns g c = grind (arith, common_steps)
