use Rattle.std.proofs.Common.{arith}
use Rattle.storage_codec.specs.Laws.Parts.{ends_then}
use Rattle.storage_codec.proofs.codec.options.OptionRead.read_cfg.Goals as goal

pub returns-in_err-read_cfg-2-clause-ends : goal.returns-in_err-read_cfg-2-clause-ends
returns-in_err-read_cfg-2-clause-ends g c = grind (arith, ends_then)

pub returns-in_ok-read_cfg-2-clause-ends : goal.returns-in_ok-read_cfg-2-clause-ends
returns-in_ok-read_cfg-2-clause-ends g c = grind (arith, ends_then)
