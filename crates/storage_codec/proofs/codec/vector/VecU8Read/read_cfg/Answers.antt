use Rattle.std.proofs.Common.{rules, arith}
use Rattle.std.proofs.lemmas.Grind.{common_steps}
use Rattle.storage_codec.specs.Laws.Parts.{ends_then}
use Rattle.storage_codec.proofs.codec.vector.VecU8Read.read_cfg.Goals as goal

pub returns-in_err-bytes-clause-looks_first : goal.returns-in_err-bytes-clause-looks_first
returns-in_err-bytes-clause-looks_first g c = search rules

pub returns-clause-gives : goal.returns-clause-gives
returns-clause-gives g c = grind (arith, common_steps)

pub returns-clause-ends : goal.returns-clause-ends
returns-clause-ends g c = grind (arith, ends_then)
