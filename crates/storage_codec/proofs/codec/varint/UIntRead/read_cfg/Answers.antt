use Rattle.std.proofs.Common.{rules, arith}
use Rattle.storage_codec.specs.Codec.{varint_at}
use Rattle.storage_codec.specs.Laws.Parts.{ends_then}
use Rattle.storage_codec.proofs.Varint.{limit_cap}
use Rattle.storage_codec.proofs.codec.varint.UIntRead.read_cfg.Goals as goal

pub returns-clause-gives : goal.returns-clause-gives
unfolding varint_at
returns-clause-gives g c = search rules

pub returns-in_err-high-clause-ends : goal.returns-in_err-high-clause-ends
returns-in_err-high-clause-ends g c = grind (arith, ends_then, limit_cap)

pub overflow_mul-result : goal.overflow_mul-result
overflow_mul-result g c = grind (arith, ends_then, limit_cap)

pub overflow_add-result : goal.overflow_add-result
overflow_add-result g c = grind (arith, ends_then, limit_cap)

pub returns-clause-ends : goal.returns-clause-ends
returns-clause-ends g c = grind (arith, ends_then, limit_cap)
