use Rattle.std.proofs.Common.{arith}
use Rattle.storage_codec.proofs.Zeros.{zeros_done, zeros_step}
use Rattle.storage_codec.specs.Laws.Parts.{ends_same, ends_then}
use Rattle.storage_codec.proofs.codec.util.ensure_zeros.Goals as goal

pub returns-in_err-byte-clause-gives : goal.returns-in_err-byte-clause-gives
returns-in_err-byte-clause-gives g c = grind (arith, zeros_step, zeros_done, ends_same, ends_then)

pub returns-in_err-byte-clause-ends : goal.returns-in_err-byte-clause-ends
returns-in_err-byte-clause-ends g c = grind (arith, zeros_step, zeros_done, ends_same, ends_then)

pub returns-then-byte-ne0-clause-gives : goal.returns-then-byte-ne0-clause-gives
returns-then-byte-ne0-clause-gives g c = grind (arith, zeros_step, zeros_done, ends_same, ends_then)

pub returns-then-byte-ne0-clause-ends : goal.returns-then-byte-ne0-clause-ends
returns-then-byte-ne0-clause-ends g c = grind (arith, zeros_step, zeros_done, ends_same, ends_then)

pub loop-preserved : goal.loop-preserved
loop-preserved g c = grind (arith, zeros_step, zeros_done, ends_same, ends_then)

pub returns-clause-gives : goal.returns-clause-gives
returns-clause-gives g c = grind (arith, zeros_step, zeros_done, ends_same, ends_then)
