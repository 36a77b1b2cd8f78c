use Rattle.std.proofs.Common.{◌≡◌, drop}
use Rattle.storage_merkle.specs.Calc.{is_zero}
use Rattle.storage_current.proofs.qmdb.current.grafting.is_zero.Given as goal

abbrev pub invariant-loop-byte : goal.invariant-loop-byte
invariant-loop-byte l = is_zero (drop l.byte-index l.bytes) ≡ is_zero l.bytes
