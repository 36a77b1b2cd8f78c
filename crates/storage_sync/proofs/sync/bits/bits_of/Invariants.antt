use Rattle.std.proofs.Common.{◌≡◌}
use Rattle.storage_sync.specs.Pages.{chunk_bits}
use Rattle.storage_sync.proofs.sync.bits.bits_of.Given as goal

abbrev pub invariant-loop-index : goal.invariant-loop-index
invariant-loop-index l = l.bits.items ≡ chunk_bits l.chunk_size l.index l.chunks
