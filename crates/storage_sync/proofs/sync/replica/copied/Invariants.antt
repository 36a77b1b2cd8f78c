use Rattle.std.proofs.Common.{◌≡◌, take}
use Rattle.storage_sync.proofs.sync.replica.copied.Given as goal

abbrev pub invariant-loop-index : goal.invariant-loop-index
invariant-loop-index g l = l.copy ≡ record { pruned = l.status.pruned; bits = take l.index l.status.bits }
