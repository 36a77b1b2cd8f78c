use Rattle.std.proofs.Common.{◌≡◌, ◌-◌}
use Rattle.std.specs.List.{range_with_len}
use Rattle.storage_sync.proofs.sync.serve.operations.read_operations.Given as goal

abbrev pub invariant-loop-location : goal.invariant-loop-location
invariant-loop-location g l = l.locations.items ≡ range_with_len l.fn.start (l.location - l.fn.start)
