use Rattle.std.proofs.Common.{◌≡◌, map, take}
use Rattle.std.specs.Int.{to_be_bytes, w64}
use Rattle.benchmarks.proofs.copied.operations_at.Given as goal

abbrev pub invariant-loop-location : goal.invariant-loop-location
invariant-loop-location l = map (λ o. o.items) l.operations.items ≡ map (to_be_bytes w64) (take l.location-index l.locations)
