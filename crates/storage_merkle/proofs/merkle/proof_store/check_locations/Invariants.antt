use Rattle.std.proofs.Common.{◌≡◌, ◌≤◌}
use Rattle.storage_merkle.specs.Stores.{location_refusal}
use Rattle.storage_merkle.proofs.Store.Steps.{Refused}
use Rattle.storage_merkle.proofs.merkle.proof_store.check_locations.Given as goal

abbrev pub invariant-loop-location : goal.invariant-loop-location
invariant-loop-location g l = record {
  next_is : l.next ≤ l.leaves;
  same : location_refusal g.row.F.Denot 0 l.leaves l.locations
      ≡ Refused g.row.F.Denot l.leaves l.locations l.next l.location-index;
}
