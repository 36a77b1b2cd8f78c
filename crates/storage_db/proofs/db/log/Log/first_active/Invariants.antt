use Rattle.std.proofs.Common.{ℕ, ◌<◌, ◌≤◌}
use Rattle.storage_db.specs.Floors.{IsMarked}
use Rattle.storage_db.proofs.db.log.Log.first_active.Given as goal

abbrev pub invariant-loop-location : goal.invariant-loop-location
invariant-loop-location l = (i : ℕ) → l.start ≤ i → i < l.location → IsMarked l.self.bits.items l.last i → ⊥
