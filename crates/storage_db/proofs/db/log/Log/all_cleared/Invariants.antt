use Rattle.std.proofs.Common.{◌≡◌, take}
use Rattle.storage_db.proofs.db.log.Log.all_cleared.Given as goal

abbrev pub invariant-loop-location : goal.invariant-loop-location
invariant-loop-location g l = l.all.items ≡ take l.location-index l.self.cleared.items
