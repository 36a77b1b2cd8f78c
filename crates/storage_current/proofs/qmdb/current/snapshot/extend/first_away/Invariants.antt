use Rattle.std.proofs.Common.{◌<◌, ◌≤◌, ℕ, slice_index}
use Rattle.storage_current.proofs.qmdb.current.snapshot.extend.first_away.Given as goal

abbrev pub invariant-loop-location : goal.invariant-loop-location
invariant-loop-location g l =
    (i : ℕ) → i < l.location-index → (l.pruned ≤ slice_index l.locations i) × (slice_index l.locations i < l.leaves)
