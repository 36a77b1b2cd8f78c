use Rattle.std.proofs.Common.{◌≤◌, ◌<◌, ℕ, map, slice_index}
use Rattle.storage_merkle.proofs.merkle.mem.first_away.Given as goal

abbrev pub invariant-loop-location : goal.invariant-loop-location
invariant-loop-location g l = (i : ℕ) → i < l.location-index
    → (l.boundary ≤ slice_index (map (λ u. u.0) l.updates) i) × (slice_index (map (λ u. u.0) l.updates) i < l.leaves)
