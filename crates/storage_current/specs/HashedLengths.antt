-- What tells the hashed strings of trees and snapshots apart by their lengths.
use Rattle.std.specs.Prelude.{◌≡◌, ◌≢◌, ◌⊎◌, ℕ, ◌+◌, ◌*◌}
use Rattle.storage_bitmap.specs.Chunks.{IsChunkSize}

-- A node's string has a position and two digests, 8 + 2d bytes. That of a node with a chunk of n bytes has n + d, and that of a tree's
-- root 18 + d, or 18 of a tree without leaves: none of these is ever as long, for digests of 32 and of 64 bytes.
abbrev pub HashedLengthsDiffer : Type 0
HashedLengthsDiffer = (d : ℕ) → (d ≡ 32) ⊎ (d ≡ 64) →
    ((n : ℕ) → IsChunkSize n → n + d ≢ 8 + 2 * d) × ((18 + d ≢ 8 + 2 * d) × (18 ≢ 8 + 2 * d))
