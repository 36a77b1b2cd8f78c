-- Bits packed into bytes, low bit first.
use Rattle.std.specs.Prelude.{◌≡◌, ◌≢◌, ℕ, ◌+◌, ◌*◌, ◌/◌, ◌%◌, ◌<◌, ◌≤◌, ◌++◌, List, length, map, slice_index, Bool, false, eqb}
use Rattle.std.specs.List.{range_with_len}
use Rattle.std.specs.Int.{bit_at}
use Rattle.storage_merkle.specs.Shape.{max_leaves}
use Rattle.storage_bitmap.specs.Chunks.{IsChunkSize}

-- the bit at a place
unfoldable pub bit_in : List ℕ → ℕ → Bool
bit_in bytes i = eqb (bit_at (slice_index bytes (i / 8)) (i % 8)) 1

-- the first bits
unfoldable pub bits_in : List ℕ → ℕ → List Bool
bits_in bytes count = map (bit_in bytes) (range_with_len 0 count)

-- so many bits are kept in as few chunks of n bytes as have room for them, and the rest of the last chunk is clear
pub record IsPacked (n pruned kept : ℕ) (bytes : List ℕ) : Type 0 where
  pub size : IsChunkSize n
  pub few : pruned * (8 * n) + kept ≤ max_leaves
  pub chunks : ℕ
  pub room : length bytes ≡ chunks * n
  pub enough : kept ≤ chunks * (8 * n)
  pub tight : chunks * (8 * n) < kept + 8 * n
  pub narrow : (i : ℕ) → slice_index bytes i < 256
  pub clear : (i : ℕ) → kept ≤ i → bit_in bytes i ≡ false

-- new is old with the bit at a place written
pub record IsWritten (old new : List ℕ) (place : ℕ) (bit : Bool) : Type 0 where
  pub len : length new ≡ length old
  pub narrow : ((i : ℕ) → slice_index old i < 256) → (i : ℕ) → slice_index new i < 256
  pub there : bit_in new place ≡ bit
  pub others : (i : ℕ) → i ≢ place → bit_in new i ≡ bit_in old i

-- new is old with these bits written from a place on, past which it is clear
pub record AreAppended (old new : List ℕ) (place : ℕ) (bits : List Bool) : Type 0 where
  pub len : length new ≡ length old
  pub narrow : ((i : ℕ) → slice_index old i < 256) → (i : ℕ) → slice_index new i < 256
  pub are : bits_in new (place + length bits) ≡ bits_in old place ++ bits
  pub clear : (i : ℕ) → place + length bits ≤ i → bit_in new i ≡ false

-- new has the bits of old, and one clear chunk of n bytes more where so many bits fill it
pub record HasRoom (n : ℕ) (old new : List ℕ) (kept : ℕ) : Type 0 where
  pub more : kept ≡ 8 * length old → length new ≡ length old + n
  pub enough : kept ≢ 8 * length old → length new ≡ length old
  pub narrow : ((i : ℕ) → slice_index old i < 256) → (i : ℕ) → slice_index new i < 256
  pub same : (i : ℕ) → bit_in new i ≡ bit_in old i
