-- Operations and their bits in two vectors.
use Rattle.std.specs.Prelude.{◌≡◌, ℕ, ◌+◌, ◌<◌, ◌≤◌, Bool, false, List, slice_set, take, Option, Some, None, nat_lt, if◌then◌else◌}
use Rattle.storage_merkle.specs.Shape.{max_leaves}
use Rattle.storage_current.specs.Extended.{cleared}
use Rattle.storage_db.specs.declared.db.error.Error.{Error}
use Rattle.storage_db.specs.declared.db.error.Error.TheVariants.{Full, Memory}

-- vectors of so many operations and bits have room for some more
pub record HaveRoom (count length operations bits : ℕ) : Type 0 where
  pub operation_room : length + count ≤ operations
  pub bit_room : length + count ≤ bits

-- a location, if there is one, is that of one of so many bits
abbrev pub IsWithin : Option ℕ → ℕ → Type 0
IsWithin None count = Unit {0}
IsWithin (Some location) count = location < count

-- the bits, with that at a location cleared, if there is one
abbrev pub cleared_at : Option ℕ → List Bool → List Bool
cleared_at None bits = bits
cleared_at (Some location) bits = slice_set bits location false

-- the first so many bits are those of a commit, with the ones at these locations cleared since
abbrev pub AreCommitted : ℕ → List ℕ → List Bool → List Bool → Type 0
AreCommitted committed since bits base = take committed bits ≡ cleared since base

-- why so many operations can't become so many: these would pass 2^62; else want of memory
abbrev pub IsTooMany : {F : Type 0} → ℕ → ℕ → Error F → Type 0
IsTooMany count after error = error ≡ (if nat_lt max_leaves after then Full count else Memory)
