-- The floor, as the bits of the operations tell it.
use Rattle.std.specs.Prelude.{◌≡◌, ℕ, ◌<◌, ◌≤◌, Bool, true, false, List, length, get_or, Option, Some, None, MatchOption}
use Rattle.std.specs.BTreeMap.{is_at}
use Rattle.std.specs.List.{All}
use Rattle.std.specs.Map.{lookup}
use Rattle.std.specs.declared.cmp.Ordering.{Ordering}
use Rattle.storage_db.specs.declared.db.active.Active.{Active}
use Rattle.storage_db.specs.Kept.{KeptCommit}

-- the bit at a location is set, and it is not that of the last commit, if there is one
pub record IsMarked (bits : List Bool) (last : Option ℕ) (location : ℕ) : Type 0 where
  pub bit : get_or bits location false ≡ true
  pub apart : MatchOption last (Unit {0}) (λ l. location ≡ l → ⊥)

-- the first such location from a start on; how many bits there are, if there is none
pub record IsFirstMarked (bits : List Bool) (last : Option ℕ) (start found : ℕ) : Type 0 where
  pub from : start ≤ found
  pub passed : (i : ℕ) → start ≤ i → i < found → IsMarked bits last i → ⊥
  pub stops : found < length bits → IsMarked bits last found
  pub within : found ≤ length bits

-- the bits from a start on that are set, but for that of the last commit, are those of the active keys' updates
pub record AreMarked {K W : Type 0} (cmp : K → K → Ordering) (bits : List Bool) (last : Option ℕ) (start : ℕ)
    (entries : List (K × Active W)) : Type 0 where
  pub within : start ≤ length bits
  pub each : All (λ entry. (start ≤ entry.1.location) × IsMarked bits last entry.1.location) entries
  pub only : (i : ℕ) → IsMarked bits last i
      → (key : K) × (active : Active W) × (lookup (is_at (cmp key)) entries ≡ Some active) × (active.location ≡ i)

-- the floor of the last commit; that of all operations, where there is none
abbrev pub floor_of : {K W : Type 0} → Option (KeptCommit K W) → ℕ
floor_of None = 0
floor_of (Some commit) = commit.floor
