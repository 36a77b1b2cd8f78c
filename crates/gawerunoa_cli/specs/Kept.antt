-- Operations in memory.
use Rattle.std.specs.Prelude.{ℕ, List, [], slice_get, unwrap_or}

-- the operation at a location; nothing where there is none
abbrev pub kept_at : List (List ℕ) → ℕ → List ℕ
kept_at operations location = unwrap_or (slice_get operations location) []
