-- Databases that are opened by the root of their last commit.
use Rattle.std.specs.Prelude.{◌≡◌, ℕ, List, IsSomeAnd}
use Rattle.storage_codec.specs.Digests.{HashFunction}
use Rattle.storage_current.specs.Keys.{Keyed}
use Rattle.storage_current.specs.Snapshots.{Grafting, canonical_root}
use Rattle.storage_db.specs.declared.db.ordered.trusted.TrustError.{TrustError}
use Rattle.storage_db.specs.declared.db.ordered.trusted.TrustError.TheVariants.{Open, OtherRoot}
use Rattle.storage_db.specs.Databases.{Command, Database, empty, run}
use Rattle.storage_db.specs.Opening.{IsOpenRefused, Leave}

-- the canonical root of the last commit's snapshot is this one
abbrev pub HasRoot : {K W : Type 0} → HashFunction → Grafting → Database K W → List ℕ → Type 0
HasRoot h g d root = IsSomeAnd d.last (λ commit. canonical_root h g commit.snapshot ≡ root)

-- why there is no database of these operations with this root: they are not opened; or some commands leave them, with nothing
-- uncommitted, and the last commit has another root
abbrev pub IsTrustRefused : {K W F : Type 0} → Keyed K W → (List ℕ → Command K W → Type 0) → HashFunction → Grafting
    → List (List ℕ) → List ℕ → TrustError F → Type 0
IsTrustRefused e reads h g operations root (Open error) = IsOpenRefused e reads operations error
IsTrustRefused {K} {W} e reads h g operations root OtherRoot =
    (commands : List (Command K W)) × Leave e reads operations commands × (HasRoot h g (run e empty commands) root → ⊥)
