-- Operations with their locations.
use Rattle.std.specs.Prelude.{ℕ, List, map}
use Rattle.storage_merkle.specs.Multi.{Claim}

-- that values stand at locations, by their bytes
abbrev pub claims_at : {A : Type 0} → (A → List ℕ) → List (ℕ × A) → List Claim
claims_at bytes_of os = map (λ o. record { location = o.0; element = bytes_of o.1 }) os
