-- Proofs over chunks that are arrays, and proofs over chunks that are shared bytes.
use Rattle.std.specs.Prelude.{◌≡◌, ℕ, Bool, List, Decides}
use Rattle.storage_codec.specs.Codec.{Answer}

-- Two readers answer each byte string alike, with a value or a refusal.
abbrev pub ReadAlike : {X : Type 0} → (List ℕ → Answer X) → (List ℕ → Answer X) → Type 0
ReadAlike read other = (bytes : List ℕ) → read bytes ≡ other bytes

-- Values of two types, with what they are written as and what they are seen as, agree where they are seen alike: they are written
-- alike, and two checks of a claim whose yes is exactly this answer alike.
pub record AgreeWhereSeenAlike {A B X Claim : Type 0} (text : A → List ℕ) (other_text : B → List ℕ) (seen : A → X) (other_seen : B → X)
    (Yes : Claim → X → Type 0) : Type 0 where
  pub written : (a : A) (b : B) → seen a ≡ other_seen b → text a ≡ other_text b
  pub checked : (a : A) (b : B) → seen a ≡ other_seen b → (claim : Claim) (yes other : Bool)
      → Decides yes (Yes claim (seen a)) → Decides other (Yes claim (other_seen b)) → yes ≡ other
