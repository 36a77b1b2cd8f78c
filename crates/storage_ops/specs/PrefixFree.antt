-- Encodings that stand one after the other.
use Rattle.std.specs.Prelude.{◌≡◌, ℕ, List, ◌++◌}

-- Two encodings in front of the same bytes are equal, so none begins another; and what is seen alike is written alike.
pub record IsPrefixFree {A X : Type 0} (text : A → List ℕ) (view : A → X) : Type 0 where
  pub one : (x y : A) (r s : List ℕ) → text x ++ r ≡ text y ++ s → text x ≡ text y
  pub seen : (x y : A) → view x ≡ view y → text x ≡ text y
