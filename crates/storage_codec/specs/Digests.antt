-- Digest functions, and the one way in which a check may be deceived.
use Rattle.std.specs.Prelude.{◌≡◌, ◌≢◌, ℕ, List, [], length, Contains, Option, Some, None}

-- a digest function, over lists of bytes
abbrev pub HashFunction : Type 0
HashFunction = List ℕ → List ℕ

-- each answer has d bytes
abbrev pub IsSized : ℕ → HashFunction → Type 0
IsSized d h = (x : List ℕ) → length (h x) ≡ d

-- the bytes of a digest, or nothing
abbrev pub or_nothing : Option (List ℕ) → List ℕ
or_nothing None = []
or_nothing (Some x) = x

-- the cross collision: a string of the first list and a different one of the second have one digest
pub record Cross (h : HashFunction) (xs ys : List (List ℕ)) : Type 0 where
  pub x : List ℕ
  pub y : List ℕ
  pub in_first : Contains xs x
  pub in_second : Contains ys y
  pub differ : x ≢ y
  pub same_digest : h x ≡ h y
