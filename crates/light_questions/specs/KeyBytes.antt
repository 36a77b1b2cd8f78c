-- What is claimed of keys and values that are given by their bytes.
use Rattle.std.specs.Prelude.{◌≡◌, ℕ, ◌+◌, Bool, List}
use Rattle.std.specs.Ordering.{nat_cmp}
use Rattle.std.specs.Cmp.Lexicographic.{slice_cmp}
use Rattle.std.specs.declared.alloc.Global.{Global}
use Rattle.std.specs.declared.vec.Vec.{Vec}
use Rattle.storage_codec.specs.Digests.{HashFunction}
use Rattle.storage_codec.specs.Codec.{fixed_at, vector_at}
use Rattle.storage_codec.specs.Parts.{vector_text}
use Rattle.storage_codec.specs.declared.codec.fixed.FixedBytes.{FixedBytes}
use Rattle.storage_ops.specs.Fixed.{fixed_operation_text}
use Rattle.storage_ops.specs.Updates.{ordered_at}
use Rattle.storage_ops.specs.Variable.{variable_operation_text}
use Rattle.storage_current.specs.Snapshots.{Grafting}
use Rattle.storage_current.specs.Keys.{Keyed, keyed_by}
use Rattle.commonware_storage.specs.LightKeys.{IsAcceptedAbsence, IsAcceptedValue, IsTrueAbsence, IsTrueValue}

-- keys of n bytes in the order of their bytes, and values of any length, in operations that are not filled up
abbrev pub keyed : (n : ℕ) → Keyed (FixedBytes n) (Vec ℕ Global)
keyed n = keyed_by (λ k. k.bytes) (λ v. vector_text v.items) variable_operation_text (λ a b. slice_cmp nat_cmp a.bytes b.bytes)

-- the same with values of m bytes, in operations that are filled up to one size
abbrev pub keyed_fixed : (n m : ℕ) → Keyed (FixedBytes n) (FixedBytes m)
keyed_fixed n m =
    keyed_by (λ k. k.bytes) (λ v. v.bytes) (fixed_operation_text n (n + m + n) m) (λ a b. slice_cmp nat_cmp a.bytes b.bytes)

-- the same with values of m bytes, in operations that are not filled up
abbrev pub keyed_sized : (n m : ℕ) → Keyed (FixedBytes n) (FixedBytes m)
keyed_sized n m = keyed_by (λ k. k.bytes) (λ v. v.bytes) variable_operation_text (λ a b. slice_cmp nat_cmp a.bytes b.bytes)

-- What is said of the byte string of one size with these bytes, of which there is one.
pub record OfSized (Said : (n : ℕ) → FixedBytes n → Type 0) (bytes : List ℕ) : Type 0 where
  pub size : ℕ
  pub sized : FixedBytes size
  pub is : sized.bytes ≡ bytes
  pub said : Said size sized

-- What is said of a vector with these bytes.
pub record OfVector (Said : Vec ℕ Global → Type 0) (bytes : List ℕ) : Type 0 where
  pub vector : Vec ℕ Global
  pub is : vector.items ≡ bytes
  pub said : Said vector

module _ (h : HashFunction) (g : Grafting) (has_pending : Bool) (d : ℕ) (proof : List ℕ) where
  -- The bytes are accepted as a proof that the key with these bytes has the value with these; and what a yes means.
  abbrev pub IsAcceptedValueOf : List ℕ → List ℕ → List ℕ → Type 0
  IsAcceptedValueOf key value root =
      OfSized (λ n k. OfVector (λ v. IsAcceptedValue (keyed n) (λ x. x.bytes) (fixed_at n) h g has_pending d proof k v root)
      value) key

  abbrev pub IsTrueValueOf : List ℕ → List ℕ → List ℕ → Type 0
  IsTrueValueOf key value root =
      OfSized (λ n k. OfVector (λ v. IsTrueValue (keyed n) (λ x. x.bytes) (fixed_at n) h g has_pending d proof k v root)
      value) key

  -- the same of the absence of a key, where values have a length from least to most
  abbrev pub IsAcceptedAbsenceOf : ℕ → ℕ → List ℕ → List ℕ → Type 0
  IsAcceptedAbsenceOf least most key root =
      OfSized (λ n k. IsAcceptedAbsence (keyed n) (λ x. x.bytes) (λ v. v.items) (ordered_at (fixed_at n)
      (vector_at least most)) (vector_at least most) h g has_pending d proof k root) key

  abbrev pub IsTrueAbsenceOf : ℕ → ℕ → List ℕ → List ℕ → Type 0
  IsTrueAbsenceOf least most key root =
      OfSized (λ n k. IsTrueAbsence (keyed n) (λ x. x.bytes) (λ v. v.items) (ordered_at (fixed_at n)
      (vector_at least most)) (vector_at least most) h g has_pending d proof k root) key

  -- the same four where all values have one size
  abbrev pub IsAcceptedFixedValueOf : List ℕ → List ℕ → List ℕ → Type 0
  IsAcceptedFixedValueOf key value root =
      OfSized (λ n k. OfSized (λ m v. IsAcceptedValue (keyed_fixed n m) (λ x. x.bytes) (fixed_at n) h g has_pending d proof
      k v root) value) key

  abbrev pub IsTrueFixedValueOf : List ℕ → List ℕ → List ℕ → Type 0
  IsTrueFixedValueOf key value root =
      OfSized (λ n k. OfSized (λ m v. IsTrueValue (keyed_fixed n m) (λ x. x.bytes) (fixed_at n) h g has_pending d proof
      k v root) value) key

  abbrev pub IsAcceptedFixedAbsenceOf : ℕ → List ℕ → List ℕ → Type 0
  IsAcceptedFixedAbsenceOf m key root =
      OfSized (λ n k. IsAcceptedAbsence (keyed_fixed n m) (λ x. x.bytes) (λ v. v.bytes) (ordered_at (fixed_at n) (fixed_at m))
      (fixed_at m) h g has_pending d proof k root) key

  abbrev pub IsTrueFixedAbsenceOf : ℕ → List ℕ → List ℕ → Type 0
  IsTrueFixedAbsenceOf m key root =
      OfSized (λ n k. IsTrueAbsence (keyed_fixed n m) (λ x. x.bytes) (λ v. v.bytes) (ordered_at (fixed_at n) (fixed_at m))
      (fixed_at m) h g has_pending d proof k root) key

  -- the same four where the operations are not filled up
  abbrev pub IsAcceptedSizedValueOf : List ℕ → List ℕ → List ℕ → Type 0
  IsAcceptedSizedValueOf key value root =
      OfSized (λ n k. OfSized (λ m v. IsAcceptedValue (keyed_sized n m) (λ x. x.bytes) (fixed_at n) h g has_pending d proof
      k v root) value) key

  abbrev pub IsTrueSizedValueOf : List ℕ → List ℕ → List ℕ → Type 0
  IsTrueSizedValueOf key value root =
      OfSized (λ n k. OfSized (λ m v. IsTrueValue (keyed_sized n m) (λ x. x.bytes) (fixed_at n) h g has_pending d proof
      k v root) value) key

  abbrev pub IsAcceptedSizedAbsenceOf : ℕ → List ℕ → List ℕ → Type 0
  IsAcceptedSizedAbsenceOf m key root =
      OfSized (λ n k. IsAcceptedAbsence (keyed_sized n m) (λ x. x.bytes) (λ v. v.bytes) (ordered_at (fixed_at n) (fixed_at m))
      (fixed_at m) h g has_pending d proof k root) key

  abbrev pub IsTrueSizedAbsenceOf : ℕ → List ℕ → List ℕ → Type 0
  IsTrueSizedAbsenceOf m key root =
      OfSized (λ n k. IsTrueAbsence (keyed_sized n m) (λ x. x.bytes) (λ v. v.bytes) (ordered_at (fixed_at n) (fixed_at m))
      (fixed_at m) h g has_pending d proof k root) key
