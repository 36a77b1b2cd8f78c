-- What is claimed of keys of any length and of their values, which are given by their bytes.
use Rattle.std.specs.Prelude.{ℕ, Bool, List}
use Rattle.std.specs.Ordering.{nat_cmp}
use Rattle.std.specs.Cmp.Lexicographic.{slice_cmp}
use Rattle.std.specs.declared.alloc.Global.{Global}
use Rattle.std.specs.declared.vec.Vec.{Vec}
use Rattle.storage_codec.specs.Digests.{HashFunction}
use Rattle.storage_codec.specs.Codec.{fixed_at, vector_at}
use Rattle.storage_codec.specs.Parts.{vector_text}
use Rattle.storage_codec.specs.declared.codec.fixed.FixedBytes.{FixedBytes}
use Rattle.storage_ops.specs.Updates.{ordered_at}
use Rattle.storage_ops.specs.Variable.{variable_operation_text}
use Rattle.storage_current.specs.Snapshots.{Grafting}
use Rattle.storage_current.specs.Keys.{Keyed, keyed_by}
use Rattle.commonware_storage.specs.LightKeys.{IsAcceptedAbsence, IsAcceptedValue, IsTrueAbsence, IsTrueValue}
use Rattle.light_questions.specs.KeyBytes.{OfSized, OfVector}

-- keys of any length in the order of their bytes, and values of any length, in operations that are not filled up
abbrev pub keyed_string : Keyed (Vec ℕ Global) (Vec ℕ Global)
keyed_string =
    keyed_by (λ k. vector_text k.items) (λ v. vector_text v.items) variable_operation_text
    (λ a b. slice_cmp nat_cmp a.items b.items)

-- the same with values of m bytes
abbrev pub keyed_string_sized : (m : ℕ) → Keyed (Vec ℕ Global) (FixedBytes m)
keyed_string_sized m =
    keyed_by (λ k. vector_text k.items) (λ v. v.bytes) variable_operation_text (λ a b. slice_cmp nat_cmp a.items b.items)

-- where keys in proofs have a length from lower to upper
module _ (h : HashFunction) (g : Grafting) (has_pending : Bool) (d : ℕ) (proof : List ℕ) (lower upper : ℕ) where
  -- The bytes are accepted as a proof that the key with these bytes has the value with these; and what a yes means.
  abbrev pub IsAcceptedStringValueOf : List ℕ → List ℕ → List ℕ → Type 0
  IsAcceptedStringValueOf key value root =
      OfVector (λ k. OfVector (λ v. IsAcceptedValue keyed_string (λ x. x.items) (vector_at lower upper) h g has_pending d proof
      k v root) value) key

  abbrev pub IsTrueStringValueOf : List ℕ → List ℕ → List ℕ → Type 0
  IsTrueStringValueOf key value root =
      OfVector (λ k. OfVector (λ v. IsTrueValue keyed_string (λ x. x.items) (vector_at lower upper) h g has_pending d proof
      k v root) value) key

  -- the same of the absence of a key, where values have a length from least to most
  abbrev pub IsAcceptedStringAbsenceOf : ℕ → ℕ → List ℕ → List ℕ → Type 0
  IsAcceptedStringAbsenceOf least most key root =
      OfVector (λ k. IsAcceptedAbsence keyed_string (λ x. x.items) (λ v. v.items) (ordered_at (vector_at lower upper)
      (vector_at least most)) (vector_at least most) h g has_pending d proof k root) key

  abbrev pub IsTrueStringAbsenceOf : ℕ → ℕ → List ℕ → List ℕ → Type 0
  IsTrueStringAbsenceOf least most key root =
      OfVector (λ k. IsTrueAbsence keyed_string (λ x. x.items) (λ v. v.items) (ordered_at (vector_at lower upper)
      (vector_at least most)) (vector_at least most) h g has_pending d proof k root) key

  -- the same four where all values have one size
  abbrev pub IsAcceptedStringSizedValueOf : List ℕ → List ℕ → List ℕ → Type 0
  IsAcceptedStringSizedValueOf key value root =
      OfVector (λ k. OfSized (λ m v. IsAcceptedValue (keyed_string_sized m) (λ x. x.items) (vector_at lower upper) h g
      has_pending d proof k v root) value) key

  abbrev pub IsTrueStringSizedValueOf : List ℕ → List ℕ → List ℕ → Type 0
  IsTrueStringSizedValueOf key value root =
      OfVector (λ k. OfSized (λ m v. IsTrueValue (keyed_string_sized m) (λ x. x.items) (vector_at lower upper) h g
      has_pending d proof k v root) value) key

  abbrev pub IsAcceptedStringSizedAbsenceOf : ℕ → List ℕ → List ℕ → Type 0
  IsAcceptedStringSizedAbsenceOf m key root =
      OfVector (λ k. IsAcceptedAbsence (keyed_string_sized m) (λ x. x.items) (λ v. v.bytes) (ordered_at (vector_at lower upper)
      (fixed_at m)) (fixed_at m) h g has_pending d proof k root) key

  abbrev pub IsTrueStringSizedAbsenceOf : ℕ → List ℕ → List ℕ → Type 0
  IsTrueStringSizedAbsenceOf m key root =
      OfVector (λ k. IsTrueAbsence (keyed_string_sized m) (λ x. x.items) (λ v. v.bytes) (ordered_at (vector_at lower upper)
      (fixed_at m)) (fixed_at m) h g has_pending d proof k root) key
