-- What is agreed of a database in one struct, and what is asked of such a database.
use Rattle.std.specs.Prelude.{◌≡◌, ◌==◌, ◌&&◌, ℕ, ℤ, Bool, List, [], ◌∷◌, length, Option, None, Some, Result, Ok, Err, if◌then◌else◌}
use Rattle.storage_codec.specs.Digests.{HashFunction}
use Rattle.storage_current.specs.Snapshots.{Grafting}
use Rattle.light_questions.specs.Answers.{or_then, other_agreed, other_encoding, other_kind, other_value}
use Rattle.light_questions.specs.SizedStrings.{key_refusal, value_refusal}
use Rattle.light_questions.specs.KeyBytes.{IsAcceptedAbsenceOf, IsAcceptedFixedAbsenceOf, IsAcceptedFixedValueOf, IsAcceptedSizedAbsenceOf, IsAcceptedSizedValueOf, IsAcceptedValueOf, IsTrueAbsenceOf, IsTrueFixedAbsenceOf, IsTrueFixedValueOf, IsTrueSizedAbsenceOf, IsTrueSizedValueOf, IsTrueValueOf}
use Rattle.light_questions.specs.StringKeys.{IsAcceptedStringAbsenceOf, IsAcceptedStringSizedAbsenceOf, IsAcceptedStringSizedValueOf, IsAcceptedStringValueOf, IsTrueStringAbsenceOf, IsTrueStringSizedAbsenceOf, IsTrueStringSizedValueOf, IsTrueStringValueOf}
use Rattle.light_questions.specs.declared.agreement.Agreed.{Agreed}
use Rattle.light_questions.specs.declared.agreement.Kind.{Kind}
use Rattle.light_questions.specs.declared.agreement.Kind.TheVariants.{Variable, Sized, Fixed, StringVariable, StringSized}

-- the kinds: keys 0 have one size, keys 1 are strings; values 0 are variable, values 1 sized, values 2 fixed. Else what is refused
abbrev pub kind_of : ℕ → ℕ → Result Kind ℤ
kind_of keys values =
    if keys == 0 then
    if values == 0 then Ok Variable else if values == 1 then Ok Sized else if values == 2 then Ok Fixed
    else Err other_encoding
    else if keys == 1 then
    if values == 0 then Ok StringVariable else if values == 1 then Ok StringSized else Err other_encoding
    else Err other_kind

-- What is told of a kind, or else the refusal is the answer.
abbrev pub OfKind : Result Kind ℤ → ℤ → (Kind → Type 0) → Type 0
OfKind (Ok kind) answer Told = Told kind
OfKind (Err code) answer Told = answer ≡ code

-- What is told of the one struct and of its kind, or else the refusal is the answer.
abbrev pub AsAgreed : List Agreed → ℤ → (Agreed → Kind → Type 0) → Type 0
AsAgreed [] answer Told = answer ≡ other_agreed
AsAgreed (it ∷ []) answer Told = OfKind (kind_of it.keys it.values) answer (Told it)
AsAgreed (it ∷ other ∷ rest) answer Told = answer ≡ other_agreed

-- what is refused of a size of values: they have one, which is agreed as the least length and as the greatest
abbrev pub size_refusal : Agreed → ℕ → Option ℤ
size_refusal it size =
    if (it.min_value_length == size) && (it.max_value_length == size) then value_refusal size else Some other_value

-- the first that is refused: what is refused before, or else of the key and the value
abbrev pub value_refused : Kind → Agreed → Option ℤ → List ℕ → List ℕ → Option ℤ
value_refused Variable it before key value = or_then before (key_refusal key)
value_refused Sized it before key value = or_then (or_then before (key_refusal key)) (size_refusal it (length value))
value_refused Fixed it before key value = or_then (or_then before (key_refusal key)) (size_refusal it (length value))
value_refused StringVariable it before key value = before
value_refused StringSized it before key value = or_then before (size_refusal it (length value))

-- the same of a key that has no value
abbrev pub absence_refused : Kind → Agreed → Option ℤ → List ℕ → Option ℤ
absence_refused Variable it before key = or_then before (key_refusal key)
absence_refused Sized it before key = or_then (or_then before (key_refusal key)) (size_refusal it it.min_value_length)
absence_refused Fixed it before key = or_then (or_then before (key_refusal key)) (size_refusal it it.min_value_length)
absence_refused StringVariable it before key = before
absence_refused StringSized it before key = or_then before (size_refusal it it.min_value_length)

module _ (it : Agreed) (h : HashFunction) (g : Grafting) (has_pending : Bool) (d : ℕ) (proof key : List ℕ) where
  -- The bytes are accepted as a proof that the key with these bytes has the value with these; and what a yes means.
  abbrev pub IsAcceptedValueIn : Kind → List ℕ → List ℕ → Type 0
  IsAcceptedValueIn Variable value root = IsAcceptedValueOf h g has_pending d proof key value root
  IsAcceptedValueIn Sized value root = IsAcceptedSizedValueOf h g has_pending d proof key value root
  IsAcceptedValueIn Fixed value root = IsAcceptedFixedValueOf h g has_pending d proof key value root
  IsAcceptedValueIn StringVariable value root =
      IsAcceptedStringValueOf h g has_pending d proof it.min_key_length it.max_key_length key value root
  IsAcceptedValueIn StringSized value root =
      IsAcceptedStringSizedValueOf h g has_pending d proof it.min_key_length it.max_key_length key value root

  abbrev pub IsTrueValueIn : Kind → List ℕ → List ℕ → Type 0
  IsTrueValueIn Variable value root = IsTrueValueOf h g has_pending d proof key value root
  IsTrueValueIn Sized value root = IsTrueSizedValueOf h g has_pending d proof key value root
  IsTrueValueIn Fixed value root = IsTrueFixedValueOf h g has_pending d proof key value root
  IsTrueValueIn StringVariable value root =
      IsTrueStringValueOf h g has_pending d proof it.min_key_length it.max_key_length key value root
  IsTrueValueIn StringSized value root =
      IsTrueStringSizedValueOf h g has_pending d proof it.min_key_length it.max_key_length key value root

  -- the same of the absence of a key
  abbrev pub IsAcceptedAbsenceIn : Kind → List ℕ → Type 0
  IsAcceptedAbsenceIn Variable root =
      IsAcceptedAbsenceOf h g has_pending d proof it.min_value_length it.max_value_length key root
  IsAcceptedAbsenceIn Sized root = IsAcceptedSizedAbsenceOf h g has_pending d proof it.min_value_length key root
  IsAcceptedAbsenceIn Fixed root = IsAcceptedFixedAbsenceOf h g has_pending d proof it.min_value_length key root
  IsAcceptedAbsenceIn StringVariable root =
      IsAcceptedStringAbsenceOf h g has_pending d proof it.min_key_length it.max_key_length it.min_value_length
      it.max_value_length key root
  IsAcceptedAbsenceIn StringSized root =
      IsAcceptedStringSizedAbsenceOf h g has_pending d proof it.min_key_length it.max_key_length it.min_value_length key root

  abbrev pub IsTrueAbsenceIn : Kind → List ℕ → Type 0
  IsTrueAbsenceIn Variable root =
      IsTrueAbsenceOf h g has_pending d proof it.min_value_length it.max_value_length key root
  IsTrueAbsenceIn Sized root = IsTrueSizedAbsenceOf h g has_pending d proof it.min_value_length key root
  IsTrueAbsenceIn Fixed root = IsTrueFixedAbsenceOf h g has_pending d proof it.min_value_length key root
  IsTrueAbsenceIn StringVariable root =
      IsTrueStringAbsenceOf h g has_pending d proof it.min_key_length it.max_key_length it.min_value_length
      it.max_value_length key root
  IsTrueAbsenceIn StringSized root =
      IsTrueStringSizedAbsenceOf h g has_pending d proof it.min_key_length it.max_key_length it.min_value_length key root
