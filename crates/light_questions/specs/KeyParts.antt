-- What private functions say of a question, and of the key and the value in it.
use Rattle.std.specs.Prelude.{◌≡◌, ◌⊎◌, ◌+◌, ℕ, ℤ, Bool, true, false, List, Option, None, Result, Ok, Err}
use Rattle.std.specs.Ordering.{nat_cmp}
use Rattle.std.specs.Cmp.Lexicographic.{slice_cmp}
use Rattle.std.specs.declared.alloc.Global.{Global}
use Rattle.std.specs.declared.cmp.Ordering.{Ordering}
use Rattle.std.specs.declared.vec.Vec.{Vec}
use Rattle.storage_codec.specs.Digests.{HashFunction}
use Rattle.storage_codec.specs.Codec.{Answer, fixed_at, vector_at}
use Rattle.storage_codec.specs.Parts.{vector_text}
use Rattle.storage_codec.specs.declared.codec.fixed.FixedBytes.{FixedBytes}
use Rattle.storage_merkle.specs.Shape.{Shape}
use Rattle.storage_bitmap.specs.Chunks.{IsChunkSize}
use Rattle.storage_ops.specs.Fixed.{fixed_operation_text}
use Rattle.storage_ops.specs.Operations.{OperationView}
use Rattle.storage_ops.specs.Updates.{ordered_at}
use Rattle.storage_ops.specs.Variable.{variable_operation_text}
use Rattle.storage_current.specs.Snapshots.{Grafting, grafting_of}
use Rattle.storage_current.specs.Keys.{Keyed, keyed_by}
use Rattle.commonware_storage.specs.Light.{IsAcceptedAt, IsTrueAt}
use Rattle.commonware_storage.specs.LightRanges.{IsAcceptedRange, IsTrueRange}
use Rattle.commonware_storage.specs.LightKeys.{IsAcceptedAbsence, IsAcceptedValue, IsTrueAbsence, IsTrueValue}
use Rattle.light_questions.specs.Answers.{IsTold, Says, no, no_memory, other_agreed, other_encoding, other_family, other_hash, other_key, other_kind, other_lengths, other_root, other_value, yes}
use Rattle.light_questions.specs.KeyBytes.{OfSized, OfVector}
use Rattle.light_questions.specs.Agreement.{IsAcceptedAbsenceIn, IsAcceptedValueIn, IsTrueAbsenceIn, IsTrueValueIn}
use Rattle.light_questions.specs.declared.agreement.Agreed.{Agreed}
use Rattle.light_questions.specs.declared.agreement.Kind.{Kind}
use Rattle.light_questions.specs.declared.answer.Fault.{Fault}
use Rattle.light_questions.specs.declared.answer.Fault.TheVariants.{Memory, OtherAgreed, OtherEncoding, OtherFamily, OtherHash, OtherKey, OtherKind, OtherLengths, OtherRoot, OtherValue}

-- ---- answers

-- what want of memory is told as, and a refusal
abbrev pub fault_code : Fault → ℤ
fault_code Memory = no_memory
fault_code OtherRoot = other_root
fault_code OtherFamily = other_family
fault_code OtherHash = other_hash
fault_code OtherLengths = other_lengths
fault_code OtherKey = other_key
fault_code OtherValue = other_value
fault_code OtherAgreed = other_agreed
fault_code OtherKind = other_kind
fault_code OtherEncoding = other_encoding

-- what an answer is told as
abbrev pub code_of : Result Bool Fault → ℤ
code_of (Ok true) = yes
code_of (Ok false) = no
code_of (Err fault) = fault_code fault

-- a check's answer, as one that could have been a refusal
abbrev pub of_check : {E : Type 0} → Result Bool E → Result Bool Fault
of_check (Ok accepts) = Ok accepts
of_check (Err e) = Err Memory

-- what a check is made over: a digest function, trees, the bytes of a proof and those of a root
pub record Setting : Type 0 where
  pub hash : HashFunction
  pub grafting : Grafting
  pub has_pending : Bool
  pub digest_size : ℕ
  pub proof : List ℕ
  pub root : List ℕ

abbrev pub setting_of : HashFunction → Shape → Bool → ℕ → ℕ → List ℕ → List ℕ → Setting
setting_of h shape has_pending d chunk_size proof root = record {
  hash = h;
  grafting = grafting_of shape chunk_size;
  has_pending = has_pending;
  digest_size = d;
  proof = proof;
  root = root;
}

-- where a check accepts, and what its yes means
pub record Statement : Type 1 where
  pub Accepted : Type 0
  pub Truth : Type 0

-- Where nothing is refused, the answer says whether the check accepts, its yes is true over digests of 32 or 64 bytes, and it is a no
-- for a chunk size that no chunk has. Else it is the refusal.
pub record IsAnswer (refusal : Option ℤ) (code : ℤ) (asked : Setting → Statement) (s : Setting) : Type 0 where
  pub exact : IsTold refusal code (Says code (asked s).Accepted)
  pub meaning : refusal ≡ None → code ≡ yes → (s.digest_size ≡ 32) ⊎ (s.digest_size ≡ 64) → (asked s).Truth
  pub refused : refusal ≡ None → ¬ IsChunkSize s.grafting.bytes → code ≡ no

-- operations stand from a location on, and these are the chunks that they touch, by a proof with at most so many digests
abbrev pub range_of : ℕ → ℕ → List (List ℕ) → List (List ℕ) → Setting → Statement
range_of most start operations chunks s = record {
  Accepted =
      IsAcceptedRange s.hash s.grafting s.has_pending s.digest_size most start s.proof operations chunks s.root;
  Truth = IsTrueRange s.hash s.grafting s.has_pending s.digest_size most start s.proof operations chunks s.root;
}

-- an operation stands at a location, and is active
abbrev pub operation_of : ℕ → List ℕ → Setting → Statement
operation_of location operation s = record {
  Accepted = IsAcceptedAt s.hash s.grafting s.has_pending s.digest_size location s.proof operation s.root;
  Truth = IsTrueAt s.hash s.grafting s.has_pending s.digest_size location s.proof operation s.root;
}

-- ---- strings that are given by their bytes

abbrev pub of_sized : ((n : ℕ) → FixedBytes n → Setting → Statement) → List ℕ → Setting → Statement
of_sized asked bytes s = record {
  Accepted = OfSized (λ n x. (asked n x s).Accepted) bytes;
  Truth = OfSized (λ n x. (asked n x s).Truth) bytes;
}

abbrev pub of_vector : (Vec ℕ Global → Setting → Statement) → List ℕ → Setting → Statement
of_vector asked bytes s = record {
  Accepted = OfVector (λ x. (asked x s).Accepted) bytes;
  Truth = OfVector (λ x. (asked x s).Truth) bytes;
}

-- ---- keys and values

-- what keys are written as, in which order they stand, as what they are seen and read
pub record Keys (K X : Type 0) : Type 0 where
  pub text : K → List ℕ
  pub cmp : K → K → Ordering
  pub view : K → X
  pub next_at : List ℕ → Answer X

abbrev pub keys_of : {K X : Type 0} → (K → List ℕ) → (K → K → Ordering) → (K → X) → (List ℕ → Answer X) → Keys K X
keys_of text cmp view next_at = record { text = text; cmp = cmp; view = view; next_at = next_at }

-- those of n bytes, and those of any length, which has a least and a greatest in proofs
abbrev pub sized_keys : (n : ℕ) → Keys (FixedBytes n) (List ℕ)
sized_keys n = keys_of (λ k. k.bytes) (λ a b. slice_cmp nat_cmp a.bytes b.bytes) (λ k. k.bytes) (fixed_at n)

abbrev pub string_keys : ℕ → ℕ → Keys (Vec ℕ Global) (List ℕ)
string_keys lower upper =
    keys_of (λ k. vector_text k.items) (λ a b. slice_cmp nat_cmp a.items b.items) (λ k. k.items) (vector_at lower upper)

-- what operations are written as: as long as their parts, or over keys of n bytes and values of m filled up to one size
abbrev pub Written : Type 0
Written = OperationView (List ℕ) (List ℕ) (List ℕ) → List ℕ

abbrev pub as_long : ℕ → Written
as_long m = variable_operation_text

abbrev pub filled : ℕ → ℕ → Written
filled n m = fixed_operation_text n (n + m + n) m

abbrev pub keyed_in : {K X V : Type 0} → Keys K X → (V → List ℕ) → Written → Keyed K V
keyed_in keys text written = keyed_by keys.text text written keys.cmp

-- a key has a value
abbrev pub has_value : {K X V : Type 0} → Keys K X → (V → List ℕ) → Written → K → V → Setting → Statement
has_value keys text written key value s = record {
  Accepted =
      IsAcceptedValue (keyed_in keys text written) keys.view keys.next_at s.hash s.grafting s.has_pending s.digest_size s.proof
      key value s.root;
  Truth =
      IsTrueValue (keyed_in keys text written) keys.view keys.next_at s.hash s.grafting s.has_pending s.digest_size s.proof key
      value s.root;
}

-- a key has no value, where the values of updates and of commits are seen and read in some way
abbrev pub lacks_values : {K X V Y : Type 0} → Keys K X → (V → List ℕ) → (V → Y) → (updated committed : List ℕ → Answer Y)
    → Written → K → Setting → Statement
lacks_values keys text view updated committed written key s = record {
  Accepted =
      IsAcceptedAbsence (keyed_in keys text written) keys.view view (ordered_at keys.next_at updated) committed s.hash s.grafting
      s.has_pending s.digest_size s.proof key s.root;
  Truth =
      IsTrueAbsence (keyed_in keys text written) keys.view view (ordered_at keys.next_at updated) committed s.hash s.grafting
      s.has_pending s.digest_size s.proof key s.root;
}

abbrev pub lacks_value : {K X V Y : Type 0} → Keys K X → (V → List ℕ) → (V → Y) → (List ℕ → Answer Y) → Written → K
    → Setting → Statement
lacks_value keys text view value_at = lacks_values keys text view value_at value_at

-- the same two of values of any length, which has a least and a greatest in proofs, and of values of one size
module _ {K X : Type 0} (keys : Keys K X) where
  abbrev pub has_vector : K → List ℕ → Setting → Statement
  has_vector key =
      of_vector (has_value {V = Vec ℕ Global} keys (λ v. vector_text v.items) variable_operation_text key)

  abbrev pub lacks_vector : ℕ → ℕ → K → Setting → Statement
  lacks_vector least most =
      lacks_value {V = Vec ℕ Global} keys (λ v. vector_text v.items) (λ v. v.items) (vector_at least most)
      variable_operation_text

  abbrev pub has_sized : (ℕ → Written) → K → List ℕ → Setting → Statement
  has_sized written key = of_sized (λ m. has_value {V = FixedBytes m} keys (λ v. v.bytes) (written m) key)

  abbrev pub lacks_sized : (ℕ → Written) → ℕ → K → Setting → Statement
  lacks_sized written m =
      lacks_value {V = FixedBytes m} keys (λ v. v.bytes) (λ v. v.bytes) (fixed_at m) (written m)

-- ---- databases of each kind

-- a key has a value, and a key has none
abbrev pub value_in : Kind → Agreed → List ℕ → List ℕ → Setting → Statement
value_in kind it key value s = record {
  Accepted = IsAcceptedValueIn it s.hash s.grafting s.has_pending s.digest_size s.proof key kind value s.root;
  Truth = IsTrueValueIn it s.hash s.grafting s.has_pending s.digest_size s.proof key kind value s.root;
}

abbrev pub absent_in : Kind → Agreed → List ℕ → Setting → Statement
absent_in kind it key s = record {
  Accepted = IsAcceptedAbsenceIn it s.hash s.grafting s.has_pending s.digest_size s.proof key kind s.root;
  Truth = IsTrueAbsenceIn it s.hash s.grafting s.has_pending s.digest_size s.proof key kind s.root;
}
