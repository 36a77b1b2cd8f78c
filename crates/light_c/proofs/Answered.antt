-- How an answer is told as a number.
use Rattle.std.specs.Prelude.{ℤ, ◌==◌, ◌⊎◌, Option, if◌then◌else◌}
use Rattle.std.proofs.Common.{◌≡◌, ◌∙◌, ℕ, List, [], ◌∷◌, Bool, true, false, Result, Ok, Err, refl, sym, subst, ap, inl, inr, to_z, of_z, w32}
use Rattle.light_questions.specs.Agreed.{digest_size_of}
use Rattle.light_questions.specs.Agreement.{AsAgreed, OfKind, kind_of}
use Rattle.light_questions.specs.KeyParts.{IsAnswer, Setting, Statement, code_of}
use Rattle.light_questions.specs.declared.agreement.Agreed.{Agreed}
use Rattle.light_questions.specs.declared.agreement.Kind.{Kind}
use Rattle.light_questions.specs.declared.answer.Fault.{Fault}
use Rattle.light_questions.specs.declared.answer.Fault.TheVariants.{Memory, OtherAgreed, OtherEncoding, OtherFamily, OtherHash, OtherKey, OtherKind, OtherLengths, OtherRoot, OtherValue}

-- an answer is told as a number of its type
word_of : (answer : Result Bool Fault) → to_z w32 (of_z w32 (code_of answer)) ≡ code_of answer
word_of (Ok true) = refl
word_of (Ok false) = refl
word_of (Err Memory) = refl
word_of (Err OtherRoot) = refl
word_of (Err OtherFamily) = refl
word_of (Err OtherHash) = refl
word_of (Err OtherLengths) = refl
word_of (Err OtherKey) = refl
word_of (Err OtherValue) = refl
word_of (Err OtherAgreed) = refl
word_of (Err OtherKind) = refl
word_of (Err OtherEncoding) = refl

-- what holds of an answer holds of the number that it is told as
pub answered : {refusal : Option ℤ} {asked : Setting → Statement} {s : Setting} (answer : Result Bool Fault) (code : ℤ)
    → code ≡ code_of answer → IsAnswer refusal (code_of answer) asked s
    → IsAnswer refusal (to_z w32 (of_z w32 code)) asked s
answered {refusal} {asked} {s} answer code told is =
    subst (λ (c : ℤ). IsAnswer refusal c asked s) (sym (ap (λ (c : ℤ). to_z w32 (of_z w32 c)) told ∙ word_of answer)) is

-- the digests of each digest function have 32 or 64 bytes
wide : (first : Bool) → ◌≡◌ {A = ℕ} (if first then 32 else 64) 32 ⊎ ◌≡◌ {A = ℕ} (if first then 32 else 64) 64
wide true = inl refl
wide false = inr refl

pub wide_of : (hash : ℕ) → (digest_size_of hash ≡ 32) ⊎ (digest_size_of hash ≡ 64)
wide_of hash = wide (hash == 0)

-- what is told of one struct and its kind is told of the list with that struct
pub as_agreed : (agreed : List Agreed) (it : Agreed) (kind : Kind) (code : ℤ) (Told : Agreed → Kind → Type 0)
    → agreed ≡ it ∷ [] → kind_of it.keys it.values ≡ Ok kind → Told it kind → AsAgreed agreed code Told
as_agreed agreed it kind code Told one is told =
    subst (λ (them : List Agreed). AsAgreed them code Told) (sym one)
    (subst (λ (found : Result Kind ℤ). OfKind found code (Told it)) (sym is) told)
