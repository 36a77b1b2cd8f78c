-- Which answers follow from others.
use Rattle.std.specs.Prelude.{ℤ, pos, negsuc, ◌==◌, ◌⊎◌, IsTrue, IfOk, Option, Some, None}
use Rattle.std.specs.declared.alloc.Global.{Global}
use Rattle.std.specs.declared.vec.Vec.{Vec}
use Rattle.std.proofs.Common.{◌≡◌, ◌↔◌, ◌∙◌, ℕ, List, length, Bool, true, false, Result, Ok, Err, refl, sym, subst, ap, inl, inr}
use Rattle.storage_codec.specs.Laws.DigestValues.{one_digest}
use Rattle.storage_codec.specs.declared.codec.fixed.FixedBytes.{FixedBytes}
use Rattle.storage_bitmap.specs.Chunks.{IsChunkSize}
use Rattle.light_questions.specs.Answers.{IsTold, Says, no, no_memory, or_then, yes}
use Rattle.light_questions.specs.KeyBytes.{OfSized}
use Rattle.light_questions.specs.KeyParts.{IsAnswer, Setting, Statement, code_of, of_check, of_sized, of_vector}

-- ---- numbers

is_yes : ℤ → Bool
is_yes (pos n) = n == 1
is_yes (negsuc n) = false

no_differs : no ≡ yes → ⊥
unfolding is_yes
no_differs is = let f : false ≡ true = ap is_yes is in absurd cc

no_memory_differs : no_memory ≡ yes → ⊥
unfolding is_yes
no_memory_differs is = let f : false ≡ true = ap is_yes is in absurd cc

-- ---- answers

-- what a check of the library promises makes its answer one
pub check_answer : {E : Type 0} (answer : Result Bool E) (asked : Setting → Statement) (s : Setting)
    → (¬ IsChunkSize s.grafting.bytes → answer ≡ Ok false) → IfOk answer (λ b. IsTrue b ↔ (asked s).Accepted)
    → ((s.digest_size ≡ 32) ⊎ (s.digest_size ≡ 64) → IfOk answer (λ b. IsTrue b → (asked s).Truth))
    → IsAnswer None (code_of (of_check answer)) asked s
check_answer (Ok true) asked s sized exact means = record {
  exact = inl (refl, exact.0 refl);
  meaning = λ _ _ size. means size refl;
  refused = λ _ none. cc (sized none);
}
check_answer (Ok false) asked s sized exact means = record {
  exact = inr (inl (refl, λ a. let f : false ≡ true = exact.1 a in absurd cc));
  meaning = λ _ is _. absurd (no_differs is);
  refused = λ _ _. refl;
}
check_answer (Err e) asked s sized exact means = record {
  exact = inr (inr refl);
  meaning = λ _ is _. absurd (no_memory_differs is);
  refused = λ _ none. cc (sized none);
}

-- a no for a chunk size that no chunk has
pub no_chunk : {asked : Setting → Statement} {s : Setting} → ¬ IsChunkSize s.grafting.bytes
    → ((asked s).Accepted → IsChunkSize s.grafting.bytes) → IsAnswer None no asked s
no_chunk none sized = record {
  exact = inr (inl (refl, λ a. none (sized a)));
  meaning = λ _ is _. absurd (no_differs is);
  refused = λ _ _. refl;
}

-- want of memory, where chunks have such a size
pub no_memory_left : {asked : Setting → Statement} {s : Setting} → IsChunkSize s.grafting.bytes
    → IsAnswer None no_memory asked s
no_memory_left sized = record {
  exact = inr (inr refl);
  meaning = λ _ is _. absurd (no_memory_differs is);
  refused = λ _ none. absurd (none sized);
}

-- a refusal
pub refused_as : {asked : Setting → Statement} {s : Setting} (code : ℤ) → IsAnswer (Some code) code asked s
refused_as code = record {
  exact = refl;
  meaning = λ none. let f : Some code ≡ None = none in absurd cc;
  refused = λ none. let f : Some code ≡ None = none in absurd cc;
}

says_along : (code : ℤ) (A B : Type 0) → (A ↔ B) → Says code A → Says code B
says_along code A B same (inl s) = inl (s.0, same.0 s.1)
says_along code A B same (inr (inl s)) = inr (inl (s.0, λ b. s.1 (same.1 b)))
says_along code A B same (inr (inr s)) = inr (inr s)

told_along : (refusal : Option ℤ) (code : ℤ) (A B : Type 0) → (A → B) → IsTold refusal code A → IsTold refusal code B
told_along None code A B along t = along t
told_along (Some first) code A B along t = t

-- an answer is one to each question that is accepted alike, and whose truth follows
along : (refusal : Option ℤ) (code : ℤ) (asked other : Setting → Statement) (s : Setting)
    → ((asked s).Accepted ↔ (other s).Accepted) → ((asked s).Truth → (other s).Truth) → IsAnswer refusal code asked s
    → IsAnswer refusal code other s
along refusal code asked other s same means is = record {
  exact = told_along refusal code (Says code (asked s).Accepted) (Says code (other s).Accepted) (says_along code _ _ same)
      is.exact;
  meaning = λ none yes wide. means (is.meaning none yes wide);
  refused = is.refused;
}

-- ---- strings that are given by their bytes

-- what is said of a string with the bytes of this one is said of this one
said_of : (Said : (n : ℕ) → FixedBytes n → Type 0) (n : ℕ) (sized : FixedBytes n) → OfSized Said sized.bytes → Said n sized
said_of Said n sized of =
    let P : ℕ → Type 0 = λ m. (x : FixedBytes m) → x.bytes ≡ sized.bytes → Said m x → Said n sized in
    let here : P n = λ x e s. subst (Said n) (one_digest n x sized e) s in
    let same : n ≡ of.size = sym sized.full ∙ ap length (sym of.is) ∙ of.sized.full in
    subst P same here of.sized of.is of.said

-- an answer about a string of one size is one about its bytes
pub sized_answer : {refusal : Option ℤ} {code : ℤ} {s : Setting} (asked : (n : ℕ) → FixedBytes n → Setting → Statement) (n : ℕ)
    (sized : FixedBytes n) → IsAnswer refusal code (asked n sized) s
    → IsAnswer refusal code (of_sized asked sized.bytes) s
sized_answer {refusal} {code} {s} asked n sized =
    along refusal code (asked n sized) (of_sized asked sized.bytes) s (
      λ a. record { size = n; sized = sized; is = refl; said = a },
      λ of. said_of (λ m x. (asked m x s).Accepted) n sized of,
    )
    (λ t. record { size = n; sized = sized; is = refl; said = t })

-- and one about a vector is one about its bytes, where these are all that counts
pub vector_answer : {refusal : Option ℤ} {code : ℤ} {s : Setting} (asked : Vec ℕ Global → Setting → Statement)
    (vector : Vec ℕ Global) (bytes : List ℕ) → vector.items ≡ bytes
    → ((w : Vec ℕ Global) → w.items ≡ vector.items → (asked w s).Accepted → (asked vector s).Accepted)
    → IsAnswer refusal code (asked vector) s → IsAnswer refusal code (of_vector asked bytes) s
vector_answer {refusal} {code} {s} asked vector bytes e alike =
    along refusal code (asked vector) (of_vector asked bytes) s (
      λ a. record { vector = vector; is = e; said = a },
      λ of. alike of.vector (of.is ∙ sym e) of.said,
    )
    (λ t. record { vector = vector; is = e; said = t })

-- ---- what is agreed in one struct

-- a refusal is one to each question
refusal_along : (c : ℤ) {code : ℤ} {asked other : Setting → Statement} {s : Setting} → IsAnswer (Some c) code asked s
    → IsAnswer (Some c) code other s
refusal_along c is = record {
  exact = is.exact;
  meaning = λ none. let f : Some c ≡ None = none in absurd cc;
  refused = λ none. let f : Some c ≡ None = none in absurd cc;
}

-- an answer about a value or a size that is the claimed one where that is not refused is one about what is claimed
agreed_one : {A : Type 0} (before refusal : Option ℤ) (code : ℤ) (asked : A → Setting → Statement) (s : Setting)
    (claimed given : A) → (refusal ≡ None → given ≡ claimed) → IsAnswer (or_then before refusal) code (asked given) s
    → IsAnswer (or_then before refusal) code (asked claimed) s
agreed_one {A = A} None None code asked s claimed given same is =
    subst (λ (x : A). IsAnswer None code (asked x) s) (same refl) is
agreed_one None (Some c) code asked s claimed given same is = refusal_along c is
agreed_one (Some c) refusal code asked s claimed given same is = refusal_along c is

pub of_agreed : {A : Type 0} (before refusal other : Option ℤ) {code : ℤ} (asked : A → Setting → Statement) {s : Setting}
    (claimed given : A) → refusal ≡ other → (refusal ≡ None → given ≡ claimed)
    → IsAnswer (or_then before other) code (asked given) s → IsAnswer (or_then before refusal) code (asked claimed) s
of_agreed {A = A} before refusal other {code} asked {s} claimed given e same is =
    agreed_one before refusal code asked s claimed given same
    (subst (λ (x : Option ℤ). IsAnswer (or_then before x) code (asked given) s) (sym e) is)
