-- Encodings that stand one after the other: which types have them, and which parts they have.
use Rattle.std.proofs.Common.{◌≡◌, ℕ, List, ◌++◌, length, take, refl, sym, ap, subst, ◌∙◌, append_assoc}
use Rattle.std.specs.Int.{w64, to_be_bytes}
use Rattle.std.proofs.lemmas.List.{append_cancel_left, take_at}
use Rattle.storage_codec.specs.Parts.{varint_text, vector_text}
use Rattle.storage_codec.specs.Laws.Spelling.{varint_one}
use Rattle.storage_ops.specs.PrefixFree.{IsPrefixFree}

-- what stands in front is settled by its length
pub front_same : (n : ℕ) (a b r s : List ℕ) → length a ≡ n → length b ≡ n → a ++ r ≡ b ++ s → a ≡ b
front_same n a b r s p q e = sym (take_at a r n p) ∙ ap (take n) e ∙ take_at b s n q

-- encodings of one size
pub sized_prefix_free : {A X : Type 0} (text : A → List ℕ) (view : A → X) (n : ℕ) → ((x : A) → length (text x) ≡ n)
    → ((x y : A) → view x ≡ view y → text x ≡ text y) → IsPrefixFree text view
sized_prefix_free text view n sized seen = record {
  one = λ x y r s e. front_same n (text x) (text y) r s (sized x) (sized y) e;
  seen = seen;
}

-- byte vectors behind their lengths
pub vector_prefix_free : {A : Type 0} (bytes : A → List ℕ) → IsPrefixFree (λ v. vector_text (bytes v)) bytes
vector_prefix_free bytes = record {
  one = λ x y r s e.
      let a = bytes x in
      let b = bytes y in
      let split = sym (append_assoc (varint_text (length a)) a r) ∙ e ∙ append_assoc (varint_text (length b)) b s in
      let same = varint_one (length a) (length b) (a ++ r) (b ++ s) split in
      ap vector_text (front_same (length b) a b r s same.0 refl same.1);
  seen = λ x y e. ap vector_text e;
}

-- numbers of eight bytes
pub number_prefix_free : IsPrefixFree (to_be_bytes w64) (λ n. n)
number_prefix_free = sized_prefix_free (to_be_bytes w64) (λ n. n) 8 (λ n. refl) (λ m n e. ap (to_be_bytes w64) e)

-- a part and what follows it
pub two_parts : {A X : Type 0} (text : A → List ℕ) (view : A → X) → IsPrefixFree text view
    → (x y : A) (r s : List ℕ) → text x ++ r ≡ text y ++ s → (text x ≡ text y) × (r ≡ s)
two_parts text view is x y r s e =
    let same = is.one x y r s e in
    (same, append_cancel_left (text y) r s (subst (λ (t : List ℕ). t ++ r ≡ text y ++ s) same e))

-- a key, a value, a next key
pub three_parts : {K V X Y : Type 0} (key : K → List ℕ) (value : V → List ℕ) (kview : K → X) (vview : V → Y)
    → IsPrefixFree key kview → IsPrefixFree value vview
    → (a b : K) (v w : V) (m n : K) → key a ++ value v ++ key m ≡ key b ++ value w ++ key n
    → (key a ≡ key b) × (value v ≡ value w) × (key m ≡ key n)
three_parts key value kview vview kis vis a b v w m n e =
    let first = two_parts key kview kis a b (value v ++ key m) (value w ++ key n)
    (sym (append_assoc (key a) (value v) (key m)) ∙ e ∙ append_assoc (key b) (value w) (key n)) in
    let second = two_parts value vview vis v w (key m) (key n) first.1 in
    (first.0, second.0, second.1)
