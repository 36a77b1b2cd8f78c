-- What the steps of a check of a bit find, and what it answers.
use Rattle.std.proofs.Common.{◌≡◌, ◌≢◌, ℕ, ◌-◌, ◌*◌, ◌/◌, ◌%◌, ◌<◌, ◌↔◌, List, [], ◌∷◌, ◌++◌, length, option_map, take, get_or, Bool, true, false, if◌then◌else◌, eqb, eq-eqb, refl, sym, ap, ◌∙◌, arith, subst, Option, Some, None, length-append, Result}
use Rattle.std.specs.Option.{option_eq}
use Rattle.std.specs.Result.{IfOk}
use Rattle.std.proofs.lemmas.Result.{IfOk-weaker}
use Rattle.storage_codec.specs.Digests.{HashFunction}
use Rattle.storage_merkle.specs.Mmr.{mmr}
use Rattle.storage_merkle.specs.declared.merkle.bagging.Bagging.{Bagging}
use Rattle.storage_merkle.specs.Trees.{Content, ungrafted, listed}
use Rattle.storage_merkle.specs.RangeProofs.{Proof, CountsFit, recomputed_root}
use Rattle.storage_merkle.specs.Checks.{IsRecomputed}
use Rattle.storage_bitmap.specs.BitRoots.{partial_string, is_aligned}
use Rattle.storage_bitmap.specs.BitProofs.{last_digest, computed_bit_root, IsBitAccepted}
use Rattle.storage_bitmap.specs.BitParts.{BitCountsFit, IsBitComputed}
use Rattle.storage_bitmap.proofs.BitStrings.{neq-eqb, take_front, get_last, some_length, before_end}

module _ (h : HashFunction) (b : Bagging) (n : ℕ) (proof : Proof) (bytes : List ℕ) (bit : ℕ) where
  abbrev at : ℕ
  at = bit / (8 * n)

  abbrev claim : Content
  claim = listed (bytes ∷ [])

  -- the proof of the chunk from some digests
  abbrev over : List (List ℕ) → Proof
  over ds = record { leaves = proof.leaves / (8 * n); inactive = 0; digests = ds }

  abbrev front : Bool → List (List ℕ)
  front a = if a then proof.digests else take (length proof.digests - 1) proof.digests

  abbrev found : List (List ℕ) → List ℕ
  found ds = recomputed_root h (ungrafted mmr) b (over ds) at claim

  abbrev end : List ℕ
  end = last_digest h b n proof bytes bit

  -- the computed root, where the bits are aligned or not and the bit is in the partial chunk or not
  abbrev root_by : Bool → Bool → List ℕ
  root_by a p = if a then found (front a) else h
      (if p then partial_string end proof.leaves (h bytes) else partial_string (found (front a)) proof.leaves end)

  by : (a p : Bool) → is_aligned n proof.leaves ≡ a → eqb at (proof.leaves / (8 * n)) ≡ p
      → computed_bit_root h b n proof bytes bit ≡ root_by a p
  by a p ea ep = ap (λ x. root_by x (eqb at (proof.leaves / (8 * n)))) ea ∙ ap (root_by a) ep

  -- the counts, where the bit is in a complete chunk
  fit : (a : Bool) → is_aligned n proof.leaves ≡ a → eqb at (proof.leaves / (8 * n)) ≡ false
      → (a ≡ false → proof.digests ≢ []) → CountsFit h (ungrafted mmr) b (over (front a)) at claim
      → BitCountsFit h b n proof bytes bit
  fit a ea ep some ok = record {
    some = λ e. some (sym ea ∙ e);
    one = λ e. absurd (let x : true ≡ false = sym e ∙ ep in cc);
    counts = λ e. subst (λ x. CountsFit h (ungrafted mmr) b (over (front x)) at claim) (sym ea) ok;
  }

  fitted : (a : Bool) → is_aligned n proof.leaves ≡ a → eqb at (proof.leaves / (8 * n)) ≡ false
      → BitCountsFit h b n proof bytes bit → CountsFit h (ungrafted mmr) b (over (front a)) at claim
  fitted a ea ep ok = subst (λ x. CountsFit h (ungrafted mmr) b (over (front x)) at claim) ea (ok.counts ep)

  -- what is recomputed, from the same numbers and digests
  pub moved : (complete place : ℕ) (ds es : List (List ℕ)) (computed : Option (List ℕ))
      → complete ≡ proof.leaves / (8 * n) → place ≡ at → ds ≡ es
      → IsRecomputed h (ungrafted mmr) b (record { leaves = complete; inactive = 0; digests = ds }) place claim computed
      → IsRecomputed h (ungrafted mmr) b (over es) at claim computed
  moved complete place ds es computed e f g r =
      subst (λ xs. IsRecomputed h (ungrafted mmr) b (over xs) at claim computed) g
      (subst (λ j. IsRecomputed h (ungrafted mmr) b (over ds) j claim computed) f
      (subst (λ m. IsRecomputed h (ungrafted mmr) b
      (record { leaves = m; inactive = 0; digests = ds }) place claim computed) e r))

  -- the bits fill their chunks
  pub aligned_computed : bit < proof.leaves → proof.leaves % (8 * n) ≡ 0 → (computed : Option (List ℕ)) → IsRecomputed h
      (ungrafted mmr) b (over proof.digests) at claim computed → IsBitComputed h b n proof bytes bit computed
  aligned_computed below whole computed r = go computed r
    where
      ea : is_aligned n proof.leaves ≡ true
      ea = eq-eqb _ _ whole

      ep : eqb at (proof.leaves / (8 * n)) ≡ false
      ep = neq-eqb _ _ (before_end bit proof.leaves (8 * n) below whole)

      go : (o : Option (List ℕ)) → IsRecomputed h (ungrafted mmr) b (over proof.digests) at claim o
          → IsBitComputed h b n proof bytes bit o
      go None r = λ ok. r (fitted true ea ep ok)
      go (Some x) r = (fit true ea ep (λ e. absurd cc) r.0, r.1 ∙ sym (by true false ea ep))

  pub aligned_answer : {D E : Type 0} (text : D → List ℕ) (r : Result (Option D) E) (complete place : ℕ)
      (ds : List (List ℕ)) → bit < proof.leaves → proof.leaves % (8 * n) ≡ 0 → complete ≡ proof.leaves / (8 * n)
      → place ≡ at → ds ≡ proof.digests
      → IfOk r (λ o. IsRecomputed h (ungrafted mmr) b (record { leaves = complete; inactive = 0; digests = ds }) place
      claim (option_map text o)) → IfOk r (λ o. IsBitComputed h b n proof bytes bit (option_map text o))
  aligned_answer text r complete place ds below whole e f g a =
      IfOk-weaker r (λ o. IsRecomputed h (ungrafted mmr) b (record { leaves = complete; inactive = 0; digests = ds })
      place claim (option_map text o)) (λ o. IsBitComputed h b n proof bytes bit (option_map text o))
      (λ o x. aligned_computed below whole (option_map text o)
      (moved complete place ds proof.digests (option_map text o) e f g x)) a

  -- there is a partial chunk, and no digest
  pub none_computed : proof.leaves % (8 * n) ≢ 0 → proof.digests ≡ [] → BitCountsFit h b n proof bytes bit → ⊥
  none_computed broken none ok = ok.some (neq-eqb _ _ broken) none

  module _ (broken : proof.leaves % (8 * n) ≢ 0) (ds : List (List ℕ)) (last : List ℕ)
      (digests : proof.digests ≡ ds ++ last ∷ []) where
    ea : is_aligned n proof.leaves ≡ false
    ea = neq-eqb _ _ broken

    front_is : take (length proof.digests - 1) proof.digests ≡ ds
    front_is = ap (λ xs. take (length xs - 1) xs) digests ∙ take_front ds last

    end_is : end ≡ last
    end_is = ap (λ xs. get_or xs (length xs - 1) []) digests ∙ get_last ds last

    not_none : proof.digests ≢ []
    not_none e = let z : length (ds ++ last ∷ []) ≡ 0 = ap length (sym digests ∙ e) in
        omega (arith, length-append ds (last ∷ []))

    -- the bit is in a complete chunk
    pub between_fits : at ≢ proof.leaves / (8 * n) → IsRecomputed h (ungrafted mmr) b (over ds) at claim None
        → BitCountsFit h b n proof bytes bit → ⊥
    between_fits before r ok = r (subst (λ xs. CountsFit h (ungrafted mmr) b (over xs) at claim) front_is
        (fitted false ea (neq-eqb _ _ before) ok))

    pub between_computed : at ≢ proof.leaves / (8 * n) → (x : List ℕ)
        → IsRecomputed h (ungrafted mmr) b (over ds) at claim (Some x)
        → IsBitComputed h b n proof bytes bit (Some (h (partial_string x proof.leaves last)))
    between_computed before x r =
        let ep = neq-eqb _ _ before in (
          fit false ea ep (λ e. not_none)
              (subst (λ xs. CountsFit h (ungrafted mmr) b (over xs) at claim) (sym front_is) r.0),
          ap (λ y. h (partial_string y proof.leaves last)) (r.1 ∙ ap found (sym front_is)) ∙ (ap
              (λ y. h (partial_string (found (front false)) proof.leaves y)) (sym end_is) ∙ sym (by false false ea ep)),
        )

    pub between_answer : (complete place : ℕ) (computed : Option (List ℕ)) (x root : List ℕ) (len : ℕ)
        → at ≢ len / (8 * n) → len ≡ proof.leaves → complete ≡ len / (8 * n) → place ≡ at → computed ≡ Some x
        → IsRecomputed h (ungrafted mmr) b (record { leaves = complete; inactive = 0; digests = ds }) place claim
        computed → root ≡ h (partial_string x len last) → IsBitComputed h b n proof bytes bit (Some root)
    between_answer complete place computed x root len before e f g some r root_is =
        let here = between_computed (λ i. before (i ∙ ap (λ m. m / (8 * n)) (sym e))) x
        (subst (IsRecomputed h (ungrafted mmr) b (over ds) at claim) some
        (moved complete place ds ds computed (f ∙ ap (λ m. m / (8 * n)) e) g refl r)) in
        (here.0, root_is ∙ (ap (λ m. h (partial_string x m last)) e ∙ here.1))

    -- the bit is in the partial chunk
    pub partial_fits : at ≡ proof.leaves / (8 * n) → ds ≢ [] → BitCountsFit h b n proof bytes bit → ⊥
    partial_fits here more ok =
        let one = ok.one (eq-eqb _ _ here) in
        let there = some_length ds more in
        omega (arith, ap length digests, length-append ds (last ∷ []))

    pub partial_computed : at ≡ proof.leaves / (8 * n) → ds ≡ []
        → IsBitComputed h b n proof bytes bit (Some (h (partial_string last proof.leaves (h bytes))))
    partial_computed here lone =
        let ep = eq-eqb _ _ here in (
          record {
            some = λ e. not_none;
            one = λ e. ap length digests ∙ ap (λ xs. length (xs ++ last ∷ [])) lone;
            counts = λ e. absurd (let x : true ≡ false = sym ep ∙ e in cc);
          },
          ap (λ y. h (partial_string y proof.leaves (h bytes))) (sym end_is) ∙ sym (by false true ea ep),
        )

  -- the answer
  pub accepted_computed : bit < proof.leaves → proof.inactive ≡ 0 → (root : List ℕ) (computed : Option (List ℕ))
      → IsBitComputed h b n proof bytes bit computed → (computed ≡ Some root) ↔ IsBitAccepted h b n proof bytes bit root
  accepted_computed below inactive root None r = (
    λ e. cc,
    λ a. absurd (r (record { some = a.some; one = a.one; counts = a.counts })),
  )
  accepted_computed below inactive root (Some x) r = (
    λ e. let same : x ≡ root = cc in record {
      below = below;
      no_inactive = inactive;
      some = r.0.some;
      one = r.0.one;
      counts = r.0.counts;
      root_is = sym r.1 ∙ same;
    },
    λ a. ap (λ z. Some z) (r.1 ∙ a.root_is),
  )

pub not_both : (t : Bool) → t ≡ true → t ≡ false → ⊥
not_both t e f = let x : true ≡ false = sym e ∙ f in cc

pub chained : {A B C : Type 0} → (A ↔ B) → (B ↔ C) → (A ↔ C)
chained f g = (λ a. g.0 (f.0 a), λ c. f.1 (g.1 c))

-- digests are equal exactly where their bytes are
pub same_option : {D : Type 0} (eq : D → D → Bool) (text : D → List ℕ)
    → ((x y : D) → (eq x y ≡ true) ↔ (text x ≡ text y)) → (o : Option D) (r : D) (t : Bool)
    → t ≡ option_eq eq o (Some r) → (t ≡ true) ↔ (option_map text o ≡ Some (text r))
same_option eq text same None r t e = (λ x. absurd (let y : true ≡ false = sym x ∙ e in cc), λ x. cc)
same_option eq text same (Some x) r t e = (
  λ y. ap (λ z. Some z) ((same x r).0 (sym e ∙ y)),
  λ y. let texts : text x ≡ text r = cc in e ∙ (same x r).1 texts,
)
