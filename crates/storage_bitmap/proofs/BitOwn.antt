-- The own proof of a bit is accepted.
use Rattle.std.proofs.Common.{◌≡◌, ◌≢◌, ℕ, ◌+◌, ◌-◌, ◌*◌, ◌/◌, ◌<◌, ◌≤◌, ◌^◌, List, [], ◌∷◌, ◌++◌, length, take, get_or, Bool, true, false, if◌then◌else◌, eqb, eqb-true, inl, inr, refl, sym, ap, ◌∙◌, arith, subst, add-zero}
use Rattle.std.proofs.Math.Nat.{div-le_self}
use Rattle.storage_codec.specs.Digests.{HashFunction}
use Rattle.storage_merkle.specs.Mmr.{mmr}
use Rattle.storage_merkle.specs.Laws.Mmr.{mmr_laws}
use Rattle.storage_merkle.specs.declared.merkle.bagging.Bagging.{Bagging}
use Rattle.storage_merkle.specs.Trees.{ungrafted, listed}
use Rattle.storage_merkle.specs.RangeProofs.{Proof, CountsFit, recomputed_root, own_proof, IsOwn}
use Rattle.storage_merkle.specs.Soundness.{OwnRangeProofsAreAccepted}
use Rattle.storage_bitmap.specs.Chunks.{chunk, complete_chunks}
use Rattle.storage_bitmap.specs.BitRoots.{partial_string, is_aligned, chunks_root, partial_chunk, unaligned_string, bit_root}
use Rattle.storage_bitmap.specs.BitProofs.{IsBitAccepted, own_bit_proof}
use Rattle.storage_bitmap.proofs.BitStrings.{eqb-neq, length_chunks, chunks_at, take_front, get_last, before_end, div_at_most}

module _ (own_accepted : OwnRangeProofsAreAccepted) (h : HashFunction) (b : Bagging) (n : ℕ) (some : 0 < n) (bit : ℕ)
    (bits : List Bool) (few : length bits ≤ 2 ^ 62) (within : bit < length bits) where
  abbrev at : ℕ
  at = bit / (8 * n)

  abbrev C : List (List ℕ)
  C = complete_chunks n bits

  abbrev root : List ℕ
  root = chunks_root h b n bits

  abbrev last : List ℕ
  last = partial_chunk n bits

  abbrev here : List ℕ
  here = chunk n bits at

  abbrev inner : List (List ℕ)
  inner = (own_proof h (ungrafted mmr) b (listed C) 0 at (at + 1)).digests

  abbrev digests : Bool → Bool → List (List ℕ)
  digests p l = if p then root ∷ [] else (if l then inner else inner ++ h last ∷ [])

  abbrev over : Bool → Bool → Proof
  over p l = record {
    leaves = length bits / (8 * n);
    inactive = 0;
    digests = if l then digests p l else take (length (digests p l) - 1) (digests p l);
  }

  abbrev end : Bool → Bool → List ℕ
  end p l = get_or (digests p l) (length (digests p l) - 1) []

  abbrev found : Bool → Bool → List ℕ
  found p l = recomputed_root h (ungrafted mmr) b (over p l) at (listed (here ∷ []))

  let_length : length C ≡ length bits / (8 * n)
  let_length = length_chunks n bits (length bits / (8 * n)) 0

  few_chunks : length C ≤ 2 ^ 62
  few_chunks = omega (arith, let_length, div-le_self (length bits) (8 * n))

  over_is : (l : Bool) → over false l ≡ own_proof h (ungrafted mmr) b (listed C) 0 at (at + 1)
  over_is true = ap (λ m. (record { leaves = m; inactive = 0; digests = inner })) (sym let_length)
  over_is false = ap (λ m. (record {
    leaves = m;
    inactive = 0;
    digests = take (length (inner ++ h last ∷ []) - 1) (inner ++ h last ∷ []);
  })) (sym let_length)
      ∙ ap (λ ds. (record { leaves = length C; inactive = 0; digests = ds })) (take_front inner (h last))

  before : at ≢ length bits / (8 * n) → at < length bits / (8 * n)
  before ne = let le = div_at_most bit (length bits) (8 * n) (omega arith) (omega arith) in omega arith

  own : (l : Bool) → at ≢ length bits / (8 * n)
      → IsOwn h (ungrafted mmr) b (over false l) at (listed (here ∷ [])) (listed C) 0
  own l ne =
      let lt = before ne in
      record {
        proof_is = over_is l;
        elements_are = record {
          within = omega (arith, let_length);
          each = λ j less.
              let z : j ≡ 0 = omega arith in
              subst (λ k. get_or (here ∷ []) k [] ≡ get_or C (at + k) []) (sym z)
              (sym (ap (λ i. get_or C i []) (add-zero at) ∙ (chunks_at n bits (length bits / (8 * n)) 0 at lt
              ∙ ap (chunk n bits) (let e : 0 + at ≡ at = omega arith in e))));
        };
        chunks_are = λ a k u g r i s. refl;
      }

  fits : (l : Bool) → at ≢ length bits / (8 * n)
      → CountsFit h (ungrafted mmr) b (over false l) at (listed (here ∷ [])) × (found false l ≡ root)
  fits l ne =
      elim (own_accepted h (ungrafted mmr) mmr_laws b (over false l) at (listed (here ∷ [])) (listed C) 0 few_chunks
      (omega arith) (omega arith) (own l ne)) [
        | inl ok ↦ ok
        | inr empty ↦ absurd (let e : here ∷ [] ≡ [] = empty.0.none in cc)
      ]

  root_is : (p l : Bool) → eqb at (length bits / (8 * n)) ≡ p → is_aligned n (length bits) ≡ l →
      (if l then found p l else h (if p then partial_string (end p l) (length bits) (h here) else partial_string
      (found p l) (length bits) (end p l))) ≡ (if l then root else h (unaligned_string h b n bits))
  root_is true true ep el = absurd (before_end bit (length bits) (8 * n) within (eqb-true _ _ el) (eqb-true _ _ ep))
  root_is true false ep el = ap (λ j. h (partial_string root (length bits) (h (chunk n bits j)))) (eqb-true _ _ ep)
  root_is false true ep el = (fits true (eqb-neq _ _ ep)).1
  root_is false false ep el =
      ap (λ x. h (partial_string x (length bits) (end false false))) (fits false (eqb-neq _ _ ep)).1
      ∙ ap (λ x. h (partial_string root (length bits) x)) (get_last inner (h last))

  some_digest : (p l : Bool) → l ≡ false → digests p l ≢ []
  some_digest true l e = λ f. cc
  some_digest false true e = absurd cc
  some_digest false false e = not_none inner
    where
      not_none : (ds : List (List ℕ)) → ds ++ h last ∷ [] ≢ []
      not_none [] = λ f. cc
      not_none (x ∷ ds) = λ f. cc

  one_digest : (p l : Bool) → p ≡ true → length (digests p l) ≡ 1
  one_digest true l e = refl
  one_digest false l e = absurd cc

  counts : (p l : Bool) → eqb at (length bits / (8 * n)) ≡ p → p ≡ false
      → CountsFit h (ungrafted mmr) b (over p l) at (listed (here ∷ []))
  counts true l ep e = absurd cc
  counts false l ep e = (fits l (eqb-neq _ _ ep)).0

  pub own_bit_accepted : IsBitAccepted h b n (own_bit_proof h b n bits bit) here bit (bit_root h b n bits)
  own_bit_accepted =
      let p = eqb at (length bits / (8 * n)) in
      let l = is_aligned n (length bits) in
      record {
        below = within;
        no_inactive = refl;
        some = some_digest p l;
        one = one_digest p l;
        counts = counts p l refl;
        root_is = root_is p l refl refl;
      }
