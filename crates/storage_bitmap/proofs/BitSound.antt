-- An accepted bit proof is the list's own, or two strings cross.
use Rattle.std.proofs.Common.{◌≡◌, ◌≢◌, ℕ, ◌+◌, ◌-◌, ◌*◌, ◌/◌, ◌<◌, ◌≤◌, ◌^◌, List, [], ◌∷◌, ◌++◌, length, take, get_or, Bool, true, false, if◌then◌else◌, eqb, eq-eqb, eqb-true, ◌⊎◌, inl, inr, refl, sym, ap, ◌∙◌, arith, add-zero}
use Rattle.std.proofs.Math.Nat.{div-le_self}
use Rattle.std.proofs.lemmas.List.Elements.{Contains-append_right}
use Rattle.storage_codec.specs.Digests.{HashFunction, IsSized, Cross}
use Rattle.storage_merkle.specs.Mmr.{mmr}
use Rattle.storage_merkle.specs.Laws.Mmr.{mmr_laws}
use Rattle.storage_merkle.specs.Calc.{be8}
use Rattle.storage_merkle.specs.Laws.Calc.{heads, cross_wider, split_append, be8_length, be8_same}
use Rattle.storage_merkle.specs.declared.merkle.bagging.Bagging.{Bagging}
use Rattle.storage_merkle.specs.Trees.{Content, ungrafted, listed, plain, tree_string, tree_strings}
use Rattle.storage_merkle.specs.RangeProofs.{Proof, CountsFit, check_values, check_string, check_strings, range_sites, own_proof, AreDigests}
use Rattle.storage_merkle.specs.Soundness.{RangeProofsAreSound}
use Rattle.storage_bitmap.specs.Chunks.{chunk, complete_chunks}
use Rattle.storage_bitmap.specs.BitRoots.{partial_string, is_aligned, chunks_root, partial_chunk, unaligned_string, bit_root, bit_strings}
use Rattle.storage_bitmap.specs.BitProofs.{last_digest, IsBitAccepted, IsOwnBit, bit_check_strings}
use Rattle.storage_bitmap.proofs.BitStrings.{neq-eqb, eqb-neq, length_chunks, chunks_at, look_up-wide, root_length, partial_length, apart_lengths, are_taken, is_digest, some_length, front_last, lone, same_multiple, before_end}

abbrev proof_of : ℕ → ℕ → List (List ℕ) → Proof
proof_of l i ds = record { leaves = l; inactive = i; digests = ds }

pub same_proof : (p : Proof) (l i : ℕ) (ds : List (List ℕ)) → p.leaves ≡ l → p.inactive ≡ i → p.digests ≡ ds
    → p ≡ proof_of l i ds
same_proof p l i ds e f g =
    ap (λ x. proof_of x p.inactive p.digests) e ∙ (ap (λ x. proof_of l x p.digests) f ∙ ap (λ x. proof_of l i x) g)

module _ (range_sound : RangeProofsAreSound) (d : ℕ) (h : HashFunction) (size : (d ≡ 32) ⊎ (d ≡ 64))
    (sized : IsSized d h) (b : Bagging) (n : ℕ) (some : 0 < n) (proof : Proof) (bytes : List ℕ) (bit : ℕ)
    (wide : AreDigests d proof.digests) (fits : proof.leaves < 2 ^ 64) (bits : List Bool)
    (few : length bits ≤ 2 ^ 62) where
  abbrev at : ℕ
  at = bit / (8 * n)

  abbrev C : List (List ℕ)
  C = complete_chunks n bits

  abbrev root : List ℕ
  root = chunks_root h b n bits

  abbrev last : List ℕ
  last = partial_chunk n bits

  abbrev broken : List ℕ
  broken = unaligned_string h b n bits

  abbrev tree : List (List ℕ)
  tree = tree_strings h (ungrafted mmr) b (listed C) 0

  let_length : length C ≡ length bits / (8 * n)
  let_length = length_chunks n bits (length bits / (8 * n)) 0

  few_chunks : length C ≤ 2 ^ 62
  few_chunks = omega (arith, let_length, div-le_self (length bits) (8 * n))

  -- the check of the chunk in the tree, where the bits are aligned or not
  abbrev front : Bool → List (List ℕ)
  front a = if a then proof.digests else take (length proof.digests - 1) proof.digests

  abbrev over : Bool → Proof
  over a = record { leaves = proof.leaves / (8 * n); inactive = 0; digests = front a }

  abbrev claim : Content
  claim = listed (bytes ∷ [])

  abbrev found : Bool → List ℕ
  found a = check_string h (ungrafted mmr) b (over a) at claim

  abbrev used : Bool → List (List ℕ)
  used a = check_strings h (ungrafted mmr) b (over a) at claim

  abbrev end : List ℕ
  end = last_digest h b n proof bytes bit

  abbrev computed : Bool → Bool → List ℕ
  computed a p = if p then partial_string end proof.leaves (h bytes) else partial_string (h (found a)) proof.leaves end

  front_wide : (a : Bool) → AreDigests d (front a)
  front_wide true = wide
  front_wide false = are_taken d (length proof.digests - 1) proof.digests wide

  found_length : (a : Bool) → (length (found a) ≡ 18) ⊎ (length (found a) ≡ 18 + d)
  found_length a = root_length d h (check_values h (ungrafted mmr) b (over a) at claim) (ungrafted mmr) b _ 0 _ sized
      (look_up-wide d (h []) (sized []) (range_sites h (ungrafted mmr) b (over a) at claim) (front a) (front_wide a))

  tree_length : (length (tree_string h (ungrafted mmr) b (listed C) 0) ≡ 18)
      ⊎ (length (tree_string h (ungrafted mmr) b (listed C) 0) ≡ 18 + d)
  tree_length = root_length d h (plain h (listed C)) (ungrafted mmr) b _ 0 _ sized (λ s. sized [])

  broken_length : length broken ≡ d + 8 + d
  broken_length = partial_length root (length bits) (h last)
      ∙ (ap (λ m. m + 8 + length (h last)) (sized _) ∙ ap (λ m. d + 8 + m) (sized last))

  -- what the check of the chunk in the tree gives
  record IsTreePart (a : Bool) : Type 0 where
    leaves : proof.leaves / (8 * n) ≡ length bits / (8 * n)
    bytes_are : bytes ≡ chunk n bits at
    digests : front a ≡ (own_proof h (ungrafted mmr) b (listed C) 0 at (at + 1)).digests

  tree_part : (a : Bool) → CountsFit h (ungrafted mmr) b (over a) at claim → h (found a) ≡ root
      → IsTreePart a ⊎ Cross h (used a) tree
  tree_part a ok same =
      elim (range_sound d 0 h sized (omega arith) mmr mmr_laws mmr.position (λ m x k. false) b (over a) at claim (front_wide a)
      (λ x k o g m i c. refl) (listed C) 0 (λ x k o g m i c. refl) few_chunks (omega arith) (inl (ok, same))) [
        | inl o ↦
            let le : proof.leaves / (8 * n) ≡ length C = ap (λ (p : Proof). p.leaves) o.proof_is in
            let within : at + 1 ≤ length C = o.elements_are.within in
            inl (record {
              leaves = le ∙ let_length;
              bytes_are = o.elements_are.each 0 (omega arith) ∙ (ap (λ i. get_or C i []) (add-zero at)
                  ∙ (chunks_at n bits (length bits / (8 * n)) 0 at (omega (arith, let_length))
                  ∙ ap (chunk n bits) (let e : 0 + at ≡ at = omega arith in e)));
              digests = ap (λ (p : Proof). p.digests) o.proof_is;
            })
        | inr c ↦ inr c
      ]

  -- two partial strings
  record SamePartial (first : List ℕ) (second : List ℕ) : Type 0 where
    root_is : first ≡ root
    leaves : proof.leaves ≡ length bits
    last_is : second ≡ h last

  same_partial : (first second : List ℕ) → length first ≡ d → partial_string first proof.leaves second ≡ broken
      → SamePartial first second
  same_partial first second wide_first e =
      let one = split_append first (be8 proof.leaves ++ second) root (be8 (length bits) ++ h last)
      (wide_first ∙ sym (sized _)) e in
      let two = split_append (be8 proof.leaves) second (be8 (length bits)) (h last)
      (be8_length _ ∙ sym (be8_length _)) one.1 in
      record { root_is = one.0; leaves = be8_same _ _ fits (omega arith) two.0; last_is = two.1 }

  inner : List (List ℕ)
  inner = (own_proof h (ungrafted mmr) b (listed C) 0 at (at + 1)).digests

  -- the list's own digests
  abbrev own_digests : Bool → Bool → List (List ℕ)
  own_digests p l = if p then root ∷ [] else (if l then (own_proof h (ungrafted mmr) b (listed C) 0 at (at + 1)).digests
      else (own_proof h (ungrafted mmr) b (listed C) 0 at (at + 1)).digests ++ h last ∷ [])

  module _ (below : bit < proof.leaves) (no_inactive : proof.inactive ≡ 0) where
    own_bit : (p l : Bool) → proof.leaves ≡ length bits → eqb at (length bits / (8 * n)) ≡ p
        → is_aligned n (length bits) ≡ l → bytes ≡ chunk n bits at → proof.digests ≡ own_digests p l
        → IsOwnBit h b n proof bytes bit bits
    own_bit p l le ep el chunk_is digests =
        record {
          proof_is = same_proof proof (length bits) 0 _ le no_inactive (digests
              ∙ sym (ap (λ x. own_digests x (is_aligned n (length bits))) ep ∙ ap (λ x. own_digests p x) el));
          within = omega arith;
          chunk_is = chunk_is;
        }

    abbrev Outcome : Bool → Bool → Bool → Type 0
    Outcome a p l = IsOwnBit h b n proof bytes bit bits ⊎ Cross h (if a then used a
        else computed a p ∷ (if p then bytes ∷ [] else used a)) (if l then tree else broken ∷ (last ∷ tree))

    -- the bits of the proof are aligned
    aligned : (l : Bool) → is_aligned n proof.leaves ≡ true → is_aligned n (length bits) ≡ l → CountsFit h
        (ungrafted mmr) b (over true) at claim → h (found true) ≡ (if l then root else h broken) → Outcome true false l
    aligned true ea el ok same =
        elim (tree_part true ok same) [
          | inl t ↦
              let le : proof.leaves ≡ length bits =
              same_multiple proof.leaves (length bits) (8 * n) t.leaves (eqb-true _ _ ea ∙ sym (eqb-true _ _ el)) in
              inl (own_bit false true le (neq-eqb _ _
              (before_end bit (length bits) (8 * n) (omega arith) (eqb-true _ _ el))) el t.bytes_are t.digests)
          | inr c ↦ inr c
        ]
    aligned false ea el ok same =
        elim (heads h (found true) broken _ (last ∷ tree) same) [
          | inl s ↦ absurd (apart_lengths d _ _ size (found_length true) broken_length (ap length s))
          | inr c ↦ inr c
        ]

    -- the bit is in the partial chunk
    partial : (l : Bool) → eqb at (proof.leaves / (8 * n)) ≡ true → is_aligned n (length bits) ≡ l
        → length proof.digests ≡ 1 → h (computed false true) ≡ (if l then root else h broken) → Outcome false true l
    partial true ep el one same =
        elim (heads h (computed false true) (tree_string h (ungrafted mmr) b (listed C) 0) (bytes ∷ []) _ same) [
          | inl s ↦ absurd (apart_lengths d _ _ size tree_length (partial_length end proof.leaves (h bytes)
              ∙ (ap (λ m. m + 8 + length (h bytes)) (is_digest d _ proof.digests wide (omega arith))
              ∙ ap (λ m. d + 8 + m) (sized bytes))) (ap length (sym s)))
          | inr c ↦ inr c
        ]
    partial false ep el one same =
        elim (heads h (computed false true) broken (bytes ∷ []) (last ∷ tree) same) [
          | inr c ↦ inr c
          | inl s ↦
              let p = same_partial end (h bytes) (is_digest d _ proof.digests wide (omega arith)) s in
              let here : at ≡ length bits / (8 * n) = eqb-true _ _ ep ∙ ap (λ m. m / (8 * n)) p.leaves in
              elim (heads h bytes last [] tree p.last_is) [
                | inl t ↦ inl (own_bit true false p.leaves (eq-eqb _ _ here) el (t ∙ ap (chunk n bits) (sym here))
                    (lone proof.digests one ∙ ap (λ x. x ∷ []) p.root_is))
                | inr c ↦ inr (cross_wider (λ x m. Contains-append_right (computed false true ∷ []) (bytes ∷ []) x m)
                    (λ x m. Contains-append_right (broken ∷ []) (last ∷ tree) x m) c)
              ]
        ]

    -- the bit is in a complete chunk, and there is a partial one
    between : (l : Bool) → eqb at (proof.leaves / (8 * n)) ≡ false → is_aligned n (length bits) ≡ l → proof.digests ≢ []
        → CountsFit h (ungrafted mmr) b (over false) at claim
        → h (computed false false) ≡ (if l then root else h broken) → Outcome false false l
    between true ep el ne ok same =
        let there = some_length proof.digests ne in
        elim (heads h (computed false false) (tree_string h (ungrafted mmr) b (listed C) 0) (used false) _ same) [
          | inl s ↦ absurd (apart_lengths d _ _ size tree_length (partial_length (h (found false)) proof.leaves end
              ∙ (ap (λ m. m + 8 + length end) (sized _)
              ∙ ap (λ m. d + 8 + m) (is_digest d _ proof.digests wide (omega arith)))) (ap length (sym s)))
          | inr c ↦ inr c
        ]
    between false ep el ne ok same =
        let there = some_length proof.digests ne in
        elim (heads h (computed false false) broken (used false) (last ∷ tree) same) [
          | inr c ↦ inr c
          | inl s ↦
              let p = same_partial (h (found false)) end (sized _) s in
              elim (tree_part false ok p.root_is) [
                | inl t ↦
                    let before : at ≢ length bits / (8 * n) =
                    λ i. eqb-neq _ _ ep (i ∙ ap (λ m. m / (8 * n)) (sym p.leaves)) in
                    inl (own_bit false false p.leaves (neq-eqb _ _ before) el t.bytes_are
                    (front_last proof.digests there ∙ (ap (λ ds. ds ++ end ∷ []) t.digests ∙ ap
                    (λ x. (own_proof h (ungrafted mmr) b (listed C) 0 at (at + 1)).digests ++ x ∷ []) p.last_is)))
                | inr c ↦ inr (cross_wider (λ x m. Contains-append_right (computed false false ∷ []) (used false) x m)
                    (λ x m. Contains-append_right (broken ∷ (last ∷ [])) tree x m) c)
              ]
        ]

    each : (a p l : Bool) → is_aligned n proof.leaves ≡ a → eqb at (proof.leaves / (8 * n)) ≡ p
        → is_aligned n (length bits) ≡ l →
        (a ≡ false → proof.digests ≢ []) → (p ≡ true → length proof.digests ≡ 1)
        → (p ≡ false → CountsFit h (ungrafted mmr) b (over a) at claim) →
        (if a then h (found a) else h (computed a p)) ≡ (if l then root else h broken) → Outcome a p l
    each true true l ea ep el ne one ok same =
        absurd (before_end bit proof.leaves (8 * n) below (eqb-true _ _ ea) (eqb-true _ _ ep))
    each true false l ea ep el ne one ok same = aligned l ea el (ok refl) same
    each false true l ea ep el ne one ok same = partial l ep el (one refl) same
    each false false l ea ep el ne one ok same = between l ep el (ne refl) (ok refl) same

  pub bits_sound : IsBitAccepted h b n proof bytes bit (bit_root h b n bits)
      → IsOwnBit h b n proof bytes bit bits ⊎ Cross h (bit_check_strings h b n proof bytes bit) (bit_strings h b n bits)
  bits_sound ok =
      each ok.below ok.no_inactive (is_aligned n proof.leaves) (eqb at (proof.leaves / (8 * n)))
      (is_aligned n (length bits)) refl refl refl ok.some ok.one ok.counts ok.root_is
