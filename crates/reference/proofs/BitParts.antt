-- The check of a bit, one step each.
use Rattle.std.proofs.Common.{◌≡◌, ◌≢◌, ℕ, suc, ◌+◌, ◌-◌, ◌*◌, ◌/◌, ◌%◌, ◌<◌, List, [], ◌∷◌, ◌++◌, length, take, get_or, Bool, true, false, eqb, sym, ap, ap₂, ◌∙◌, arith, Option, Some, None, option_map, Result, append_assoc, length-append}
use Rattle.std.specs.Result.{IfOk}
use Rattle.std.proofs.lemmas.Result.{IfOk-weaker}
use Rattle.std.proofs.Math.Seq.{take-append_seam, get_or-append_seam}
use Rattle.std.proofs.lemmas.Bool.{ne_eqb}
use Rattle.std.proofs.lemmas.List.{append-nil}
use Rattle.std.proofs.lemmas.Nat.{div-add-mod'}
use Rattle.storage_codec.specs.Digests.{HashFunction}
use Rattle.storage_merkle.specs.Mmr.{mmr}
use Rattle.storage_merkle.specs.declared.merkle.bagging.Bagging.{Bagging}
use Rattle.storage_merkle.specs.Trees.{ungrafted, listed}
use Rattle.storage_merkle.specs.RangeProofs.{Proof, own_proof}
use Rattle.storage_merkle.specs.Checks.{IsRecomputed}
use Rattle.storage_bitmap.specs.BitProofs.{own_bit_digests}
use Rattle.storage_bitmap.specs.BitRoots.{partial_chunk, partial_string}
use Rattle.storage_bitmap.specs.BitParts.{IsBitComputed}
use Rattle.storage_bitmap.specs.Chunks.{chunk, chunks_from, complete_chunks}

-- a bit below a number of bits that fill their chunks is in a complete one
before : (x y m : ℕ) → x < y → y % m ≡ 0 → eqb (x / m) (y / m) ≡ false
before x y m l whole = ne_eqb (x / m) (y / m) (λ e.
    let a : x / m * m + x % m ≡ x = div-add-mod' x m in
    let b : y / m * m + y % m ≡ y = div-add-mod' y m in
    let c : x / m * m ≡ y / m * m = ap (λ z. z * m) e in
    omega arith)

module _ (h : HashFunction) (b : Bagging) (n : ℕ) (proof : Proof) (bytes : List ℕ) (bit : ℕ) where
  abbrev over : List (List ℕ) → Proof
  over ds = record { leaves = proof.leaves / (8 * n); inactive = 0; digests = ds }

  -- the bits fill their chunks
  pub aligned_root : bit < proof.leaves → proof.leaves % (8 * n) ≡ 0 → (o : Option (List ℕ))
      → IsRecomputed h (ungrafted mmr) b (over proof.digests) (bit / (8 * n)) (listed (bytes ∷ [])) o
      → IsBitComputed h b n proof bytes bit o
  aligned_root below whole None r = λ ok.
      r (rw whole at (ok.counts (before bit proof.leaves (8 * n) below whole)))
  aligned_root below whole (Some x) r =
      let apart = before bit proof.leaves (8 * n) below whole in (
        record {
          some = λ e. absurd (let f : true ≡ false = rw whole at e in cc);
          one = λ e. absurd (let f : true ≡ false = sym e ∙ apart in cc);
          counts = λ e. rw whole r.0;
        },
        rw whole r.1,
      )

  -- the bits do not fill their chunks, and the bit is in a complete one
  pub between_root : proof.leaves % (8 * n) ≢ 0 → bit / (8 * n) ≢ proof.leaves / (8 * n) → (ds : List (List ℕ))
      (last x : List ℕ) → proof.digests ≡ ds ++ last ∷ []
      → IsRecomputed h (ungrafted mmr) b (over ds) (bit / (8 * n)) (listed (bytes ∷ [])) (Some x)
      → IsBitComputed h b n proof bytes bit (Some (h (partial_string x proof.leaves last)))
  between_root broken apart ds last x digests r =
      let unaligned = ne_eqb (proof.leaves % (8 * n)) 0 broken in
      let complete_chunks = ne_eqb (bit / (8 * n)) (proof.leaves / (8 * n)) apart in
      let all : length proof.digests ≡ length (ds ++ last ∷ []) = ap length digests in
      let count : length proof.digests - 1 ≡ length ds = omega (arith, all, length-append ds (last ∷ [])) in
      let front : take (length proof.digests - 1) proof.digests ≡ ds =
      rw (count, digests) (take-append_seam ds (last ∷ [])) in
      let end : get_or proof.digests (length proof.digests - 1) [] ≡ last =
      rw (count, digests) (get_or-append_seam ds last [] []) in (
        record {
          some = λ e none. let z : length (ds ++ last ∷ []) ≡ 0 = ap length (sym digests ∙ none) in
              omega (arith, length-append ds (last ∷ []));
          one = λ e. absurd (let f : true ≡ false = sym e ∙ complete_chunks in cc);
          counts = λ e. rw (unaligned, front) r.0;
        },
        rw (unaligned, complete_chunks, end, front) (ap (λ y. h (partial_string y proof.leaves last)) r.1),
      )

  -- the same from numbers that are equal
  pub aligned_from : {D E : Type 0} (text : D → List ℕ) (found : Result (Option D) E) (len m c p : ℕ)
      (ds : List (List ℕ)) → bit < proof.leaves → len ≡ proof.leaves → m ≡ 8 * n → len % m ≡ 0 → c ≡ len / (8 * n)
      → p ≡ bit / (8 * n) → ds ≡ proof.digests
      → IfOk found (λ o. IsRecomputed h (ungrafted mmr) b (record { leaves = c; inactive = 0; digests = ds }) p
      (listed (bytes ∷ [])) (option_map text o))
      → IfOk found (λ o. IsBitComputed h b n proof bytes bit (option_map text o))
  aligned_from text found len m c p ds below el em whole ec ep ed r =
      let full : proof.leaves % (8 * n) ≡ 0 = ap₂ (λ x y. x % y) (sym el) (sym em) ∙ whole in
      IfOk-weaker found (λ o. IsRecomputed h (ungrafted mmr) b (record { leaves = c; inactive = 0; digests = ds }) p
      (listed (bytes ∷ [])) (option_map text o)) (λ o. IsBitComputed h b n proof bytes bit (option_map text o))
      (λ o x. aligned_root below full (option_map text o) (rw (ed, ep, ec, el) at x)) r

  pub between_from : (len m c p : ℕ) (ds : List (List ℕ)) (last x root : List ℕ) → len ≡ proof.leaves → m ≡ 8 * n
      → len % m ≢ 0 → c ≡ len / (8 * n) → p ≡ bit / (8 * n) → p ≢ c → proof.digests ≡ ds ++ last ∷ []
      → IsRecomputed h (ungrafted mmr) b (record { leaves = c; inactive = 0; digests = ds }) p
      (listed (bytes ∷ [])) (Some x)
      → root ≡ h (partial_string x len last) → IsBitComputed h b n proof bytes bit (Some root)
  between_from len m c p ds last x root el em broken ec ep apart digests r e =
      rw (e, el) (between_root (λ z. broken (ap₂ (λ x y. x % y) el em ∙ z))
      (λ z. apart (ep ∙ z ∙ sym (ec ∙ ap (λ q. q / (8 * n)) el))) ds last x digests (rw (ep, ec, el) at r))

-- the digests that bits themselves have for a complete chunk, from the own proof of the chunk in the tree over the chunks
module _ (h : HashFunction) (b : Bagging) (n : ℕ) (bits : List Bool) (m k place : ℕ) (chunks ds : List (List ℕ)) where
  pub own_aligned : m ≡ 8 * n → k ≡ 8 * n → place ≢ length bits / m → length bits % k ≡ 0 → chunks ≡ complete_chunks n bits
      → ds ≡ (own_proof h (ungrafted mmr) b (listed chunks) 0 place (place + 1)).digests
      → ds ≡ own_bit_digests h b n bits place
  own_aligned em ek apart whole all own =
      let elsewhere : eqb place (length bits / (8 * n)) ≡ false = ne_eqb place (length bits / (8 * n))
      (λ e. apart (e ∙ ap (λ q. length bits / q) (sym em))) in
      let full : length bits % (8 * n) ≡ 0 = ap (λ q. length bits % q) (sym ek) ∙ whole in
      rw (elsewhere, full) (own ∙ ap
      (λ (cs : List (List ℕ)). (own_proof h (ungrafted mmr) b (listed cs) 0 place (place + 1)).digests) all)

  pub own_unaligned : m ≡ 8 * n → k ≡ 8 * n → place ≢ length bits / m → length bits % k ≢ 0 → chunks ≡ complete_chunks n bits
      → ds ≡ (own_proof h (ungrafted mmr) b (listed chunks) 0 place (place + 1)).digests
      → (es : List (List ℕ)) (d : List ℕ) → d ≡ h (partial_chunk n bits) → es ≡ ds ++ d ∷ []
      → es ≡ own_bit_digests h b n bits place
  own_unaligned em ek apart broken all own es d last push =
      let elsewhere : eqb place (length bits / (8 * n)) ≡ false = ne_eqb place (length bits / (8 * n))
      (λ e. apart (e ∙ ap (λ q. length bits / q) (sym em))) in
      let unaligned : eqb (length bits % (8 * n)) 0 ≡ false = ne_eqb (length bits % (8 * n)) 0
      (λ e. broken (ap (λ q. length bits % q) ek ∙ e)) in
      rw (elsewhere, unaligned) (push ∙ ap₂ (λ (xs : List (List ℕ)) (x : List ℕ). xs ++ x ∷ []) (own ∙ ap
      (λ (cs : List (List ℕ)). (own_proof h (ungrafted mmr) b (listed cs) 0 place (place + 1)).digests) all) last)

-- chunks, one more or none
pub chunks_none : (n : ℕ) (bits : List Bool) (c j : ℕ) (xs : List (List ℕ)) → c ≡ 0 → xs ≡ xs ++ chunks_from n bits c j
unfolding chunks_from
chunks_none n bits c j xs e = rw e (sym (append-nil xs))

pub chunks_more : (n : ℕ) (bits : List Bool) (k c j i : ℕ) (xs ys zs : List (List ℕ)) (x : List ℕ) → c ≡ suc k
    → i ≡ suc j → x ≡ chunk n bits j → ys ≡ xs ++ x ∷ [] → zs ≡ ys ++ chunks_from n bits k i
    → zs ≡ xs ++ chunks_from n bits c j
unfolding chunks_from
chunks_more n bits k c j i xs ys zs x s next one push more =
    rw s (more ∙ rw (push, next, one) (append_assoc xs (chunk n bits j ∷ []) (chunks_from n bits k (suc j))))
