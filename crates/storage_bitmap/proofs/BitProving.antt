-- The digests that a bitmap proves a bit with are those of its bits.
use Rattle.std.proofs.Common.{◌≡◌, ◌≢◌, ℕ, ◌+◌, ◌-◌, ◌*◌, ◌/◌, ◌%◌, ◌<◌, ◌≤◌, List, [], ◌∷◌, ◌++◌, length, map, Bool, true, false, if◌then◌else◌, eqb, eq-eqb, refl, sym, ap, ap₂, ◌∙◌, arith, subst}
use Rattle.std.proofs.lemmas.List.{map-append}
use Rattle.storage_codec.specs.Digests.{HashFunction}
use Rattle.storage_merkle.specs.Mmr.{mmr}
use Rattle.storage_merkle.specs.Hashing.{leaf_digests, node_over}
use Rattle.storage_merkle.specs.Kept.{Kept, StandsFor}
use Rattle.storage_merkle.specs.declared.merkle.bagging.Bagging.{Bagging}
use Rattle.storage_merkle.specs.Trees.{Layout, Content, ungrafted, listed}
use Rattle.storage_merkle.specs.RangeProofs.{Proof, own_proof}
use Rattle.storage_bitmap.specs.Chunks.{Retained, IsRest, bit_count, chunk, chunks_from, complete_chunks}
use Rattle.storage_bitmap.specs.BitRoots.{is_aligned, chunks_root, partial_chunk}
use Rattle.storage_bitmap.specs.BitProofs.{IsOwnBit, own_bit_digests}
use Rattle.storage_bitmap.specs.StandsForBits.{chunk_digests, chunk_nodes}
use Rattle.storage_bitmap.proofs.BitStrings.{neq-eqb}
use Rattle.storage_bitmap.proofs.BitSound.{same_proof}
use Rattle.storage_bitmap.proofs.Standing.{rest_chunk, count_of}

module _ (h : HashFunction) (b : Bagging) (n place len : ℕ) (r : Retained) (bits : List Bool) (rest : IsRest n r bits)
    (len_is : len ≡ bit_count n r) where
  all : len ≡ length bits
  all = len_is ∙ count_of n r bits rest

  abbrev inner : List (List ℕ)
  inner = (own_proof h (ungrafted mmr) b (listed (complete_chunks n bits)) 0 place (place + 1)).digests

  abbrev by : Bool → Bool → List (List ℕ)
  by p l = if p then chunks_root h b n bits ∷ [] else (if l then inner else inner ++ h (partial_chunk n bits) ∷ [])

  own_by : (p l : Bool) → eqb place (length bits / (8 * n)) ≡ p → is_aligned n (length bits) ≡ l
      → own_bit_digests h b n bits place ≡ by p l
  own_by p l ep el = ap (λ x. by x (is_aligned n (length bits))) ep ∙ ap (by p) el

  -- past the complete chunks
  pub partial_own : {D : Type 0} (text : D → List ℕ) (root : D) (items : List D) → place ≡ len / (8 * n)
      → items ≡ [] ++ root ∷ [] → text root ≡ chunks_root h b n bits → map text items ≡ own_bit_digests h b n bits place
  partial_own text root items here items_are root_is =
      ap (map text) items_are ∙ (ap (λ x. x ∷ []) root_is
      ∙ sym (own_by true (is_aligned n (length bits)) (eq-eqb _ _ (here ∙ ap (λ m. m / (8 * n)) all)) refl))

  module _ {D : Type 0} (text : D → List ℕ) (tree : Kept D) (whole : tree.leaves ≡ bit_count n r / (8 * n))
      (stands : StandsFor text mmr (chunk_nodes h) tree (chunk_digests h n bits tree.leaves))
      (start end leaves inactive : ℕ) (start_is : start ≡ place) (end_is : end ≡ place + 1) (items : List D)
      (own : (T : Layout) (content : Content) → T.shape ≡ mmr
      → StandsFor text mmr (node_over h T content.chunk) tree (leaf_digests h T 0 content.elements)
      → (record { leaves = leaves; inactive = inactive; digests = map text items })
      ≡ own_proof h T b content 0 start end)
      (before : place ≢ len / (8 * n)) where
    not_here : place ≢ length bits / (8 * n)
    not_here i = before (i ∙ ap (λ m. m / (8 * n)) (sym all))

    inner_is : map text items ≡ inner
    inner_is =
        let e : tree.leaves ≡ length bits / (8 * n) = whole ∙ ap (λ m. m / (8 * n)) (count_of n r bits rest) in
        let s : StandsFor text mmr (chunk_nodes h) tree (leaf_digests h (ungrafted mmr) 0 (complete_chunks n bits)) =
        subst (λ m. StandsFor text mmr (chunk_nodes h) tree
        (leaf_digests h (ungrafted mmr) 0 (chunks_from n bits m 0))) e stands in
        ap (λ (p : Proof). p.digests) (own (ungrafted mmr) (listed (complete_chunks n bits)) refl s)
        ∙ ap₂ (λ x y. (own_proof h (ungrafted mmr) b (listed (complete_chunks n bits)) 0 x y).digests) start_is end_is

    -- no partial chunk
    pub aligned_own : len % (8 * n) ≡ 0 → map text items ≡ own_bit_digests h b n bits place
    aligned_own zero =
        inner_is ∙ sym (own_by false true (neq-eqb _ _ not_here) (eq-eqb _ _ (ap (λ m. m % (8 * n)) (sym all) ∙ zero)))

    -- a partial chunk
    pub broken_own : (last : D) (more : List D) (bytes : List ℕ) → more ≡ items ++ last ∷ [] → text last ≡ h bytes
        → bytes ≡ chunk n r.bits (len / (8 * n) - r.pruned) → r.pruned ≤ len / (8 * n) → len % (8 * n) ≢ 0
        → map text more ≡ own_bit_digests h b n bits place
    broken_own last more bytes more_is last_is bytes_are low broken =
        let there : bytes ≡ partial_chunk n bits =
        bytes_are ∙ (rest_chunk n r bits (len / (8 * n)) rest low ∙ ap (λ m. chunk n bits (m / (8 * n))) all) in
        ap (map text) more_is
        ∙ (map-append text items (last ∷ []) ∙ (ap₂ (λ x y. x ++ y ∷ []) inner_is (last_is ∙ ap h there)
        ∙ sym (own_by false false (neq-eqb _ _ not_here) (neq-eqb _ _ (λ z. broken (ap (λ m. m % (8 * n)) all ∙ z))))))

-- the proof and the chunk are the list's own
pub own_bit : (h : HashFunction) (b : Bagging) (n bit leaves len : ℕ) (r : Retained) (bits : List Bool)
    (digests : List (List ℕ)) (bytes : List ℕ) → IsRest n r bits → leaves ≡ len → len ≡ bit_count n r → bit < len
    → r.pruned ≤ bit / (8 * n) → digests ≡ own_bit_digests h b n bits (bit / (8 * n))
    → bytes ≡ chunk n r.bits (bit / (8 * n) - r.pruned)
    → IsOwnBit h b n (record { leaves = leaves; inactive = 0; digests = digests }) bytes bit bits
own_bit h b n bit leaves len r bits digests bytes rest leaves_are len_is below low digests_are bytes_are =
    let all : len ≡ length bits = len_is ∙ count_of n r bits rest in
    record {
      proof_is = same_proof (record { leaves = leaves; inactive = 0; digests = digests }) (length bits) 0 _
          (leaves_are ∙ all) refl digests_are;
      within = omega arith;
      chunk_is = bytes_are ∙ rest_chunk n r bits (bit / (8 * n)) rest low;
    }
