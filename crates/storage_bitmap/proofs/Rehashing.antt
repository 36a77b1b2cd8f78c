-- The tree over chunks is that of the bits, and its root gives the root of the bits.
use Rattle.std.proofs.Common.{◌≡◌, ◌≢◌, ℕ, zero, suc, ◌+◌, ◌-◌, ◌*◌, ◌/◌, ◌%◌, ◌^◌, ◌<◌, ◌≤◌, List, [], ◌∷◌, ◌++◌, length, map, set, get_or, All, Bool, false, refl, sym, ap, ap₂, ◌∙◌, arith, subst, eqb, append_assoc, div-le_self, inl, inr, ◌⊎◌}
use Rattle.std.specs.List.{AllZip}
use Rattle.std.proofs.lemmas.List.{set-get_or}
use Rattle.std.proofs.lemmas.List.Elements.{All-head, All-tail}
use Rattle.std.proofs.Math.Dec.{eqb-suc-zero}
use Rattle.storage_codec.specs.Digests.{HashFunction}
use Rattle.storage_merkle.specs.Shape.{Shape, size}
use Rattle.storage_merkle.specs.Mmr.{mmr}
use Rattle.storage_merkle.specs.Laws.Mmr.{mmr_laws}
use Rattle.storage_merkle.specs.Calc.{be8}
use Rattle.storage_merkle.specs.declared.merkle.bagging.Bagging.{Bagging}
use Rattle.storage_merkle.specs.Trees.{Layout, ungrafted, listed}
use Rattle.storage_merkle.specs.Hashing.{leaf_digests, node_over, peak_digests, root_of}
use Rattle.storage_merkle.specs.Laws.Hashing.{tree_root-leaves}
use Rattle.storage_merkle.specs.Kept.{IsFirstAway, Kept, StandsBut, StandsFor, at_peaks, list_updated}
use Rattle.storage_bitmap.specs.Chunks.{chunk, chunks_from, complete_chunks, IsRest, Retained, bit_count}
use Rattle.storage_bitmap.specs.BitRoots.{partial_string, chunks_root, partial_chunk, bit_root}
use Rattle.storage_bitmap.specs.StandsForBits.{chunk_digests, chunk_nodes}
use Rattle.storage_bitmap.proofs.Standing.{rest_chunk, digest_at, digests-more, length-digests, count_of, length-chunks_from}

-- ---- where no chunk is grafted, no chunk is read

node_any : (h : HashFunction) (S : Shape) (c e : ℕ → List ℕ) (list : List (List ℕ)) (k a : ℕ)
    → node_over h (ungrafted S) c list k a ≡ node_over h (ungrafted S) e list k a
node_any h S c e list zero a = refl
node_any h S c e list (suc k) a =
    ap₂ (λ l r. h (be8 (S.position a (suc k)) ++ (l ++ r))) (node_any h S c e list k a)
    (node_any h S c e list k (a + 2 ^ k))

peaks_any : (h : HashFunction) (S : Shape) (c e : ℕ → List ℕ) (list : List (List ℕ)) (s : ℕ) (ks : List ℕ)
    → at_peaks (node_over h (ungrafted S) c list) s ks ≡ at_peaks (node_over h (ungrafted S) e list) s ks
peaks_any h S c e list s [] = refl
peaks_any h S c e list s (k ∷ ks) =
    ap₂ (λ d ds. d ∷ ds) (node_any h S c e list k s) (peaks_any h S c e list (s + 2 ^ k) ks)

stands_any : {D : Type 0} (text : D → List ℕ) (h : HashFunction) (c e : ℕ → List ℕ) (dirty : List ℕ) (tree : Kept D)
    (list : List (List ℕ))
    → StandsBut text mmr (node_over h (ungrafted mmr) c) dirty tree list
    → StandsBut text mmr (node_over h (ungrafted mmr) e) dirty tree list
stands_any text h c e dirty tree list s =
    record {
      count = s.count;
      holds = record {
        peaks = s.holds.peaks ∙ peaks_any h mmr c e list 0 (mmr.peaks tree.boundary);
        from = λ a k al lo hi clean. s.holds.from a k al lo hi clean ∙ node_any h mmr c e list k a;
      };
    }

pub to_plain : {D : Type 0} (text : D → List ℕ) (h : HashFunction) (T : Layout) (c : ℕ → List ℕ) (dirty : List ℕ)
    (tree : Kept D) (list : List (List ℕ)) → T ≡ ungrafted mmr
    → StandsBut text mmr (node_over h T c) dirty tree list → StandsBut text mmr (chunk_nodes h) dirty tree list
to_plain text h T c dirty tree list plain s = stands_any text h c (λ a. []) dirty tree list
    (subst (λ U. StandsBut text mmr (node_over h U c) dirty tree list) plain s)

pub from_plain : {D : Type 0} (text : D → List ℕ) (h : HashFunction) (T : Layout) (c : ℕ → List ℕ) (dirty : List ℕ)
    (tree : Kept D) (list : List (List ℕ)) → T ≡ ungrafted mmr
    → StandsBut text mmr (chunk_nodes h) dirty tree list → StandsBut text mmr (node_over h T c) dirty tree list
from_plain text h T c dirty tree list plain s = subst (λ U. StandsBut text mmr (node_over h U c) dirty tree list)
    (sym plain) (stands_any text h (λ a. []) c dirty tree list s)

-- ---- dirty chunks

append-nil : {A : Type 0} (xs : List A) → xs ++ [] ≡ xs
append-nil [] = refl
append-nil (x ∷ xs) = ap (λ ys. x ∷ ys) (append-nil xs)

module _ {D : Type 0} (text : D → List ℕ) (digest : ℕ → List ℕ) where
  -- the leaf of a chunk: its place and its digest
  abbrev pub IsLeafOf : ℕ → ℕ × D → Type 0
  IsLeafOf c u = (u.0 ≡ c) × (text u.1 ≡ digest c)

  places : (keys : List ℕ) (us : List (ℕ × D)) → AllZip IsLeafOf keys us → map (λ u. u.0) us ≡ keys
  places [] [] z = refl
  places [] (u ∷ us) z = absurd z
  places (k ∷ keys) [] z = absurd z
  places (k ∷ keys) (u ∷ us) z = ap₂ (λ x xs. x ∷ xs) z.0.0 (places keys us z.1)

  -- leaves that are written as they were
  unchanged : (list : List (List ℕ)) (keys : List ℕ) (us : List (ℕ × D)) → AllZip IsLeafOf keys us
      → ((j : ℕ) → (e : get_or list j [] ≡ digest j) → set list j (digest j) ≡ list)
      → All (λ c. get_or list c [] ≡ digest c) keys → list_updated list (map (λ u. (u.0, text u.1)) us) ≡ list
  unchanged list [] [] z same all = refl
  unchanged list [] (u ∷ us) z same all = absurd z
  unchanged list (k ∷ keys) [] z same all = absurd z
  unchanged list (k ∷ keys) (u ∷ us) z same all =
      let P : ℕ → Type 0 = λ c. get_or list c [] ≡ digest c in
      let e : set list u.0 (text u.1) ≡ list = ap₂ (set list) z.0.0 z.0.1 ∙ same k (All-head P k keys all) in
      ap (λ xs. list_updated xs (map (λ u. (u.0, text u.1)) us)) e ∙ unchanged list keys us z.1 same (All-tail P k keys all)

  pub leaves_there : (keys : List ℕ) (us : List (ℕ × D)) → AllZip IsLeafOf keys us → map (λ u. u.0) us ≡ keys
  leaves_there = places

-- leaves of dirty chunks are in the tree
pub none_away : {D : Type 0} (text : D → List ℕ) (digest : ℕ → List ℕ) (keys : List ℕ) (us : List (ℕ × D))
    (leaves boundary pruned away : ℕ)
    → AllZip (λ k u. (u.0 ≡ k) × (text u.1 ≡ digest k)) keys us → All (λ k. (pruned ≤ k) × (k < leaves)) keys
    → boundary ≡ pruned → IsFirstAway leaves boundary (map (λ u. u.0) us) away
    → (leaves ≤ away) ⊎ (away < boundary) → ⊥
none_away text digest keys us leaves boundary pruned away zip there low first out =
    let e : map (λ u. u.0) us ≡ keys = places text digest keys us zip in
    let within : first.index < length keys = rw e at first.within in
    let is : get_or keys first.index 0 ≡ away = rw e at first.is in
    let kept = there first.index 0 within in
    elim out [
      | inl far ↦ omega (arith, is, kept.1, far)
      | inr gone ↦ omega (arith, is, kept.0, low, gone)
    ]

pub rewritten : {D : Type 0} (text : D → List ℕ) (h : HashFunction) (T : Layout) (c : ℕ → List ℕ) (n : ℕ) (r : Retained)
    (old new : Kept D) (keys : List ℕ) (us : List (ℕ × D)) → T ≡ ungrafted mmr
    → ((list : List (List ℕ)) (dirty : List ℕ) → StandsBut text mmr (node_over h T c) (map (λ u. u.0) us ++ dirty) old
    list → StandsBut text mmr (node_over h T c) dirty new (list_updated list (map (λ u. (u.0, text u.1)) us)))
    → AllZip (λ k u. (u.0 ≡ k) × (text u.1 ≡ h (be8 (size mmr k) ++ chunk n r.bits (k - r.pruned)))) keys us
    → All (λ k. (r.pruned ≤ k) × (k < old.leaves)) keys
    → (bits : List Bool) → IsRest n r bits
    → StandsBut text mmr (chunk_nodes h) keys old (chunk_digests h n bits old.leaves)
    → StandsFor text mmr (chunk_nodes h) new (chunk_digests h n bits old.leaves)
rewritten text h T c n r old new keys us plain write zip there bits rest s =
    let list = chunk_digests h n bits old.leaves in
    let digest : ℕ → List ℕ = λ k. h (be8 (size mmr k) ++ chunk n r.bits (k - r.pruned)) in
    let dirty : map (λ u. u.0) us ++ [] ≡ keys = append-nil (map (λ u. u.0) us) ∙ places text digest keys us zip in
    let all : All (λ k. get_or list k [] ≡ digest k) keys =
    λ i d l. digest_at h n bits old.leaves (get_or keys i d) (there i d l).1 ∙ ap (λ x.
    h (be8 (size mmr (get_or keys i d)) ++ x)) (sym (rest_chunk n r bits (get_or keys i d) rest (there i d l).0)) in
    let from = from_plain text h T c (map (λ u. u.0) us ++ []) old list plain
    (subst (λ ds. StandsBut text mmr (chunk_nodes h) ds old list) (sym dirty) s) in
    let to = to_plain text h T c [] new _ plain (write list [] from) in
    subst (StandsFor text mmr (chunk_nodes h) new)
    (unchanged text digest list keys us zip (λ j e. ap (set list j) (sym e) ∙ set-get_or list j []) all) to

-- ---- a chunk that comes

pub added : {D : Type 0} (text : D → List ℕ) (h : HashFunction) (T : Layout) (c : ℕ → List ℕ) (n : ℕ) (r : Retained)
    (old new : Kept D) → T ≡ ungrafted mmr
    → ((list : List (List ℕ)) (dirty : List ℕ) → StandsBut text mmr (node_over h T c) dirty old list
    → StandsBut text mmr (node_over h T c) dirty new
    (list ++ h (be8 (size mmr old.leaves) ++ chunk n r.bits (old.leaves - r.pruned)) ∷ []))
    → r.pruned ≤ old.leaves → new.leaves ≡ old.leaves + 1 → (bits : List Bool) → IsRest n r bits
    → StandsFor text mmr (chunk_nodes h) old (chunk_digests h n bits old.leaves)
    → StandsFor text mmr (chunk_nodes h) new (chunk_digests h n bits new.leaves)
added text h T c n r old new plain grown low more bits rest s =
    let list = chunk_digests h n bits old.leaves in
    let to = to_plain text h T c [] new _ plain (grown list [] (from_plain text h T c [] old list plain s)) in
    let e : list ++ h (be8 (size mmr old.leaves) ++ chunk n r.bits (old.leaves - r.pruned)) ∷ []
    ≡ chunk_digests h n bits new.leaves =
    ap (λ x. list ++ h (be8 (size mmr old.leaves) ++ x) ∷ []) (rest_chunk n r bits old.leaves rest low)
    ∙ sym (digests-more h n bits old.leaves) ∙ ap (chunk_digests h n bits) (sym more) in
    subst (StandsFor text mmr (chunk_nodes h) new) e to

-- ---- the root

pub tree_rooted : {D : Type 0} (text : D → List ℕ) (h : HashFunction) (T : Layout) (c : ℕ → List ℕ) (b : Bagging)
    (n : ℕ) (r : Retained) (tree : Kept D) (root : List ℕ) → T ≡ ungrafted mmr
    → ((list : List (List ℕ)) → StandsFor text mmr (node_over h T c) tree list
    → root ≡ root_of h T b (length list) 0 (peak_digests h T c list (length list)))
    → tree.leaves ≡ bit_count n r / (8 * n) → (bits : List Bool) → IsRest n r bits
    → StandsFor text mmr (chunk_nodes h) tree (chunk_digests h n bits tree.leaves) → root ≡ chunks_root h b n bits
tree_rooted text h T c b n r tree root plain is whole bits rest s =
    let list = chunk_digests h n bits tree.leaves in
    let U = ungrafted mmr in
    let e : tree.leaves ≡ length bits / (8 * n) = whole ∙ ap (λ m. m / (8 * n)) (count_of n r bits rest) in
    let all : list ≡ leaf_digests h U 0 (complete_chunks n bits) = ap (λ m. leaf_digests h U 0 (chunks_from n bits m 0)) e in
    let len : length list ≡ length (complete_chunks n bits) =
    length-digests h n bits tree.leaves ∙ e ∙ sym (length-chunks_from n bits (length bits / (8 * n)) 0) in
    is list (from_plain text h T c [] tree list plain s)
    ∙ ap (λ V. root_of h V b (length list) 0 (peak_digests h V c list (length list))) plain
    ∙ ap (root_of h U b (length list) 0) (peaks_any h mmr c (λ a. []) list 0 (mmr.peaks (length list)))
    ∙ ap₂ (λ xs m. root_of h U b m 0 (peak_digests h U (λ a. []) xs m)) all len
    ∙ sym (tree_root-leaves h U mmr_laws b (listed (complete_chunks n bits)) 0)

pub aligned_root : (h : HashFunction) (b : Bagging) (n : ℕ) (bits : List Bool) → length bits % (8 * n) ≡ 0
    → chunks_root h b n bits ≡ bit_root h b n bits
aligned_root h b n bits e = rw e refl

unaligned_root : (h : HashFunction) (b : Bagging) (n : ℕ) (bits : List Bool) → length bits % (8 * n) ≢ 0
    → h (partial_string (chunks_root h b n bits) (length bits) (h (partial_chunk n bits))) ≡ bit_root h b n bits
unaligned_root h b n bits broken = rw (not_zero (length bits % (8 * n)) broken) refl where
  not_zero : (m : ℕ) → m ≢ 0 → eqb m 0 ≡ false
  not_zero zero ne = absurd (ne refl)
  not_zero (suc m) ne = eqb-suc-zero m

pub partial_rooted : (h : HashFunction) (b : Bagging) (n : ℕ) (r : Retained) (bits : List Bool)
    (x root last bytes : List ℕ) (len : ℕ) → x ≡ h (partial_string root len last) → last ≡ h bytes → len ≡ bit_count n r
    → bytes ≡ chunk n r.bits (len / (8 * n) - r.pruned) → (len % (8 * n) ≡ 0 → ⊥) → r.pruned ≤ bit_count n r / (8 * n)
    → IsRest n r bits → root ≡ chunks_root h b n bits → x ≡ bit_root h b n bits
partial_rooted h b n r bits x root last bytes len x_is last_is len_is bytes_are broken low rest root_is =
    let e : len ≡ length bits = len_is ∙ count_of n r bits rest in
    let at : len / (8 * n) ≡ bit_count n r / (8 * n) = ap (λ m. m / (8 * n)) len_is in
    let there : bytes ≡ partial_chunk n bits = bytes_are
    ∙ rest_chunk n r bits (len / (8 * n)) rest (omega (arith, at, low)) ∙ ap (λ m. chunk n bits (m / (8 * n))) e in
    let known : last ≡ h (partial_chunk n bits) = last_is ∙ ap h there in
    x_is ∙ ap₂ (λ y z. h (partial_string y len z)) root_is known
    ∙ ap (λ m. h (partial_string (chunks_root h b n bits) m (h (partial_chunk n bits)))) e
    ∙ unaligned_root h b n bits (λ z. broken (ap (λ m. m % (8 * n)) e ∙ z))

-- ---- a list that is zipped item by item

-- what was zipped so far, before what is left
pub record ZippedTo {A B : Type 0} (R : A → B → Type 0) (all left : List A) (ys : List B) : Type 0 where
  pub done : List A
  pub all_are : all ≡ done ++ left
  pub zipped : AllZip R done ys

pub zip_start : {A B : Type 0} (R : A → B → Type 0) (all left : List A) (ys : List B) → left ≡ all → ys ≡ []
    → ZippedTo R all left ys
zip_start R all left ys e f = record { done = []; all_are = sym e; zipped = rw f tt }

pub zip_more : {A B : Type 0} (R : A → B → Type 0) (all left next : List A) (ys more : List B) (x : A) (y : B)
    → left ≡ x ∷ next → more ≡ ys ++ y ∷ [] → R x y → ZippedTo R all left ys → ZippedTo R all next more
zip_more R all left next ys more x y e f r z =
    record {
      done = z.done ++ x ∷ [];
      all_are = z.all_are ∙ ap (λ xs. z.done ++ xs) e ∙ sym (append_assoc z.done (x ∷ []) next);
      zipped = rw f (push R z.done ys x y z.zipped r);
    } where
      push : {A B : Type 0} (R : A → B → Type 0) (xs : List A) (ys : List B) (x : A) (y : B) → AllZip R xs ys → R x y
          → AllZip R (xs ++ x ∷ []) (ys ++ y ∷ [])
      push R [] [] x y z r = (r, tt)
      push R [] (b ∷ ys) x y z r = absurd z
      push R (a ∷ xs) [] x y z r = absurd z
      push R (a ∷ xs) (b ∷ ys) x y z r = (z.0, push R xs ys x y z.1 r)

pub zip_end : {A B : Type 0} (R : A → B → Type 0) (all left : List A) (ys : List B) → left ≡ [] → ZippedTo R all left ys
    → AllZip R all ys
zip_end R all left ys e z =
    subst (λ xs. AllZip R xs ys) (sym (z.all_are ∙ ap (λ xs. z.done ++ xs) e ∙ append-nil z.done)) z.zipped

-- a bitmap has few chunks
pub chunks_fit : (n count : ℕ) → count ≤ 2 ^ 62 → count / (8 * n) ≤ 2 ^ 62
chunks_fit n count few = omega (arith, div-le_self count (8 * n))
