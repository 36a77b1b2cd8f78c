-- For which lists of bits a bitmap stands, step by step.
use Rattle.std.proofs.Common.{◌≡◌, ◌≢◌, ℕ, zero, suc, ◌+◌, ◌-◌, ◌*◌, ◌/◌, ◌^◌, ◌<◌, ◌≤◌, List, [], ◌∷◌, ◌++◌, length, map, take, drop, set, get_or, Contains, Bool, false, refl, sym, ap, ap₂, ◌∙◌, arith, subst, inl, inr, ◌⊎◌, ⊎_elim, max, get_or-drop, get_or-set_other, length-set, length-drop, add-zero, zero-add, div-le_self, slice_index}
use Rattle.std.proofs.Math.Seq.{take-length}
use Rattle.std.proofs.Math.ListN.{drop_of_length-le}
use Rattle.std.proofs.lemmas.List.{length-take-le, get_or-take, drop-drop, get_or_append_left, length-append, drop-append-le, length-map}
use Rattle.std.proofs.lemmas.Nat.{le-div, mul-le, div-mul-add}
use Rattle.std.proofs.lemmas.Bool.{cases_lt}
use Rattle.std.proofs.Math.Nat.{div-mul-le_self}
use Rattle.storage_codec.specs.Digests.{HashFunction}
use Rattle.storage_merkle.specs.Shape.{size}
use Rattle.storage_merkle.specs.Mmr.{mmr}
use Rattle.storage_merkle.specs.Laws.Mmr.{mmr_laws}
use Rattle.storage_merkle.specs.Calc.{be8}
use Rattle.storage_merkle.specs.Trees.{ungrafted}
use Rattle.storage_merkle.specs.Hashing.{leaf_digests}
use Rattle.storage_merkle.specs.Laws.Hashing.{length-leaf_digests, get-leaf_digests, leaf_digests-append}
use Rattle.storage_merkle.specs.Kept.{Kept, NodesOver, StandsBut, StandsFor, at_peaks, pins}
use Rattle.storage_merkle.specs.Laws.Kept.{node_same, peaks_same, length_at_peaks}
use Rattle.storage_merkle.specs.declared.merkle.bagging.Bagging.{Bagging}
use Rattle.storage_bitmap.specs.Chunks.{IsChunkSize, digit_of, number_of, packed_bytes, chunk, chunks_from, IsRest, Retained, bit_count, pruned_to}
use Rattle.storage_merkle.specs.declared.merkle.error.Error.{Error}
use Rattle.storage_merkle.specs.declared.merkle.error.Error.TheVariants.{LocationOverflow, MissingNode, Memory}
use Rattle.storage_bitmap.specs.BitRoots.{bit_root}
use Rattle.storage_bitmap.specs.StandsForBits.{Authenticated, IsWholeMap, StandsForBits, StandsMerkleized, IsPrunedState, IsBitmapRefused, chunk_digests, chunk_nodes}

-- ---- chunks read their own bits alone

number_zero : (k : ℕ) (bs : List Bool) → ((t : ℕ) → t < k → get_or bs t false ≡ false) → number_of k bs ≡ 0
unfolding number_of
number_zero zero bs z = refl
number_zero (suc k) [] z = refl
number_zero (suc k) (b ∷ bs) z =
    let e : digit_of b ≡ 0 = ap digit_of (z 0 (omega arith)) in
    omega (arith, e, number_zero k bs (λ t l. z (suc t) (omega arith)))

number_same : (k : ℕ) (xs ys : List Bool) → ((t : ℕ) → t < k → get_or xs t false ≡ get_or ys t false)
    → number_of k xs ≡ number_of k ys
unfolding number_of
number_same zero xs ys same = refl
number_same (suc k) [] [] same = refl
number_same (suc k) [] (y ∷ ys) same = sym (number_zero (suc k) (y ∷ ys) (λ t l. sym (same t l)))
number_same (suc k) (x ∷ xs) [] same = number_zero (suc k) (x ∷ xs) same
number_same (suc k) (x ∷ xs) (y ∷ ys) same =
    ap₂ (λ u v. digit_of u + 2 * v) (same 0 (omega arith)) (number_same k xs ys (λ t l. same (suc t) (omega arith)))

bytes_same : (n : ℕ) (xs ys : List Bool) → ((t : ℕ) → t < 8 * n → get_or xs t false ≡ get_or ys t false)
    → packed_bytes n xs ≡ packed_bytes n ys
unfolding packed_bytes
bytes_same zero xs ys same = refl
bytes_same (suc n) xs ys same =
    ap₂ (λ x y. x ∷ y)
    (number_same 8 xs ys (λ t l. same t (omega arith)))
    (bytes_same n (drop 8 xs) (drop 8 ys) (λ t l. get_or-drop 8 xs t false ∙ same (8 + t) (omega arith)
    ∙ sym (get_or-drop 8 ys t false)))

pub chunk_same : (n j : ℕ) (xs ys : List Bool) → ((t : ℕ) → t < 8 * n
    → get_or xs (j * (8 * n) + t) false ≡ get_or ys (j * (8 * n) + t) false) → chunk n xs j ≡ chunk n ys j
unfolding chunk
chunk_same n j xs ys same = bytes_same n _ _ (λ t l. get_or-drop (j * (8 * n)) xs t false ∙ same t l
    ∙ sym (get_or-drop (j * (8 * n)) ys t false))

-- a chunk of what is left
pub rest_chunk : (n : ℕ) (r : Retained) (bits : List Bool) (j : ℕ) → IsRest n r bits → r.pruned ≤ j
    → chunk n r.bits (j - r.pruned) ≡ chunk n bits j
unfolding chunk
rest_chunk n r bits j rest kept =
    ap (λ xs. packed_bytes n (drop ((j - r.pruned) * (8 * n)) xs)) rest.rest
    ∙ ap (packed_bytes n) (drop-drop ((j - r.pruned) * (8 * n)) (r.pruned * (8 * n)) bits)
    ∙ ap (λ m. packed_bytes n (drop m bits)) (along (8 * n) r.pruned (j - r.pruned) j (omega arith)) where
      along : (m p c j : ℕ) → p + c ≡ j → p * m + c * m ≡ j * m
      along m p c j e = rw (← e) (grind arith)

-- ---- lists of chunks

pub length-chunks_from : (n : ℕ) (bits : List Bool) (c j : ℕ) → length (chunks_from n bits c j) ≡ c
unfolding chunks_from
length-chunks_from n bits zero j = refl
length-chunks_from n bits (suc c) j = ap suc (length-chunks_from n bits c (suc j))

get-chunks_from : (n : ℕ) (bits : List Bool) (c j i : ℕ) → i < c
    → get_or (chunks_from n bits c j) i [] ≡ chunk n bits (j + i)
unfolding chunks_from
get-chunks_from n bits zero j i l = absurd (omega arith)
get-chunks_from n bits (suc c) j zero l = ap (chunk n bits) (let e : j ≡ j + 0 = omega arith in e)
get-chunks_from n bits (suc c) j (suc i) l = get-chunks_from n bits c (suc j) i (omega arith)
    ∙ ap (chunk n bits) (let e : suc j + i ≡ j + suc i = omega arith in e)

chunks_from-more : (n : ℕ) (bits : List Bool) (c j : ℕ)
    → chunks_from n bits (suc c) j ≡ chunks_from n bits c j ++ chunk n bits (j + c) ∷ []
unfolding chunks_from
chunks_from-more n bits zero j = ap (λ m. chunk n bits m ∷ []) (let e : j ≡ j + 0 = omega arith in e)
chunks_from-more n bits (suc c) j = ap (λ xs. chunk n bits j ∷ xs) (chunks_from-more n bits c (suc j)
    ∙ ap (λ m. chunks_from n bits c (suc j) ++ chunk n bits m ∷ []) (let e : suc j + c ≡ j + suc c = omega arith in e))

module _ (h : HashFunction) (n : ℕ) where
  pub length-digests : (bits : List Bool) (c : ℕ) → length (chunk_digests h n bits c) ≡ c
  length-digests bits c =
      length-leaf_digests h (ungrafted mmr) 0 (chunks_from n bits c 0) ∙ length-chunks_from n bits c 0

  pub digest_at : (bits : List Bool) (c j : ℕ) → j < c
      → get_or (chunk_digests h n bits c) j [] ≡ h (be8 (size mmr j) ++ chunk n bits j)
  digest_at bits c j l =
      get-leaf_digests h (ungrafted mmr) 0 (chunks_from n bits c 0) j (rw length-chunks_from l)
      ∙ ap₂ (λ p x. h (be8 p ++ x))
      (ap (λ i. mmr.position i 0) (zero-add j) ∙ (mmr_laws.leaf j).0)
      (get-chunks_from n bits c 0 j l ∙ ap (chunk n bits) (zero-add j))

  pub digests-more : (bits : List Bool) (c : ℕ)
      → chunk_digests h n bits (c + 1) ≡ chunk_digests h n bits c ++ h (be8 (size mmr c) ++ chunk n bits c) ∷ []
  digests-more bits c =
      ap (leaf_digests h (ungrafted mmr) 0) (ap (λ m. chunks_from n bits m 0) (let e : c + 1 ≡ suc c = omega arith in e)
      ∙ chunks_from-more n bits c 0)
      ∙ leaf_digests-append h (ungrafted mmr) 0 (chunks_from n bits c 0) (chunk n bits (0 + c) ∷ [])
      ∙ ap (λ d. chunk_digests h n bits c ++ d ∷ [])
      (ap₂ (λ p x. h (be8 p ++ x))
      (ap (λ i. mmr.position i 0) (zero-add (length (chunks_from n bits c 0)) ∙ length-chunks_from n bits c 0)
      ∙ (mmr_laws.leaf c).0)
      (ap (chunk n bits) (zero-add c)))

-- ---- which lists of leaves a tree stands for

-- digests that are kept are those of another list that is the same but at the dirty leaves
pub stands_same : {D : Type 0} (text : D → List ℕ) (h : HashFunction) (xs ys : List (List ℕ)) (dirty more : List ℕ)
    (tree : Kept D)
    → ((j : ℕ) → Contains dirty j → Contains more j) → tree.boundary ≤ tree.leaves → length ys ≡ length xs
    → ((j : ℕ) → j < tree.boundary → get_or xs j [] ≡ get_or ys j [])
    → ((j : ℕ) → j < tree.leaves → (Contains more j → ⊥) → get_or xs j [] ≡ get_or ys j [])
    → StandsBut text mmr (chunk_nodes h) dirty tree xs → StandsBut text mmr (chunk_nodes h) more tree ys
stands_same text h xs ys dirty more tree sub order len low same s =
    record {
      count = s.count ∙ sym len;
      holds = record {
        peaks = s.holds.peaks ∙ peaks_same h (ungrafted mmr) (λ a. []) xs ys (mmr.peaks tree.boundary) 0
            (λ j u w. low j (omega (arith, mmr_laws.sum tree.boundary)));
        from = λ a k al lo hi clean.
            s.holds.from a k al lo hi (λ j m u w. clean j (sub j m) u w)
            ∙ node_same h (ungrafted mmr) (λ a. []) xs ys k a (λ j u w. same j
            (omega (arith, mmr_laws.late a k, (mmr_laws.born tree.leaves a k al).0 hi)) (λ m. clean j m u w));
      };
    }

-- a complete chunk lies within the bits
within : (n j len t : ℕ) → j < len / (8 * n) → t < 8 * n → j * (8 * n) + t < len
within n j len t l u =
    let m = 8 * n in
    let e : len / m * m ≤ len = div-mul-le_self len m in
    let f : suc j * m ≤ len / m * m = mul-le (suc j) m (len / m) m l (omega arith) in
    omega (arith, f, e)

-- two bits of different chunks have different places
other_place : (n j place t : ℕ) → j ≢ place / (8 * n) → t < 8 * n → j * (8 * n) + t ≢ place
other_place n j place t ne u e =
    ne (sym (ap (λ x. x / (8 * n)) (sym e) ∙ div-mul-add j (8 * n) t u))

drop_set : (k i : ℕ) (xs : List Bool) (x : Bool) → k ≤ i → set (drop k xs) (i - k) x ≡ drop k (set xs i x)
drop_set zero i xs x l = ap (λ j. set xs j x) (let e : i - 0 ≡ i = omega arith in e)
drop_set (suc k) i [] x l = refl
drop_set (suc k) zero (y ∷ xs) x l = absurd (omega arith)
drop_set (suc k) (suc i) (y ∷ xs) x l =
    ap (λ j. set (drop k xs) j x) (let e : suc i - suc k ≡ i - k = omega arith in e) ∙ drop_set k i xs x (omega arith)

-- the number of bits is told by what is left
pub count_of : (n : ℕ) (r : Retained) (bits : List Bool) → IsRest n r bits → bit_count n r ≡ length bits
count_of n r bits rest = omega (arith, rest.within, ap length rest.rest, length-drop (r.pruned * (8 * n)) bits)

module _ {D : Type 0} (text : D → List ℕ) (h : HashFunction) (n : ℕ) (tree : Kept D) (r : Retained)
    (order : tree.boundary ≤ tree.leaves) (leaves : tree.leaves ≤ bit_count n r / (8 * n))
    (boundary : tree.boundary ≡ r.pruned) where
  module _ {M : Type 0} (state : M) (dirty : List ℕ) (bits : List Bool) where
    full : IsRest n r bits → (j : ℕ) → j < tree.leaves → j < length bits / (8 * n)
    full rest j l = let e : bit_count n r / (8 * n) ≡ length bits / (8 * n) =
        ap (λ m. m / (8 * n)) (count_of n r bits rest) in omega (arith, e)

    pub pushed : (bit : Bool) {K : Type 0} (other : K)
        → StandsForBits text h n (record { retained = r; tree = tree; state = state }) dirty bits
        → StandsForBits text h n (record {
          retained = record r { bits = r.bits ++ bit ∷ [] };
          tree = tree;
          state = other;
        }) dirty (bits ++ bit ∷ [])
    pushed bit other s =
        let more = bits ++ bit ∷ [] in
        let same : (j : ℕ) → j < tree.leaves
        → get_or (chunk_digests h n bits tree.leaves) j [] ≡ get_or (chunk_digests h n more tree.leaves) j [] =
        λ j l.
        digest_at h n bits tree.leaves j l
        ∙ ap (λ x. h (be8 (size mmr j) ++ x)) (chunk_same n j bits more (λ t u. sym (get_or_append_left bits
        (bit ∷ []) false (j * (8 * n) + t) (within n j (length bits) t (full s.rest j l) u))))
        ∙ sym (digest_at h n more tree.leaves j l) in
        record {
          rest = record {
            within = omega (arith, s.rest.within, length-append bits (bit ∷ []));
            rest = ap (λ xs. xs ++ bit ∷ []) s.rest.rest
                ∙ sym (drop-append-le (r.pruned * (8 * n)) bits (bit ∷ []) s.rest.within);
          };
          digests = stands_same text h _ _ dirty dirty tree (λ j m. m) order (length-digests h n more tree.leaves
              ∙ sym (length-digests h n bits tree.leaves)) (λ j l. same j (omega arith)) (λ j l m. same j l) s.digests;
        }

    pub written : (more : List ℕ) (place : ℕ) (bit : Bool) {K : Type 0} (other : K) → 0 < n → r.pruned * (8 * n) ≤ place
        → ((j : ℕ) → Contains dirty j → Contains more j)
        → (place / (8 * n) < tree.leaves → Contains more (place / (8 * n)))
        → StandsForBits text h n (record { retained = r; tree = tree; state = state }) dirty bits
        → StandsForBits text h n (record {
          retained = record r { bits = set r.bits (place - r.pruned * (8 * n)) bit };
          tree = tree;
          state = other;
        }) more (set bits place bit)
    written more place bit other some low sub marked s =
        let next = set bits place bit in
        let same : (j : ℕ) → j < tree.leaves → j ≢ place / (8 * n)
        → get_or (chunk_digests h n bits tree.leaves) j [] ≡ get_or (chunk_digests h n next tree.leaves) j [] =
        λ j l ne.
        digest_at h n bits tree.leaves j l
        ∙ ap (λ x. h (be8 (size mmr j) ++ x)) (chunk_same n j bits next
        (λ t u. sym (get_or-set_other bits place (j * (8 * n) + t) bit false (other_place n j place t ne u))))
        ∙ sym (digest_at h n next tree.leaves j l) in
        let first : r.pruned ≤ place / (8 * n) = le-div r.pruned place (8 * n) (omega arith) low in
        record {
          rest = record {
            within = omega (arith, s.rest.within, length-set bits place bit);
            rest = ap (λ xs. set xs (place - r.pruned * (8 * n)) bit) s.rest.rest
                ∙ drop_set (r.pruned * (8 * n)) place bits bit low;
          };
          digests = stands_same text h _ _ dirty more tree sub order (length-digests h n next tree.leaves
              ∙ sym (length-digests h n bits tree.leaves))
              (λ j l. same j (omega arith) (λ q. absurd (omega arith)))
              (λ j l m. same j l (λ q. m (subst (Contains more) (sym q) (marked (omega arith)))))
              s.digests;
        }

-- a bitmap stays whole with a bit written
pub whole_set : {D : Type 0} (n : ℕ) (r : Retained) (tree : Kept D) (place : ℕ) (bit : Bool)
    (fits more : ℕ → ℕ → ℕ → Type 0) → IsWholeMap n r tree fits
    → more r.pruned tree.leaves (bit_count n r / (8 * n))
    → IsWholeMap n (record r { bits = set r.bits place bit }) tree more
whole_set n r tree place bit fits more w state =
    let e : bit_count n (record r { bits = set r.bits place bit }) ≡ bit_count n r =
    ap (λ m. r.pruned * (8 * n) + m) (length-set r.bits place bit) in
    record {
      size = w.size;
      few = omega (arith, w.few, e);
      boundary = w.boundary;
      order = w.order;
      leaves = rw e w.leaves;
      state = rw e state;
    }

-- ---- pruning

-- so many chunks in two parts
parts : (m p c : ℕ) → (p + c) * m ≡ p * m + c * m
parts m p c = grind arith

-- how far pruning comes
reached : (m p c len : ℕ) → p * m ≤ len → c * m ≤ len → (p + (c - p)) * m ≤ len
reached m p c len low high =
    ⊎_elim
    (λ (l : p < c). let e : p + (c - p) ≡ c = omega arith in rw e high)
    (λ (l : c ≤ p). let e : p + (c - p) ≡ p = omega arith in rw e low)
    (cases_lt p c)

pub count_pruned : (n : ℕ) (r : Retained) (chunks : ℕ) → chunks * (8 * n) ≤ bit_count n r
    → bit_count n (pruned_to n r chunks) ≡ bit_count n r
count_pruned n r chunks h =
    let m = 8 * n in
    let w : (r.pruned + (chunks - r.pruned)) * m ≤ bit_count n r =
    reached m r.pruned chunks (bit_count n r) (omega arith) h in
    omega (arith, w, parts m r.pruned (chunks - r.pruned), length-drop ((chunks - r.pruned) * m) r.bits)

pub pruned_stands : {D M : Type 0} (text : D → List ℕ) (h : HashFunction) (bagging : Bagging) (n : ℕ) (r : Retained)
    (tree new : Kept D) (state : M) (root : D) (chunks : ℕ) (bits : List Bool) → chunks * (8 * n) ≤ bit_count n r
    → ((N : NodesOver) (list : List (List ℕ)) → StandsFor text mmr N tree list → StandsFor text mmr N new list)
    → new.leaves ≡ tree.leaves
    → StandsMerkleized text h bagging n (record { retained = r; tree = tree; state = state }) root bits
    → StandsMerkleized text h bagging n
    (record { retained = pruned_to n r chunks; tree = new; state = state }) root bits
pruned_stands text h bagging n r tree new state root chunks bits most stands leaves s =
    let m = 8 * n in
    let rest = s.stands.rest in
    let e = count_of n r bits rest in
    record {
      stands = record {
        rest = record {
          within = reached m r.pruned chunks (length bits) rest.within (omega (arith, e));
          rest = ap (drop ((chunks - r.pruned) * m)) rest.rest ∙ drop-drop ((chunks - r.pruned) * m) (r.pruned * m) bits
              ∙ ap (λ k. drop k bits) (sym (parts m r.pruned (chunks - r.pruned)));
        };
        digests = subst (λ k. StandsBut text mmr (chunk_nodes h) [] new (chunk_digests h n bits k)) (sym leaves)
            (stands (chunk_nodes h) (chunk_digests h n bits tree.leaves) s.stands.digests);
      };
      whole = leaves ∙ s.whole;
      root_is = s.root_is;
    }

pub whole_pruned : {D : Type 0} (n : ℕ) (r : Retained) (tree new : Kept D) (chunks : ℕ) → chunks ≤ tree.leaves
    → chunks * (8 * n) ≤ bit_count n r
    → new.boundary ≡ max tree.boundary chunks → new.leaves ≡ tree.leaves
    → IsWholeMap n r tree (λ x leaves complete. leaves ≡ complete)
    → IsWholeMap n (pruned_to n r chunks) new (λ x leaves complete. leaves ≡ complete)
whole_pruned n r tree new chunks few most boundary leaves w =
    let e = count_pruned n r chunks most in
    record {
      size = w.size;
      few = omega (arith, w.few, e);
      boundary = boundary ∙ at (w.boundary);
      order = omega (arith, boundary, leaves, w.order, few);
      leaves = rw (e, leaves) w.leaves;
      state = rw (e, leaves) w.state;
    } where
      at : tree.boundary ≡ r.pruned → max tree.boundary chunks ≡ r.pruned + (chunks - r.pruned)
      at b = rw b (omega arith)

-- ---- what is handed out

-- the chunks in front do not read the bits behind them
front_chunk : (n c j : ℕ) (bits : List Bool) → j < c → chunk n (take (c * (8 * n)) bits) j ≡ chunk n bits j
front_chunk n c j bits l =
    chunk_same n j (take (c * (8 * n)) bits) bits
    (λ t u. get_or-take (c * (8 * n)) bits (j * (8 * n) + t) false (inner (8 * n) t u)) where
      inner : (m t : ℕ) → t < m → j * m + t < c * m
      inner m t u = omega (arith, mul-le (suc j) m c m l (omega arith))

pub handed_out : {D M : Type 0} (text : D → List ℕ) (h : HashFunction) (n : ℕ) (b : Authenticated D M)
    (bits : List Bool) (count : ℕ) (pinned : List D) → b.tree.boundary ≡ b.retained.pruned
    → b.tree.boundary ≤ b.tree.leaves
    → count ≡ b.retained.pruned → pinned ≡ b.tree.pinned → StandsForBits text h n b [] bits
    → IsPrunedState text h n count pinned (take (b.retained.pruned * (8 * n)) bits)
handed_out text h n b bits count pinned boundary order e are s =
    let p = b.tree.boundary in
    let front = take (b.retained.pruned * (8 * n)) bits in
    let m : p ≡ count = boundary ∙ sym e in
    let xs = chunk_digests h n bits b.tree.leaves in
    let ys = chunk_digests h n front count in
    let same : (j : ℕ) → j < p → get_or xs j [] ≡ get_or ys j [] =
    λ j l. digest_at h n bits b.tree.leaves j (omega arith)
    ∙ ap (λ x. h (be8 (size mmr j) ++ x)) (sym (front_chunk n b.retained.pruned j bits (omega arith)))
    ∙ sym (digest_at h n front count j (omega arith)) in
    let kept : map text b.tree.pinned ≡ at_peaks (chunk_nodes h ys) 0 (mmr.peaks p) =
    s.digests.holds.peaks ∙ peaks_same h (ungrafted mmr) (λ a. []) xs ys (mmr.peaks p) 0
    (λ j u w. same j (omega (arith, mmr_laws.sum p))) in
    let len : length b.tree.pinned ≡ length (mmr.peaks p) =
    sym (length-map b.tree.pinned text) ∙ ap length kept ∙ length_at_peaks (chunk_nodes h ys) (mmr.peaks p) 0 in
    record {
      filled = length-take-le (b.retained.pruned * (8 * n)) bits s.rest.within ∙ ap (λ k. k * (8 * n)) (sym e);
      peaks = subst (λ k. map text (take (length (mmr.peaks k)) pinned) ≡ at_peaks (chunk_nodes h ys) 0 (mmr.peaks k)) m
          (ap (map text) (ap (take (length (mmr.peaks p))) are ∙ ap (λ k. take k b.tree.pinned) (sym len)
          ∙ take-length b.tree.pinned) ∙ kept);
    }

-- no bits are left after those that are all pruned
none_left : (n count : ℕ) (bits : List Bool) → length bits ≡ count * (8 * n)
    → IsRest n (record { pruned = count; bits = [] }) bits
none_left n count bits e = record { within = omega (arith, e); rest = sym (drop_of_length-le bits (omega (arith, e))) }

pub restored : {D M : Type 0} (text : D → List ℕ) (h : HashFunction) (bagging : Bagging) (n count boundary : ℕ)
    (pinned given : List D) (tree : Kept D) (state : M) (root : D) (bits : List Bool) → 0 < n → boundary ≡ count
    → given ≡ pinned → tree.leaves ≡ boundary
    → ((N : NodesOver) (list : List (List ℕ)) → length list ≡ boundary
    → map text (take (length (mmr.peaks boundary)) given) ≡ at_peaks (N list) 0 (mmr.peaks boundary)
    → StandsFor text mmr N tree list)
    → (IsRest n (record { pruned = count; bits = [] }) bits → StandsFor text mmr (chunk_nodes h) tree
    (chunk_digests h n bits tree.leaves) → text root ≡ bit_root h bagging n bits)
    → IsPrunedState text h n count pinned bits → StandsMerkleized text h bagging n
    (record { retained = record { pruned = count; bits = [] }; tree = tree; state = state }) root bits
restored text h bagging n count boundary pinned given tree state root bits some at are leaves stands rooted s =
    let rest = none_left n count bits s.filled in
    let whole : (count * (8 * n) + 0) / (8 * n) ≡ count = div-mul-add count (8 * n) 0 (omega arith) in
    let e : tree.leaves ≡ count = leaves ∙ at in
    let peaks : map text (take (length (mmr.peaks boundary)) given)
    ≡ at_peaks (chunk_nodes h (chunk_digests h n bits count)) 0 (mmr.peaks boundary) = rw (at, are) s.peaks in
    let kept : StandsFor text mmr (chunk_nodes h) tree (chunk_digests h n bits count) =
    stands (chunk_nodes h) (chunk_digests h n bits count) (length-digests h n bits count ∙ sym at) peaks in
    let digests : StandsFor text mmr (chunk_nodes h) tree (chunk_digests h n bits tree.leaves) =
    subst (λ k. StandsFor text mmr (chunk_nodes h) tree (chunk_digests h n bits k)) (sym e) kept in
    record {
      stands = record { rest = rest; digests = digests };
      whole = e ∙ sym (ap (λ k. k / (8 * n)) (s.filled ∙ sym (add-zero (count * (8 * n)))) ∙ whole);
      root_is = rooted rest digests;
    }

pub merkleized : {D M K : Type 0} (text : D → List ℕ) (h : HashFunction) (bagging : Bagging) (n : ℕ) (r : Retained)
    (tree first second : Kept D) (state : M) (next : K) (root : D) (dirty : List ℕ) (bits : List Bool)
    → (IsRest n r bits → StandsBut text mmr (chunk_nodes h) dirty tree (chunk_digests h n bits tree.leaves)
    → StandsFor text mmr (chunk_nodes h) first (chunk_digests h n bits tree.leaves)) → first.leaves ≡ tree.leaves
    → (IsRest n r bits → StandsFor text mmr (chunk_nodes h) first (chunk_digests h n bits first.leaves)
    → StandsFor text mmr (chunk_nodes h) second (chunk_digests h n bits second.leaves))
    → second.leaves ≡ bit_count n r / (8 * n)
    → (IsRest n r bits → StandsFor text mmr (chunk_nodes h) second (chunk_digests h n bits second.leaves)
    → text root ≡ bit_root h bagging n bits)
    → StandsForBits text h n (record { retained = r; tree = tree; state = state }) dirty bits
    → StandsMerkleized text h bagging n (record { retained = r; tree = second; state = next }) root bits
merkleized text h bagging n r tree first second state next root dirty bits rehashed same grown whole rooted s =
    let one = subst (λ k. StandsFor text mmr (chunk_nodes h) first (chunk_digests h n bits k)) (sym same)
    (rehashed s.rest s.digests) in
    let two = grown s.rest one in
    record {
      stands = record { rest = s.rest; digests = two };
      whole = whole ∙ ap (λ k. k / (8 * n)) (count_of n r bits s.rest);
      root_is = rooted s.rest two;
    }

-- ---- refusals

-- more chunks than bits may fill
pub past_limit : (n count limit : ℕ) → 0 < n → limit / (8 * n) < count → limit < count * (8 * n)
past_limit n count limit some over =
    ⊎_elim
    (λ (l : limit < count * (8 * n)). l)
    (λ (l : count * (8 * n) ≤ limit).
    absurd (let e : count ≤ limit / (8 * n) = le-div count limit (8 * n) (omega arith) l in omega arith))
    (cases_lt limit (count * (8 * n)))

pub in_limit : (n count limit : ℕ) → count ≤ limit / (8 * n) → count * (8 * n) ≤ limit
in_limit n count limit within =
    let e : count * (8 * n) ≤ limit / (8 * n) * (8 * n) =
    mul-le count (8 * n) (limit / (8 * n)) (8 * n) within (omega arith) in
    omega (arith, e, div-mul-le_self limit (8 * n))

pub refused : {F : Type 0} (n count boundary given : ℕ) (error : Error F) → boundary ≡ count → count ≤ 2 ^ 62 / (8 * n)
    → ((2 ^ 62 < boundary) × (error ≡ LocationOverflow boundary)) ⊎ ((boundary ≤ 2 ^ 62)
    × (((given < length (mmr.peaks boundary)) × (error ≡ MissingNode (slice_index (pins mmr boundary) given)))
    ⊎ ((length (mmr.peaks boundary) ≤ given) × (error ≡ Memory))))
    → IsBitmapRefused n count given error
refused n count boundary given error at within (inl over) =
    absurd (omega (arith, at, within, div-le_self (2 ^ 62) (8 * n), over.0))
refused n count boundary given error at within (inr (few, inl missing)) =
    inr (inl (in_limit n count (2 ^ 62) within, rw (← at) missing.0, rw (← at) missing.1))
refused n count boundary given error at within (inr (few, inr memory)) =
    inr (inr (in_limit n count (2 ^ 62) within, rw (← at) memory.0, memory.1))

-- a bitmap whose bits all are pruned is whole
pub whole_restored : {D : Type 0} (n count boundary : ℕ) (pinned : List D) (r : Retained) (tree : Kept D)
    → IsChunkSize n → 0 < n → count ≤ 2 ^ 62 / (8 * n) → boundary ≡ count → r ≡ record { pruned = count; bits = [] }
    → tree ≡ record { leaves = boundary; boundary = boundary; pinned = pinned; nodes = []; room = 0 }
    → IsWholeMap n r tree (λ x leaves complete. leaves ≡ complete)
whole_restored n count boundary pinned r tree size some within at are is =
    let whole : (count * (8 * n) + 0) / (8 * n) ≡ count = div-mul-add count (8 * n) 0 (omega arith) in
    let few : count * (8 * n) ≤ 2 ^ 62 = in_limit n count (2 ^ 62) within in
    rw (are, is) (record {
      size = size;
      few = omega (arith, few);
      boundary = at;
      order = omega arith;
      leaves = rw whole (omega (arith, at));
      state = rw whole at;
    })
