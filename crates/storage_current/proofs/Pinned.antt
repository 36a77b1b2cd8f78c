-- Trees over chunks that keep pins and leaves alone: what is found in them, and that the peaks over more chunks are coverable.
use Rattle.std.proofs.Common.{◌≡◌, ◌≢◌, ℕ, zero, suc, ◌+◌, ◌-◌, ◌*◌, ◌/◌, ◌%◌, ◌^◌, ◌<◌, ◌≤◌, ◌⊎◌, inl, inr, List, [], ◌∷◌, length, map, drop, get_or, get_or-drop, drop-cons, add-one, Bool, true, false, if◌then◌else◌, eqb, eq-eqb, eqb-true, leb, le-leb, Some, None, option_map, refl, sym, ap, ap₂, ◌∙◌, arith, ⊎_elim}
use Rattle.std.specs.List.{slice_get}
use Rattle.std.specs.Option.{is_some}
use Rattle.std.proofs.lemmas.Bool.{cases_lt, lt-leb}
use Rattle.std.proofs.lemmas.Bool.Decides.{eqb_tells}
use Rattle.std.proofs.lemmas.Nat.{pow_pos, div-add-mod'}
use Rattle.std.proofs.lemmas.List.{length-map}
use Rattle.std.proofs.lemmas.Option.{slice_get-get_or}
use Rattle.std.proofs.Math.Nat.{mod-lt}
use Rattle.storage_merkle.specs.Shape.{Shape, Laws, size, Inside, AreAligned}
use Rattle.storage_merkle.specs.Hashers.{TakesGrowth}
use Rattle.storage_merkle.specs.Nodes.{placed}
use Rattle.storage_merkle.specs.Laws.Multiples.{pow_two, pow_order, next, multiple_add, multiple_down, power_multiple, is_multiple}
use Rattle.storage_merkle.specs.Laws.Shape.{inside_between, grows_at_most, grows_below, leaves_of_size}
use Rattle.storage_merkle.specs.Kept.{at_peaks, paired, pins}
use Rattle.storage_merkle.specs.Rests.{EachPeak}
use Rattle.storage_merkle.specs.Trees.{places}
use Rattle.storage_current.specs.GraftedTrees.{IsCoverable, IsKeptIn, IsPeak, TakesMade, leaf_places, tree_at}

neq-eqb : (a b : ℕ) → a ≢ b → eqb a b ≡ false
neq-eqb a b ne = ⊎_elim (λ (x : (eqb a b ≡ true) × (a ≡ b)). absurd (ne x.1)) (λ (y : (eqb a b ≡ false) × (a ≢ b)). y.0)
    (eqb_tells a b)

-- ---- by what each digest is seen as

pub paired-map : {D E : Type 0} (f : D → E) (p : ℕ) (qs : List ℕ) (ds : List D)
    → option_map f (paired p qs ds) ≡ paired p qs (map f ds)
paired-map f p [] ds = refl
paired-map f p (q ∷ qs) [] = refl
paired-map f p (q ∷ qs) (d ∷ ds) =
    let rest = paired-map f p qs ds in
    elim (eqb q p) as (λ b. option_map f (if b then Some d else paired p qs ds)
    ≡ (if b then Some (f d) else paired p qs (map f ds))) [ true ↦ refl | false ↦ rest ]

places-map : {D E : Type 0} (S : Shape) (f : D → E) (a : ℕ) (ds : List D) → leaf_places S a (map f ds) ≡ leaf_places S a ds
places-map S f a [] = refl
places-map S f a (d ∷ ds) = ap (λ ps. size S a ∷ ps) (places-map S f (a + 1) ds)

pub tree_at-map : {D E : Type 0} (f : D → E) (S : Shape) (b : ℕ) (ps ls : List D) (q : ℕ)
    → option_map f (tree_at S b ps ls q) ≡ tree_at S b (map f ps) (map f ls) q
tree_at-map f S b ps ls q =
    let x = paired-map f q (leaf_places S b ls) ls
    ∙ ap (λ qs. paired q qs (map f ls)) (sym (places-map S f b ls)) in
    let y = paired-map f q (pins S b) ps in
    elim (leb (size S b) q) as (λ c. option_map f (if c then paired q (leaf_places S b ls) ls else paired q (pins S b) ps)
    ≡ (if c then paired q (leaf_places S b (map f ls)) (map f ls) else paired q (pins S b) (map f ps)))
    [ true ↦ x | false ↦ y ]

pub tree_at_high : {D : Type 0} (S : Shape) (b : ℕ) (ps ls : List D) (q : ℕ) → size S b ≤ q
    → tree_at S b ps ls q ≡ paired q (leaf_places S b ls) ls
tree_at_high S b ps ls q l =
    ap (λ c. if c then paired q (leaf_places S b ls) ls else paired q (pins S b) ps) (le-leb _ _ l)

pub tree_at_low : {D : Type 0} (S : Shape) (b : ℕ) (ps ls : List D) (q : ℕ) → q < size S b
    → tree_at S b ps ls q ≡ paired q (pins S b) ps
tree_at_low S b ps ls q l =
    ap (λ c. if c then paired q (leaf_places S b ls) ls else paired q (pins S b) ps) (lt-leb _ _ l)

-- ---- leaves

module _ (S : Shape) (L : Laws S) where
  -- the digest at a leaf's position
  pub leaf_found : {D : Type 0} (b i : ℕ) (ds : List D) → paired (size S (b + i)) (leaf_places S b ds) ds ≡ slice_get ds i
  leaf_found b i [] = refl
  leaf_found b zero (d ∷ ds) = let e : size S b ≡ size S (b + 0) = ap (size S) (let z : b ≡ b + 0 = omega arith in z) in
      ap (λ c. if c then Some d else paired (size S (b + 0)) (leaf_places S (b + 1) ds) ds) (eq-eqb _ _ e)
  leaf_found b (suc i) (d ∷ ds) =
      let less : size S b < size S (b + suc i) = grows_below (size S) L.grows b (b + suc i) (omega arith) in
      let other : size S b ≢ size S (b + suc i) = λ e. absurd (omega (arith, e, less)) in
      let same : b + suc i ≡ b + 1 + i = omega arith in
      ap (λ c. if c then Some d else paired (size S (b + suc i)) (leaf_places S (b + 1) ds) ds) (neq-eqb _ _ other)
      ∙ ap (λ n. paired (size S n) (leaf_places S (b + 1) ds) ds) same
      ∙ leaf_found (b + 1) i ds

  -- nothing is found where no leaf stands
  pub no_leaf : {D : Type 0} (p b : ℕ) (ds : List D) → ((j : ℕ) → j < b + length ds → size S j ≢ p)
      → paired p (leaf_places S b ds) ds ≡ None
  no_leaf p b [] gone = refl
  no_leaf p b (d ∷ ds) gone =
      ap (λ c. if c then Some d else paired p (leaf_places S (b + 1) ds) ds) (neq-eqb _ _ (gone b (omega arith)))
      ∙ no_leaf p (b + 1) ds (λ j l. gone j (omega (arith, l)))

  -- what is found is a leaf's
  pub record IsLeafAt {D : Type 0} (b p : ℕ) (ds : List D) (d : D) : Type 0 where
    pub place : ℕ
    pub within : place < length ds
    pub at : size S (b + place) ≡ p
    pub is : slice_get ds place ≡ Some d

  pub found_leaf : {D : Type 0} (p b : ℕ) (ds : List D) (d : D) → paired p (leaf_places S b ds) ds ≡ Some d
      → IsLeafAt b p ds d
  found_leaf p b [] d e = cc
  found_leaf p b (x ∷ ds) d e = go (λ f. found_leaf p (b + 1) ds d f) (eqb (size S b) p) refl e
    where
      go : (paired p (leaf_places S (b + 1) ds) ds ≡ Some d → IsLeafAt (b + 1) p ds d) → (c : Bool) → eqb (size S b) p ≡ c
          → (if c then Some x else paired p (leaf_places S (b + 1) ds) ds) ≡ Some d → IsLeafAt b p (x ∷ ds) d
      go more true t f = record {
        place = 0;
        within = omega arith;
        at = ap (size S) (let z : b + 0 ≡ b = omega arith in z) ∙ eqb-true _ _ t;
        is = f;
      }
      go more false t f = let r = more f in record {
        place = suc r.place;
        within = omega (arith, r.within);
        at = ap (size S) (let z : b + suc r.place ≡ b + 1 + r.place = omega arith in z) ∙ r.at;
        is = r.is;
      }

  -- a position after a leaf's, before the next one's, is none
  pub no_size : (place p : ℕ) → size S place ≤ p → p < size S (place + 1) → size S place ≢ p → (j : ℕ) → size S j ≢ p
  no_size place p low high ne j e = ne (ap (size S) (leaves_of_size S L place j p e low high) ∙ e)

-- ---- pins

pub peak_inside : (hs : List ℕ) (s a k : ℕ) → IsPeak hs s a k → Inside hs s a k
unfolding Inside
peak_inside [] s a k i = absurd i
peak_inside (h ∷ hs) s a k (inl q) = let e : 2 ^ h ≡ 2 ^ k = ap (λ x. 2 ^ x) q.1 in let f : s ≡ a = q.0 in
    inl ((omega arith), (omega arith))
peak_inside (h ∷ hs) s a k (inr r) = inr (peak_inside hs (s + 2 ^ h) a k r)

-- a node of a tree whose parent is not in it is a peak
pub inside_peak : (hs : List ℕ) (s a k p : ℕ) → AreAligned hs s → Inside hs s a k → p % 2 ^ suc k ≡ 0 → p ≤ a
    → a + 2 ^ k ≤ p + 2 ^ suc k → (Inside hs s p (suc k) → ⊥) → IsPeak hs s a k
unfolding Inside AreAligned
inside_peak [] s a k p al i pa lo hi out = absurd i
inside_peak (h ∷ hs) s a k p al (inl q) pa lo hi out =
    let q0 : s ≤ a = q.0 in
    let q1 : a + 2 ^ k ≤ s + 2 ^ h = q.1 in
    let one : 0 < 2 ^ k = pow_pos k in
    let kh : k ≤ h = pow_order k h (omega arith) in
    ⊎_elim
    (λ (l : k < h).
    let sm : s % 2 ^ suc k ≡ 0 = multiple_down s (suc k) h (omega arith) al.0 in
    let lower : s ≤ p =
    ⊎_elim (λ (u : p < s). absurd (let m : p + 2 ^ suc k ≤ s = next p s (2 ^ suc k) pa sm u in omega arith))
    (λ (w : s ≤ p). w) (cases_lt p s) in
    let upper : p + 2 ^ suc k ≤ s + 2 ^ h = next p (s + 2 ^ h) (2 ^ suc k) pa (multiple_add s (2 ^ h) (2 ^ suc k)
    (pow_pos (suc k)) sm (power_multiple h (suc k) (omega arith))) (omega arith) in
    absurd (out (inl (lower, upper))))
    (λ (g : h ≤ k).
    let e : h ≡ k = omega arith in
    let f : 2 ^ h ≡ 2 ^ k = ap (λ x. 2 ^ x) e in
    inl ((omega arith), e))
    (cases_lt k h)
inside_peak (h ∷ hs) s a k p al (inr r) pa lo hi out =
    inr (inside_peak hs (s + 2 ^ h) a k p al.1 r pa lo hi (λ i. out (inr i)))

-- the parent of a peak is not there
pub peak_topmost : (hs : List ℕ) (s a k p : ℕ) → IsPeak hs s a k → p ≤ a → a + 2 ^ k ≤ p + 2 ^ suc k
    → Inside hs s p (suc k) → ⊥
unfolding Inside
peak_topmost [] s a k p i lo hi x = i
peak_topmost (h ∷ hs) s a k p (inl q) lo hi (inl x) = let e : 2 ^ h ≡ 2 ^ k = ap (λ y. 2 ^ y) q.1 in
    let f : s ≡ a = q.0 in let x1 : p + 2 ^ suc k ≤ s + 2 ^ h = x.1 in omega (arith, x.0, x1, pow_two k, pow_pos k)
peak_topmost (h ∷ hs) s a k p (inl q) lo hi (inr y) = let f : s ≡ a = q.0 in
    let r = inside_between hs (s + 2 ^ h) p (suc k) y in omega (arith, r.0, pow_pos h)
peak_topmost (h ∷ hs) s a k p (inr r) lo hi (inl x) = let t =
    inside_between hs (s + 2 ^ h) a k (peak_inside hs (s + 2 ^ h) a k r) in let x1 : p + 2 ^ suc k ≤ s + 2 ^ h = x.1 in
    omega (arith, t.0, x1, pow_pos k)
peak_topmost (h ∷ hs) s a k p (inr r) lo hi (inr y) = peak_topmost hs (s + 2 ^ h) a k p r lo hi y

-- the nodes under one that is inside a peak are inside it
pub inside_under : (hs : List ℕ) (s a k b j : ℕ) → Inside hs s a k → a ≤ b → b + 2 ^ j ≤ a + 2 ^ k → Inside hs s b j
unfolding Inside
inside_under [] s a k b j i lo hi = absurd i
inside_under (h ∷ hs) s a k b j (inl q) lo hi = let q0 : s ≤ a = q.0 in let q1 : a + 2 ^ k ≤ s + 2 ^ h = q.1 in
    inl ((omega arith), (omega arith))
inside_under (h ∷ hs) s a k b j (inr r) lo hi = inr (inside_under hs (s + 2 ^ h) a k b j r lo hi)

pub record Parent (a k : ℕ) : Type 0 where
  pub first : ℕ
  pub aligned : first % 2 ^ suc k ≡ 0
  pub low : first ≤ a
  pub high : a + 2 ^ k ≤ first + 2 ^ suc k

pub parent_of : (a k : ℕ) → a % 2 ^ k ≡ 0 → Parent a k
parent_of a k al =
    let d = 2 ^ suc k in
    let pos : 0 < d = pow_pos (suc k) in
    let p = a / d * d in
    let pa : p % d ≡ 0 = is_multiple (a / d) d pos in
    let e : a / d * d + a % d ≡ a = div-add-mod' a d in
    let m : a % d < d = mod-lt a pos in
    let q : (p + d) % 2 ^ k ≡ 0 = multiple_add p d (2 ^ k) (pow_pos k) (multiple_down p k (suc k) (omega arith) pa)
    (power_multiple (suc k) k (omega arith)) in
    record { first = p; aligned = pa; low = omega arith; high = next a (p + d) (2 ^ k) al q (omega arith) }

-- ---- the search for a pin

paired_on : {D : Type 0} (p q : ℕ) (qs : List ℕ) (ds : List D) (i : ℕ) → i < length ds → q ≢ p
    → paired p (q ∷ qs) (drop i ds) ≡ paired p qs (drop (i + 1) ds)
paired_on p q qs [] i l ne = absurd (omega arith)
paired_on p q qs (x ∷ ds) i l ne =
    ap (paired p (q ∷ qs)) (drop-cons (x ∷ ds) i x l)
    ∙ ap (λ b. if b then Some (get_or (x ∷ ds) i x) else paired p qs (drop (suc i) (x ∷ ds))) (neq-eqb q p ne)
    ∙ ap (λ m. paired p qs (drop m (x ∷ ds))) (sym (add-one i))

paired_hit : {D : Type 0} (p q : ℕ) (qs : List ℕ) (ds : List D) (i : ℕ) (r : D) → i < length ds → q ≡ p
    → paired p (q ∷ qs) (drop i ds) ≡ Some (get_or ds i r)
paired_hit p q qs ds i r l e =
    ap (paired p (q ∷ qs)) (drop-cons ds i r l)
    ∙ ap (λ b. if b then Some (get_or ds i r) else paired p qs (drop (suc i) ds)) (eq-eqb q p e)

pub pin_hit : {D : Type 0} (ps : List ℕ) (xs : List D) (p q i : ℕ) (left rest : List ℕ) (r : D)
    → paired p ps xs ≡ paired p left (drop i xs) → left ≡ q ∷ rest → q ≡ p → i < length xs → r ≡ get_or xs i r
    → Some r ≡ paired p ps xs
pin_hit ps xs p q i left rest r same is hit l e =
    sym (same ∙ ap (λ qs. paired p qs (drop i xs)) is ∙ paired_hit p q rest xs i r l hit ∙ ap Some (sym e))

pub pin_on : {D : Type 0} (ps : List ℕ) (xs : List D) (p q i : ℕ) (left rest : List ℕ)
    → paired p ps xs ≡ paired p left (drop i xs) → left ≡ q ∷ rest → q ≢ p → i < length xs
    → paired p ps xs ≡ paired p rest (drop (i + 1) xs)
pin_on ps xs p q i left rest same is miss l =
    same ∙ ap (λ qs. paired p qs (drop i xs)) is ∙ paired_on p q rest xs i l miss

pub pin_none : {D : Type 0} (ps : List ℕ) (xs : List D) (p i : ℕ) (left : List ℕ)
    → paired p ps xs ≡ paired p left (drop i xs) → left ≡ [] → None ≡ paired p ps xs
pin_none ps xs p i left same is = sym (same ∙ ap (λ qs. paired p qs (drop i xs)) is)

-- how many pins there are
length-placed : (S : Shape) (s : ℕ) (hs : List ℕ) → length (placed S s hs) ≡ length hs
length-placed S s [] = refl
length-placed S s (h ∷ hs) = ap suc (length-placed S (s + 2 ^ h) hs)

pub length_pins : (S : Shape) (b : ℕ) → length (pins S b) ≡ length (S.peaks b)
length_pins S b = length-map (placed S 0 (S.peaks b)) (λ p. p.0) ∙ length-placed S 0 (S.peaks b)

module _ (S : Shape) where
  -- a pin is found
  pub pin_some : {D : Type 0} (hs : List ℕ) (s a k : ℕ) → IsPeak hs s a k → (ds : List D) → length ds ≡ length hs
      → is_some (paired (S.position a k) (map (λ p. p.0) (placed S s hs)) ds) ≡ true
  pin_some [] s a k i ds e = absurd i
  pin_some (h ∷ hs) s a k i [] e = absurd (omega arith)
  pin_some (h ∷ hs) s a k (inl q) (d ∷ ds) e =
      let t : eqb (S.position s h) (S.position a k) ≡ true = eq-eqb _ _ (ap₂ S.position q.0 q.1) in
      ap (λ b. is_some (if b then Some d else paired (S.position a k) (map (λ p. p.0) (placed S (s + 2 ^ h) hs)) ds)) t
  pin_some (h ∷ hs) s a k (inr r) (d ∷ ds) e =
      let rest = pin_some hs (s + 2 ^ h) a k r ds (omega arith) in
      elim (eqb (S.position s h) (S.position a k)) as (λ b. is_some (if b then Some d else paired
      (S.position a k) (map (λ p. p.0) (placed S (s + 2 ^ h) hs)) ds) ≡ true) [ true ↦ refl | false ↦ rest ]

  module _ (L : Laws S) where
    -- a digest that is found among the list's own pins is the list's
    pub pin_true : (node : ℕ → ℕ → List ℕ) (hs : List ℕ) (s a k : ℕ) (d : List ℕ) → AreAligned hs s → a % 2 ^ k ≡ 0
        → paired (S.position a k) (map (λ p. p.0) (placed S s hs)) (at_peaks node s hs) ≡ Some d → d ≡ node k a
    unfolding AreAligned
    pin_true node [] s a k d al aa e = cc
    pin_true node (h ∷ hs) s a k d al aa e = go (λ f. pin_true node hs (s + 2 ^ h) a k d al.1 aa f)
        (eqb (S.position s h) (S.position a k)) refl e
      where
        go : (paired (S.position a k) (map (λ p. p.0) (placed S (s + 2 ^ h) hs)) (at_peaks node (s + 2 ^ h) hs) ≡ Some d
            → d ≡ node k a) → (b : Bool) → eqb (S.position s h) (S.position a k) ≡ b → (if b then Some (node h s)
            else paired (S.position a k) (map (λ p. p.0) (placed S (s + 2 ^ h) hs)) (at_peaks node (s + 2 ^ h) hs))
            ≡ Some d → d ≡ node k a
        go more true t f = let i = L.injective s h a k al.0 aa (eqb-true _ _ t) in
            let here : node h s ≡ d = cc in sym here ∙ ap₂ (λ x y. node y x) i.0 i.1
        go more false t f = more f

    -- what a tree over chunks has of a list at a node is the list's
    pub tree_true : (node : ℕ → ℕ → List ℕ) (list : List (List ℕ)) (b : ℕ) (ps ls : List (List ℕ))
        → ((a : ℕ) → node 0 a ≡ get_or list a []) → ps ≡ at_peaks node 0 (S.peaks b) → ls ≡ drop b list
        → (a k : ℕ) (d : List ℕ) → a % 2 ^ k ≡ 0 → tree_at S b ps ls (S.position a k) ≡ Some d → d ≡ node k a
    tree_true node list b ps ls leaf ep el a k d al e =
        ⊎_elim
        (λ (l : S.position a k < size S b).
        pin_true node (S.peaks b) 0 a k d (L.aligned b) al
        (ap (paired (S.position a k) (pins S b)) (sym ep) ∙ sym (tree_at_low S b ps ls _ l) ∙ e))
        (λ (g : size S b ≤ S.position a k).
        let r = found_leaf S L (S.position a k) b ls d (sym (tree_at_high S b ps ls _ g) ∙ e) in
        let i = L.injective (b + r.place) 0 a k (let z : (b + r.place) % 1 ≡ 0 = omega arith in z) al
        ((L.leaf (b + r.place)).0 ∙ r.at) in
        let value : get_or ls r.place [] ≡ d =
        (let x : Some (get_or ls r.place []) ≡ Some d = sym (slice_get-get_or ls r.place [] r.within) ∙ r.is in cc) in
        sym value ∙ ap (λ xs. get_or xs r.place []) el ∙ get_or-drop b list r.place []
        ∙ sym (leaf (b + r.place)) ∙ ap₂ (λ x y. node y x) i.0 i.1)
        (cases_lt (S.position a k) (size S b))

    -- what is kept past the pins is of a leaf
    pub record IsLeaf (b count a k : ℕ) : Type 0 where
      pub level : k ≡ 0
      pub place : b ≤ a
      pub within : a < b + count

    pub leaf_is : {D : Type 0} (b : ℕ) (ps ls : List D) (a k : ℕ) (d : D) → a % 2 ^ k ≡ 0 → size S b ≤ S.position a k
        → tree_at S b ps ls (S.position a k) ≡ Some d → IsLeaf b (length ls) a k
    leaf_is b ps ls a k d al m e =
        let r = found_leaf S L (S.position a k) b ls d (sym (tree_at_high S b ps ls _ m) ∙ e) in
        let i = L.injective (b + r.place) 0 a k (let z : (b + r.place) % 1 ≡ 0 = omega arith in z) al
        ((L.leaf (b + r.place)).0 ∙ r.at) in
        record { level = sym i.1; place = omega (arith, i.0); within = omega (arith, i.0, r.within) }

    -- what is kept of a node is over leaves of the tree
    pub kept_within : {D : Type 0} (b : ℕ) (ps ls : List D) (a k : ℕ) (d : D) → a % 2 ^ k ≡ 0
        → tree_at S b ps ls (S.position a k) ≡ Some d → a + 2 ^ k ≤ b + length ls
    kept_within b ps ls a k d al e =
        ⊎_elim
        (λ (l : S.position a k < size S b).
        let born : S.birth a k ≤ b = (L.born b a k al).0 l in omega (arith, born, L.late a k))
        (λ (m : size S b ≤ S.position a k).
        let i = leaf_is b ps ls a k d al m e in
        let one : 2 ^ k ≡ 1 = ap (λ j. 2 ^ j) i.level in omega (arith, i.place, i.within))
        (cases_lt (S.position a k) (size S b))

    module _ {D : Type 0} (b : ℕ) (ps ls : List D) (few : length ps ≡ length (S.peaks b)) where
      pin_kept : (a k : ℕ) → a % 2 ^ k ≡ 0 → IsPeak (S.peaks b) 0 a k → IsKeptIn S (tree_at S b ps ls) a k
      pin_kept a k al i =
          let born : S.birth a k ≤ b = (L.inside b a k al).0 (peak_inside (S.peaks b) 0 a k i) in
          let low : S.position a k < size S b = (L.born b a k al).1 born in
          ap is_some (tree_at_low S b ps ls _ low) ∙ pin_some (S.peaks b) 0 a k i ps few

      leaf_kept : (a : ℕ) → b ≤ a → a < b + length ls → IsKeptIn S (tree_at S b ps ls) a 0
      leaf_kept a from to =
          let high : size S b ≤ size S a = grows_at_most (size S) L.grows b a from in
          let at : S.position a 0 ≡ size S a = (L.leaf a).0 in
          let e : b + (a - b) ≡ a = omega arith in
          ap (λ q. is_some (tree_at S b ps ls q)) at
          ∙ ap is_some (tree_at_high S b ps ls (size S a) high)
          ∙ ap (λ n. is_some (paired (size S n) (leaf_places S b ls) ls)) (sym e)
          ∙ ap is_some (leaf_found S L b (a - b) ls)
          ∙ some_there ls (a - b) (omega arith)
        where
          some_there : {X : Type 0} (xs : List X) (i : ℕ) → i < length xs → is_some (slice_get xs i) ≡ true
          some_there [] i l = absurd (omega arith)
          some_there (x ∷ xs) zero l = refl
          some_there (x ∷ xs) (suc i) l = some_there xs i (omega arith)

      -- a node that is not strictly inside a pin is coverable
      pub covered : (k a : ℕ) → a % 2 ^ k ≡ 0 → a + 2 ^ k ≤ b + length ls
          → (Inside (S.peaks b) 0 a k → IsPeak (S.peaks b) 0 a k)
          → IsCoverable (IsKeptIn S (tree_at S b ps ls)) 0 k a
      covered zero a al within top =
          ⊎_elim
          (λ (l : a < b). pin_kept a 0 al (top ((L.inside b a 0 al).1 (omega (arith, (L.leaf a).1)))))
          (λ (g : b ≤ a). leaf_kept a g (omega (arith, pow_pos 0)))
          (cases_lt a b)
      covered (suc k) a al within top =
          let two = pow_two k in
          let left : a % 2 ^ k ≡ 0 = multiple_down a k (suc k) (omega arith) al in
          let right : (a + 2 ^ k) % 2 ^ k ≡ 0 =
          multiple_add a (2 ^ k) (2 ^ k) (pow_pos k) left (power_multiple k k (omega arith)) in
          ⊎_elim
          (λ (l : b < S.birth a (suc k)).
          let none : Inside (S.peaks b) 0 a (suc k) → ⊥ =
          λ i. absurd (let x : S.birth a (suc k) ≤ b = (L.inside b a (suc k) al).0 i in omega arith) in
          inr (
            omega arith,
            covered k a left (omega arith)
                (λ i. inside_peak (S.peaks b) 0 a k a (L.aligned b) i al (omega arith) (omega arith) none),
            covered k (a + 2 ^ k) right (omega arith)
                (λ i. inside_peak (S.peaks b) 0 (a + 2 ^ k) k a (L.aligned b) i al (omega arith) (omega arith) none),
          ))
          (λ (g : S.birth a (suc k) ≤ b). inl (pin_kept a (suc k) al (top ((L.inside b a (suc k) al).1 g))))
          (cases_lt b (S.birth a (suc k)))

      -- of a peak over more chunks what is inside a pin is that pin
      peak_top : (m a k : ℕ) → b ≤ m → a % 2 ^ k ≡ 0 → IsPeak (S.peaks m) 0 a k → Inside (S.peaks b) 0 a k
          → IsPeak (S.peaks b) 0 a k
      peak_top m a k from al i x =
          let q = parent_of a k al in
          inside_peak (S.peaks b) 0 a k q.first (L.aligned b) x q.aligned q.low q.high
          (λ y. peak_topmost (S.peaks m) 0 a k q.first i q.low q.high
          ((L.inside m q.first (suc k) q.aligned).1 (let z : S.birth q.first (suc k) ≤ b =
          (L.inside b q.first (suc k) q.aligned).0 y in omega arith)))

      -- so are the peaks over more chunks
      pub peak_covered : (m a k : ℕ) → b ≤ m → m ≤ b + length ls → a % 2 ^ k ≡ 0 → IsPeak (S.peaks m) 0 a k
          → IsCoverable (IsKeptIn S (tree_at S b ps ls)) 0 k a
      peak_covered m a k from to al i =
          let end = (inside_between (S.peaks m) 0 a k (peak_inside (S.peaks m) 0 a k i)).1 in
          covered k a al (omega (arith, end, L.sum m)) (peak_top m a k from al i)

      -- to have a node of the tree over m chunks, only nodes are hashed that are not in the tree over the pruned ones
      made_taken : (takes : ℕ → Type 0) (m : ℕ) → TakesGrowth takes S b m → (k a : ℕ) → a % 2 ^ k ≡ 0
          → S.position a k < size S m → (Inside (S.peaks b) 0 a k → IsPeak (S.peaks b) 0 a k)
          → TakesMade (IsKeptIn S (tree_at S b ps ls)) (λ a k. takes (S.position a k)) k a
      made_taken takes m growth zero a al below top = tt
      made_taken takes m growth (suc k) a al below top =
          let left : a % 2 ^ k ≡ 0 = multiple_down a k (suc k) (omega arith) al in
          let right : (a + 2 ^ k) % 2 ^ k ≡ 0 =
          multiple_add a (2 ^ k) (2 ^ k) (pow_pos k) left (power_multiple k k (omega arith)) in
          let two = pow_two k in
          let c = L.children a k al in
          ⊎_elim
          (λ (low : S.position a (suc k) < size S b). inl (pin_kept a (suc k) al
          (top ((L.inside b a (suc k) al).1 ((L.born b a (suc k) al).0 low)))))
          (λ (high : size S b ≤ S.position a (suc k)).
          let none : Inside (S.peaks b) 0 a (suc k) → ⊥ =
          λ i. absurd (let x : S.position a (suc k) < size S b = (L.born b a (suc k) al).1 ((L.inside b a (suc k) al).0 i) in
          omega arith) in
          inr (
            growth (S.position a (suc k)) a (suc k) (record { aligned = al; at = refl }, omega arith) high below,
            made_taken takes m growth k a left (omega (arith, c.0, below))
                (λ i. inside_peak (S.peaks b) 0 a k a (L.aligned b) i al (omega arith) (omega arith) none),
            made_taken takes m growth k (a + 2 ^ k) right (omega (arith, c.1, below))
                (λ i. inside_peak (S.peaks b) 0 (a + 2 ^ k) k a (L.aligned b) i al (omega arith) (omega arith) none),
          ))
          (cases_lt (S.position a (suc k)) (size S b))

      pub peak_taken : (takes : ℕ → Type 0) (m a k : ℕ) → TakesGrowth takes S b m → b ≤ m → a % 2 ^ k ≡ 0
          → IsPeak (S.peaks m) 0 a k → TakesMade (IsKeptIn S (tree_at S b ps ls)) (λ a k. takes (S.position a k)) k a
      peak_taken takes m a k growth from al i =
          let below : S.position a k < size S m =
          (L.born m a k al).1 ((L.inside m a k al).0 (peak_inside (S.peaks m) 0 a k i)) in
          made_taken takes m growth k a al below (peak_top m a k from al i)

-- what holds of each node that is one of some peaks holds of each of them
pub each_of : (P : ℕ → ℕ → Type 0) (a : ℕ) (ks : List ℕ) → ((b j : ℕ) → IsPeak ks a b j → P b j)
    → EachPeak P (places a ks)
each_of P a [] f = tt
each_of P a (k ∷ ks) f = (f a k (inl (refl, refl)), each_of P (a + 2 ^ k) ks (λ b j i. f b j (inr i)))
