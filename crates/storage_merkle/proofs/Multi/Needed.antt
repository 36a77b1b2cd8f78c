-- The positions that a proof of some locations needs, step by step.
use Rattle.std.proofs.Common.{◌≡◌, ◌≢◌, ℕ, zero, suc, ◌+◌, ◌-◌, ◌≤◌, ◌^◌, List, [], ◌∷◌, ◌++◌, length, map, ◌==◌, eqb-true, refl, sym, ap, ap₂, ◌∙◌, arith, subst, true, false, not, append-nil, append_assoc}
use Rattle.std.specs.List.Sorted.{IsPermutation, IsNonDecreasing}
use Rattle.std.proofs.lemmas.List.{map-append}
use Rattle.storage_merkle.specs.Laws.Multiples.{pow_two}
use Rattle.storage_merkle.specs.Trees.{Layout, Peak, places, peaks_of, node_calc}
use Rattle.storage_merkle.specs.RangeProofs.{sites_of, sites_in, position_of}
use Rattle.storage_merkle.specs.Multi.{untouched, Ascend, needed_sites}
use Rattle.storage_merkle.proofs.Siblings.{positions, sites-cut, sites-leaf, sites-halves, positions_sorted}
use Rattle.storage_merkle.proofs.Peaks.{Walk}
use Rattle.storage_merkle.proofs.Multi.Claims.{untouched_none, untouched_some, touched_left, touched_right, same_calc}

pub not_empty : {X : Type 0} (xs : List X) → false ≡ (length xs == 0) → xs ≢ []
not_empty [] e = λ n. absurd (cc)
not_empty (x ∷ xs) e = λ n. absurd (cc)

pub is_empty : {X : Type 0} (xs : List X) → true ≡ (length xs == 0) → xs ≡ []
is_empty [] e = refl
is_empty (x ∷ xs) e = absurd (let none = eqb-true (length (x ∷ xs)) 0 (sym e) in omega arith)

map-not_empty : {X : Type 0} (f : X → ℕ) (xs : List X) → xs ≢ [] → map f xs ≢ []
map-not_empty f [] ne = absurd (ne refl)
map-not_empty f (x ∷ xs) ne = λ n. absurd (cc)

module _ (T : Layout) where
  -- of locations below m and others from m on
  module _ (ls rs : List ℕ) (first m n : ℕ) (u : Ascend first m ls × Ascend m n rs) where
    cut_left : (a k : ℕ) → a + 2 ^ k ≤ m → untouched (ls ++ rs) a k ≡ untouched ls a k
    cut_left a k le = ap not (touched_left ls rs first m n u.0 u.1 a k le)

    cut_right : (a k : ℕ) → m ≤ a → untouched (ls ++ rs) a k ≡ untouched rs a k
    cut_right a k le = ap not (touched_right ls rs first m n u.0 u.1 a k le)

    pub left_calc : (k a : ℕ) → a + 2 ^ k ≤ m → node_calc T (untouched (ls ++ rs)) k a ≡ node_calc T (untouched ls) k a
    left_calc k a le = same_calc T _ _ k a (λ b j v w. cut_left b j (omega arith))

    pub right_calc : (k a : ℕ) → m ≤ a → node_calc T (untouched (ls ++ rs)) k a ≡ node_calc T (untouched rs) k a
    right_calc k a le = same_calc T _ _ k a (λ b j v w. cut_right b j (omega arith))

    pub right_in : (s : ℕ) (ks : List ℕ) → m ≤ s
        → sites_in T (untouched (ls ++ rs)) (places s ks) ≡ sites_in T (untouched rs) (places s ks)
    right_in s [] le = refl
    right_in s (k ∷ ks) le = ap₂ (λ x y. sites_of x ++ y) (right_calc k s le) (right_in (s + 2 ^ k) ks (omega arith))

  module _ {X : Type 0} (place : X → ℕ) where
    abbrev pub under : List X → ℕ → ℕ → List ℕ
    under items k a = positions T (sites_of (node_calc T (untouched (map place items)) k a))

    abbrev pub in_peaks : List X → List Peak → List ℕ
    in_peaks items ps = positions T (sites_in T (untouched (map place items)) ps)

    pub adds_whole : (items : List X) (k a p : ℕ) (old new : List ℕ) → true ≡ (length items == 0)
        → p ≡ T.shape.position a k → new ≡ old ++ p ∷ [] → new ≡ old ++ under items k a
    adds_whole items k a p old new none at e =
        let out : untouched (map place items) a k ≡ true =
        untouched_none (map place items) a k (ap (map place) (is_empty items none)) in
        e ∙ ap (λ x. old ++ x ∷ []) at
        ∙ ap (λ ss. old ++ positions T ss) (sym (sites-cut T (untouched (map place items)) k a out))

    pub adds_leaf : (items : List X) (k a : ℕ) (old : List ℕ) → false ≡ (length items == 0) → k ≡ 0
        → Ascend a (a + 2 ^ k) (map place items) → old ≡ old ++ under items k a
    adds_leaf items zero a old some z up =
        let out : untouched (map place items) a 0 ≡ false =
        untouched_some (map place items) a 0 up (map-not_empty place items (not_empty items some)) in
        sym (append-nil old) ∙ ap (λ ss. old ++ positions T ss) (sym (sites-leaf T (untouched (map place items)) a out))
    adds_leaf items (suc k) a old some z up = absurd (omega arith)

    pub adds_halves : (items xs ys : List X) (k a m n : ℕ) (old mid new : List ℕ) → false ≡ (length items == 0) → k ≢ 0
        → Ascend a (a + 2 ^ k) (map place items) → items ≡ xs ++ ys
        → Ascend a (a + n) (map place xs) × Ascend (a + n) (a + 2 ^ k) (map place ys) → n ≡ 2 ^ (k - 1)
        → mid ≡ old ++ under xs (k - 1) a → new ≡ mid ++ under ys (k - 1) (a + n) → new ≡ old ++ under items k a
    adds_halves items xs ys zero a m n old mid new some ne up whole parts half e f = absurd (ne refl)
    adds_halves items xs ys (suc k) a m n old mid new some ne up whole parts half e f =
        let less : suc k - 1 ≡ k = omega arith in
        let n_is : n ≡ 2 ^ k = half ∙ ap (λ j. 2 ^ j) less in
        let b : ℕ = a + 2 ^ k in
        let ls = map place items in
        let out : untouched ls a (suc k) ≡ false =
        untouched_some ls a (suc k) up (map-not_empty place items (not_empty items some)) in
        let split : ls ≡ map place xs ++ map place ys = ap (map place) whole ∙ map-append place xs ys in
        let parts' : Ascend a b (map place xs) × Ascend b (a + 2 ^ suc k) (map place ys) =
        subst (λ z. Ascend a (a + z) (map place xs) × Ascend (a + z) (a + 2 ^ suc k) (map place ys)) n_is parts in
        let l : sites_of (node_calc T (untouched ls) k a) ≡ sites_of (node_calc T (untouched (map place xs)) k a) =
        ap sites_of (ap (λ zs. node_calc T (untouched zs) k a) split
        ∙ left_calc (map place xs) (map place ys) a b (a + 2 ^ suc k) parts' k a (omega arith)) in
        let r : sites_of (node_calc T (untouched ls) k b) ≡ sites_of (node_calc T (untouched (map place ys)) k b) =
        ap sites_of (ap (λ zs. node_calc T (untouched zs) k b) split
        ∙ right_calc (map place xs) (map place ys) a b (a + 2 ^ suc k) parts' k b (omega arith)) in
        let both : under items (suc k) a ≡ under xs k a ++ under ys k b =
        ap (positions T) (sites-halves T (untouched ls) k a out ∙ ap₂ (λ ss ts. ss ++ ts) l r)
        ∙ map-append (position_of T) (sites_of (node_calc T (untouched (map place xs)) k a))
        (sites_of (node_calc T (untouched (map place ys)) k b)) in
        let e' : mid ≡ old ++ under xs k a = e ∙ ap (λ j. old ++ under xs j a) less in
        let f' : new ≡ mid ++ under ys k b = f ∙ ap₂ (λ j z. mid ++ under ys j (a + z)) less n_is in
        f' ∙ ap (λ zs. zs ++ under ys k b) e' ∙ append_assoc old (under xs k a) (under ys k b)
        ∙ ap (λ zs. old ++ zs) (sym both)

    -- past the first of some peaks
    pub adds_peak : (items xs ys : List X) (p : Peak) (ps qs : List Peak) (n m : ℕ) (rest : Walk n qs) (old mid all : List ℕ)
        → ps ≡ p ∷ qs → items ≡ xs ++ ys → m ≡ 2 ^ p.height → rest.first ≡ p.first + 2 ^ p.height
        → Ascend p.first (p.first + m) (map place xs) × Ascend (p.first + m) n (map place ys)
        → mid ≡ old ++ under xs p.height p.first → old ++ in_peaks items ps ≡ all → mid ++ in_peaks ys qs ≡ all
    adds_peak items xs ys p ps qs n m rest old mid all e whole em next parts f g =
        let ls = map place items in
        let s = p.first in
        let h = p.height in
        let b : ℕ = s + 2 ^ h in
        let split : ls ≡ map place xs ++ map place ys = ap (map place) whole ∙ map-append place xs ys in
        let parts' : Ascend s b (map place xs) × Ascend b n (map place ys) =
        subst (λ z. Ascend s (s + z) (map place xs) × Ascend (s + z) n (map place ys)) em parts in
        let l : sites_of (node_calc T (untouched ls) h s) ≡ sites_of (node_calc T (untouched (map place xs)) h s) =
        ap sites_of (ap (λ zs. node_calc T (untouched zs) h s) split
        ∙ left_calc (map place xs) (map place ys) s b n parts' h s (omega arith)) in
        let r : sites_in T (untouched ls) qs ≡ sites_in T (untouched (map place ys)) qs =
        ap (λ zs. sites_in T (untouched zs) qs) split
        ∙ ap (sites_in T (untouched (map place xs ++ map place ys))) rest.are
        ∙ right_in (map place xs) (map place ys) s b n parts' rest.first rest.heights (omega arith)
        ∙ ap (sites_in T (untouched (map place ys))) (sym rest.are) in
        let both : in_peaks items ps ≡ under xs h s ++ in_peaks ys qs =
        ap (in_peaks items) e ∙ ap (positions T) (ap₂ (λ ss ts. ss ++ ts) l r) ∙ map-append (position_of T)
        (sites_of (node_calc T (untouched (map place xs)) h s)) (sites_in T (untouched (map place ys)) qs) in
        ap (λ zs. zs ++ in_peaks ys qs) f ∙ append_assoc old (under xs h s) (in_peaks ys qs)
        ∙ ap (λ zs. old ++ zs) (sym both) ∙ g

  -- sorted
  pub needed_sorted : (ls : List ℕ) (n : ℕ) (found ps : List ℕ)
      → found ≡ positions T (sites_in T (untouched ls) (peaks_of T n)) → IsPermutation found ps → IsNonDecreasing ps
      → ps ≡ positions T (needed_sites T ls n)
  needed_sorted ls n found ps e p up =
      positions_sorted T (sites_in T (untouched ls) (peaks_of T n)) ps (subst (λ xs. IsPermutation xs ps) e p) up

-- the items of a node's halves
pub halves_ascend : {X : Type 0} (place : X → ℕ) (items xs ys : List X) (a k n : ℕ) → k ≢ 0 → n ≡ 2 ^ (k - 1)
    → Ascend a (a + 2 ^ k) (map place items) → ((first end : ℕ) → Ascend first end (map place items) → a + n ≤ end
    → Ascend first (a + n) (map place xs) × Ascend (a + n) end (map place ys)) → Ascend a (a + 2 ^ (k - 1))
    (map place xs) × Ascend (a + 2 ^ (k - 1)) (a + 2 ^ (k - 1) + 2 ^ (k - 1)) (map place ys)
halves_ascend place items xs ys a zero n ne half up parts = absurd (ne refl)
halves_ascend place items xs ys a (suc k) n ne half up parts =
    let less : suc k - 1 ≡ k = omega arith in
    let n_is : n ≡ 2 ^ k = half ∙ ap (λ j. 2 ^ j) less in
    let whole : a + 2 ^ suc k ≡ a + 2 ^ k + 2 ^ k = omega (arith, pow_two k) in
    let p = parts a (a + 2 ^ suc k) up (omega (arith, pow_two k)) in
    let q : Ascend a (a + 2 ^ k) (map place xs) × Ascend (a + 2 ^ k) (a + 2 ^ suc k) (map place ys) =
    subst (λ z. Ascend a (a + z) (map place xs) × Ascend (a + z) (a + 2 ^ suc k) (map place ys)) n_is p in
    rw less (q.0, subst (λ z. Ascend (a + 2 ^ k) z (map place ys)) whole q.1)
