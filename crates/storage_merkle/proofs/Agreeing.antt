-- What two values that agree on a calculation have in common.
use Rattle.std.proofs.Common.{◌≡◌, ℕ, zero, suc, ◌+◌, ◌<◌, ◌≤◌, ◌^◌, List, [], ◌∷◌, ◌++◌, map, Bool, true, false, if◌then◌else◌, inl, inr, refl, sym, ap, ◌∙◌, arith, leb, Option, Some, None, subst, le-leb, pow-suc, pow_pos, pow-add, lt_of_mul-lt-mul_right, ◌-◌, ◌*◌, ◌/◌, ◌%◌}
use Rattle.std.proofs.lemmas.Bool.{lt-leb, cases_lt}
use Rattle.std.proofs.lemmas.Nat.{le-div}
use Rattle.storage_merkle.specs.Calc.{Site, node, Calc, given, leaf, pair, graft, be8, Values, Agree}
use Rattle.storage_merkle.specs.Shape.{leaves_under, Inside, AreAligned}
use Rattle.storage_merkle.specs.Trees.{Layout, Peak, node_calc, part, fold_forward, fold_backward, bag, join_calc, places}
use Rattle.storage_merkle.specs.RangeProofs.{apart, one_for, leading, not_leading, up_to, trailing, sites_of, position_of, place_in, by_position, sites_in}
use Rattle.storage_merkle.specs.Laws.Shape.{inside_between}
use Rattle.storage_merkle.specs.Laws.Multiples.{multiple_down, pow_order, quotient}

le_zero : (m : ℕ) → m < 1 → m ≡ 0
le_zero m h = omega arith

sub_back : (k n : ℕ) → n ≤ k → k ≡ (k - n) + n
sub_back k n h = omega arith

abbrev pub AllPeaks : (Peak → Type 0) → List Peak → Type 0
AllPeaks P [] = Unit {0}
AllPeaks P (p ∷ ps) = P p × AllPeaks P ps

module _ (v w : Values) where
  abbrev pub AgreeAll : List Calc → Type 0
  AgreeAll [] = Unit {0}
  AgreeAll (t ∷ ts) = Agree v w t × AgreeAll ts

  abbrev pub AgreeBag : Option Calc → Type 0
  AgreeBag None = Unit {0}
  AgreeBag (Some t) = Agree v w t

  pub agree_forward : (t : Calc) (ts : List Calc) → Agree v w (fold_forward t ts) → Agree v w t × AgreeAll ts
  agree_forward t [] a = (a, tt)
  agree_forward t (u ∷ ts) a = let r = agree_forward (pair [] t u) ts a in (r.0.0, (r.0.1, r.1))

  pub agree_backward : (t : Calc) (ts : List Calc) → Agree v w (fold_backward t ts) → Agree v w t × AgreeAll ts
  agree_backward t [] a = (a, tt)
  agree_backward t (u ∷ ts) a = let r = agree_backward u ts a.1 in (a.0, (r.0, r.1))

  pub agree_bag : (xs ys : List Calc) → AgreeBag (bag xs ys) → AgreeAll xs × AgreeAll ys
  agree_bag [] [] a = (tt, tt)
  agree_bag [] (y ∷ ys) a = (tt, agree_backward y ys a)
  agree_bag (x ∷ xs) ys a = let r = agree_backward (fold_forward x xs) ys a in (agree_forward x xs r.0, r.1)

  pub agree_append : (ts us : List Calc) → AgreeAll (ts ++ us) → AgreeAll ts × AgreeAll us
  agree_append [] us a = (tt, a)
  agree_append (t ∷ ts) us a = let r = agree_append ts us a.1 in ((a.0, r.0), r.1)

  pub agree_join : (T : Layout) (a k : ℕ) (l r : Calc) → Agree v w (join_calc T a k l r) → Agree v w l × Agree v w r
  agree_join T a k l r = elim (T.grafted a k) as (λ b. Agree v w (if b then graft a (T.position a k) l r
      else pair (be8 (T.position a k)) l r) → Agree v w l × Agree v w r) [ true ↦ λ g. g.1 | false ↦ λ g. g ]

  -- at a leaf over which nothing is cut
  module _ (T : Layout) (cut : ℕ → ℕ → Bool) (j : ℕ) (out : (a k : ℕ) → a ≤ j → j < a + 2 ^ k → cut a k ≡ false) where
    pub agree_leaf : (k a : ℕ) → a ≤ j → j < a + 2 ^ k → Agree v w (node_calc T cut k a) → v.element j ≡ w.element j
    agree_leaf zero a l u g =
        let f : v.element a ≡ w.element a = subst (λ b.
        Agree v w (if b then given (node a zero) else leaf (be8 (T.shape.position a zero)) a)) (out a zero l u) g in
        let e : a ≡ j = omega arith in
        subst (λ i. v.element i ≡ w.element i) e f
    agree_leaf (suc k) a l u g =
        let f = agree_join T a (suc k) _ _ (subst (λ b. Agree v w (if b then given (node a (suc k))
        else join_calc T a (suc k) (node_calc T cut k a) (node_calc T cut k (a + 2 ^ k)))) (out a (suc k) l u) g) in
        elim (cases_lt j (a + 2 ^ k)) [
          | inl here ↦ agree_leaf k a l here f.0
          | inr later ↦ agree_leaf k (a + 2 ^ k) later (omega (arith, pow-suc 2 k)) f.1
        ]

    -- the chunk of a grafted node over j
    pub agree_chunk : (G a : ℕ) → T.grafted a G ≡ true → 1 ≤ G → a ≤ j → j < a + 2 ^ G → (k c m : ℕ) → G ≤ k
        → a ≡ c + m * 2 ^ G → c ≤ j → j < c + 2 ^ k → Agree v w (node_calc T cut k c) → v.chunk a ≡ w.chunk a
    agree_chunk G a t g al au zero c m gk e l u f = absurd (omega arith)
    agree_chunk G a t g al au (suc k) c m gk e l u f =
        let f' = subst (λ b. Agree v w (if b then given (node c (suc k))
        else join_calc T c (suc k) (node_calc T cut k c) (node_calc T cut k (c + 2 ^ k)))) (out c (suc k) l u) f in
        elim (cases_lt k G) [
          | inl here ↦
              let same : G ≡ suc k = omega arith in
              let size : 2 ^ G ≡ 2 ^ suc k = ap (λ n. 2 ^ n) same in
              let bound : m * 2 ^ G < 1 * 2 ^ G = omega arith in
              let none : m < 1 = lt_of_mul-lt-mul_right (2 ^ G) bound in
              let ac : a ≡ c = omega (arith, ap (λ n. n * 2 ^ G) (le_zero m (omega arith))) in
              let t' : T.grafted c (suc k) ≡ true =
              subst (λ x. T.grafted x (suc k) ≡ true) ac (subst (λ x. T.grafted a x ≡ true) same t) in
              let here' = subst (λ b. Agree v w (if b then graft c (T.position c (suc k)) (node_calc T cut k c)
              (node_calc T cut k (c + 2 ^ k)) else pair (be8 (T.position c (suc k))) (node_calc T cut k c)
              (node_calc T cut k (c + 2 ^ k)))) t' f' in
              subst (λ x. v.chunk x ≡ w.chunk x) (sym ac) here'.0
          | inr below' ↦
              let halves = agree_join T c (suc k) _ _ f' in
              elim (cases_lt j (c + 2 ^ k)) [
                | inl left ↦ agree_chunk G a t g al au k c m below' e l left halves.0
                | inr right ↦
                    let q : ℕ = 2 ^ (k - G) in
                    let whole : 2 ^ k ≡ q * 2 ^ G = ap (λ n. 2 ^ n) (sub_back k G below') ∙ pow-add 2 (k - G) G in
                    let less : q * 2 ^ G < suc m * 2 ^ G = omega arith in
                    let least : q < suc m = lt_of_mul-lt-mul_right (2 ^ G) less in
                    let parts : m ≡ q + (m - q) = omega arith in
                    let scaled : m * 2 ^ G ≡ (q + (m - q)) * 2 ^ G = ap (λ n. n * 2 ^ G) parts in
                    agree_chunk G a t g al au k (c + 2 ^ k) (m - q) below' (omega arith) right
                    (omega (arith, pow-suc 2 k)) halves.1
              ]
        ]

  -- at the peak over a leaf
  module _ (T : Layout) (cut : ℕ → ℕ → Bool) (j : ℕ) (P : Type 0) (Q : Peak → Type 0)
      (found : (p : Peak) → Q p → p.first ≤ j → j < p.first + 2 ^ p.height → Agree v w (part T cut p) → P) where
    -- in all of the peaks
    pub agree_parts : (a : ℕ) (ks : List ℕ) → AllPeaks Q (places a ks) → a ≤ j → j < a + leaves_under ks
        → AgreeAll (map (part T cut) (places a ks)) → P
    unfolding leaves_under
    agree_parts a [] q l u g = absurd (omega arith)
    agree_parts a (k ∷ ks) q l u g =
        elim (cases_lt j (a + 2 ^ k)) [
          | inl here ↦ found (record { first = a; height = k }) q.0 l here g.0
          | inr later ↦ agree_parts (a + 2 ^ k) ks q.1 later (omega arith) g.1
        ]

    pub agree_front : (low : ℕ) → low ≤ j → (a : ℕ) (ks : List ℕ) → AllPeaks Q (places a ks) → a ≤ j
        → j < a + leaves_under ks → AgreeAll (map (part T cut) (not_leading low (places a ks))) → P
    unfolding leaves_under
    agree_front low above a [] q l u g = absurd (omega arith)
    agree_front low above a (k ∷ ks) q l u g =
        let p : Peak = record { first = a; height = k } in
        let rest : List Peak = places (a + 2 ^ k) ks in
        let F : Bool → Type 0 = λ b. AgreeAll (map (part T cut) (if b then not_leading low rest else p ∷ rest)) in
        elim (cases_lt low (a + 2 ^ k)) [
          | inr past ↦ agree_front low above (a + 2 ^ k) ks q.1 (omega arith) (omega arith)
              (subst F (le-leb (a + 2 ^ k) low past) g)
          | inl here ↦ agree_parts a (k ∷ ks) q l u (subst F (lt-leb (a + 2 ^ k) low here) g)
        ]

    pub agree_back : (high : ℕ) → j < high → (a : ℕ) (ks : List ℕ) → AllPeaks Q (places a ks) → a ≤ j
        → j < a + leaves_under ks → AgreeAll (map (part T cut) (up_to high (places a ks))) → P
    unfolding leaves_under
    agree_back high below a [] q l u g = absurd (omega arith)
    agree_back high below a (k ∷ ks) q l u g =
        let p : Peak = record { first = a; height = k } in
        let rest : List Peak = places (a + 2 ^ k) ks in
        let F : Bool → Type 0 = λ b. AgreeAll (map (part T cut) (if b then [] else p ∷ up_to high rest)) in
        let f = subst F (lt-leb high a (omega arith)) g in
        elim (cases_lt j (a + 2 ^ k)) [
          | inl here ↦ found p q.0 l here f.0
          | inr later ↦ agree_back high below (a + 2 ^ k) ks q.1 later (omega arith) f.1
        ]

  -- at each site of a list
  abbrev pub AgreeAt : List Site → Type 0
  AgreeAt [] = Unit {0}
  AgreeAt (s ∷ ss) = (v.digest s ≡ w.digest s) × AgreeAt ss

  pub agree_at_append : (ss ts : List Site) → AgreeAt ss → AgreeAt ts → AgreeAt (ss ++ ts)
  agree_at_append [] ts a b = b
  agree_at_append (s ∷ ss) ts a b = (a.0, agree_at_append ss ts a.1 b)

  agree_place_in : (T : Layout) (s : Site) (ss : List Site) → v.digest s ≡ w.digest s → AgreeAt ss
      → AgreeAt (place_in T s ss)
  agree_place_in T s [] e a = (e, tt)
  agree_place_in T s (t ∷ ts) e a =
      elim (leb (position_of T s) (position_of T t)) as (λ b. AgreeAt (if b then s ∷ t ∷ ts else t ∷ place_in T s ts)) [
        | true ↦ (e, a)
        | false ↦ (a.0, agree_place_in T s ts e a.1)
      ]

  pub agree_by_position : (T : Layout) (ss : List Site) → AgreeAt ss → AgreeAt (by_position T ss)
  agree_by_position T [] a = tt
  agree_by_position T (s ∷ ss) a = agree_place_in T s (by_position T ss) a.0 (agree_by_position T ss a.1)

  pub agree_sites : (t : Calc) → Agree v w t → AgreeAt (sites_of t)
  agree_sites (given s) a = (a, tt)
  agree_sites (leaf p j) a = tt
  agree_sites (graft c p l r) a = agree_at_append (sites_of l) (sites_of r) (agree_sites l a.1.0) (agree_sites r a.1.1)
  agree_sites (pair p l r) a = agree_at_append (sites_of l) (sites_of r) (agree_sites l a.0) (agree_sites r a.1)

  module _ (T : Layout) (cut : ℕ → ℕ → Bool) where
    pub agree_sites_in : (ps : List Peak) → AgreeAll (map (part T cut) ps) → AgreeAt (sites_in T cut ps)
    agree_sites_in [] a = tt
    agree_sites_in (p ∷ ps) a = agree_at_append _ _ (agree_sites (part T cut p) a.0) (agree_sites_in ps a.1)

  pub agree_one_for : (s : Site) (ps : List Peak) → AgreeAll (one_for (given s) ps) → AgreeAt (one_for s ps)
  agree_one_for s [] a = tt
  agree_one_for s (p ∷ ps) a = a

module _ (low high : ℕ) (some : low < high) where
  -- what is before the range is not past it
  pub up_to-leading : (ps : List Peak) → up_to high ps ≡ leading low ps ++ up_to high (not_leading low ps)
  up_to-leading [] = refl
  up_to-leading (p ∷ ps) =
      elim (cases_lt low (p.first + 2 ^ p.height)) [
        | inl after ↦ rw (lt-leb (p.first + 2 ^ p.height) low after) refl
        | inr before ↦
            let pos : 0 < 2 ^ p.height = pow_pos p.height in
            let e : leb high p.first ≡ false = lt-leb high p.first (omega arith) in
            rw (le-leb (p.first + 2 ^ p.height) low before, e) (ap (λ qs. p ∷ qs) (up_to-leading ps))
      ]

  pub trailing-leading : (ps : List Peak) → trailing high ps ≡ trailing high (not_leading low ps)
  trailing-leading [] = refl
  trailing-leading (p ∷ ps) =
      elim (cases_lt low (p.first + 2 ^ p.height)) [
        | inl after ↦ rw (lt-leb (p.first + 2 ^ p.height) low after) refl
        | inr before ↦
            let pos : 0 < 2 ^ p.height = pow_pos p.height in
            let e : leb high p.first ≡ false = lt-leb high p.first (omega arith) in
            rw (le-leb (p.first + 2 ^ p.height) low before, e) (trailing-leading ps)
      ]

-- no node over a leaf of the range is apart from it
pub not_apart : (low high j : ℕ) → low ≤ j → j < high → (a k : ℕ) → a ≤ j → j < a + 2 ^ k → apart low high a k ≡ false
not_apart low high j above below a k l u = rw (lt-leb (a + 2 ^ k) low (omega arith), lt-leb high a (omega arith)) refl

-- of a node inside the peaks: a peak that holds a leaf of it holds all of it
module _ (a k j : ℕ) (from : a ≤ j) (to : j < a + 2 ^ k) (multiple : a % 2 ^ k ≡ 0) where
  abbrev pub Holds : Peak → Type 0
  Holds p = p.first ≤ j → j < p.first + 2 ^ p.height → (k ≤ p.height) × ((m : ℕ) × (a ≡ p.first + m * 2 ^ k))

  holds_later : (s : ℕ) (hs : List ℕ) → j < s → AllPeaks Holds (places s hs)
  holds_later s [] l = tt
  holds_later s (x ∷ hs) l = (λ x y. absurd (omega arith), holds_later (s + 2 ^ x) hs (omega arith))

  holds_here : (s x : ℕ) → s % 2 ^ x ≡ 0 → s ≤ a → a + 2 ^ k ≤ s + 2 ^ x → (k ≤ x) × ((m : ℕ) × (a ≡ s + m * 2 ^ k))
  holds_here s x al l u =
      let le : k ≤ x = pow_order k x (omega arith) in
      let d : ℕ = 2 ^ k in
      let whole : a ≡ a / d * d = quotient a d multiple in
      let start : s ≡ s / d * d = quotient s d (multiple_down s k x le al) in
      let less : s / d ≤ a / d = le-div (s / d) a d (pow_pos k) (omega arith) in
      let sum : a / d ≡ s / d + (a / d - s / d) = omega arith in
      let scaled : a / d * d ≡ (s / d + (a / d - s / d)) * d = ap (λ n. n * d) sum in
      (le, (a / d - s / d, omega arith))

  pub holds_inside : (hs : List ℕ) (s : ℕ) → AreAligned hs s → Inside hs s a k → AllPeaks Holds (places s hs)
  unfolding AreAligned Inside
  holds_inside [] s al i = absurd i
  holds_inside (x ∷ hs) s al (inl i) =
      (λ l u. holds_here s x al.0 i.0 i.1, holds_later (s + 2 ^ x) hs (omega (arith, i)))
  holds_inside (x ∷ hs) s al (inr i) =
      (λ l u. absurd (omega (arith, inside_between hs (s + 2 ^ x) a k i)), holds_inside hs (s + 2 ^ x) al.1 i)
