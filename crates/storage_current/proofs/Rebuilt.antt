-- What can be had of a tree from the nodes that are kept of it.
use Rattle.std.proofs.Common.{◌≡◌, ◌≢◌, ℕ, zero, suc, ◌+◌, ◌-◌, ◌%◌, ◌^◌, ◌<◌, ◌≤◌, ◌⊎◌, inl, inr, List, Option, Some, None, option_map, true, false, refl, sym, ap, ap₂, ◌∙◌, arith}
use Rattle.std.specs.Option.{option_or, is_some}
use Rattle.storage_merkle.specs.Shape.{Shape, Laws, size}
use Rattle.storage_merkle.specs.Laws.Multiples.{multiple_down, multiple_add, power_multiple}
use Rattle.std.proofs.lemmas.Nat.{pow_pos}
use Rattle.storage_current.specs.GraftedTrees.{IsCoverable, IsKeptIn, TakesMade, made_of, rebuilt}

-- ---- options

pub none_or : {T : Type 0} (x : Option T) → (is_some x ≡ true → ⊥) → x ≡ None
none_or None gone = refl
none_or (Some x) gone = absurd (gone refl)

pub none_some : {T : Type 0} (x : Option T) → is_some x ≡ false → x ≡ None
none_some None e = refl
none_some (Some x) e = cc

pub map_some : {A B : Type 0} (f : A → B) (x : Option A) → is_some (option_map f x) ≡ is_some x
map_some f None = refl
map_some f (Some x) = refl

-- ---- the halves of a node

pub record Halves (S : Shape) (a k : ℕ) : Type 0 where
  pub left : a % 2 ^ (k - 1) ≡ 0
  pub right : (a + 2 ^ (k - 1)) % 2 ^ (k - 1) ≡ 0
  pub left_before : S.position a (k - 1) < S.position a k
  pub right_before : S.position (a + 2 ^ (k - 1)) (k - 1) < S.position a k
  pub first : a + 2 ^ (k - 1) ≤ S.position a k

module _ (S : Shape) (L : Laws S) where
  at_least : (n : ℕ) → n ≤ size S n
  at_least zero = omega arith
  at_least (suc n) = let more : size S n < size S (n + 1) = L.grows n in let e : n + 1 ≡ suc n = omega arith in
      let more' = rw e at more in omega (arith, at_least n)

  -- a node stands past its first leaf
  pub past_first : (a k : ℕ) → a % 2 ^ k ≡ 0 → a ≤ S.position a k
  past_first a zero al = omega (arith, at_least a, (L.leaf a).0)
  past_first a (suc k) al = omega (arith, past_first a k (multiple_down a k (suc k) (omega arith) al), (L.children a k al).0)

  pub halves : (a k : ℕ) → a % 2 ^ k ≡ 0 → k ≢ 0 → Halves S a k
  halves a zero al ne = absurd (ne refl)
  halves a (suc k) al ne =
      let e : suc k - 1 ≡ k = omega arith in
      let l : a % 2 ^ k ≡ 0 = multiple_down a k (suc k) (omega arith) al in
      let r : (a + 2 ^ k) % 2 ^ k ≡ 0 = multiple_add a (2 ^ k) (2 ^ k) (pow_pos k) l (power_multiple k k (omega arith)) in
      let c = L.children a k al in
      let past : a + 2 ^ k ≤ S.position (a + 2 ^ k) k = past_first (a + 2 ^ k) k r in
      record {
        left = rw e l;
        right = rw e r;
        left_before = rw e c.0;
        right_before = rw e c.1;
        first = rw e (omega (arith, past, c.1));
      }

-- ---- coverable nodes

module _ (P : ℕ → ℕ → Type 0) where
  pub covered_kept : (k a : ℕ) → P a k → IsCoverable P 0 k a
  covered_kept zero a p = p
  covered_kept (suc k) a p = inl p

  pub covered_leaf : (k a : ℕ) → k ≡ 0 → IsCoverable P 0 k a → P a k
  covered_leaf zero a e c = c
  covered_leaf (suc k) a e c = absurd (omega arith)

  pub covered_both : (k a : ℕ) → k ≢ 0 → IsCoverable P 0 (k - 1) a → IsCoverable P 0 (k - 1) (a + 2 ^ (k - 1))
      → IsCoverable P 0 k a
  covered_both zero a ne l r = absurd (ne refl)
  covered_both (suc k) a ne l r = let e : suc k - 1 ≡ k = omega arith in
      inr (omega arith, rw e at l, rw e at r)

  pub covered_halves : (k a : ℕ) → k ≢ 0 → (P a k → ⊥) → IsCoverable P 0 k a
      → IsCoverable P 0 (k - 1) a × IsCoverable P 0 (k - 1) (a + 2 ^ (k - 1))
  covered_halves zero a ne gone c = absurd (ne refl)
  covered_halves (suc k) a ne gone (inl p) = absurd (gone p)
  covered_halves (suc k) a ne gone (inr c) = let e : suc k - 1 ≡ k = omega arith in rw e (c.1, c.2)

-- to have a node that is not kept, it is hashed, and what its halves take
pub made_halves : {D : Type 0} (S : Shape) (kept : ℕ → Option D) (taken : ℕ → ℕ → Type 0) (k a : ℕ) → k ≢ 0
    → is_some (kept (S.position a k)) ≡ false → TakesMade (IsKeptIn S kept) taken k a → taken a k
    × TakesMade (IsKeptIn S kept) taken (k - 1) a × TakesMade (IsKeptIn S kept) taken (k - 1) (a + 2 ^ (k - 1))
made_halves S kept taken zero a ne none t = absurd (ne refl)
made_halves S kept taken (suc k) a ne none (inl some) = absurd (cc)
made_halves S kept taken (suc k) a ne none (inr t) = let e : suc k - 1 ≡ k = omega arith in rw e t

-- the same by what each digest is seen as
module _ {D E : Type 0} (S : Shape) (f : D → E) (kept : ℕ → Option D) where
  pub covered_seen : (k a : ℕ) → IsCoverable (IsKeptIn S kept) 0 k a
      → IsCoverable (IsKeptIn S (λ p. option_map f (kept p))) 0 k a
  covered_seen zero a c = map_some f (kept (S.position a zero)) ∙ c
  covered_seen (suc k) a (inl p) = inl (map_some f (kept (S.position a (suc k))) ∙ p)
  covered_seen (suc k) a (inr c) = inr (c.0, covered_seen k a c.1, covered_seen k (a + 2 ^ k) c.2)

  pub seen_covered : (k a : ℕ) → IsCoverable (IsKeptIn S (λ p. option_map f (kept p))) 0 k a
      → IsCoverable (IsKeptIn S kept) 0 k a
  seen_covered zero a c = sym (map_some f (kept (S.position a zero))) ∙ c
  seen_covered (suc k) a (inl p) = inl (sym (map_some f (kept (S.position a (suc k)))) ∙ p)
  seen_covered (suc k) a (inr c) = inr (c.0, seen_covered k a c.1, seen_covered k (a + 2 ^ k) c.2)

-- ---- what is rebuilt

pub made_none : {D : Type 0} (join : D → D → D) (x : Option D) → made_of join x None ≡ None
made_none join (Some l) = refl
made_none join None = refl

made_some : {D : Type 0} (join : D → D → D) (x y : Option D) → is_some (made_of join x y) ≡ true
    → (is_some x ≡ true) × (is_some y ≡ true)
made_some join (Some l) (Some r) e = (refl, refl)
made_some join (Some l) None e = cc
made_some join None y e = cc

some_made : {D : Type 0} (join : D → D → D) (x y : Option D) → is_some x ≡ true → is_some y ≡ true
    → is_some (made_of join x y) ≡ true
some_made join (Some l) (Some r) e f = refl
some_made join (Some l) None e f = cc
some_made join None y e f = cc

or_some : {D : Type 0} (x y : Option D) → is_some (option_or x y) ≡ true → (is_some x ≡ true) ⊎ (is_some y ≡ true)
or_some None y e = inr e
or_some (Some x) y e = inl refl

or_left : {D : Type 0} (x y : Option D) → is_some x ≡ true → is_some (option_or x y) ≡ true
or_left None y e = cc
or_left (Some x) y e = refl

or_first : {D : Type 0} (x y : Option D) → is_some x ≡ true → x ≡ option_or x y
or_first None y e = cc
or_first (Some x) y e = refl

or_right : {D : Type 0} (x y : Option D) → is_some y ≡ true → is_some (option_or x y) ≡ true
or_right None y e = e
or_right (Some x) y e = refl

module _ {D : Type 0} (S : Shape) (join : ℕ → ℕ → D → D → D) (kept : ℕ → Option D) where
  -- a node can be had exactly where it is coverable
  pub covered_some : (k a : ℕ) → IsCoverable (IsKeptIn S kept) 0 k a → is_some (rebuilt S join kept k a) ≡ true
  covered_some zero a c = c
  covered_some (suc k) a (inl p) = or_left _ _ p
  covered_some (suc k) a (inr c) = or_right (kept (S.position a (suc k))) _ (some_made (join a (suc k)) _ _
      (covered_some k a c.1) (covered_some k (a + 2 ^ k) c.2))

  pub some_covered : (k a : ℕ) → is_some (rebuilt S join kept k a) ≡ true → IsCoverable (IsKeptIn S kept) 0 k a
  some_covered zero a e = e
  some_covered (suc k) a e =
      elim (or_some (kept (S.position a (suc k))) _ e) [
        | inl p ↦ inl p
        | inr q ↦ let both = made_some (join a (suc k)) _ _ q in
            inr (omega arith, some_covered k a both.0, some_covered k (a + 2 ^ k) both.1)
      ]

  -- the steps of a calculation
  pub rebuilt_kept : (k a : ℕ) (d : D) → kept (S.position a k) ≡ Some d → rebuilt S join kept k a ≡ Some d
  rebuilt_kept zero a d e = e
  rebuilt_kept (suc k) a d e = ap (λ x. option_or x (made_of (join a (suc k)) (rebuilt S join kept k a)
      (rebuilt S join kept k (a + 2 ^ k)))) e

  pub rebuilt_leaf : (k a : ℕ) → k ≡ 0 → rebuilt S join kept k a ≡ kept (S.position a k)
  rebuilt_leaf zero a e = refl
  rebuilt_leaf (suc k) a e = absurd (omega arith)

  -- where it is kept, or is a leaf, it is what is kept
  pub rebuilt_here : (k a : ℕ) → (is_some (kept (S.position a k)) ≡ true) ⊎ (k ≡ 0)
      → kept (S.position a k) ≡ rebuilt S join kept k a
  rebuilt_here zero a here = refl
  rebuilt_here (suc k) a (inl some) = or_first (kept (S.position a (suc k))) _ some
  rebuilt_here (suc k) a (inr leaf) = absurd (omega arith)

  pub rebuilt_halves : (k a : ℕ) → k ≢ 0 → kept (S.position a k) ≡ None → rebuilt S join kept k a
      ≡ made_of (join a k) (rebuilt S join kept (k - 1) a) (rebuilt S join kept (k - 1) (a + 2 ^ (k - 1)))
  rebuilt_halves zero a ne e = absurd (ne refl)
  rebuilt_halves (suc k) a ne e = let m : suc k - 1 ≡ k = omega arith in
      rw m (ap (λ x. option_or x (made_of (join a (suc k)) (rebuilt S join kept k a)
      (rebuilt S join kept k (a + 2 ^ k)))) e)

-- the same by what each digest is seen as
module _ {D E : Type 0} (S : Shape) (f : D → E) (over : ℕ → ℕ → D → D → D) (under : ℕ → ℕ → E → E → E)
    (same : (a k : ℕ) (l r : D) → f (over a k l r) ≡ under a k (f l) (f r)) (kept : ℕ → Option D) where
  made_seen : (a k : ℕ) (x y : Option D) → option_map f (made_of (over a k) x y)
      ≡ made_of (under a k) (option_map f x) (option_map f y)
  made_seen a k (Some l) (Some r) = ap Some (same a k l r)
  made_seen a k (Some l) None = refl
  made_seen a k None y = refl

  or_seen : (x y : Option D) → option_map f (option_or x y) ≡ option_or (option_map f x) (option_map f y)
  or_seen None y = refl
  or_seen (Some x) y = refl

  pub rebuilt_seen : (k a : ℕ) → option_map f (rebuilt S over kept k a)
      ≡ rebuilt S under (λ p. option_map f (kept p)) k a
  rebuilt_seen zero a = refl
  rebuilt_seen (suc k) a =
      or_seen (kept (S.position a (suc k))) _
      ∙ ap (option_or (option_map f (kept (S.position a (suc k)))))
      (made_seen a (suc k) (rebuilt S over kept k a) (rebuilt S over kept k (a + 2 ^ k))
      ∙ ap₂ (made_of (under a (suc k))) (rebuilt_seen k a) (rebuilt_seen k (a + 2 ^ k)))

-- options of which each value is told by what it is seen as
pub seen_once : {D E : Type 0} (f : D → E) → ((x y : D) → f x ≡ f y → x ≡ y) → (x y : Option D)
    → option_map f x ≡ option_map f y → x ≡ y
seen_once f one None None e = refl
seen_once f one None (Some y) e = cc
seen_once f one (Some x) None e = cc
seen_once f one (Some x) (Some y) e = let g : f x ≡ f y = cc in ap Some (one x y g)

-- what is rebuilt of nodes that are true is true
module _ (S : Shape) (join : ℕ → ℕ → List ℕ → List ℕ → List ℕ) (kept : ℕ → Option (List ℕ)) (node : ℕ → ℕ → List ℕ)
    (halves : (k a : ℕ) → node (suc k) a ≡ join a (suc k) (node k a) (node k (a + 2 ^ k))) (reach : ℕ)
    (are : (k a : ℕ) (d : List ℕ) → a % 2 ^ k ≡ 0 → S.position a k < reach → kept (S.position a k) ≡ Some d
    → d ≡ node k a) where
  made_true : (a k : ℕ) (x y : Option (List ℕ)) (d : List ℕ) → ((l : List ℕ) → x ≡ Some l → l ≡ node k a)
      → ((r : List ℕ) → y ≡ Some r → r ≡ node k (a + 2 ^ k)) → made_of (join a (suc k)) x y ≡ Some d
      → d ≡ node (suc k) a
  made_true a k (Some l) (Some r) d el er e = let here : join a (suc k) l r ≡ d = cc in
      sym here ∙ ap₂ (join a (suc k)) (el l refl) (er r refl) ∙ sym (halves k a)
  made_true a k (Some l) None d el er e = cc
  made_true a k None y d el er e = cc

  or_true : (x y : Option (List ℕ)) (d v : List ℕ) → (x ≡ Some d → d ≡ v) → (y ≡ Some d → d ≡ v)
      → option_or x y ≡ Some d → d ≡ v
  or_true None y d v ex ey e = ey e
  or_true (Some x) y d v ex ey e = ex e

  pub rebuilt_true : Laws S → (k a : ℕ) (d : List ℕ) → a % 2 ^ k ≡ 0 → S.position a k < reach
      → rebuilt S join kept k a ≡ Some d → d ≡ node k a
  rebuilt_true L zero a d al within e = are zero a d al within e
  rebuilt_true L (suc k) a d al within e =
      let h = halves_of k a al in
      or_true (kept (S.position a (suc k))) _ d (node (suc k) a) (are (suc k) a d al within)
      (made_true a k (rebuilt S join kept k a) (rebuilt S join kept k (a + 2 ^ k)) d
      (λ l x. rebuilt_true L k a l h.0 (omega (arith, h.2)) x)
      (λ r x. rebuilt_true L k (a + 2 ^ k) r h.1 (omega (arith, h.3)) x)) e
    where
      halves_of : (k a : ℕ) → a % 2 ^ suc k ≡ 0 → (a % 2 ^ k ≡ 0) × ((a + 2 ^ k) % 2 ^ k ≡ 0)
          × (S.position a k < S.position a (suc k)) × (S.position (a + 2 ^ k) k < S.position a (suc k))
      halves_of k a al =
          let l : a % 2 ^ k ≡ 0 = multiple_down a k (suc k) (omega arith) al in (
            l,
            multiple_add a (2 ^ k) (2 ^ k) (pow_pos k) l (power_multiple k k (omega arith)),
            (L.children a k al).0,
            (L.children a k al).1,
          )
