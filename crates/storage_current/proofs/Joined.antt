-- A tree over the operations and a tree over chunks, read as one.
use Rattle.std.proofs.Common.{◌≡◌, ℕ, zero, suc, ◌+◌, ◌-◌, ◌*◌, ◌/◌, ◌%◌, ◌^◌, ◌<◌, ◌≤◌, ◌&&◌, Bool, true, false, eqb, ltb, leb, if◌then◌else◌, refl, sym, ap, ap₂, ◌∙◌, arith, ⊎_elim, Option, None, eq-eqb, eqb-true, lt-ltb, le-ltb, le-leb}
use Rattle.std.proofs.lemmas.Bool.{cases_lt, lt-leb}
use Rattle.std.proofs.lemmas.Nat.{shl-shr}
use Rattle.storage_merkle.specs.Shape.{Shape, Laws, size}
use Rattle.storage_merkle.specs.Nodes.{IsNode, CoversSame}
use Rattle.storage_merkle.specs.Laws.Multiples.{multiple_down, zero_multiple}
use Rattle.storage_current.specs.Snapshots.{greatest}
use Rattle.storage_current.specs.Laws.Grafting.{and-true, greatest-meets, greatest-is}
use Rattle.storage_current.specs.Combined.{first_at, height_at, lowered, is_within, joined}

module _ (S : Shape) (L : Laws S) where
  sizes : (n : ℕ) → n ≤ size S n
  sizes zero = omega arith
  sizes (suc n) = let more : size S n < size S (n + 1) = L.grows n in let e : n + 1 ≡ suc n = omega arith in
      let more' = rw e at more in omega (arith, sizes n)

  -- a node stands past its first leaf and past its height
  climbs : (a k : ℕ) → a % 2 ^ k ≡ 0 → a + k ≤ S.position a k
  climbs a zero al = omega (arith, sizes a, (L.leaf a).0)
  climbs a (suc k) al = omega (arith, climbs a k (multiple_down a k (suc k) (omega arith) al), (L.children a k al).0)

  first_aligned : (k p : ℕ) → first_at S k p % 2 ^ k ≡ 0
  unfolding first_at
  first_aligned k p =
      let P : ℕ → Bool = λ a. eqb (a % 2 ^ k) 0 && eqb (S.position a k) p in
      ⊎_elim
      (λ (l : 0 < greatest P p). eqb-true _ 0 (and-true (eqb (greatest P p % 2 ^ k) 0) _ (greatest-meets P p l)).0)
      (λ (z : greatest P p ≤ 0). let e : greatest P p ≡ 0 = omega arith in rw e (zero_multiple k))
      (cases_lt 0 (greatest P p))

  pub first_is : (p a k : ℕ) → IsNode S p a k → first_at S k p ≡ a
  unfolding first_at
  first_is p a k n =
      sym (greatest-is (λ b. eqb (b % 2 ^ k) 0 && eqb (S.position b k) p) p a
      (omega (arith, climbs a k n.aligned, n.at)) (rw (eq-eqb _ 0 n.aligned, eq-eqb _ p n.at) refl)
      (λ b l t.
      let r = and-true (eqb (b % 2 ^ k) 0) _ t in
      let i = L.injective b k a k (eqb-true _ 0 r.0) n.aligned (eqb-true _ p r.1 ∙ sym n.at) in
      omega (arith, i.0)))

  pub height_is : (p a k : ℕ) → IsNode S p a k → height_at S p ≡ k
  unfolding height_at
  height_is p a k n =
      sym (greatest-is (λ j. eqb (S.position (first_at S j p) j) p) p k (omega (arith, climbs a k n.aligned, n.at))
      (eq-eqb _ p (ap (λ b. S.position b k) (first_is p a k n) ∙ n.at))
      (λ j l t.
      let i = L.injective (first_at S j p) j a k (first_aligned j p) n.aligned (eqb-true _ p t ∙ sym n.at) in
      omega (arith, i.1)))

  pub lowered_is : (g q p : ℕ) → CoversSame S g q p → lowered S g p ≡ q
  unfolding lowered
  lowered_is g q p c =
      let h : height_at S p ≡ c.height + g = height_is p (c.first * 2 ^ g) (c.height + g) c.node in
      let f : first_at S (height_at S p) p ≡ c.first * 2 ^ g =
      ap (λ k. first_at S k p) h ∙ first_is p (c.first * 2 ^ g) (c.height + g) c.node in
      let back : c.height + g - g ≡ c.height = omega arith in
      ap₂ S.position (ap (λ a. a / 2 ^ g) f ∙ shl-shr c.first g) (ap (λ k. k - g) h ∙ back) ∙ c.grafted.at

  within_yes : (nodes p : ℕ) → p < nodes → p ≤ size S (2 ^ 62) → is_within S nodes p ≡ true
  within_yes nodes p l v = rw (lt-ltb p nodes l, le-leb _ _ v) refl

  module _ {D : Type 0} (g nodes : ℕ) (chunks operations : ℕ → Option D) where
    pub joined_below : (p a k : ℕ) → p < nodes → p ≤ size S (2 ^ 62) → IsNode S p a k → k < g
        → joined S g nodes chunks operations p ≡ operations p
    joined_below p a k l v n few =
        ap (λ b. if b then (if ltb (height_at S p) g then operations p else chunks (lowered S g p)) else None)
        (within_yes nodes p l v)
        ∙ ap (λ b. if b then operations p else chunks (lowered S g p))
        (lt-ltb (height_at S p) g (omega (arith, height_is p a k n)))

    pub joined_above : (p q : ℕ) → p < nodes → p ≤ size S (2 ^ 62) → CoversSame S g q p
        → joined S g nodes chunks operations p ≡ chunks q
    joined_above p q l v c =
        ap (λ b. if b then (if ltb (height_at S p) g then operations p else chunks (lowered S g p)) else None)
        (within_yes nodes p l v)
        ∙ ap (λ b. if b then operations p else chunks (lowered S g p))
        (le-ltb (height_at S p) g (omega (arith, height_is p (c.first * 2 ^ g) (c.height + g) c.node)))
        ∙ ap chunks (lowered_is g q p c)

    pub joined_past : (p : ℕ) → nodes ≤ p → joined S g nodes chunks operations p ≡ None
    joined_past p l = ap (λ b. if b && leb p (size S (2 ^ 62))
        then (if ltb (height_at S p) g then operations p else chunks (lowered S g p)) else None) (le-ltb p nodes l)

    pub joined_invalid : (p : ℕ) → size S (2 ^ 62) < p → joined S g nodes chunks operations p ≡ None
    joined_invalid p l = go (ltb p nodes) ∙ refl
      where
        go : (b : Bool) → (if b && leb p (size S (2 ^ 62))
            then (if ltb (height_at S p) g then operations p else chunks (lowered S g p)) else None) ≡ None
        go true = ap (λ b. if b then (if ltb (height_at S p) g then operations p else chunks (lowered S g p)) else None)
            (lt-leb _ _ l)
        go false = refl
