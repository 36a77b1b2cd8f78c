-- Heights of chunks, numbers of graftable chunks, and inactive counts.
use Rattle.std.proofs.Common.{◌≡◌, ◌≢◌, ℕ, zero, suc, ◌+◌, ◌-◌, ◌*◌, ◌/◌, ◌%◌, ◌<◌, ◌≤◌, ◌^◌, length, take, Bool, true, false, if◌then◌else◌, ◌&&◌, ◌||◌, leb, eqb, ◌⊎◌, inl, inr, refl, sym, ap, ◌∙◌, arith, subst, pow_pos, leb-true, le-leb, eqb-true, eq-eqb, lt-ltb, le-ltb, suc-mul}
use Rattle.std.proofs.lemmas.Bool.{cases_lt}
use Rattle.std.proofs.lemmas.Nat.{pow-add}
use Rattle.std.proofs.Math.Nat.{div-lt_iff_lt-mul}
use Rattle.storage_merkle.specs.Shape.{Shape, Laws, leaves_under}
use Rattle.storage_merkle.specs.Nodes.{AreGraftable}
use Rattle.storage_merkle.specs.Inactive.{IsExact, IsAligned}
use Rattle.storage_merkle.specs.Laws.Multiples.{pow_le, pow_order, below_pow, pow_two}
use Rattle.storage_merkle.specs.Laws.Shape.{graftable_none, graftable_some}
use Rattle.storage_bitmap.specs.Chunks.{halves, IsChunkSize}
use Rattle.storage_current.specs.Snapshots.{Grafting, greatest, height, graftable_at, exact, aligned}

pub and-true : (x y : Bool) → (x && y) ≡ true → (x ≡ true) × (y ≡ true)
and-true true true e = (refl, refl)
and-true true false e = cc
and-true false true e = cc
and-true false false e = cc

pub or-true : (x y : Bool) → (x || y) ≡ true → (x ≡ true) ⊎ (y ≡ true)
or-true true y e = inl refl
or-true false true e = inr refl
or-true false false e = cc

-- ---- the greatest number that meets a test

pub greatest-le : (P : ℕ → Bool) (b : ℕ) → greatest P b ≤ b
unfolding greatest
greatest-le P zero = omega arith
greatest-le P (suc b) = elim (P (suc b)) as (λ t. (if t then suc b else greatest P b) ≤ suc b) [
  | true ↦
      omega arith
  | false ↦ omega (arith, greatest-le P b)
]

pub greatest-most : (P : ℕ → Bool) (b k : ℕ) → k ≤ b → P k ≡ true → k ≤ greatest P b
unfolding greatest
greatest-most P zero k l e = omega arith
greatest-most P (suc b) k l e = go (P (suc b)) refl (λ m. greatest-most P b k m e)
  where
    go : (t : Bool) → P (suc b) ≡ t → (k ≤ b → k ≤ greatest P b) → k ≤ (if t then suc b else greatest P b)
    go true f below = l
    go false f below = elim (cases_lt k (suc b)) [
      | inl less ↦ below (omega arith)
      | inr more ↦ let same : suc b ≡ k = omega arith in let clash : P k ≡ false = subst (λ z. P z ≡ false) same f in cc
    ]

pub greatest-meets : (P : ℕ → Bool) (b : ℕ) → 0 < greatest P b → P (greatest P b) ≡ true
unfolding greatest
greatest-meets P zero l = absurd (omega arith)
greatest-meets P (suc b) l = go (P (suc b)) refl (greatest-meets P b) l
  where
    go : (t : Bool) → P (suc b) ≡ t → (0 < greatest P b → P (greatest P b) ≡ true)
        → 0 < (if t then suc b else greatest P b) → P (if t then suc b else greatest P b) ≡ true
    go true f below l = f
    go false f below l = below l

-- a number that meets a test, and to which each other that does is less or equal, is the greatest
pub greatest-is : (P : ℕ → Bool) (b r : ℕ) → r ≤ b → P r ≡ true → ((k : ℕ) → k ≤ b → P k ≡ true → k ≤ r)
    → r ≡ greatest P b
greatest-is P b r l e most =
    let up : r ≤ greatest P b = greatest-most P b r l e in
    elim (cases_lt r (greatest P b)) [
      | inl less ↦ let down : greatest P b ≤ r =
          most (greatest P b) (greatest-le P b) (greatest-meets P b (omega arith)) in omega arith
      | inr more ↦ omega arith
    ]

-- ---- the height of a chunk

power_of : (times n : ℕ) → halves times n ≡ true → (e : ℕ) × (n ≡ 2 ^ e)
power_of zero n t = cc
power_of (suc times) n t =
    elim (or-true (eqb n 1) _ t) [
      | inl one ↦ (0, eqb-true n 1 one)
      | inr more ↦
          let both = and-true (eqb (n % 2) 0) _ more in
          let r = power_of times (n / 2) both.1 in (
            suc r.0,
            let even : n % 2 ≡ 0 = eqb-true (n % 2) 0 both.0 in let half : n / 2 ≡ 2 ^ r.0 = r.1 in
                omega (arith, pow_two r.0),
          )
    ]

-- a chunk size is a power of two
pub chunk_power : (n : ℕ) → IsChunkSize n → (e : ℕ) × (n ≡ 2 ^ e)
chunk_power n c = power_of n n c.0

pub height_is : (g : Grafting) (r : ℕ) → 2 ^ r ≤ 8 * g.bytes → 8 * g.bytes < 2 * 2 ^ r → r ≡ height g
unfolding height
height_is g r l u =
    greatest-is (λ k. leb (2 ^ k) (8 * g.bytes)) (8 * g.bytes) r (omega (arith, below_pow r))
    (le-leb (2 ^ r) (8 * g.bytes) l)
    (λ k b e. let m : 2 ^ k ≤ 8 * g.bytes = leb-true (2 ^ k) (8 * g.bytes) e in
    elim (cases_lt r k) [
      | inl less ↦ absurd (let p : 2 ^ suc r ≤ 2 ^ k = pow_le (suc r) k less in omega (arith, pow_two r))
      | inr more ↦ more
    ])

-- the height is the one whose power the number of bits is
pub height_of_power : (S : Shape) (n r : ℕ) → 8 * n ≡ 2 ^ r → height (record { shape = S; bytes = n }) ≡ r
height_of_power S n r e =
    sym (height_is (record { shape = S; bytes = n }) r (omega (arith, e)) (omega (arith, e, pow_pos r)))

pub record Height (g : Grafting) : Type 0 where
  pub exponent : ℕ
  pub power : g.bytes ≡ 2 ^ exponent
  pub is : height g ≡ exponent + 3
  pub bits : 2 ^ height g ≡ 8 * g.bytes
  pub small : height g ≤ 62

pub chunk_height : (g : Grafting) → IsChunkSize g.bytes → Height g
chunk_height g c =
    let p = chunk_power g.bytes c in
    let e : 2 ^ (p.0 + 3) ≡ 2 ^ p.0 * 8 = pow-add 2 p.0 3 in
    let power : g.bytes ≡ 2 ^ p.0 = p.1 in
    let positive : 0 < 2 ^ p.0 = pow_pos p.0 in
    let same : p.0 + 3 ≡ height g = height_is g (p.0 + 3) (omega arith) (omega arith) in
    let bits : 2 ^ height g ≡ 8 * g.bytes = ap (λ k. 2 ^ k) (sym same) ∙ omega arith in
    let few : g.bytes ≤ 2 ^ 59 = c.1 in
    let small : 2 ^ height g ≤ 2 ^ 62 = omega arith in
    record {
      exponent = p.0;
      power = power;
      is = sym same;
      bits = bits;
      small = pow_order (height g) 62 (let s : 2 ^ height g ≤ 2 ^ 62 = small in omega arith);
    }

-- no chunk is as long as a node's digest behind a position
pub chunk_apart : (g : Grafting) → IsChunkSize g.bytes → (d : ℕ) → (d ≡ 32) ⊎ (d ≡ 64) → g.bytes ≢ 8 + d
chunk_apart g c d w same =
    let p = chunk_power g.bytes c in
    let power : g.bytes ≡ 2 ^ p.0 = p.1 in
    elim (cases_lt p.0 6) [
      | inl less ↦ absurd (let low : 2 ^ p.0 ≤ 2 ^ 5 = pow_le p.0 5 (omega arith) in omega arith)
      | inr more ↦ elim (cases_lt 6 p.0) [
        | inl large ↦ absurd (let high : 2 ^ 7 ≤ 2 ^ p.0 = pow_le 7 p.0 large in omega arith)
        | inr six ↦ absurd (let e : p.0 ≡ 6 = omega arith in let f : 2 ^ p.0 ≡ 2 ^ 6 = ap (λ k. 2 ^ k) e in omega arith)
      ]
    ]

-- ---- graftable chunks

pub graftable_by_birth : (S : Shape) → Laws S → (k n : ℕ) → AreGraftable S n k (graftable_at S k n)
graftable_by_birth S L k n =
    elim (cases_lt n (S.birth 0 k)) [
      | inl less ↦ rw (lt-ltb n (S.birth 0 k) less) (graftable_none S L n k less)
      | inr more ↦ rw (le-ltb n (S.birth 0 k) more) (graftable_some S L n k more)
    ]

-- the number of chunks inside one peak is this one
pub graftable_is : (S : Shape) → Laws S → (k n r : ℕ) → AreGraftable S n k r → r ≡ graftable_at S k n
graftable_is S L k n r a =
    let t : ℕ = graftable_at S k n in
    let b = graftable_by_birth S L k n in
    elim (cases_lt r t) [
      | inl less ↦ absurd (let x : r < r = (a r).0 ((b r).1 less) in omega arith)
      | inr more ↦ elim (cases_lt t r) [
        | inl less ↦ absurd (let x : t < t = (b t).0 ((a t).1 less) in omega arith)
        | inr same ↦ omega arith
      ]
    ]

-- at most one complete chunk isn't graftable
pub one_pending : (S : Shape) → Laws S → (k n : ℕ) → n / 2 ^ k ≤ graftable_at S k n + 1
one_pending S L k n =
    let positive : 0 < 2 ^ k = pow_pos k in
    let soon = L.soon 0 k in
    let first : ℕ = S.birth 0 k in
    elim (cases_lt n (S.birth 0 k)) [
      | inl few ↦
          let less : n / 2 ^ k < 2 = (div-lt_iff_lt-mul positive).1 (omega arith) in
          subst (λ b. n / 2 ^ k ≤ (if b then 0 else (n - S.birth 0 k) / 2 ^ k + 1) + 1)
          (sym (lt-ltb n (S.birth 0 k) few)) (omega arith)
      | inr enough ↦
          let q : ℕ = (n - S.birth 0 k) / 2 ^ k in
          let near : n - S.birth 0 k < suc q * 2 ^ k = (div-lt_iff_lt-mul positive).0 (omega arith) in
          let less : n / 2 ^ k < suc (suc (suc q)) = (div-lt_iff_lt-mul positive).1
          (omega (arith, suc-mul q (2 ^ k), suc-mul (suc q) (2 ^ k), suc-mul (suc (suc q)) (2 ^ k))) in
          subst (λ b. n / 2 ^ k ≤ (if b then 0 else (n - S.birth 0 k) / 2 ^ k + 1) + 1)
          (sym (le-ltb n (S.birth 0 k) enough)) (omega arith)
    ]

-- ---- inactive counts

pub exact_is : (S : Shape) (n floor r : ℕ) → IsExact S n floor r → r ≡ exact S n floor
exact_is S n floor r x =
    greatest-is (λ r. leb (leaves_under (take r (S.peaks n))) floor) (length (S.peaks n)) r x.within
    (le-leb _ floor x.ends)
    (λ k b e. x.most k b (leb-true (leaves_under (take k (S.peaks n))) floor e))

pub aligned_is : (S : Shape) (n floor g r : ℕ) → IsAligned S n floor g r → r ≡ aligned S n floor g
aligned_is S n floor g r x =
    greatest-is (λ r. leb (leaves_under (take r (S.peaks n))) floor && eqb (leaves_under (take r (S.peaks n)) % 2 ^ g) 0)
    (length (S.peaks n)) r x.within (rw (le-leb _ floor x.ends, eq-eqb _ 0 x.whole) refl)
    (λ k b e. let p = and-true (leb (leaves_under (take k (S.peaks n))) floor) _ e in x.most k b
    (leb-true (leaves_under (take k (S.peaks n))) floor p.0) (eqb-true (leaves_under (take k (S.peaks n)) % 2 ^ g) 0 p.1))

pub aligned-le : (S : Shape) (n floor g : ℕ) → aligned S n floor g ≤ length (S.peaks n)
aligned-le S n floor g = greatest-le _ (length (S.peaks n))

pub exact-le : (S : Shape) (n floor : ℕ) → exact S n floor ≤ length (S.peaks n)
exact-le S n floor = greatest-le _ (length (S.peaks n))
