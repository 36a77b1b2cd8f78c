-- Powers of two as numbers of bytes.
use Rattle.std.proofs.Common.{◌≡◌, ℕ, zero, suc, ◌+◌, ◌*◌, ◌/◌, ◌%◌, ◌^◌, ◌<◌, ◌≤◌, ◌&&◌, ◌||◌, eqb, Bool, true, false, inl, inr, arith, refl, eq-eqb}
use Rattle.std.proofs.lemmas.Bool.{eqb-true, or_cases, and_parts}
use Rattle.std.proofs.lemmas.Nat.{pow_pos, pow-add, mul-le, shr_split, div-add-mod'}
use Rattle.std.proofs.Math.Nat.{div-mul-le_self}
use Rattle.storage_merkle.specs.Laws.Multiples.{log_unique, pow_two, pow_order, pow_le, below_pow}
use Rattle.storage_bitmap.specs.Chunks.{IsChunkSize, halves}

pub halves_power : (times n : ℕ) → halves times n ≡ true → (k : ℕ) × (n ≡ 2 ^ k)
halves_power zero n h = absurd (cc)
halves_power (suc times) n h =
    elim (or_cases (eqb n 1) (eqb (n % 2) 0 && halves times (n / 2)) h) [
      | inl e ↦ (0, eqb-true n 1 e)
      | inr e ↦ let p = and_parts (eqb (n % 2) 0) (halves times (n / 2)) e in
          let k = halves_power times (n / 2) p.1 in
          (suc k.0, doubled n k.0 (eqb-true (n % 2) 0 p.0) k.1)
    ] where
      doubled : (n k : ℕ) → n % 2 ≡ 0 → n / 2 ≡ 2 ^ k → n ≡ 2 ^ suc k
      doubled n k even half = omega (arith, pow_two k)

-- a power of two is the one of its logarithm
pub power_of_log : (n r : ℕ) → IsChunkSize n → 2 ^ r ≤ n → n < 2 * 2 ^ r → (8 * n ≡ 2 ^ (3 + r)) × (3 + r ≤ 62)
power_of_log n r size low high =
    let k = halves_power n n size.0 in
    of_power n r k.0 k.1 size.1 low high where
      of_power : (n r k : ℕ) → n ≡ 2 ^ k → n ≤ 2 ^ 59 → 2 ^ r ≤ n → n < 2 * 2 ^ r → (8 * n ≡ 2 ^ (3 + r)) × (3 + r ≤ 62)
      of_power n r k e small low high =
          let same : r ≡ k = log_unique n r k low high (omega (arith, e)) (omega (arith, e, pow_pos k)) in
          let fits : r ≤ 59 = pow_order r 59 (let t : 2 ^ r ≤ 2 ^ 59 = omega arith in t) in
          (rw (pow-add, same, e) (omega arith), omega arith)

-- eight times a power of two, the other way
pub log_of_power : (n r : ℕ) → 2 ^ r ≤ n → n < 2 * 2 ^ r → (g : ℕ) → g ≤ 62 → 8 * n ≡ 2 ^ g → (n ≡ 2 ^ r) × (r < 60)
log_of_power n r low high g small e =
    let same : 3 + r ≡ g = log_unique (8 * n) (3 + r) g (rw pow-add (omega arith)) (rw pow-add (omega arith))
    (omega (arith, e)) (omega (arith, e, pow_pos g)) in
    (back n r g same e, omega arith) where
      back : (n r g : ℕ) → 3 + r ≡ g → 8 * n ≡ 2 ^ g → n ≡ 2 ^ r
      back n r g same e = let f : 8 * n ≡ 2 ^ (3 + r) = rw same e in
          let s : 8 * n ≡ 2 ^ 3 * 2 ^ r = rw pow-add at f in omega arith

pub eight_powers : (n r : ℕ) → n ≡ 2 ^ r → 8 * n ≡ 2 ^ (3 + r)
eight_powers n r e = rw (pow-add, e) (omega arith)

pub size_some : (n : ℕ) → IsChunkSize n → 0 < n
size_some zero p = let e : false ≡ true = p.0 in absurd (cc)
size_some (suc n) p = omega arith

-- a chunk before the complete ones' end has a bit
pub below_product : (a b m c : ℕ) → a < b → b * m ≤ c → 0 < m → a * m < c
below_product a b m c h w some = omega (arith, mul-le (a + 1) m b m (omega arith) (omega arith), added a m) where
  added : (a m : ℕ) → (a + 1) * m ≡ a * m + m
  added a m = grind arith

-- the chunk of a location begins at or before it
pub chunk_of : (n h location leaves count : ℕ) → 8 * n ≡ 2 ^ h → location < leaves → count ≡ leaves
    → location / 2 ^ h * (8 * n) < count
chunk_of n h location leaves count e below same = rw e (omega (arith, shr_split location h))

-- ---- which sizes chunks may have

halves_of : (k times n : ℕ) → n ≡ 2 ^ k → k < times → halves times n ≡ true
halves_of k zero n e l = absurd (omega arith)
halves_of zero (suc times) n e l = rw (eq-eqb n 1 e) refl
halves_of (suc k) (suc times) n e l =
    let even : n % 2 ≡ 0 = omega (arith, e, pow_two k) in
    let half : n / 2 ≡ 2 ^ k = omega (arith, e, pow_two k) in
    let rest : halves times (n / 2) ≡ true = halves_of k times (n / 2) half (omega arith) in
    rw (eq-eqb (n % 2) 0 even, rest) (or_true (eqb n 1))
  where
    or_true : (b : Bool) → (b || (true && true)) ≡ true
    or_true true = refl
    or_true false = refl

-- a power of two up to 2 ^ 59
pub size_of_power : (n r : ℕ) → n ≡ 2 ^ r → r < 60 → IsChunkSize n
size_of_power n r e small = (
  halves_of r n n e (omega (arith, e, below_pow r)),
  let up : 2 ^ r ≤ 2 ^ 59 =
      pow_le r 59 (omega arith) in omega arith,
)

-- ---- the bits of the complete chunks, and of the one after them

pub whole_within : (n h leaves whole count : ℕ) → 8 * n ≡ 2 ^ h → whole ≡ leaves / 2 ^ h → leaves ≡ count
    → whole * (8 * n) ≤ count
whole_within n h leaves whole count e w same = rw (e, w) (omega (arith, same, div-mul-le_self leaves (2 ^ h)))

pub rest_within : (n h leaves whole next count : ℕ) → 8 * n ≡ 2 ^ h → whole ≡ leaves / 2 ^ h → next ≡ leaves % 2 ^ h
    → leaves ≡ count → whole * (8 * n) + next ≤ count
rest_within n h leaves whole next count e w r same = rw (e, w, r) (omega (arith, same, div-add-mod' leaves (2 ^ h)))
