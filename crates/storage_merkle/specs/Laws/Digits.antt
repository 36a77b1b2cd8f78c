-- Digits by bounds, and of what is left of a number.
use Rattle.std.proofs.Common.{◌≡◌, ℕ, zero, suc, ◌+◌, ◌-◌, ◌*◌, ◌/◌, ◌^◌, ◌<◌, ◌≤◌, ap, ◌∙◌, ⊎_elim, arith}
use Rattle.std.proofs.lemmas.Bool.{cases_lt, le-leb, lt-leb}
use Rattle.std.proofs.lemmas.Nat.{shr_high}
use Rattle.storage_merkle.specs.Digits.{highest_from, floor_log2}
use Rattle.storage_merkle.specs.Laws.Multiples.{pow_two, below_pow, log_unique}

-- what is left of n past place i, by bounds
pub top_digit : (n i d : ℕ) → d * 2 ^ i ≤ n → n < suc d * 2 ^ i → n / 2 ^ i ≡ d
top_digit n i d l u =
    let e : n ≡ d * 2 ^ i + (n - d * 2 ^ i) = omega arith in
    ap (λ x. x / 2 ^ i) e ∙ shr_high d i (n - d * 2 ^ i) (omega arith)

highest_here : (i n : ℕ) → 2 ^ suc i ≤ n → highest_from (suc i) n ≡ suc i
unfolding highest_from
highest_here i n h = rw (le-leb (2 ^ suc i) n h, highest_from)

highest_below : (i n : ℕ) → n < 2 ^ suc i → highest_from (suc i) n ≡ highest_from i n
unfolding highest_from
highest_below i n h = rw (lt-leb (2 ^ suc i) n h, highest_from)

highest_bounds : (i n : ℕ) → 0 < n → n < 2 * 2 ^ i → (2 ^ highest_from i n ≤ n) × (n < 2 * 2 ^ highest_from i n)
unfolding highest_from
highest_bounds zero n p h = (omega arith, h)
highest_bounds (suc i) n p h = ⊎_elim
    (λ l. rw (highest_below i n l) (highest_bounds i n p (omega (arith, pow_two i))))
    (λ g. rw (highest_here i n g) (g, h))
    (cases_lt n (2 ^ suc i))

-- the logarithm by bounds
pub floor_log2_bounds : (n : ℕ) → 0 < n → (2 ^ floor_log2 n ≤ n) × (n < 2 * 2 ^ floor_log2 n)
unfolding floor_log2
floor_log2_bounds n p = highest_bounds n n p (omega (arith, below_pow n))

pub floor_log2_is : (n i : ℕ) → 2 ^ i ≤ n → n < 2 * 2 ^ i → floor_log2 n ≡ i
floor_log2_is n i l u =
    let b = floor_log2_bounds n (omega (arith, below_pow i)) in
    log_unique n (floor_log2 n) i b.0 b.1 l u
