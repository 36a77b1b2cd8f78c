-- The peaks of an MMB step by step: from the highest power on, with what is left of the leaves.
use Rattle.std.proofs.Common.{◌≡◌, ℕ, zero, suc, ◌+◌, ◌-◌, ◌*◌, ◌/◌, ◌%◌, ◌^◌, ◌<◌, ◌≤◌, true, false, leb, List, [], ◌∷◌, refl, sym, ap, ◌∙◌, ⊎_elim, arith}
use Rattle.std.proofs.lemmas.Bool.{cases_lt, le-leb, lt-leb}
use Rattle.std.proofs.lemmas.Nat.{pow_pos}
use Rattle.std.proofs.lemmas.Nat.Bits.{bit_at_cat_low}
use Rattle.storage_merkle.specs.Digits.{floor_log2}
use Rattle.storage_merkle.specs.Laws.Digits.{top_digit, floor_log2_bounds, floor_log2_is}
use Rattle.storage_merkle.specs.Mmb.{mmb_digits, mmb_peaks}
use Rattle.storage_merkle.specs.Laws.Multiples.{pow_two, pow_le, below_pow}

-- the peak heights over r leaves, where r + 1 < 2 ^ (i + 1): for each i at which the digits of r + 1 have not yet begun nothing, and below that
-- i or i + 1, as the digit is 0 or 1
unfoldable pub mmb_below : ℕ → ℕ → List ℕ
mmb_below zero r = []
mmb_below (suc i) r = elim (leb (2 * 2 ^ i) (r + 1)) [
  | true ↦ elim (leb (3 * 2 ^ i) (r + 1)) [
    | true ↦ suc i ∷ mmb_below i (r - 2 * 2 ^ i)
    | false ↦ i ∷ mmb_below i (r - 2 ^ i)
  ]
  | false ↦ mmb_below i r
]

pub mmb_big : (i r : ℕ) → 3 * 2 ^ i ≤ r + 1 → mmb_below (suc i) r ≡ suc i ∷ mmb_below i (r - 2 * 2 ^ i)
unfolding mmb_below
mmb_big i r h = rw (le-leb (2 * 2 ^ i) (r + 1) (omega arith), le-leb (3 * 2 ^ i) (r + 1) h, mmb_below)

pub mmb_mid : (i r : ℕ) → 2 * 2 ^ i ≤ r + 1 → r + 1 < 3 * 2 ^ i → mmb_below (suc i) r ≡ i ∷ mmb_below i (r - 2 ^ i)
unfolding mmb_below
mmb_mid i r h l = rw (le-leb (2 * 2 ^ i) (r + 1) h, lt-leb (3 * 2 ^ i) (r + 1) l, mmb_below)

pub mmb_small : (i r : ℕ) → r + 1 < 2 * 2 ^ i → mmb_below (suc i) r ≡ mmb_below i r
unfolding mmb_below
mmb_small i r h = rw (lt-leb (2 * 2 ^ i) (r + 1) h, mmb_below)

-- the three cases at once
pub mmb_cases : (i r : ℕ) → (P : List ℕ → Type 0) → (r + 1 < 2 * 2 ^ i → P (mmb_below i r))
    → (2 * 2 ^ i ≤ r + 1 → r + 1 < 3 * 2 ^ i → P (i ∷ mmb_below i (r - 2 ^ i)))
    → (3 * 2 ^ i ≤ r + 1 → P (suc i ∷ mmb_below i (r - 2 * 2 ^ i))) → P (mmb_below (suc i) r)
mmb_cases i r P small mid big = ⊎_elim
    (λ l. rw (mmb_small i r l) (small l))
    (λ g. ⊎_elim (λ l. rw (mmb_mid i r g l) (mid g l)) (λ h. rw (mmb_big i r h) (big h)) (cases_lt (r + 1) (3 * 2 ^ i)))
    (cases_lt (r + 1) (2 * 2 ^ i))

-- more room changes nothing
pub mmb_room : (j i r : ℕ) → i ≤ j → r + 1 < 2 * 2 ^ i → mmb_below j r ≡ mmb_below i r
mmb_room zero i r le h = let e : zero ≡ i = omega arith in rw e
mmb_room (suc j) i r le h = ⊎_elim
    (λ l. mmb_small j r (omega (arith, pow_le i j (omega arith))) ∙ mmb_room j i r (omega arith) h)
    (λ g. let e : i ≡ suc j = omega arith in rw e)
    (cases_lt i (suc j))

-- ---- the steps give the digits

-- the digits below j are those of what is left once a multiple of 2 ^ i is taken off
digits_off : (j c i n : ℕ) → j ≤ i → mmb_digits j (c * 2 ^ i + n) ≡ mmb_digits j n
unfolding mmb_digits
digits_off zero c i n l = refl
digits_off (suc j) c i n l =
    rw (bit_at_cat_low c i n j l) (ap (λ (x : List ℕ). (j + n / 2 ^ j % 2) ∷ x) (digits_off j c i n (omega arith)))

pub mmb_as_digits : (i r : ℕ) → 2 ^ i ≤ r + 1 → r + 1 < 2 * 2 ^ i → mmb_below i r ≡ mmb_digits i (r + 1)
unfolding mmb_below mmb_digits
mmb_as_digits zero r l u = refl
mmb_as_digits (suc i) r l u = ⊎_elim
    (λ b. rw (mmb_mid i r (omega (arith, pow_two i)) b, top_digit (r + 1) i 2 (omega (arith, pow_two i)) b) (
    let ih : mmb_below i (r - 2 ^ i) ≡ mmb_digits i (r - 2 ^ i + 1) =
    mmb_as_digits i (r - 2 ^ i) (omega (arith, pow_two i)) (omega (arith, pow_two i)) in
    let e : 1 * 2 ^ i + (r - 2 ^ i + 1) ≡ r + 1 = omega (arith, pow_two i) in
    let z : i + 0 ≡ i = omega arith in
    rw z
    (ap (λ (x : List ℕ). i ∷ x) (ih ∙ sym (digits_off i 1 i (r - 2 ^ i + 1) (omega arith)) ∙ ap (mmb_digits i) e))))
    (λ b. rw (mmb_big i r b, top_digit (r + 1) i 3 b (omega (arith, pow_two i))) (
    let ih : mmb_below i (r - 2 * 2 ^ i) ≡ mmb_digits i (r - 2 * 2 ^ i + 1) =
    mmb_as_digits i (r - 2 * 2 ^ i) (omega (arith, pow_two i)) (omega (arith, pow_two i)) in
    let e : 2 * 2 ^ i + (r - 2 * 2 ^ i + 1) ≡ r + 1 = omega (arith, pow_two i) in
    let z : i + 1 ≡ suc i = omega arith in
    rw z (ap (λ (x : List ℕ). suc i ∷ x) (ih ∙ sym (digits_off i 2 i (r - 2 * 2 ^ i + 1) (omega arith))
    ∙ ap (mmb_digits i) e))))
    (cases_lt (r + 1) (3 * 2 ^ i))

pub fits : (n : ℕ) → n + 1 < 2 * 2 ^ n
fits n = omega (arith, below_pow n, pow_pos n)

pub mmb_peaks_digits : (m n : ℕ) → 2 ^ m ≤ n + 1 → n + 1 < 2 * 2 ^ m → mmb_peaks n ≡ mmb_digits m (n + 1)
unfolding mmb_peaks
mmb_peaks_digits m n l u = ap (λ (i : ℕ). mmb_digits i (n + 1)) (floor_log2_is (n + 1) m l u)

pub mmb_peaks_room : (n : ℕ) → mmb_peaks n ≡ mmb_below n n
mmb_peaks_room n =
    let b = floor_log2_bounds (n + 1) (omega arith) in
    let m : ℕ = floor_log2 (n + 1) in
    let le : m ≤ n = omega (arith, below_pow m, b.0) in
    mmb_peaks_digits m n b.0 b.1 ∙ sym (mmb_as_digits m n b.0 b.1) ∙ sym (mmb_room n m n le b.1)

pub mmb_peaks_at : (i n : ℕ) → n + 1 < 2 * 2 ^ i → mmb_peaks n ≡ mmb_below i n
mmb_peaks_at i n h = mmb_peaks_room n
    ∙ ⊎_elim (λ l. sym (mmb_room i n n (omega arith) (fits n))) (λ g. mmb_room n i n g h) (cases_lt n i)
