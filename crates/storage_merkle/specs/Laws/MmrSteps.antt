-- The peaks of a Merkle mountain range step by step: from the highest power on, with what is left of the leaves.
use Rattle.std.proofs.Common.{◌≡◌, ℕ, zero, suc, ◌+◌, ◌-◌, ◌*◌, ◌/◌, ◌%◌, ◌^◌, ◌<◌, ◌≤◌, true, false, leb, List, [], ◌∷◌, ◌++◌, replicate, refl, sym, ap, ◌∙◌, ⊎_elim, arith}
use Rattle.std.proofs.lemmas.Bool.{cases_lt, le-leb, lt-leb}
use Rattle.std.proofs.lemmas.Nat.{pow_pos}
use Rattle.std.proofs.lemmas.Nat.Bits.{bit_at_cat_low}
use Rattle.storage_merkle.specs.Mmr.{mmr_digits, mmr_peaks}
use Rattle.storage_merkle.specs.Laws.Digits.{top_digit}
use Rattle.storage_merkle.specs.Laws.Multiples.{pow_two, pow_le, below_pow}

-- the peak heights over r leaves, where r < 2 ^ i
unfoldable pub mmr_below : ℕ → ℕ → List ℕ
mmr_below zero r = []
mmr_below (suc i) r = elim (leb (2 ^ i) r) [ true ↦ i ∷ mmr_below i (r - 2 ^ i) | false ↦ mmr_below i r ]

pub mmr_big : (i r : ℕ) → 2 ^ i ≤ r → mmr_below (suc i) r ≡ i ∷ mmr_below i (r - 2 ^ i)
unfolding mmr_below
mmr_big i r h = rw (le-leb (2 ^ i) r h, mmr_below)

pub mmr_small : (i r : ℕ) → r < 2 ^ i → mmr_below (suc i) r ≡ mmr_below i r
unfolding mmr_below
mmr_small i r h = rw (lt-leb (2 ^ i) r h, mmr_below)

pub mmr_none : (i : ℕ) → mmr_below i 0 ≡ []
unfolding mmr_below
mmr_none zero = refl
mmr_none (suc i) = mmr_small i 0 (pow_pos i) ∙ mmr_none i

-- more room changes nothing
pub mmr_room : (j i r : ℕ) → i ≤ j → r < 2 ^ i → mmr_below j r ≡ mmr_below i r
mmr_room zero i r le h = let e : zero ≡ i = omega arith in rw e
mmr_room (suc j) i r le h = ⊎_elim
    (λ l. mmr_small j r (omega (arith, pow_le i j (omega arith))) ∙ mmr_room j i r (omega arith) h)
    (λ g. let e : i ≡ suc j = omega arith in rw e)
    (cases_lt i (suc j))

-- ---- the steps give the digits

-- the digits below j are those of what is left once a multiple of 2 ^ i is taken off
digits_off : (j c i n : ℕ) → j ≤ i → mmr_digits j (c * 2 ^ i + n) ≡ mmr_digits j n
unfolding mmr_digits
digits_off zero c i n l = refl
digits_off (suc j) c i n l = rw (bit_at_cat_low c i n j l)
    (ap (λ (x : List ℕ). replicate (n / 2 ^ j % 2) j ++ x) (digits_off j c i n (omega arith)))

pub mmr_as_digits : (i r : ℕ) → r < 2 ^ i → mmr_below i r ≡ mmr_digits i r
unfolding mmr_below mmr_digits
mmr_as_digits zero r h = refl
mmr_as_digits (suc i) r h = ⊎_elim
    (λ s. rw (mmr_small i r s, top_digit r i 0 (omega arith) (omega arith)) (mmr_as_digits i r s))
    (λ b. rw (mmr_big i r b, top_digit r i 1 (omega arith) (omega (arith, pow_two i))) (
    let ih : mmr_below i (r - 2 ^ i) ≡ mmr_digits i (r - 2 ^ i) =
    mmr_as_digits i (r - 2 ^ i) (omega (arith, pow_two i)) in
    let e : 1 * 2 ^ i + (r - 2 ^ i) ≡ r = omega arith in
    ap (λ (x : List ℕ). i ∷ x) (ih ∙ sym (digits_off i 1 i (r - 2 ^ i) (omega arith)) ∙ ap (mmr_digits i) e)))
    (cases_lt r (2 ^ i))

pub mmr_peaks_at : (i n : ℕ) → n < 2 ^ i → mmr_peaks n ≡ mmr_below i n
unfolding mmr_peaks
mmr_peaks_at i n h = sym (mmr_as_digits n n (below_pow n))
    ∙ ⊎_elim (λ l. sym (mmr_room i n n (omega arith) (below_pow n))) (λ g. mmr_room n i n g h) (cases_lt n i)

pub mmr_peaks_room : (n : ℕ) → mmr_peaks n ≡ mmr_below n n
mmr_peaks_room n = mmr_peaks_at n n (below_pow n)

-- the digits below any place past the highest
pub mmr_peaks_digits : (i n : ℕ) → n < 2 ^ i → mmr_peaks n ≡ mmr_digits i n
mmr_peaks_digits i n h = mmr_peaks_at i n h ∙ mmr_as_digits i n h
