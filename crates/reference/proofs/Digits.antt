-- Lists of digits, one place more.
use Rattle.std.proofs.Common.{◌≡◌, ◌≢◌, ℕ, zero, suc, ◌+◌, ◌-◌, ◌*◌, ◌<◌, ◌≤◌, ◌^◌, List, [], ◌∷◌, ◌++◌, replicate, ap, sym, ◌∙◌, append_assoc, arith, Result, Ok, Err, OnOk}
use Rattle.std.proofs.lemmas.List.{append-nil}
use Rattle.storage_merkle.specs.Digits.{digit, floor_log2}
use Rattle.storage_merkle.specs.Mmr.{mmr, mmr_digits}
use Rattle.storage_merkle.specs.Mmb.{mmb, mmb_digits}
use Rattle.storage_merkle.specs.Laws.MmrSteps.{mmr_peaks_digits}
use Rattle.storage_merkle.specs.Laws.MmbSteps.{mmb_peaks_digits}
use Rattle.storage_merkle.specs.Laws.Digits.{floor_log2_bounds, floor_log2_is}
use Rattle.storage_merkle.specs.Laws.Multiples.{pow_two, pow_le, pow_below_back}

-- the 1 digits of no places, and of one place more
pub mmr_no_places : (places n : ℕ) (xs : List ℕ) → places ≡ 0 → xs ≡ xs ++ mmr_digits places n
unfolding mmr_digits
mmr_no_places zero n xs e = sym (append-nil xs)
mmr_no_places (suc p) n xs e = absurd (omega arith)

pub mmr_digit_0 : (p places n d : ℕ) (xs ys : List ℕ) → places ≡ suc p → d ≡ digit n p → d ≡ 0
    → ys ≡ xs ++ mmr_digits p n → ys ≡ xs ++ mmr_digits places n
unfolding mmr_digits
mmr_digit_0 p places n d xs ys s is e h =
    let at : digit n p ≡ 0 = sym is ∙ e in
    rw s (h ∙ ap (λ (k : ℕ). xs ++ (replicate k p ++ mmr_digits p n)) (sym at))

pub mmr_digit_1 : (p places n d : ℕ) (xs ys zs : List ℕ) → places ≡ suc p → d ≡ digit n p → d ≤ 1 → d ≢ 0
    → ys ≡ xs ++ p ∷ [] → zs ≡ ys ++ mmr_digits p n → zs ≡ xs ++ mmr_digits places n
unfolding mmr_digits
mmr_digit_1 p places n d xs ys zs s is small e one h =
    let d1 : d ≡ 1 = omega arith in
    let at : digit n p ≡ 1 = sym is ∙ d1 in
    rw s (h ∙ ap (λ (l : List ℕ). l ++ mmr_digits p n) one ∙ append_assoc xs (p ∷ []) (mmr_digits p n)
    ∙ ap (λ (k : ℕ). xs ++ (replicate k p ++ mmr_digits p n)) (sym at))

-- the places and digits of no places, and of one place more
pub mmb_no_places : (places n : ℕ) (xs : List ℕ) → places ≡ 0 → xs ≡ xs ++ mmb_digits places n
unfolding mmb_digits
mmb_no_places zero n xs e = sym (append-nil xs)
mmb_no_places (suc p) n xs e = absurd (omega arith)

pub mmb_place : (p places n d : ℕ) (xs ys zs : List ℕ) → places ≡ suc p → d ≡ digit n p → ys ≡ xs ++ (p + d) ∷ []
    → zs ≡ ys ++ mmb_digits p n → zs ≡ xs ++ mmb_digits places n
unfolding mmb_digits
mmb_place p places n d xs ys zs s is one h =
    rw s (h ∙ ap (λ (l : List ℕ). l ++ mmb_digits p n) (one ∙ ap (λ e. xs ++ (p + e) ∷ []) is)
    ∙ append_assoc xs ((p + digit n p) ∷ []) (mmb_digits p n))

-- the place of the highest digit
pub highest_none : (place n : ℕ) → place ≡ 0 → 0 < n → n < 2 * 2 ^ place → place ≡ floor_log2 n
highest_none zero n e p b = sym (floor_log2_is n 0 (omega arith) b)
highest_none (suc k) n e p b = absurd (omega arith)

pub highest_here : (place n q : ℕ) → q ≡ 2 ^ place → q ≤ n → n < 2 * 2 ^ place → place ≡ floor_log2 n
highest_here place n q e l b = sym (floor_log2_is n place (omega arith) b)

pub highest_lower : (p place n q : ℕ) → place ≡ suc p → q ≡ 2 ^ place → n < q → n < 2 * 2 ^ p
highest_lower p place n q s e l = let at : 2 ^ place ≡ 2 ^ suc p = ap (λ (k : ℕ). 2 ^ k) s in omega (arith, pow_two p)

-- half a power, and powers up to the greatest
pub half : (p k : ℕ) → k ≡ suc p → 2 ^ k ≡ 2 ^ p + 2 ^ p
half p k e = rw e (pow_two p)

-- the peaks
pub mmr_peaks_from : (n : ℕ) (xs : List ℕ) → n < 2 ^ 63 → xs ≡ [] ++ mmr_digits 63 n → xs ≡ mmr.peaks n
mmr_peaks_from n xs b h = h ∙ sym (mmr_peaks_digits 63 n b)

pub mmb_peaks_from : (n m : ℕ) (xs : List ℕ) → m ≡ floor_log2 (n + 1) → xs ≡ [] ++ mmb_digits m (n + 1)
    → xs ≡ mmb.peaks n
mmb_peaks_from n m xs e h =
    let b = floor_log2_bounds (n + 1) (omega arith) in
    h ∙ sym (mmb_peaks_digits m n (rw e b.0) (rw e b.1))

-- what follows from what a call ensures where it succeeds
pub on_ok : {A E : Type 0} {P Q : Type 0} (r : Result A E) → (P → Q) → OnOk r P → OnOk r Q
on_ok (Ok x) f p = f p
on_ok (Err e) f p = p

-- heights of nodes that fit
pub small_height : (a k b : ℕ) → a + 2 ^ k ≤ b → b < 2 ^ 63 → k ≤ 62
small_height a k b h l = let s : k < 63 = pow_below_back k 63 (omega arith) in omega arith

-- births in a tree that fits
pub mmb_birth_fits : (a k b : ℕ) → a + 2 ^ k ≤ 2 ^ 62 + 2 ^ 61 → b ≡ mmb.birth a k → b < 2 ^ 63
mmb_birth_fits a zero b h e = omega arith
mmb_birth_fits a (suc k) b h e =
    omega (arith, pow_two k, pow_le k 61 (omega (arith, small_height a (suc k) (2 ^ 62 + 2 ^ 61) h (omega arith))))

-- halves of a node
pub left_half : (a k : ℕ) → k ≢ 0 → a + 2 ^ k ≤ 2 ^ 62 → a + 2 ^ (k - 1) ≤ 2 ^ 62
left_half a k ne h = let s : k ≡ suc (k - 1) = omega arith in omega (arith, half (k - 1) k s)

pub right_half : (a k q : ℕ) → k ≢ 0 → q ≡ 2 ^ (k - 1) → a + 2 ^ k ≤ 2 ^ 62 → a + q + 2 ^ (k - 1) ≤ 2 ^ 62
right_half a k q ne e h = let s : k ≡ suc (k - 1) = omega arith in omega (arith, half (k - 1) k s)
