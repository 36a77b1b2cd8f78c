use Rattle.std.proofs.Common.{◌≡◌, ℕ, zero, suc, ◌+◌, ◌-◌, ◌*◌, ◌/◌, ◌%◌, ◌^◌, ◌<◌, ◌≤◌, ◌↔◌, List, ◌∷◌, length, sym, ap, ◌∙◌, inl, inr, ⊎_elim, arith}
use Rattle.std.proofs.lemmas.Bool.{cases_lt}
use Rattle.std.proofs.lemmas.Nat.{pow_pos, ones_cat, ones-le}
use lib.Count.{ones, ones-ones}
use Rattle.std.proofs.lemmas.Bool.{cases_eq}
use Rattle.storage_merkle.specs.Shape.{leaves_under, Inside, AreAligned, Laws, size}
use Rattle.storage_merkle.specs.Laws.MmrSteps.{mmr_below, mmr_big, mmr_small, mmr_none, mmr_peaks_at, mmr_peaks_room}
use Rattle.storage_merkle.specs.Mmr.{mmr_peaks, mmr_size, mmr_position, mmr}
use Rattle.storage_merkle.specs.Laws.Multiples.{pow_two, quotient, next, multiple_add, multiple_down, is_multiple, twice_power, zero_multiple, power_multiple, pow_le, below_pow}
use Rattle.storage_merkle.specs.Laws.Shape.{length_at_most, inside_between, grows_at_most}

pub mmr_sum : (i r : ℕ) → r < 2 ^ i → leaves_under (mmr_below i r) ≡ r
unfolding mmr_below leaves_under
mmr_sum zero r h = omega arith
mmr_sum (suc i) r h = ⊎_elim
    (λ s. rw (mmr_small i r s) (mmr_sum i r s))
    (λ b. rw (mmr_big i r b)
    (let ih : leaves_under (mmr_below i (r - 2 ^ i)) ≡ r - 2 ^ i = mmr_sum i (r - 2 ^ i) (omega (arith, pow_two i)) in omega arith))
    (cases_lt r (2 ^ i))

-- there is a peak for each 1 among the digits
pub mmr_count : (i r : ℕ) → r < 2 ^ i → length (mmr_below i r) ≡ ones r
unfolding mmr_below
mmr_count zero r h = let e : r ≡ 0 = omega arith in rw e (sym (ones-ones 0))
mmr_count (suc i) r h = ⊎_elim
    (λ s. rw (mmr_small i r s) (mmr_count i r s))
    (λ b. rw (mmr_big i r b) (
    let small : r - 2 ^ i < 2 ^ i = omega (arith, pow_two i) in
    let ih : length (mmr_below i (r - 2 ^ i)) ≡ ones (r - 2 ^ i) = mmr_count i (r - 2 ^ i) small in
    let e : ones (1 * 2 ^ i + (r - 2 ^ i)) ≡ ones 1 + ones (r - 2 ^ i) = ones_cat i 1 (r - 2 ^ i) small in
    let f : r ≡ 1 * 2 ^ i + (r - 2 ^ i) = omega arith in
    let g : ones r ≡ ones (1 * 2 ^ i + (r - 2 ^ i)) = ap ones f in
    let one : ones 1 ≡ 1 = ones-ones 1 in
    omega arith))
    (cases_lt r (2 ^ i))

pub mmr_next_count : (i r : ℕ) → r + 1 < 2 ^ i → length (mmr_below i (r + 1)) ≤ length (mmr_below i r) + 1
unfolding mmr_below
mmr_next_count zero r h = omega arith
mmr_next_count (suc i) r h = ⊎_elim
    (λ s. rw (mmr_small i (r + 1) s, mmr_small i r (omega arith)) (mmr_next_count i r s))
    (λ b. ⊎_elim
    (λ t. rw (mmr_big i (r + 1) b, mmr_small i r t) (
    let e : r + 1 - 2 ^ i ≡ 0 = omega arith in rw (e, mmr_none i) (omega arith)))
    (λ c. rw (mmr_big i (r + 1) b, mmr_big i r c) (
    let e : r + 1 - 2 ^ i ≡ r - 2 ^ i + 1 = omega arith in
    rw e
    (let ih : length (mmr_below i (r - 2 ^ i + 1)) ≤ length (mmr_below i (r - 2 ^ i)) + 1 = mmr_next_count i (r - 2 ^ i) (omega (arith, pow_two i)) in omega arith)))
    (cases_lt r (2 ^ i)))
    (cases_lt (r + 1) (2 ^ i))

-- ---- the peaks over n leaves

pub mmr_peaks_count : (n : ℕ) → length (mmr_peaks n) ≡ ones n
mmr_peaks_count n = rw (mmr_peaks_room n) (mmr_count n n (below_pow n))

pub mmr_peaks_sum : (n : ℕ) → leaves_under (mmr_peaks n) ≡ n
mmr_peaks_sum n = rw (mmr_peaks_room n) (mmr_sum n n (below_pow n))

pub mmr_ones_at_most : (n : ℕ) → ones n ≤ n
mmr_ones_at_most n = omega (arith, length_at_most (mmr_peaks n), mmr_peaks_sum n, mmr_peaks_count n)

pub ones_next : (n : ℕ) → ones (n + 1) ≤ ones n + 1
ones_next n =
    let b : n < 2 ^ suc n = omega (arith, below_pow (suc n)) in
    let c : n + 1 < 2 ^ suc n = omega (arith, below_pow (suc n)) in
    omega (arith, mmr_next_count (suc n) n c, mmr_count (suc n) n b, mmr_count (suc n) (n + 1) c)

-- ---- sizes

pub mmr_size_is : (n : ℕ) → mmr_size n + ones n ≡ 2 * n
mmr_size_is n = omega (arith, mmr_peaks_count n, mmr_ones_at_most n)

pub mmr_grows : (n : ℕ) → mmr_size n < mmr_size (n + 1)
mmr_grows n = omega (arith, mmr_peaks_count n, mmr_peaks_count (n + 1), mmr_ones_at_most n, ones_next n)

pub ones_join : (a r k : ℕ) → a % 2 ^ k ≡ 0 → r < 2 ^ k → ones (a + r) ≡ ones a + ones r
ones_join a r k ha hr =
    let e : ones (a / 2 ^ k * 2 ^ k + r) ≡ ones (a / 2 ^ k) + ones r = ones_cat k (a / 2 ^ k) r hr in
    let e0 : ones (a / 2 ^ k * 2 ^ k + 0) ≡ ones (a / 2 ^ k) + ones 0 = ones_cat k (a / 2 ^ k) 0 (pow_pos k) in
    let z : ones 0 ≡ 0 = ones-ones 0 in
    let f : ones (a + r) ≡ ones (a / 2 ^ k * 2 ^ k + r) = ap ones (omega (arith, quotient a (2 ^ k) ha)) in
    let f0 : ones a ≡ ones (a / 2 ^ k * 2 ^ k + 0) = ap ones (omega (arith, quotient a (2 ^ k) ha)) in
    omega arith

pub ones_full : (a k : ℕ) → a % 2 ^ k ≡ 0 → ones (a + 2 ^ k) ≤ ones a + 1
ones_full a k ha =
    let e : ones ((a / 2 ^ k + 1) * 2 ^ k + 0) ≡ ones (a / 2 ^ k + 1) + ones 0 =
    ones_cat k (a / 2 ^ k + 1) 0 (pow_pos k) in
    let e0 : ones (a / 2 ^ k * 2 ^ k + 0) ≡ ones (a / 2 ^ k) + ones 0 = ones_cat k (a / 2 ^ k) 0 (pow_pos k) in
    let z : ones 0 ≡ 0 = ones-ones 0 in
    let f : ones (a + 2 ^ k) ≡ ones ((a / 2 ^ k + 1) * 2 ^ k + 0) = ap ones (omega (arith, quotient a (2 ^ k) ha)) in
    let f0 : ones a ≡ ones (a / 2 ^ k * 2 ^ k + 0) = ap ones (omega (arith, quotient a (2 ^ k) ha)) in
    let s : ones (a / 2 ^ k + 1) ≤ ones (a / 2 ^ k) + 1 = ones_next (a / 2 ^ k) in
    omega arith

ones_pow : (k : ℕ) → ones (2 ^ k) ≡ 1
ones_pow k =
    let e : ones (1 * 2 ^ k + 0) ≡ ones 1 + ones 0 = ones_cat k 1 0 (pow_pos k) in
    let z : ones 0 ≡ 0 = ones-ones 0 in
    let o : ones 1 ≡ 1 = ones-ones 1 in
    let f : ones (2 ^ k) ≡ ones (1 * 2 ^ k + 0) = ap ones (omega arith) in
    omega arith

-- the last leaf before the birth stands k places before the node
pub mmr_last : (a k : ℕ) → a % 2 ^ k ≡ 0 → mmr_position a k ≡ mmr_size (a + (2 ^ k - 1)) + k
mmr_last a k ha =
    let e : ones (a + (2 ^ k - 1)) ≡ ones a + ones (2 ^ k - 1) =
    ones_join a (2 ^ k - 1) k ha (omega (arith, pow_pos k)) in
    let f : ones (2 ^ k - 1) ≡ k = ones-ones k in
    let g : k ≤ 2 ^ k - 1 = omega (arith, below_pow k) in
    omega (arith, mmr_size_is a, mmr_size_is (a + (2 ^ k - 1)), pow_two k, pow_pos k)

pub mmr_born : (n a k : ℕ) → a % 2 ^ k ≡ 0 → ((mmr_position a k < mmr_size n) ↔ (a + 2 ^ k ≤ n))
mmr_born n a k ha = (
  (λ h. ⊎_elim
      (λ l. absurd (
      let m : mmr_size n ≤ mmr_size (a + (2 ^ k - 1)) =
      grows_at_most mmr_size mmr_grows n (a + (2 ^ k - 1)) (omega (arith, pow_pos k)) in
      omega (arith, mmr_last a k ha)))
      (λ g. g)
      (cases_lt n (a + 2 ^ k))),
  (λ h.
      let m : mmr_size (a + 2 ^ k) ≤ mmr_size n = grows_at_most mmr_size mmr_grows (a + 2 ^ k) n h in
      omega (arith, mmr_size_is a, mmr_size_is (a + 2 ^ k), ones_full a k ha, pow_two k, pow_pos k)),
)

pub mmr_inside : (i r s a k : ℕ) → r < 2 ^ i → s % 2 ^ i ≡ 0 → a % 2 ^ k ≡ 0 → s ≤ a → a + 2 ^ k ≤ s + r
    → Inside (mmr_below i r) s a k
unfolding mmr_below Inside
mmr_inside zero r s a k hr hs ha le h = absurd (omega (arith, pow_pos k))
mmr_inside (suc i) r s a k hr hs ha le h = ⊎_elim
    (λ l. rw (mmr_small i r l) (mmr_inside i r s a k l (multiple_down s i (suc i) (omega arith) hs) ha le h))
    (λ g. rw (mmr_big i r g) (
    let ki : k ≤ i = ⊎_elim (λ (x : i < k). absurd (let p : 2 ^ suc i ≤ 2 ^ k = pow_le (suc i) k x in omega arith))
    (λ x. x) (cases_lt i k) in
    let sk : s % 2 ^ k ≡ 0 = multiple_down s k (suc i) (omega arith) hs in
    let tk : (s + 2 ^ i) % 2 ^ k ≡ 0 = multiple_add s (2 ^ i) (2 ^ k) (pow_pos k) sk (power_multiple i k ki) in
    ⊎_elim
    (λ x. inl (le, next a (s + 2 ^ i) (2 ^ k) ha tk x))
    (λ y. inr
    (mmr_inside i (r - 2 ^ i) (s + 2 ^ i) a k (omega (arith, pow_two i)) (multiple_add s (2 ^ i) (2 ^ i) (pow_pos i)
    (multiple_down s i (suc i) (omega arith) hs) (power_multiple i i (omega arith))) ha y (omega arith)))
    (cases_lt a (s + 2 ^ i))))
    (cases_lt r (2 ^ i))

pub mmr_aligned : (i r s : ℕ) → r < 2 ^ i → s % 2 ^ i ≡ 0 → AreAligned (mmr_below i r) s
unfolding mmr_below AreAligned
mmr_aligned zero r s hr hs = tt
mmr_aligned (suc i) r s hr hs = ⊎_elim
    (λ l. rw (mmr_small i r l) (mmr_aligned i r s l (multiple_down s i (suc i) (omega arith) hs)))
    (λ g. rw (mmr_big i r g) (
    let si : s % 2 ^ i ≡ 0 = multiple_down s i (suc i) (omega arith) hs in (
      si,
      mmr_aligned i (r - 2 ^ i) (s + 2 ^ i) (omega (arith, pow_two i))
          (multiple_add s (2 ^ i) (2 ^ i) (pow_pos i) si (power_multiple i i (omega arith))),
    )))
    (cases_lt r (2 ^ i))

pub mmr_injective : (a k b j : ℕ) → a % 2 ^ k ≡ 0 → b % 2 ^ j ≡ 0 → mmr_position a k ≡ mmr_position b j
    → (a ≡ b) × (k ≡ j)
mmr_injective a k b j ha hb h =
    let ba : mmr_position b j < mmr_size (a + 2 ^ k) =
    (let p : mmr_position a k < mmr_size (a + 2 ^ k) = (mmr_born (a + 2 ^ k) a k ha).1 (omega arith) in omega arith) in
    let ab : mmr_position a k < mmr_size (b + 2 ^ j) =
    (let p : mmr_position b j < mmr_size (b + 2 ^ j) = (mmr_born (b + 2 ^ j) b j hb).1 (omega arith) in omega arith) in
    let x : a + 2 ^ k ≤ b + 2 ^ j = (mmr_born (b + 2 ^ j) a k ha).0 ab in
    let y : b + 2 ^ j ≤ a + 2 ^ k = (mmr_born (a + 2 ^ k) b j hb).0 ba in
    let e : a + (2 ^ k - 1) ≡ b + (2 ^ j - 1) = omega (arith, pow_pos k, pow_pos j) in
    let f : mmr_size (a + (2 ^ k - 1)) ≡ mmr_size (b + (2 ^ j - 1)) = ap mmr_size e in
    let kj : k ≡ j = omega (arith, mmr_last a k ha, mmr_last b j hb) in
    let p : 2 ^ k ≡ 2 ^ j = ap (λ (z : ℕ). 2 ^ z) kj in
    (omega arith, kj)

mmr_children : (a k : ℕ) → a % 2 ^ suc k ≡ 0
    → (mmr_position a k < mmr_position a (suc k)) × (mmr_position (a + 2 ^ k) k < mmr_position a (suc k))
mmr_children a k ha =
    let e : ones (a + 2 ^ k) ≡ ones a + ones (2 ^ k) =
    ones_join a (2 ^ k) (suc k) ha (omega (arith, pow_two k, pow_pos k)) in
    let f : ones (2 ^ k) ≡ 1 = ones_pow k in (
      omega (arith, pow_two k, pow_two (suc k), pow_pos k),
      omega (
        arith,
        mmr_size_is a,
        mmr_size_is (a + 2 ^ k),
        mmr_ones_at_most a,
        pow_two k,
        pow_two (suc k),
        pow_pos k,
      ),
    )

-- ---- the first peak, and the rest

pub mmr_top : (n i : ℕ) → 2 ^ i ≤ n → n < 2 * 2 ^ i → mmr_peaks n ≡ i ∷ mmr_peaks (n - 2 ^ i)
mmr_top n i l u =
    mmr_peaks_at (suc i) n (omega (arith, pow_two i)) ∙ mmr_big i n l
    ∙ ap (λ (x : List ℕ). i ∷ x) (sym (mmr_peaks_at i (n - 2 ^ i) (omega arith)))

pub mmr_size_sum : (n : ℕ) → n + (n - ones n) ≡ size mmr n
mmr_size_sum n = omega (arith, mmr_peaks_count n, mmr_ones_at_most n)

pub mmr_size_ones : (n : ℕ) → 2 * n - ones n ≡ size mmr n
mmr_size_ones n = omega (arith, mmr_peaks_count n)

-- the leaf past n leaves brings a node at each height up to the number of 0 digits at the end of n + 1
pub mmr_carry : (o n : ℕ) → ones (n + 1) + o ≤ ones n + 1 → (q : ℕ) × (n + 1 ≡ q * 2 ^ o)
mmr_carry zero n h = (n + 1, omega arith)
mmr_carry (suc o) n h =
    let m : ℕ = n / 2 in
    let one : ones 1 ≡ 1 = ones-ones 1 in
    let nought : ones 0 ≡ 0 = ones-ones 0 in
    ⊎_elim
    (λ (e : n % 2 ≡ 0). absurd (
    let a : ones (m * 2 ^ 1 + 0) ≡ ones m + ones 0 = ones_cat 1 m 0 (omega arith) in
    let b : ones (m * 2 ^ 1 + 1) ≡ ones m + ones 1 = ones_cat 1 m 1 (omega arith) in
    let c : ones n ≡ ones (m * 2 ^ 1 + 0) = ap ones (omega arith) in
    let d : ones (n + 1) ≡ ones (m * 2 ^ 1 + 1) = ap ones (omega arith) in
    omega arith))
    (λ (e : n % 2 ≡ 0 → ⊥).
    let f : n % 2 ≡ 1 = omega arith in
    let a : ones (m * 2 ^ 1 + 1) ≡ ones m + ones 1 = ones_cat 1 m 1 (omega arith) in
    let b : ones ((m + 1) * 2 ^ 1 + 0) ≡ ones (m + 1) + ones 0 = ones_cat 1 (m + 1) 0 (omega arith) in
    let c : ones n ≡ ones (m * 2 ^ 1 + 1) = ap ones (omega arith) in
    let d : ones (n + 1) ≡ ones ((m + 1) * 2 ^ 1 + 0) = ap ones (omega arith) in
    let ih = mmr_carry o m (omega arith) in (
      ih.0,
      (let g : m + 1 ≡ ih.0 * 2 ^ o = ih.1 in let t : ih.0 * 2 ^ suc o ≡ ih.0 * 2 ^ o + ih.0 * 2 ^ o = twice_power ih.0 o in omega arith),
    ))
    (cases_eq (n % 2) 0)

pub record MmrAfter (n o : ℕ) : Type 0 where
  pub fits : 2 ^ o ≤ n + 1
  pub aligned : (n + 1 - 2 ^ o) % 2 ^ o ≡ 0
  pub at : mmr_position (n + 1 - 2 ^ o) o ≡ mmr_size n + o

pub mmr_after : (n o : ℕ) → mmr_size n + o < mmr_size (n + 1) → MmrAfter n o
mmr_after n o h =
    let c = mmr_carry o n (omega (arith, mmr_size_is n, mmr_size_is (n + 1))) in
    let q : ℕ = c.0 in
    let e : n + 1 ≡ q * 2 ^ o = c.1 in
    let p : 0 < q = ⊎_elim (λ (z : 0 < q). z) (λ (z : q ≤ 0).
    absurd (let y : q ≡ 0 = omega arith in let x : q * 2 ^ o ≡ 0 * 2 ^ o = ap (λ w. w * 2 ^ o) y in omega arith))
    (cases_lt 0 q) in
    let f : q * 2 ^ o ≡ (q - 1) * 2 ^ o + 2 ^ o =
    (let y : q ≡ q - 1 + 1 = omega arith in let x : q * 2 ^ o ≡ (q - 1 + 1) * 2 ^ o = ap (λ w. w * 2 ^ o) y in omega arith) in
    let g : n + 1 - 2 ^ o ≡ (q - 1) * 2 ^ o = omega arith in
    let al : (n + 1 - 2 ^ o) % 2 ^ o ≡ 0 = ap (λ x. x % 2 ^ o) g ∙ is_multiple (q - 1) (2 ^ o) (pow_pos o) in
    let s : mmr_size (n + 1 - 2 ^ o + (2 ^ o - 1)) ≡ mmr_size n = ap mmr_size (omega (arith, pow_pos o)) in
    record { fits = omega arith; aligned = al; at = omega (arith, mmr_last (n + 1 - 2 ^ o) o al) }

-- ---- within 64 bits

pub mmr_position_is : (a k : ℕ) → mmr_position a k + 2 + ones a ≡ 2 * a + 2 * 2 ^ k
mmr_position_is a k = omega (arith, mmr_size_is a, pow_two k, pow_pos k)

pub mmr_height : (a k : ℕ) → mmr_position a k < 2 ^ 64 → k ≤ 63
mmr_height a k h = ⊎_elim (λ (l : 63 < k).
    absurd (let p : 2 ^ 64 ≤ 2 ^ k = pow_le 64 k l in omega (arith, mmr_position_is a k, mmr_ones_at_most a))) (λ g. g)
    (cases_lt 63 k)

pub mmr_offset : (n o : ℕ) → n ≤ 2 ^ 62 → mmr_size n + o < mmr_size (n + 1) → o ≤ 62
mmr_offset n o few h = let a = mmr_after n o h in ⊎_elim
    (λ (l : 62 < o). absurd (let p : 2 ^ 63 ≤ 2 ^ o = pow_le 63 o l in omega (arith, a.fits))) (λ g. g) (cases_lt 62 o)

pub mmr_birth_height : (a k : ℕ) → a + 2 ^ k < 2 ^ 64 → k ≤ 63
mmr_birth_height a k h =
    ⊎_elim (λ (l : 63 < k). absurd (let p : 2 ^ 64 ≤ 2 ^ k = pow_le 64 k l in omega arith)) (λ g. g) (cases_lt 63 k)

pub mmr_laws : Laws mmr
mmr_laws = record {
  sum = mmr_peaks_sum;
  aligned = λ n. rw (mmr_peaks_at n n (below_pow n)) (mmr_aligned n n 0 (below_pow n) (zero_multiple n));
  few = λ n h. (let b : n < 2 ^ 63 = omega arith in omega (arith, mmr_peaks_count n, ones-le 63 n b));
  inside = λ n a k ha. (
    (λ i. let r = inside_between (mmr_peaks n) 0 a k i in omega (arith, r, mmr_peaks_sum n)),
    (λ h. let g : a + 2 ^ k ≤ n = h in rw (mmr_peaks_at n n (below_pow n))
        (mmr_inside n n 0 a k (below_pow n) (zero_multiple n) ha (omega arith) (omega arith))),
  );
  grows = mmr_grows;
  born = mmr_born;
  leaf = λ a. (omega arith, omega arith);
  children = λ a k ha. mmr_children a k ha;
  injective = mmr_injective;
  moves = λ a k. (let e : a + 2 ^ k ≡ a + (0 + 2 ^ k) = omega arith in e);
  late = λ a k. (let e : a + 2 ^ k ≤ a + 2 ^ k = omega arith in e);
  soon = λ a k. (let e : a + 2 ^ k ≤ a + 2 * 2 ^ k = omega arith in e);
  brings = λ n o h. (let a = mmr_after n o h in (n + 1 - 2 ^ o, o, a.aligned, a.at));
}
