use Rattle.std.proofs.Common.{◌≡◌, ℕ, zero, suc, ◌+◌, ◌-◌, ◌*◌, ◌/◌, ◌%◌, ◌^◌, ◌<◌, ◌≤◌, ◌↔◌, List, ◌∷◌, length, refl, sym, ap, ◌∙◌, inl, inr, ⊎_elim, add-one, arith}
use Rattle.std.proofs.lemmas.Bool.{cases_lt}
use lib.Count.{count_trailing_zeros}
use Rattle.std.proofs.lemmas.Bool.{cases_eq}
use Rattle.std.proofs.lemmas.Nat.{pow_pos}
use Rattle.storage_merkle.specs.Shape.{leaves_under, Inside, AreAligned, Laws, size}
use Rattle.storage_merkle.specs.Laws.MmbSteps.{mmb_below, mmb_big, mmb_mid, mmb_cases, mmb_peaks_at, mmb_peaks_room, fits}
use Rattle.storage_merkle.specs.Mmb.{mmb_peaks, mmb_size, mmb_position, mmb_birth, mmb}
use Rattle.storage_merkle.specs.Laws.Multiples.{pow_two, next, multiple_add, multiple_down, is_multiple, twice_power, pow_below_back, zero_multiple, power_multiple, pow_order, pow_le, below_pow, log_unique}
use Rattle.storage_merkle.specs.Laws.Shape.{length_at_most, grows_below, grows_at_most, grows_back}

pub mmb_sum : (i r : ℕ) → r + 1 < 2 * 2 ^ i → leaves_under (mmb_below i r) ≡ r
unfolding mmb_below leaves_under
mmb_sum zero r h = omega arith
mmb_sum (suc i) r h = mmb_cases i r (λ hs. leaves_under hs ≡ r)
    (λ l. mmb_sum i r l)
    (λ g l. omega (arith, mmb_sum i (r - 2 ^ i) (omega (arith, pow_two i))))
    (λ g. omega (arith, pow_two i, mmb_sum i (r - 2 * 2 ^ i) (omega (arith, pow_two i))))

-- there are as many peaks as digits below the highest one of r + 1
pub mmb_count : (i r : ℕ) → r + 1 < 2 * 2 ^ i
    → (2 ^ length (mmb_below i r) ≤ r + 1) × (r + 1 < 2 * 2 ^ length (mmb_below i r))
unfolding mmb_below
mmb_count zero r h = (omega arith, omega arith)
mmb_count (suc i) r h = mmb_cases i r (λ hs. (2 ^ length hs ≤ r + 1) × (r + 1 < 2 * 2 ^ length hs))
    (λ l. mmb_count i r l)
    (λ g l.
    let ih = mmb_count i (r - 2 ^ i) (omega arith) in
    let e : length (mmb_below i (r - 2 ^ i)) ≡ i =
    log_unique (r - 2 ^ i + 1) _ i ih.0 ih.1 (omega arith) (omega arith) in
    rw e (omega (arith, pow_two i), omega (arith, pow_two i)))
    (λ g.
    let ih = mmb_count i (r - 2 * 2 ^ i) (omega (arith, pow_two i)) in
    let e : length (mmb_below i (r - 2 * 2 ^ i)) ≡ i =
    log_unique (r - 2 * 2 ^ i + 1) _ i ih.0 ih.1 (omega arith) (omega (arith, pow_two i)) in
    rw e (omega (arith, pow_two i), omega (arith, pow_two i)))

-- ---- the peaks over n leaves

pub mmb_peaks_sum : (n : ℕ) → leaves_under (mmb_peaks n) ≡ n
mmb_peaks_sum n = rw (mmb_peaks_room n) (mmb_sum n n (fits n))

pub mmb_peaks_count : (n : ℕ) → (2 ^ length (mmb_peaks n) ≤ n + 1) × (n + 1 < 2 * 2 ^ length (mmb_peaks n))
mmb_peaks_count n = rw (mmb_peaks_room n) (mmb_count n n (fits n))

pub mmb_count_at_most : (n : ℕ) → length (mmb_peaks n) ≤ n
mmb_count_at_most n = omega (arith, length_at_most (mmb_peaks n), mmb_peaks_sum n)

pub mmb_count_next : (n : ℕ) → length (mmb_peaks (n + 1)) ≤ length (mmb_peaks n) + 1
mmb_count_next n =
    let a = mmb_peaks_count n in
    let b = mmb_peaks_count (n + 1) in
    let c : length (mmb_peaks (n + 1)) ≤ suc (length (mmb_peaks n)) =
    pow_order _ _ (omega (arith, a, b, pow_two (length (mmb_peaks n)))) in
    omega arith

pub mmb_count_grows : (n : ℕ) → length (mmb_peaks n) ≤ length (mmb_peaks (n + 1))
mmb_count_grows n =
    let a = mmb_peaks_count n in
    let b = mmb_peaks_count (n + 1) in
    ⊎_elim
    (λ (l : length (mmb_peaks (n + 1)) < length (mmb_peaks n)).
    absurd (let p : 2 ^ suc (length (mmb_peaks (n + 1))) ≤ 2 ^ length (mmb_peaks n) = pow_le _ _ l in omega (arith, a, b, pow_two (length (mmb_peaks (n + 1))))))
    (λ g. g)
    (cases_lt (length (mmb_peaks (n + 1))) (length (mmb_peaks n)))

-- ---- sizes

pub mmb_size_is : (n : ℕ) → mmb_size n + length (mmb_peaks n) ≡ 2 * n
mmb_size_is n = omega (arith, mmb_count_at_most n)

pub mmb_grows : (n : ℕ) → mmb_size n < mmb_size (n + 1)
mmb_grows n = omega (arith, mmb_count_at_most n, mmb_count_next n)

-- a step that brings no parent: n + 2 is a power of two
pub mmb_lone : (n : ℕ) → length (mmb_peaks (n + 1)) ≡ length (mmb_peaks n) + 1 → n + 2 ≡ 2 ^ length (mmb_peaks (n + 1))
mmb_lone n h =
    let a = mmb_peaks_count n in
    let b = mmb_peaks_count (n + 1) in
    let e : 2 ^ length (mmb_peaks (n + 1)) ≡ 2 ^ suc (length (mmb_peaks n)) =
    ap (λ (z : ℕ). 2 ^ z) (let f : length (mmb_peaks (n + 1)) ≡ suc (length (mmb_peaks n)) = omega arith in f) in
    omega (arith, a, b, pow_two (length (mmb_peaks n)))

-- three halves of a power of two, past a multiple of it, are no power of two
pub no_power : (a k m : ℕ) → a % 2 ^ suc k ≡ 0 → a + 3 * 2 ^ k ≡ 2 ^ m → ⊥
no_power a k m ha h =
    let le : suc k ≤ m = pow_order (suc k) m (omega (arith, pow_two k)) in
    let s : (a + 2 ^ suc k) % 2 ^ suc k ≡ 0 =
    multiple_add a (2 ^ suc k) (2 ^ suc k) (pow_pos (suc k)) ha (power_multiple (suc k) (suc k) (omega arith)) in
    let n : a + 2 ^ suc k + 2 ^ suc k ≤ 2 ^ m = next (a + 2 ^ suc k) (2 ^ m) (2 ^ suc k) s (power_multiple m (suc k) le)
    (omega (arith, pow_two k, pow_pos k)) in
    omega (arith, pow_two k, pow_pos k)

-- the leaf that brings a node brings that node alone
pub mmb_pair : (a k n : ℕ) → a % 2 ^ suc k ≡ 0 → a + 3 * 2 ^ k ≡ n + 2 → mmb_size (n + 1) ≡ mmb_size n + 2
mmb_pair a k n ha h = ⊎_elim
    (λ (l : length (mmb_peaks (n + 1)) < length (mmb_peaks n) + 1).
    omega (arith, mmb_count_grows n, mmb_count_at_most n))
    (λ (g : length (mmb_peaks n) + 1 ≤ length (mmb_peaks (n + 1))). absurd (
    let p : n + 2 ≡ 2 ^ length (mmb_peaks (n + 1)) = mmb_lone n (omega (arith, mmb_count_next n)) in
    no_power a k (length (mmb_peaks (n + 1))) ha (omega arith)))
    (cases_lt (length (mmb_peaks (n + 1))) (length (mmb_peaks n) + 1))

-- two nodes of different heights are not born at once
pub mmb_apart : (a k b j : ℕ) → k < j → a % 2 ^ suc k ≡ 0 → b % 2 ^ suc j ≡ 0 → a + 3 * 2 ^ k ≡ b + 3 * 2 ^ j → ⊥
mmb_apart a k b j l ha hb h =
    let p : (2 ^ suc k) % 2 ^ suc k ≡ 0 = power_multiple (suc k) (suc k) (omega arith) in
    let q : (2 ^ j) % 2 ^ suc k ≡ 0 = power_multiple j (suc k) l in
    let s : (a + 2 ^ suc k) % 2 ^ suc k ≡ 0 = multiple_add a (2 ^ suc k) (2 ^ suc k) (pow_pos (suc k)) ha p in
    let b0 : b % 2 ^ suc k ≡ 0 = multiple_down b (suc k) (suc j) (omega arith) hb in
    let b1 : (b + 2 ^ j) % 2 ^ suc k ≡ 0 = multiple_add b (2 ^ j) (2 ^ suc k) (pow_pos (suc k)) b0 q in
    let b2 : (b + 2 ^ j + 2 ^ j) % 2 ^ suc k ≡ 0 =
    multiple_add (b + 2 ^ j) (2 ^ j) (2 ^ suc k) (pow_pos (suc k)) b1 q in
    let b3 : (b + 2 ^ j + 2 ^ j + 2 ^ j) % 2 ^ suc k ≡ 0 =
    multiple_add (b + 2 ^ j + 2 ^ j) (2 ^ j) (2 ^ suc k) (pow_pos (suc k)) b2 q in
    let n : a + 2 ^ suc k + 2 ^ suc k ≤ b + 2 ^ j + 2 ^ j + 2 ^ j =
    next (a + 2 ^ suc k) (b + 2 ^ j + 2 ^ j + 2 ^ j) (2 ^ suc k) s b3 (omega (arith, pow_two k, pow_pos k)) in
    omega (arith, pow_two k, pow_pos k)

-- ---- births

pub mmb_born : (n a k : ℕ) → (mmb_position a k < mmb_size n) ↔ (mmb_birth a k ≤ n)
mmb_born n a zero = (
  (λ h. let p : a < n = grows_back mmb_size mmb_grows a n h in omega arith),
  (λ h. grows_below mmb_size mmb_grows a n (omega arith)),
)
mmb_born n a (suc k) =
    let positive : mmb_size 0 < mmb_size (a + 3 * 2 ^ k - 1) =
    grows_below mmb_size mmb_grows 0 (a + 3 * 2 ^ k - 1) (omega (arith, pow_pos k)) in (
      (λ h. ⊎_elim
          (λ (l : n < a + 3 * 2 ^ k - 1).
          absurd (let p : mmb_size n < mmb_size (a + 3 * 2 ^ k - 1) = grows_below mmb_size mmb_grows n (a + 3 * 2 ^ k - 1) l in omega arith))
          (λ g. g)
          (cases_lt n (a + 3 * 2 ^ k - 1))),
      (λ h. let p : mmb_size (a + 3 * 2 ^ k - 1) ≤ mmb_size n =
          grows_at_most mmb_size mmb_grows (a + 3 * 2 ^ k - 1) n h in omega arith),
    )

-- twice the birth, and how late it is at least
pub mmb_birth_twice : (a k : ℕ) → 2 * mmb_birth a k + 1 ≤ 2 * a + 3 * 2 ^ k
mmb_birth_twice a zero = omega arith
mmb_birth_twice a (suc k) = omega (arith, pow_two k, pow_pos k)

pub mmb_birth_late : (a j k : ℕ) → j < k → a + 3 * 2 ^ j ≤ mmb_birth a k + 1
mmb_birth_late a j zero h = absurd (omega arith)
mmb_birth_late a j (suc k) h = omega (arith, pow_le j k (omega arith))

-- ---- the nodes inside the peaks are those that are born

pub mmb_inside : (i r s a k : ℕ) → r + 1 < 2 * 2 ^ i → s % 2 ^ i ≡ 0 → a % 2 ^ k ≡ 0 → s ≤ a → mmb_birth a k ≤ s + r
    → Inside (mmb_below i r) s a k
unfolding mmb_below Inside
mmb_inside zero r s a zero hr hs ha le h = absurd (omega arith)
mmb_inside zero r s a (suc k) hr hs ha le h = absurd (omega (arith, pow_pos k))
mmb_inside (suc i) r s a k hr hs ha le h =
    let si : s % 2 ^ i ≡ 0 = multiple_down s i (suc i) (omega arith) hs in
    let pi : 2 ^ i % 2 ^ i ≡ 0 = power_multiple i i (omega arith) in
    mmb_cases i r (λ hs. Inside hs s a k)
    (λ l. mmb_inside i r s a k l si ha le h)
    (λ g l. ⊎_elim
    (λ (x : a < s + 2 ^ i).
    let ki : k ≤ i = ⊎_elim (λ (y : i < k). absurd (omega (arith, mmb_birth_late a i k y))) (λ y. y) (cases_lt i k) in
    let t : (s + 2 ^ i) % 2 ^ k ≡ 0 =
    multiple_down (s + 2 ^ i) k i ki (multiple_add s (2 ^ i) (2 ^ i) (pow_pos i) si pi) in
    inl (le, next a (s + 2 ^ i) (2 ^ k) ha t x))
    (λ y. inr (mmb_inside i (r - 2 ^ i) (s + 2 ^ i) a k (omega (arith, pow_two i))
    (multiple_add s (2 ^ i) (2 ^ i) (pow_pos i) si pi) ha y (omega arith)))
    (cases_lt a (s + 2 ^ i)))
    (λ g. ⊎_elim
    (λ (x : a < s + 2 ^ suc i).
    let ki : k ≤ suc i = ⊎_elim (λ (y : suc i < k).
    absurd (omega (arith, pow_two i, pow_pos i, mmb_birth_late a (suc i) k y))) (λ y. y) (cases_lt (suc i) k) in
    let t : (s + 2 ^ suc i) % 2 ^ k ≡ 0 = multiple_down (s + 2 ^ suc i) k (suc i) ki
    (multiple_add s (2 ^ suc i) (2 ^ suc i) (pow_pos (suc i)) hs (power_multiple (suc i) (suc i) (omega arith))) in
    inl (le, next a (s + 2 ^ suc i) (2 ^ k) ha t x))
    (λ y. inr (mmb_inside i (r - 2 * 2 ^ i) (s + 2 ^ suc i) a k (omega (arith, pow_two i)) (multiple_add s (2 ^ suc i)
    (2 ^ i) (pow_pos i) si (power_multiple (suc i) i (omega arith))) ha y (omega (arith, pow_two i))))
    (cases_lt a (s + 2 ^ suc i)))

pub mmb_inside_back : (i r s a k : ℕ) → r + 1 < 2 * 2 ^ i → Inside (mmb_below i r) s a k
    → (s ≤ a) × (mmb_birth a k ≤ s + r)
unfolding mmb_below Inside
mmb_inside_back zero r s a k hr h = absurd h
mmb_inside_back (suc i) r s a k hr h =
    mmb_cases i r (λ hs. Inside hs s a k → (s ≤ a) × (mmb_birth a k ≤ s + r))
    (λ l. mmb_inside_back i r s a k l)
    (λ g l. λ q. ⊎_elim
    (λ (p : (s ≤ a) × (a + 2 ^ k ≤ s + 2 ^ i)). (p.0, omega (arith, p, mmb_birth_twice a k)))
    (λ (p : Inside (mmb_below i (r - 2 ^ i)) (s + 2 ^ i) a k). let ih =
    mmb_inside_back i (r - 2 ^ i) (s + 2 ^ i) a k (omega (arith, pow_two i)) p in
    (omega (arith, ih), omega (arith, ih)))
    q)
    (λ g. λ q. ⊎_elim
    (λ (p : (s ≤ a) × (a + 2 ^ k ≤ s + 2 ^ suc i)). (p.0, omega (arith, p, pow_two i, mmb_birth_twice a k)))
    (λ (p : Inside (mmb_below i (r - 2 * 2 ^ i)) (s + 2 ^ suc i) a k). let ih =
    mmb_inside_back i (r - 2 * 2 ^ i) (s + 2 ^ suc i) a k (omega (arith, pow_two i)) p in
    (omega (arith, ih), omega (arith, ih, pow_two i)))
    q)
    h

pub mmb_aligned : (i r s : ℕ) → r + 1 < 2 * 2 ^ i → s % 2 ^ i ≡ 0 → AreAligned (mmb_below i r) s
unfolding mmb_below AreAligned
mmb_aligned zero r s hr hs = tt
mmb_aligned (suc i) r s hr hs =
    let si : s % 2 ^ i ≡ 0 = multiple_down s i (suc i) (omega arith) hs in
    mmb_cases i r (λ hs. AreAligned hs s)
    (λ l. mmb_aligned i r s l si)
    (λ g l. (
      si,
      mmb_aligned i (r - 2 ^ i) (s + 2 ^ i) (omega (arith, pow_two i))
          (multiple_add s (2 ^ i) (2 ^ i) (pow_pos i) si (power_multiple i i (omega arith))),
    ))
    (λ g. (
      hs,
      mmb_aligned i (r - 2 * 2 ^ i) (s + 2 ^ suc i) (omega (arith, pow_two i))
          (multiple_add s (2 ^ suc i) (2 ^ i) (pow_pos i) si (power_multiple (suc i) i (omega arith))),
    ))

-- ---- positions

pub mmb_children : (a k : ℕ) → a % 2 ^ suc k ≡ 0
    → (mmb_position a k < mmb_position a (suc k)) × (mmb_position (a + 2 ^ k) k < mmb_position a (suc k))
mmb_children a zero ha =
    let p : mmb_size (a + 1 + 1) ≡ mmb_size (a + 1) + 2 = mmb_pair a 0 (a + 1) ha (omega arith) in
    let e : a + 3 * 2 ^ 0 - 1 ≡ a + 1 + 1 = omega arith in
    let g : mmb_size a < mmb_size (a + 1) = mmb_grows a in
    rw e (omega arith, omega arith)
mmb_children a (suc k) ha =
    let p : mmb_size 0 < mmb_size (a + 3 * 2 ^ k - 1) =
    grows_below mmb_size mmb_grows 0 (a + 3 * 2 ^ k - 1) (omega (arith, pow_pos k)) in
    let q : mmb_size (a + 3 * 2 ^ k - 1) < mmb_size (a + 2 ^ suc k + 3 * 2 ^ k - 1) = grows_below mmb_size mmb_grows
    (a + 3 * 2 ^ k - 1) (a + 2 ^ suc k + 3 * 2 ^ k - 1) (omega (arith, pow_pos k, pow_two k)) in
    let r : mmb_size (a + 2 ^ suc k + 3 * 2 ^ k - 1) < mmb_size (a + 3 * 2 ^ suc k - 1) = grows_below mmb_size mmb_grows
    (a + 2 ^ suc k + 3 * 2 ^ k - 1) (a + 3 * 2 ^ suc k - 1) (omega (arith, pow_pos k, pow_two k)) in
    (omega arith, omega arith)

same_size : (m n : ℕ) → mmb_size m ≡ mmb_size n → m ≡ n
same_size m n h =
    let a : m ≤ n = ⊎_elim
    (λ (l : n < m). absurd (let p : mmb_size n < mmb_size m = grows_below mmb_size mmb_grows n m l in omega arith))
    (λ g. g) (cases_lt n m) in
    let b : n ≤ m = ⊎_elim
    (λ (l : m < n). absurd (let p : mmb_size m < mmb_size n = grows_below mmb_size mmb_grows m n l in omega arith))
    (λ g. g) (cases_lt m n) in
    omega arith

leaf_apart : (a b j : ℕ) → b % 2 ^ suc j ≡ 0 → mmb_size a ≡ mmb_size (b + 3 * 2 ^ j - 1) - 1 → ⊥
leaf_apart a b j hb h =
    let n : ℕ = b + 3 * 2 ^ j - 2 in
    let e : b + 3 * 2 ^ j - 1 ≡ n + 1 = omega (arith, pow_pos j) in
    let f : mmb_size (b + 3 * 2 ^ j - 1) ≡ mmb_size (n + 1) = ap mmb_size e in
    let p : mmb_size (n + 1) ≡ mmb_size n + 2 = mmb_pair b j n hb (omega (arith, pow_pos j)) in
    let x : n < a = grows_back mmb_size mmb_grows n a (omega arith) in
    let y : a < n + 1 = grows_back mmb_size mmb_grows a (n + 1) (omega arith) in
    omega arith

pub mmb_injective : (a k b j : ℕ) → a % 2 ^ k ≡ 0 → b % 2 ^ j ≡ 0 → mmb_position a k ≡ mmb_position b j
    → (a ≡ b) × (k ≡ j)
mmb_injective a zero b zero ha hb h = (same_size a b h, refl)
mmb_injective a zero b (suc j) ha hb h = absurd (leaf_apart a b j hb h)
mmb_injective a (suc k) b zero ha hb h = absurd (leaf_apart b a k ha (sym h))
mmb_injective a (suc k) b (suc j) ha hb h =
    let p : mmb_size 0 < mmb_size (a + 3 * 2 ^ k - 1) =
    grows_below mmb_size mmb_grows 0 (a + 3 * 2 ^ k - 1) (omega (arith, pow_pos k)) in
    let q : mmb_size 0 < mmb_size (b + 3 * 2 ^ j - 1) =
    grows_below mmb_size mmb_grows 0 (b + 3 * 2 ^ j - 1) (omega (arith, pow_pos j)) in
    let e : a + 3 * 2 ^ k - 1 ≡ b + 3 * 2 ^ j - 1 = same_size _ _ (omega arith) in
    let f : a + 3 * 2 ^ k ≡ b + 3 * 2 ^ j = omega (arith, pow_pos k, pow_pos j) in
    let x : j ≤ k = ⊎_elim (λ (l : k < j). absurd (mmb_apart a k b j l ha hb f)) (λ g. g) (cases_lt k j) in
    let y : k ≤ j = ⊎_elim (λ (l : j < k). absurd (mmb_apart b j a k l hb ha (sym f))) (λ g. g) (cases_lt j k) in
    let kj : k ≡ j = omega arith in
    let r : 2 ^ k ≡ 2 ^ j = ap (λ (z : ℕ). 2 ^ z) kj in
    (omega arith, ap suc kj)

pub mmb_moves : (a k : ℕ) → mmb_birth a k ≡ a + mmb_birth 0 k
mmb_moves a zero = omega arith
mmb_moves a (suc k) = omega (arith, pow_pos k)

pub mmb_late : (a k : ℕ) → a + 2 ^ k ≤ mmb_birth a k
mmb_late a zero = omega arith
mmb_late a (suc k) = omega (arith, pow_two k, pow_pos k)

pub mmb_soon : (a k : ℕ) → mmb_birth a k ≤ a + 2 * 2 ^ k
mmb_soon a zero = omega arith
mmb_soon a (suc k) = omega (arith, pow_two k)

-- ---- the first peak, and the rest

pub mmb_top_big : (n p : ℕ) → 0 < p → n + 1 < 2 * 2 ^ p → 3 * 2 ^ (p - 1) ≤ n + 1
    → mmb_peaks n ≡ p ∷ mmb_peaks (n - 2 ^ p)
mmb_top_big n zero h u l = absurd (omega arith)
mmb_top_big n (suc i) h u l =
    let e : suc i - 1 ≡ i = omega arith in
    let l' : 3 * 2 ^ i ≤ n + 1 = rw e at l in
    let f : n - 2 * 2 ^ i ≡ n - 2 ^ suc i = omega (arith, pow_two i) in
    mmb_peaks_at (suc i) n u ∙ mmb_big i n l' ∙ ap (λ (x : List ℕ). suc i ∷ x)
    (sym (mmb_peaks_at i (n - 2 * 2 ^ i) (omega (arith, pow_two i))) ∙ ap mmb_peaks f)

pub mmb_top_mid : (n p : ℕ) → 0 < p → 2 ^ p ≤ n + 1 → n + 1 < 3 * 2 ^ (p - 1)
    → mmb_peaks n ≡ (p - 1) ∷ mmb_peaks (n - 2 ^ (p - 1))
mmb_top_mid n zero h l u = absurd (omega arith)
mmb_top_mid n (suc i) h l u =
    let e : suc i - 1 ≡ i = omega arith in
    let u' : n + 1 < 3 * 2 ^ i = rw e at u in
    rw e (mmb_peaks_at (suc i) n (omega (arith, pow_two i)) ∙ mmb_mid i n (omega (arith, pow_two i)) u'
    ∙ ap (λ (x : List ℕ). i ∷ x) (sym (mmb_peaks_at i (n - 2 ^ i) (omega arith))))

pub mmb_count_log : (n l : ℕ) → 2 ^ l ≤ n + 1 → n + 1 < 2 * 2 ^ l → l ≡ length (mmb_peaks n)
mmb_count_log n l a b = let p = mmb_peaks_count n in log_unique (n + 1) l (length (mmb_peaks n)) a b p.0 p.1

pub mmb_size_sum : (n l : ℕ) → 2 ^ l ≤ n + 1 → n + 1 < 2 * 2 ^ l → n + (n - l) ≡ size mmb n
mmb_size_sum n l a b = omega (arith, mmb_count_log n l a b, mmb_count_at_most n)

pub mmb_size_log : (n l : ℕ) → 2 ^ l ≤ n + 1 → n + 1 < 2 * 2 ^ l → 2 * n - l ≡ size mmb n
mmb_size_log n l a b = omega (arith, mmb_count_log n l a b)

pub mmb_log_at_most : (n l : ℕ) → 2 ^ l ≤ n + 1 → n + 1 < 2 * 2 ^ l → l ≤ n
mmb_log_at_most n l a b = omega (arith, mmb_count_log n l a b, mmb_count_at_most n)

pub log_some : (n p : ℕ) → 0 < n → n + 1 < 2 * 2 ^ p → 0 < p
log_some n zero h u = omega arith
log_some n (suc p) h u = omega arith

-- ---- the node that a leaf brings

zeros_even : (k x : ℕ) → x % 2 ≡ 0 → count_trailing_zeros (suc k) x ≡ suc (count_trailing_zeros k (x / 2))
unfolding count_trailing_zeros
zeros_even k x e = rw e

zeros_odd : (k x : ℕ) → x % 2 ≡ 1 → count_trailing_zeros (suc k) x ≡ 0
unfolding count_trailing_zeros
zeros_odd k x e = rw e

split_even : (k x q : ℕ) → x % 2 ≡ 0 → x / 2 ≡ (2 * q + 1) * 2 ^ count_trailing_zeros k (x / 2)
    → x ≡ (2 * q + 1) * 2 ^ count_trailing_zeros (suc k) x
split_even k x q e h = rw (zeros_even k x e) (omega (arith, twice_power (2 * q + 1) (count_trailing_zeros k (x / 2))))

-- a number that is not 0 is odd past the zeros at its end
pub trailing_split : (k x : ℕ) → 0 < x → x < 2 ^ k → (q : ℕ) × (x ≡ (2 * q + 1) * 2 ^ count_trailing_zeros k x)
trailing_split zero x p h = absurd (omega arith)
trailing_split (suc k) x p h = ⊎_elim
    (λ (e : x % 2 ≡ 0). let ih = trailing_split k (x / 2) (omega arith) (omega (arith, pow_two k)) in
    (ih.0, split_even k x ih.0 e ih.1))
    (λ (e : x % 2 ≡ 0 → ⊥). let f : x % 2 ≡ 1 = omega arith in (x / 2, rw (zeros_odd k x f) (omega arith)))
    (cases_eq (x % 2) 0)

pub record MmbAfter (n t : ℕ) : Type 0 where
  pub fits : 3 * 2 ^ t ≤ n + 2
  pub aligned : (n + 2 - 3 * 2 ^ t) % 2 ^ (t + 1) ≡ 0
  pub at : mmb_position (n + 2 - 3 * 2 ^ t) (t + 1) ≡ mmb_size n + 1
  pub two : mmb_size (n + 1) ≡ mmb_size n + 2

-- a leaf that brings a parent: n + 2 is no power of two
no_lone : (n t : ℕ) → mmb_size n + 1 < mmb_size (n + 1) → n + 2 ≡ 2 ^ t → ⊥
no_lone n t h e =
    let m = mmb_peaks_count n in
    let m' = mmb_peaks_count (n + 1) in
    let l : length (mmb_peaks (n + 1)) ≤ length (mmb_peaks n) = omega (arith, mmb_count_at_most n) in
    let a : length (mmb_peaks n) < t = pow_below_back (length (mmb_peaks n)) t (omega (arith, m)) in
    let b : 2 ^ suc (length (mmb_peaks n)) ≤ 2 ^ t = pow_le (suc (length (mmb_peaks n))) t a in
    let c : 2 ^ length (mmb_peaks (n + 1)) ≤ 2 ^ length (mmb_peaks n) = pow_le _ _ l in
    omega (arith, m', pow_two (length (mmb_peaks n)))

mmb_after_at : (n q t : ℕ) → n + 2 ≡ (2 * q + 1) * 2 ^ t → mmb_size n + 1 < mmb_size (n + 1) → MmbAfter n t
mmb_after_at n zero t e h = absurd (no_lone n t h (omega arith))
mmb_after_at n (suc q) t e h =
    let g : n + 2 - 3 * 2 ^ t ≡ q * 2 ^ suc t = omega (arith, twice_power q t) in
    let al : (n + 2 - 3 * 2 ^ t) % 2 ^ suc t ≡ 0 =
    ap (λ x. x % 2 ^ suc t) g ∙ is_multiple q (2 ^ suc t) (pow_pos (suc t)) in
    let fi : 3 * 2 ^ t ≤ n + 2 = omega (arith, twice_power q t) in
    let tw : mmb_size (n + 1) ≡ mmb_size n + 2 = mmb_pair (n + 2 - 3 * 2 ^ t) t n al (omega arith) in
    let s : mmb_size (n + 2 - 3 * 2 ^ t + 3 * 2 ^ t - 1) ≡ mmb_size (n + 1) = ap mmb_size (omega arith) in
    record { fits = fi; aligned = rw add-one al; at = rw add-one (omega arith); two = tw }

pub mmb_after : (n k : ℕ) → n + 2 < 2 ^ k → mmb_size n + 1 < mmb_size (n + 1) → MmbAfter n (count_trailing_zeros k (n + 2))
mmb_after n k b h = let c = trailing_split k (n + 2) (omega arith) b in mmb_after_at n c.0 _ c.1 h

-- ---- within 64 bits

pub mmb_size_at_least : (n : ℕ) → n ≤ mmb_size n
mmb_size_at_least n = omega (arith, mmb_count_at_most n)

-- below a size of 2 ^ 64 there is room for one leaf more
pub mmb_room_above : (n : ℕ) → mmb_size n < 2 ^ 64 → n + 1 < 2 ^ 64
mmb_room_above n h = ⊎_elim (λ l. l) (λ (g : 2 ^ 64 ≤ n + 1). absurd (
    let p = mmb_peaks_count 18446744073709551615 in
    let q : length (mmb_peaks 18446744073709551615) ≡ 64 =
    sym (mmb_count_log 18446744073709551615 64 (omega arith) (omega arith)) in
    let r : mmb_size 18446744073709551615 ≤ mmb_size n =
    grows_at_most mmb_size mmb_grows 18446744073709551615 n (omega arith) in
    omega arith)) (cases_lt (n + 1) (2 ^ 64))

-- the position by the leaves before the birth
pub mmb_position_is : (a k : ℕ) → a % 2 ^ suc k ≡ 0 → mmb_position a (suc k) ≡ mmb_size (a + (3 * 2 ^ k - 2)) + 1
mmb_position_is a k ha =
    let e : a + (3 * 2 ^ k - 2) + 1 ≡ a + 3 * 2 ^ k - 1 = omega (arith, pow_pos k) in
    let f : mmb_size (a + (3 * 2 ^ k - 2) + 1) ≡ mmb_size (a + 3 * 2 ^ k - 1) = ap mmb_size e in
    let g : mmb_size (a + (3 * 2 ^ k - 2) + 1) ≡ mmb_size (a + (3 * 2 ^ k - 2)) + 2 =
    mmb_pair a k (a + (3 * 2 ^ k - 2)) ha (omega (arith, pow_pos k)) in
    omega arith

pub mmb_height : (a k : ℕ) → a % 2 ^ suc k ≡ 0 → mmb_position a (suc k) < 2 ^ 64 → (k ≤ 62) × (a + 3 * 2 ^ k ≤ 2 ^ 64)
mmb_height a k ha h =
    let b : a + 3 * 2 ^ k ≤ 2 ^ 64 =
    omega (arith, mmb_position_is a k ha, mmb_size_at_least (a + (3 * 2 ^ k - 2)), pow_pos k) in (
      ⊎_elim (λ (l : 62 < k). absurd (let p : 2 ^ 63 ≤ 2 ^ k = pow_le 63 k l in omega arith)) (λ g. g)
          (cases_lt 62 k),
      b,
    )

mmb_offset_low : (n t : ℕ) → n ≤ 2 ^ 62 → 3 * 2 ^ t ≤ n + 2 → t ≤ 61
mmb_offset_low n t few h =
    ⊎_elim (λ (l : 61 < t). absurd (let p : 2 ^ 62 ≤ 2 ^ t = pow_le 62 t l in omega arith)) (λ g. g) (cases_lt 61 t)

pub mmb_offset : (n o : ℕ) → n ≤ 2 ^ 62 → (o ≡ 0 → ⊥) → mmb_size n + o < mmb_size (n + 1)
    → (o ≡ 1) × (count_trailing_zeros 64 (n + 2) ≤ 61) × MmbAfter n (count_trailing_zeros 64 (n + 2))
mmb_offset n o few z h =
    let a = mmb_after n 64 (omega arith) (omega arith) in
    (omega (arith, a.two), mmb_offset_low n (count_trailing_zeros 64 (n + 2)) few a.fits, a)

pub mmb_birth_height : (a k : ℕ) → a + 3 * 2 ^ k - 1 < 2 ^ 64 → k ≤ 62
mmb_birth_height a k h =
    ⊎_elim (λ (l : 62 < k). absurd (let p : 2 ^ 63 ≤ 2 ^ k = pow_le 63 k l in omega arith)) (λ g. g) (cases_lt 62 k)

-- the same by a height that is not 0
pub record Raised (a k : ℕ) : Type 0 where
  pub low : k - 1 ≤ 62
  pub room : a + 3 * 2 ^ (k - 1) ≤ 2 ^ 64
  pub is : mmb_position a k ≡ mmb_size (a + (3 * 2 ^ (k - 1) - 2)) + 1

pub mmb_raised : (a k : ℕ) → (k ≡ 0 → ⊥) → a % 2 ^ k ≡ 0 → mmb_position a k < 2 ^ 64 → Raised a k
mmb_raised a zero z ha h = absurd (z refl)
mmb_raised a (suc k) z ha h =
    let e : suc k - 1 ≡ k = omega arith in
    let b = mmb_height a k ha h in
    record { low = rw e b.0; room = rw e b.1; is = rw e (mmb_position_is a k ha) }

pub mmb_birth_low : (a k : ℕ) → (k ≡ 0 → ⊥) → mmb_birth a k < 2 ^ 64 → k - 1 ≤ 62
mmb_birth_low a zero z h = absurd (z refl)
mmb_birth_low a (suc k) z h = let e : suc k - 1 ≡ k = omega arith in rw e (mmb_birth_height a k h)

mod_one : (n : ℕ) → n % 2 ^ 0 ≡ 0
mod_one n = omega arith

mmb_brings : (n o : ℕ) → mmb_size n + o < mmb_size (n + 1)
    → (a : ℕ) × (k : ℕ) × (a % 2 ^ k ≡ 0) × (mmb_position a k ≡ mmb_size n + o)
mmb_brings n zero h = (n, 0, mod_one n, omega arith)
mmb_brings n (suc o) h =
    let a = mmb_after n (n + 2) (below_pow (n + 2)) (omega arith) in
    let t : ℕ = count_trailing_zeros (n + 2) (n + 2) in
    (n + 2 - 3 * 2 ^ t, t + 1, a.aligned, (let e : suc o ≡ 1 = omega (arith, a.two) in rw e a.at))

pub mmb_laws : Laws mmb
mmb_laws = record {
  sum = mmb_peaks_sum;
  aligned = λ n. rw (mmb_peaks_at n n (fits n)) (mmb_aligned n n 0 (fits n) (zero_multiple n));
  few = λ n h. (let p = mmb_peaks_count n in ⊎_elim
      (λ (l : 63 < length (mmb_peaks n)).
      absurd (let q : 2 ^ 63 ≤ 2 ^ length (mmb_peaks n) = pow_le 63 (length (mmb_peaks n)) (omega arith) in omega (arith, p)))
      (λ g. g)
      (cases_lt 63 (length (mmb_peaks n))));
  inside = λ n a k ha. (
    (λ i. let r = mmb_inside_back n n 0 a k (fits n) (rw (mmb_peaks_at n n (fits n)) at i) in
        let x : mmb_birth a k ≤ n = omega (arith, r) in x),
    (λ h. let g : mmb_birth a k ≤ n = h in rw (mmb_peaks_at n n (fits n))
        (mmb_inside n n 0 a k (fits n) (zero_multiple n) ha (omega arith) (omega arith))),
  );
  grows = mmb_grows;
  born = λ n a k ha. mmb_born n a k;
  leaf = λ a. (refl, refl);
  children = mmb_children;
  injective = mmb_injective;
  moves = mmb_moves;
  late = mmb_late;
  soon = mmb_soon;
  brings = mmb_brings;
}

pub places_half : (p : ℕ) → 0 < p → (2 ^ p ≡ 2 * 2 ^ (p - 1)) × (0 < 2 ^ (p - 1))
places_half zero h = absurd (omega arith)
places_half (suc i) h = let e : suc i - 1 ≡ i = omega arith in rw e (omega (arith, pow_two i), pow_pos i)
