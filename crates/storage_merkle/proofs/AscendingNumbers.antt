-- Lists of numbers that ascend.
use Rattle.std.proofs.Common.{◌≡◌, ◌≢◌, ℕ, zero, suc, ◌+◌, ◌<◌, ◌≤◌, List, [], ◌∷◌, length, get_or, inl, inr, refl, sym, ap, ap₂, ◌∙◌, arith, eqb, eq-eqb, ne_eqb}
use Rattle.std.specs.List.{sum_by}
use Rattle.std.specs.List.Sorted.{IsPermutation, IsNonDecreasing}
use Rattle.std.proofs.lemmas.Bool.{cases_lt}
use Rattle.std.proofs.lemmas.List.Sums.{sum_by-cons}
use Rattle.std.proofs.lemmas.List.Sorted.{sum_by-IsPermutation}
use Rattle.storage_merkle.proofs.Distinct.{one_if}

-- no number is below m
abbrev pub AtLeast : ℕ → List ℕ → Type 0
AtLeast m [] = Unit {0}
AtLeast m (x ∷ xs) = (m ≤ x) × AtLeast m xs

abbrev pub Rising : List ℕ → Type 0
Rising [] = Unit {0}
Rising (x ∷ xs) = AtLeast x xs × Rising xs

-- how often a number stands in a list
abbrev pub count : ℕ → List ℕ → ℕ
count m [] = 0
count m (x ∷ xs) = one_if (eqb x m) + count m xs

pub at_least_less : (m n : ℕ) (xs : List ℕ) → m ≤ n → AtLeast n xs → AtLeast m xs
at_least_less m n [] l a = tt
at_least_less m n (x ∷ xs) l a = (omega arith, at_least_less m n xs l a.1)

none_below : (m x : ℕ) (xs : List ℕ) → m < x → AtLeast x xs → count m xs ≡ 0
none_below m x [] l a = refl
none_below m x (y ∷ ys) l a =
    let ne : y ≢ m = omega arith in
    omega (arith, ap one_if (ne_eqb y m ne), none_below m x ys l a.1)

-- ascending lists in which each number stands equally often are equal
pub same_rising : (xs ys : List ℕ) → Rising xs → Rising ys → ((m : ℕ) → count m xs ≡ count m ys) → xs ≡ ys
same_rising [] [] a b c = refl
same_rising [] (y ∷ ys) a b c = absurd (omega (arith, c y, ap one_if (eq-eqb y y refl)))
same_rising (x ∷ xs) [] a b c = absurd (omega (arith, c x, ap one_if (eq-eqb x x refl)))
same_rising (x ∷ xs) (y ∷ ys) a b c =
    elim (cases_lt x y) [
      | inl l ↦ absurd (omega (arith, c x, ap one_if (eq-eqb x x refl), none_below x y (y ∷ ys) l (omega arith, b.0)))
      | inr g ↦ elim (cases_lt y x) [
        | inl l ↦ absurd (omega (arith, c y, ap one_if (eq-eqb y y refl), none_below y x (x ∷ xs) l (omega arith, a.0)))
        | inr h ↦
            let e : x ≡ y = omega arith in
            ap₂ (λ z zs. z ∷ zs) e (same_rising xs ys a.1 b.1 (λ m. omega (arith, c m, ap (λ z. one_if (eqb z m)) e)))
      ]
    ]

-- by index
pub at_least_from : (m : ℕ) (xs : List ℕ) → ((j : ℕ) → j < length xs → m ≤ get_or xs j 0) → AtLeast m xs
at_least_from m [] f = tt
at_least_from m (x ∷ xs) f = (f 0 (omega arith), at_least_from m xs (λ j l. f (suc j) (omega arith)))

pub rising_from : (xs : List ℕ) → ((i j : ℕ) → i ≤ j → j < length xs → get_or xs i 0 ≤ get_or xs j 0) → Rising xs
rising_from [] f = tt
rising_from (x ∷ xs) f = (
  at_least_from x xs (λ j l. f 0 (suc j) (omega arith) (omega arith)),
  rising_from xs (λ i j u l. f (suc i) (suc j) (omega arith) (omega arith)),
)

at_least_at : (m : ℕ) (xs : List ℕ) → AtLeast m xs → (j : ℕ) → j < length xs → m ≤ get_or xs j 0
at_least_at m [] a j l = absurd (omega arith)
at_least_at m (x ∷ xs) a zero l = a.0
at_least_at m (x ∷ xs) a (suc j) l = at_least_at m xs a.1 j (omega arith)

pub rising_at : (xs : List ℕ) → Rising xs → (i j : ℕ) → i ≤ j → j < length xs → get_or xs i 0 ≤ get_or xs j 0
rising_at [] r i j u l = absurd (omega arith)
rising_at (x ∷ xs) r zero zero u l = omega arith
rising_at (x ∷ xs) r zero (suc j) u l = at_least_at x xs r.0 j (omega arith)
rising_at (x ∷ xs) r (suc i) zero u l = absurd (omega arith)
rising_at (x ∷ xs) r (suc i) (suc j) u l = rising_at xs r.1 i j (omega arith) (omega arith)

-- what a sort gives
count-sum : (m : ℕ) (xs : List ℕ) → count m xs ≡ sum_by (λ x. one_if (eqb x m)) xs
count-sum m [] = refl
count-sum m (x ∷ xs) = ap (λ n. one_if (eqb x m) + n) (count-sum m xs) ∙ sym (sum_by-cons (λ x. one_if (eqb x m)) x xs)

pub count-permutation : (m : ℕ) (xs ys : List ℕ) → IsPermutation xs ys → count m ys ≡ count m xs
count-permutation m xs ys p =
    count-sum m ys ∙ sum_by-IsPermutation (λ x. one_if (eqb x m)) xs ys p ∙ sym (count-sum m xs)

pub sorted_is : (xs ys zs : List ℕ) → IsPermutation xs ys → IsNonDecreasing ys → Rising zs
    → ((m : ℕ) → count m zs ≡ count m xs) → ys ≡ zs
sorted_is xs ys zs p up r c =
    same_rising ys zs (rising_from ys (λ i j u l. up i j 0 u l)) r (λ m. count-permutation m xs ys p ∙ sym (c m))
