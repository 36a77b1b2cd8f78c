-- Big-endian bytes are ordered as their numbers are.
use Rattle.std.proofs.Common.{◌≡◌, ℕ, suc, ◌+◌, ◌*◌, ◌^◌, ◌<◌, ◌≤◌, List, [], ◌∷◌, length, refl, sym, arith, lit<, inl, inr, Less, Equal, Greater}
use Rattle.std.proofs.Math.Nat.{pow-succ', mul-le-mul_right, suc-mul}
use Rattle.std.proofs.lemmas.Bool.{cases_lt, lt-ltb}
use Rattle.std.proofs.lemmas.Bool.Decides.{nat_tests}
use Rattle.std.specs.Int.{w64, from_be_bytes}
use Rattle.std.specs.Ordering.{nat_cmp}
use Rattle.std.specs.Cmp.Lexicographic.{slice_cmp}
use Rattle.storage_codec.specs.Parts.{IsBytes}

-- the number that bytes spell, highest first
abbrev number_of : List ℕ → ℕ
number_of [] = 0
number_of (x ∷ xs) = x * 256 ^ length xs + number_of xs

bytes_rest : (x : ℕ) (xs : List ℕ) → IsBytes (x ∷ xs) → IsBytes xs
bytes_rest x xs h i = h (suc i)

-- A greater first byte outweighs the bytes after it.
outweighs : (p x y a b : ℕ) → a < p → x < y → x * p + a < y * p + b
outweighs p x y a b small lt =
    let up : suc x * p ≤ y * p = mul-le-mul_right p lt in
    let step : suc x * p ≡ x * p + p = suc-mul x p in
    omega arith

number_below : (xs : List ℕ) → IsBytes xs → number_of xs < 256 ^ length xs
number_below [] h = lit< tt
number_below (x ∷ xs) h =
    let rest = number_below xs (bytes_rest x xs h) in
    let up : x * 256 ^ length xs + number_of xs < 256 * 256 ^ length xs + 0 =
    outweighs (256 ^ length xs) x 256 (number_of xs) 0 rest (h 0) in
    let power : 256 ^ suc (length xs) ≡ 256 * 256 ^ length xs = pow-succ' 256 (length xs) in
    omega arith

is_less : (m n : ℕ) → m < n → nat_cmp m n ≡ Less
is_less m n lt = rw (lt-ltb m n lt) refl

is_equal : (m n : ℕ) → m ≡ n → nat_cmp m n ≡ Equal
is_equal m n e = grind (arith, nat_tests)

is_greater : (m n : ℕ) → n < m → nat_cmp m n ≡ Greater
is_greater m n lt = grind (arith, nat_tests)

same_plus : (w m n : ℕ) → nat_cmp (w + m) (w + n) ≡ nat_cmp m n
same_plus w m n = grind (arith, nat_tests)

cmp_by_number : (xs ys : List ℕ) → length xs ≡ length ys → IsBytes xs → IsBytes ys
    → slice_cmp nat_cmp xs ys ≡ nat_cmp (number_of xs) (number_of ys)
cmp_by_number [] [] len fx fy = refl
cmp_by_number [] (y ∷ ys) len fx fy = absurd (let l : 0 ≡ suc (length ys) = len in omega arith)
cmp_by_number (x ∷ xs) [] len fx fy = absurd (let l : suc (length xs) ≡ 0 = len in omega arith)
cmp_by_number (x ∷ xs) (y ∷ ys) len fx fy =
    let l : suc (length xs) ≡ suc (length ys) = len in
    let same : length xs ≡ length ys = omega arith in
    let more = cmp_by_number xs ys same (bytes_rest x xs fx) (bytes_rest y ys fy) in
    let below_x : number_of xs < 256 ^ length ys = rw (← same) (number_below xs (bytes_rest x xs fx)) in
    let below_y = number_below ys (bytes_rest y ys fy) in
    elim (cases_lt x y) [
      | inl lt ↦ rw (
        is_less x y lt,
        same,
        is_less _ _ (outweighs (256 ^ length ys) x y (number_of xs) (number_of ys) below_x lt),
      ) refl
      | inr le ↦ elim (cases_lt y x) [
        | inl gt ↦ rw (
          is_greater x y gt,
          same,
          is_greater _ _ (outweighs (256 ^ length ys) y x (number_of ys) (number_of xs) below_y gt),
        ) refl
        | inr ge ↦
            let e : x ≡ y = omega arith in
            rw (is_equal x y e, more, same, e) (sym (same_plus (y * 256 ^ length ys) (number_of xs) (number_of ys)))
      ]
    ]

from_number : (xs : List ℕ) → length xs ≡ 8 → from_be_bytes w64 xs ≡ number_of xs
from_number (a ∷ b ∷ c ∷ d ∷ e ∷ f ∷ g ∷ h ∷ []) len = omega arith
from_number _ len = absurd (omega arith)

-- Eight bytes, highest first, are ordered as their numbers are.
pub cmp_by_number_8 : (xs ys : List ℕ) → length xs ≡ 8 → length ys ≡ 8 → IsBytes xs → IsBytes ys
    → slice_cmp nat_cmp xs ys ≡ nat_cmp (from_be_bytes w64 xs) (from_be_bytes w64 ys)
cmp_by_number_8 xs ys eight_x eight_y fx fy =
    let same : length xs ≡ length ys = omega arith in
    rw (from_number xs eight_x, from_number ys eight_y) (cmp_by_number xs ys same fx fy)
