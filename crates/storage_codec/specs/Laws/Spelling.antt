-- Varints in the words of the format: when they are read, cut short, and how many bytes they take.
use Rattle.std.proofs.Common.{◌≡◌, ℕ, zero, suc, ◌+◌, ◌-◌, ◌*◌, ◌/◌, ◌%◌, ◌^◌, ◌<◌, ◌≤◌, true, false, cond, ltb, eqb, List, [], ◌∷◌, ◌++◌, length, Ok, Err, refl, sym, ap, subst, arith, inl, inr, lit≤, lit<}
use Rattle.std.proofs.Math.Nat.{pow-succ'}
use Rattle.std.proofs.lemmas.List.Elements.{All-nil, All-cons, All-head, All-tail}
use Rattle.std.proofs.lemmas.Bool.{cases_lt, ltb-false, le-ltb, lt-ltb}
use Rattle.std.specs.Prelude.{All}
use Rattle.std.specs.Str.{bytes_eq}
use Rattle.std.proofs.lemmas.Slice.Eq.{bytes_eq-Decides}
use Rattle.storage_codec.specs.Faults.{EndOfBuffer, InvalidVarint}
use Rattle.storage_codec.specs.Parts.{IsBytes, groups, varint_text, vector_text}
use Rattle.storage_codec.specs.Codec.{Answer, mapped, more_at, varint_at}
use Rattle.storage_codec.specs.Laws.Reading.{answer_of}
use Rattle.storage_codec.specs.Laws.Varint.{chosen, varint_again, varint_back, varint_below}

-- Groups in front of other bytes are of one number.
groups_same : (left m n : ℕ) (xs ys : List ℕ) → groups left m ++ xs ≡ groups left n ++ ys → (m ≡ n) × (xs ≡ ys)
unfolding groups
groups_same zero m n xs ys e = (cc, cc)
groups_same (suc left) m n xs ys e =
    elim (cases_lt m 128) [
      | inl low_m ↦ elim (cases_lt n 128) [
        | inl low_n ↦ let f : m ∷ xs ≡ n ∷ ys = rw (lt-ltb m 128 low_m, lt-ltb n 128 low_n) at e in (cc, cc)
        | inr high_n ↦
            let f : m ∷ xs ≡ (n % 128 + 128) ∷ (groups left (n / 128) ++ ys) =
            rw (lt-ltb m 128 low_m, le-ltb n 128 high_n) at e in
            let head : m ≡ n % 128 + 128 = cc in
            absurd (omega arith)
      ]
      | inr high_m ↦ elim (cases_lt n 128) [
        | inl low_n ↦
            let f : (m % 128 + 128) ∷ (groups left (m / 128) ++ xs) ≡ n ∷ ys =
            rw (le-ltb m 128 high_m, lt-ltb n 128 low_n) at e in
            let head : m % 128 + 128 ≡ n = cc in
            absurd (omega arith)
        | inr high_n ↦
            let f : (m % 128 + 128) ∷ (groups left (m / 128) ++ xs) ≡ (n % 128 + 128) ∷ (groups left (n / 128) ++ ys) =
            rw (le-ltb m 128 high_m, le-ltb n 128 high_n) at e in
            let head : m % 128 + 128 ≡ n % 128 + 128 = cc in
            let tail : groups left (m / 128) ++ xs ≡ groups left (n / 128) ++ ys = cc in
            let more = groups_same left (m / 128) (n / 128) xs ys tail in
            let high : m / 128 ≡ n / 128 = more.0 in
            (omega arith, more.1)
      ]
    ]

-- A varint in front of other bytes is of one number, and what follows it is settled.
pub varint_one : (m n : ℕ) (xs ys : List ℕ) → varint_text m ++ xs ≡ varint_text n ++ ys → (m ≡ n) × (xs ≡ ys)
unfolding varint_text
varint_one m n xs ys e = groups_same 9 m n xs ys e

-- Byte vectors are equal exactly where their encodings are.
pub vector_same : (xs ys : List ℕ) → (bytes_eq xs ys ≡ true → vector_text xs ≡ vector_text ys)
    × (vector_text xs ≡ vector_text ys → bytes_eq xs ys ≡ true)
unfolding varint_text
vector_same xs ys = (
  λ e. ap vector_text ((bytes_eq-Decides xs ys).0 e),
  λ e. (bytes_eq-Decides xs ys).1 (groups_same 9 (length xs) (length ys) xs ys e).1,
)

-- A varint is read exactly where it stands in front.
pub varint_exact : (bytes : List ℕ) (n : ℕ) (rest : List ℕ) → IsBytes bytes
    → (varint_at bytes ≡ Ok (n, rest) → (n < 2 ^ 64) × (bytes ≡ varint_text n ++ rest))
    × ((n < 2 ^ 64) × (bytes ≡ varint_text n ++ rest) → varint_at bytes ≡ Ok (n, rest))
varint_exact bytes n rest fits = (
  λ e. (varint_below bytes n rest fits e, varint_back bytes n rest fits e),
  λ h. subst (λ (t : List ℕ). varint_at t ≡ Ok (n, rest)) (sym h.1) (varint_again n rest h.0),
)

-- each byte asks for another
abbrev Goes : List ℕ → Type 0
Goes bytes = All (λ b. 128 ≤ b) bytes

abbrev cut : {V : Type 0} → Answer V
cut = Err EndOfBuffer

mapped_cut : {V W : Type 0} (f : V → W) (answer : Answer V)
    → (mapped f answer ≡ cut → answer ≡ cut) × (answer ≡ cut → mapped f answer ≡ cut)
mapped_cut f (Ok x) = (λ e. absurd cc, λ e. absurd cc)
mapped_cut f (Err d) = (λ e. cc, λ e. cc)

not_cut : {V : Type 0} (x : V × List ℕ) → ◌≡◌ {A = Answer V} (Ok x) cut → ⊥
not_cut x e = cc

not_invalid : ◌≡◌ {A = Answer ℕ} (Err InvalidVarint) cut → ⊥
not_invalid e = cc

last_not_cut : (b : ℕ) (bytes : List ℕ) → cond (eqb b 1) (answer_of {V = ℕ} 1 bytes) (Err InvalidVarint) ≡ cut → ⊥
last_not_cut b bytes e =
    elim (chosen (eqb b 1) (answer_of {V = ℕ} 1 bytes) (Err InvalidVarint) cut e) [
      | inl h ↦ not_cut (1, bytes) h.1
      | inr h ↦ not_invalid h.1
    ]

-- A group that is not the last asks for the next ones.
goes_on : (b : ℕ) (bytes : List ℕ) (more : Answer ℕ)
    → cond (ltb b 128) (answer_of b bytes) (mapped (λ high. b - 128 + 128 * high) more) ≡ cut → (128 ≤ b) × (more ≡ cut)
goes_on b bytes more e =
    elim (chosen (ltb b 128) (answer_of b bytes) (mapped (λ high. b - 128 + 128 * high) more) cut e) [
      | inl h ↦ absurd (not_cut (b, bytes) h.1)
      | inr h ↦ (ltb-false b 128 h.0, (mapped_cut (λ high. b - 128 + 128 * high) more).0 h.1)
    ]

more_cut : (left : ℕ) (bytes : List ℕ) → (more_at left bytes ≡ cut → (length bytes ≤ left) × Goes bytes)
    × ((length bytes ≤ left) × Goes bytes → more_at left bytes ≡ cut)
unfolding more_at
more_cut zero [] = (λ e. (lit≤ tt, All-nil (λ b. 128 ≤ b)), λ h. refl)
more_cut zero (b ∷ bytes) = (
  λ e. absurd (last_not_cut b bytes e),
  λ h. let len : suc (length bytes) ≤ 0 = h.0 in
      absurd (omega arith),
)
more_cut (suc left) [] = (λ e. (omega arith, All-nil (λ b. 128 ≤ b)), λ h. refl)
more_cut (suc left) (b ∷ bytes) = (
  λ e. elim (chosen (eqb b 0) (Err InvalidVarint)
      (cond (ltb b 128) (answer_of b bytes) (mapped (λ high. b - 128 + 128 * high) (more_at left bytes))) cut e) [
        | inl h ↦ absurd (not_invalid h.1)
        | inr h ↦
            let goes = goes_on b bytes (more_at left bytes) h.1 in
            let rest = (more_cut left bytes).0 goes.1 in
            let len : length bytes ≤ left = rest.0 in
            (omega arith, All-cons (λ c. 128 ≤ c) b bytes goes.0 rest.1)
      ],
  λ h.
      let high : 128 ≤ b = All-head (λ c. 128 ≤ c) b bytes h.1 in
      let len : suc (length bytes) ≤ suc left = h.0 in
      let t : ltb b 128 ≡ false = le-ltb b 128 high in
      let z : eqb b 0 ≡ false = grind arith in
      let rest = (more_cut left bytes).1 (omega arith, All-tail (λ c. 128 ≤ c) b bytes h.1) in
      rw (z, t) ((mapped_cut (λ high. b - 128 + 128 * high) (more_at left bytes)).1 rest),
)

-- The bytes end before a varint does exactly where each asks for another and they are fewer than ten.
pub varint_cut : (bytes : List ℕ) → (varint_at bytes ≡ Err EndOfBuffer → (length bytes < 10) × All (λ b. 128 ≤ b) bytes)
    × ((length bytes < 10) × All (λ b. 128 ≤ b) bytes → varint_at bytes ≡ Err EndOfBuffer)
unfolding varint_at
varint_cut [] = (λ e. (lit< tt, All-nil (λ b. 128 ≤ b)), λ h. refl)
varint_cut (b ∷ bytes) = (
  λ e.
      let goes = goes_on b bytes (more_at 8 bytes) e in
      let rest = (more_cut 8 bytes).0 goes.1 in
      let len : length bytes ≤ 8 = rest.0 in
      (omega arith, All-cons (λ c. 128 ≤ c) b bytes goes.0 rest.1),
  λ h.
      let high : 128 ≤ b = All-head (λ c. 128 ≤ c) b bytes h.1 in
      let len : suc (length bytes) < 10 = h.0 in
      let t : ltb b 128 ≡ false = le-ltb b 128 high in
      let rest = (more_cut 8 bytes).1 (omega arith, All-tail (λ c. 128 ≤ c) b bytes h.1) in
      rw t ((mapped_cut (λ high. b - 128 + 128 * high) (more_at 8 bytes)).1 rest),
)

groups_most : (left n : ℕ) → length (groups left n) ≤ left + 1
unfolding groups
groups_most zero n = lit≤ tt
groups_most (suc left) n =
    elim (cases_lt n 128) [
      | inl low ↦ rw (lt-ltb n 128 low) (omega arith)
      | inr high ↦ rw (le-ltb n 128 high) (omega (arith, groups_most left (n / 128)))
    ]

groups_some : (left n : ℕ) → 0 < length (groups left n)
unfolding groups
groups_some zero n = lit< tt
groups_some (suc left) n =
    elim (cases_lt n 128) [
      | inl low ↦ rw (lt-ltb n 128 low) (lit< tt)
      | inr high ↦ rw (le-ltb n 128 high) (omega arith)
    ]

power_pos : (k : ℕ) → 0 < 128 ^ k
power_pos zero = lit< tt
power_pos (suc k) = omega (arith, power_pos k, pow-succ' 128 k)

-- So many groups suffice exactly where the number is below that power of 128.
groups_fewest : (left k n : ℕ) → 0 < k → k ≤ left
    → (length (groups left n) ≤ k → n < 128 ^ k) × (n < 128 ^ k → length (groups left n) ≤ k)
unfolding groups
groups_fewest left zero n some most = absurd (omega arith)
groups_fewest zero (suc k) n some most = absurd (omega arith)
groups_fewest (suc left) (suc zero) n some most =
    elim (cases_lt n 128) [
      | inl low ↦ (λ len. low, λ lt. rw (lt-ltb n 128 low) (lit≤ tt))
      | inr high ↦ (
        λ len.
            let l : suc (length (groups left (n / 128))) ≤ 1 = rw (le-ltb n 128 high) at len in
            absurd (omega (arith, groups_some left (n / 128))),
        λ lt. absurd (omega arith),
      )
    ]
groups_fewest (suc left) (suc (suc k)) n some most =
    elim (cases_lt n 128) [
      | inl low ↦ (
        λ len. omega (arith, pow-succ' 128 (suc k), pow-succ' 128 k, power_pos k),
        λ lt. rw (lt-ltb n 128 low) (omega arith),
      )
      | inr high ↦
          let more = groups_fewest left (suc k) (n / 128) (omega arith) (omega arith) in (
            λ len.
                let l : suc (length (groups left (n / 128))) ≤ suc (suc k) = rw (le-ltb n 128 high) at len in
                let below : n / 128 < 128 ^ suc k = more.0 (omega arith) in
                omega (arith, pow-succ' 128 (suc k)),
            λ lt.
                let below : n / 128 < 128 ^ suc k = omega (arith, pow-succ' 128 (suc k)) in
                let fit : length (groups left (n / 128)) ≤ suc k = more.1 below in
                rw (le-ltb n 128 high) (omega arith),
          )
    ]

pub varint_fewest : (n k : ℕ) → 0 < k → k < 10
    → (length (varint_text n) ≤ k → n < 128 ^ k) × (n < 128 ^ k → length (varint_text n) ≤ k)
unfolding varint_text
varint_fewest n k some most = groups_fewest 9 k n some (omega arith)

pub varint_most : (n : ℕ) → length (varint_text n) ≤ 10
unfolding varint_text
varint_most n = omega (arith, groups_most 9 n)
