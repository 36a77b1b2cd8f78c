-- Varints and byte vectors: what was written is read again, and what is read was written so.
use Rattle.std.proofs.Common.{◌≡◌, ℕ, zero, suc, ◌+◌, ◌-◌, ◌*◌, ◌/◌, ◌%◌, ◌^◌, ◌<◌, ◌≤◌, Bool, true, false, cond, ltb, eqb, ◌⊎◌, List, [], ◌∷◌, ◌++◌, length, take, drop, Result, Ok, Err, refl, sym, ap, ◌∙◌, append_assoc, arith, inl, inr, lit≤}
use Rattle.std.proofs.lemmas.Bool.{cases_lt, ltb-false, ltb-true, le-ltb, lt-ltb}
use Rattle.std.proofs.lemmas.List.{length-take}
use Rattle.std.specs.Prelude.{◌||◌}
use Rattle.storage_codec.specs.Faults.{Fault, EndOfBuffer, InvalidVarint, InvalidLength}
use Rattle.storage_codec.specs.Parts.{IsBytes, groups, varint_text, vector_text}
use Rattle.storage_codec.specs.Codec.{mapped, more_at, limit, varint_at, vector_at, front_at}
use Rattle.storage_codec.specs.Laws.Reading.{bind_ok, guard_ok, ok_is, fst_is, snd_is, mapped_ok, answer_of, front_again, front_back}

pub chosen : {A : Type 0} (b : Bool) (x y z : A) → cond b x y ≡ z → ((b ≡ true) × (x ≡ z)) ⊎ ((b ≡ false) × (y ≡ z))
chosen true x y z e = inl (refl, e)
chosen false x y z e = inr (refl, e)

more_groups : (left n : ℕ) (rest : List ℕ) → 0 < n → n < limit left
    → more_at left (groups left n ++ rest) ≡ Ok (n, rest)
unfolding groups more_at limit
more_groups zero n rest p h = let e : n ≡ 1 = omega arith in rw e refl
more_groups (suc left) n rest p h =
    elim (cases_lt n 128) [
      | inl lt ↦
          let t : ltb n 128 ≡ true = lt-ltb n 128 lt in
          let z : eqb n 0 ≡ false = grind arith in
          rw (t, z, t) refl
      | inr le ↦
          let t : ltb n 128 ≡ false = le-ltb n 128 le in
          let z : eqb (n % 128 + 128) 0 ≡ false = grind arith in
          let u : ltb (n % 128 + 128) 128 ≡ false = le-ltb _ _ (omega arith) in
          let again = more_groups left (n / 128) rest (omega arith) (omega arith) in
          let whole : n % 128 + 128 - 128 + 128 * (n / 128) ≡ n = omega arith in
          rw (t, z, u, again) (ap (λ (k : ℕ). answer_of k rest) whole)
    ]

limit_eight : limit 8 ≡ 2 ^ 57
unfolding limit
limit_eight = refl

pub varint_again : (n : ℕ) (rest : List ℕ) → n < 2 ^ 64 → varint_at (varint_text n ++ rest) ≡ Ok (n, rest)
unfolding groups varint_text varint_at
varint_again n rest h =
    elim (cases_lt n 128) [
      | inl lt ↦ let t : ltb n 128 ≡ true = lt-ltb n 128 lt in rw (t, t) refl
      | inr le ↦
          let t : ltb n 128 ≡ false = le-ltb n 128 le in
          let u : ltb (n % 128 + 128) 128 ≡ false = le-ltb _ _ (omega arith) in
          let again = more_groups 8 (n / 128) rest (omega arith) (omega (arith, limit_eight)) in
          let whole : n % 128 + 128 - 128 + 128 * (n / 128) ≡ n = omega arith in
          rw (t, u, again) (ap (λ (k : ℕ). answer_of k rest) whole)
    ]

IsBytes-rest : (b : ℕ) (bytes : List ℕ) → IsBytes (b ∷ bytes) → IsBytes bytes
IsBytes-rest b bytes h i = h (suc i)

-- the groups that the number of a first byte from 128 on is put together from
together : ℕ → ℕ → ℕ
together b high = b - 128 + 128 * high

record Back (left : ℕ) (bytes : List ℕ) (n : ℕ) (rest : List ℕ) : Type 0 where
  some : 0 < n
  fits : n < limit left
  text : bytes ≡ groups left n ++ rest

one_more : (left b high n : ℕ) (rest : List ℕ) → 128 ≤ b → b < 256 → 0 < high → b - 128 + 128 * high ≡ n
    → b ∷ (groups left high ++ rest) ≡ groups (suc left) n ++ rest
unfolding groups
one_more left b high n rest low up some e =
    let t : ltb n 128 ≡ false = le-ltb _ _ (omega arith) in
    let q : n / 128 ≡ high = omega arith in
    let r : n % 128 + 128 ≡ b = omega arith in
    rw (t, r, q) refl

limit_two : (left : ℕ) → 2 ≤ limit left
unfolding limit
limit_two zero = lit≤ tt
limit_two (suc left) = omega (arith, limit_two left)

none_at : (n : ℕ) (rest : List ℕ) → answer_of n rest ≡ Err EndOfBuffer → ⊥
none_at n rest e = cc

more_back : (left : ℕ) (bytes : List ℕ) (n : ℕ) (rest : List ℕ) → IsBytes bytes → more_at left bytes ≡ Ok (n, rest)
    → Back left bytes n rest
unfolding groups more_at limit
more_back zero [] n rest fits e = absurd (none_at n rest (sym e))
more_back zero (b ∷ bytes) n rest fits e =
    elim (chosen (eqb b 1) (answer_of 1 bytes) (Err InvalidVarint) (answer_of n rest) e) [
      | inl h ↦
          let p = ok_is (1, bytes) (n, rest) h.1 in
          let q : 1 ≡ n = fst_is _ _ p in
          let r : bytes ≡ rest = snd_is _ _ p in
          let s : b ≡ 1 = grind arith in
          record { some = omega arith; fits = omega arith; text = rw (s, r, ← q) refl }
      | inr h ↦ let k = h.1 in absurd cc
    ]
more_back (suc left) [] n rest fits e = absurd (none_at n rest (sym e))
more_back (suc left) (b ∷ bytes) n rest fits e =
    elim (chosen (eqb b 0) (Err InvalidVarint) (cond (ltb b 128) (answer_of b bytes)
    (mapped (λ high. b - 128 + 128 * high) (more_at left bytes))) (answer_of n rest) e) [
      | inl h ↦ let k = h.1 in absurd cc
      | inr h ↦ elim (chosen (ltb b 128) (answer_of b bytes)
          (mapped (λ high. b - 128 + 128 * high) (more_at left bytes)) (answer_of n rest) h.1) [
            | inl k ↦
                let p = ok_is (b, bytes) (n, rest) k.1 in
                let q : b ≡ n = fst_is _ _ p in
                let r : bytes ≡ rest = snd_is _ _ p in
                let small : ltb n 128 ≡ true = rw (← q) k.0 in
                let some : 0 < n = grind arith in
                record {
                  some = some;
                  fits = omega (arith, limit_two left, ltb-true n 128 small);
                  text = rw (small, q, r) refl;
                }
            | inr k ↦
                let m = mapped_ok (λ high. b - 128 + 128 * high) (more_at left bytes) n rest k.1 in
                let back = more_back left bytes m.0 rest (IsBytes-rest b bytes fits) m.1 in
                let low : 128 ≤ b = ltb-false _ _ k.0 in
                let up : b < 256 = fits 0 in
                let whole : b - 128 + 128 * m.0 ≡ n = m.2 in
                let some = back.some in
                let high : m.0 < limit left = back.fits in
                record {
                  some = omega arith;
                  fits = omega arith;
                  text = rw back.text (one_more left b m.0 n rest low up back.some whole);
                }
          ]
    ]

varint_none : (n : ℕ) (rest : List ℕ) → varint_at [] ≡ Ok (n, rest) → ⊥
unfolding varint_at
varint_none n rest e = none_at n rest (sym e)

varint_first : (b : ℕ) (bytes : List ℕ) (n : ℕ) (rest : List ℕ) → varint_at (b ∷ bytes) ≡ Ok (n, rest)
    → ((ltb b 128 ≡ true) × (answer_of b bytes ≡ Ok (n, rest)))
    ⊎ ((ltb b 128 ≡ false) × (mapped (λ high. b - 128 + 128 * high) (more_at 8 bytes) ≡ Ok (n, rest)))
unfolding varint_at
varint_first b bytes n rest e = chosen (ltb b 128) (answer_of b bytes)
    (mapped (λ high. b - 128 + 128 * high) (more_at 8 bytes)) (answer_of n rest) e

varint_small : (b : ℕ) (bytes : List ℕ) (n : ℕ) (rest : List ℕ) → ltb b 128 ≡ true → answer_of b bytes ≡ Ok (n, rest)
    → b ∷ bytes ≡ varint_text n ++ rest
unfolding varint_text groups
varint_small b bytes n rest t e =
    let p = ok_is (b, bytes) (n, rest) e in
    let q : b ≡ n = fst_is _ _ p in
    let r : bytes ≡ rest = snd_is _ _ p in
    let small : ltb n 128 ≡ true = rw (← q) t in
    rw (small, q, r) refl

varint_large : (b : ℕ) (bytes : List ℕ) (n : ℕ) (rest : List ℕ) → IsBytes (b ∷ bytes) → ltb b 128 ≡ false
    → mapped (λ high. b - 128 + 128 * high) (more_at 8 bytes) ≡ Ok (n, rest) → b ∷ bytes ≡ varint_text n ++ rest
unfolding varint_text
varint_large b bytes n rest fits t e =
    let m = mapped_ok (λ high. b - 128 + 128 * high) (more_at 8 bytes) n rest e in
    let back = more_back 8 bytes m.0 rest (IsBytes-rest b bytes fits) m.1 in
    rw back.text (one_more 8 b m.0 n rest (ltb-false _ _ t) (fits 0) back.some m.2)

pub varint_back : (bytes : List ℕ) (n : ℕ) (rest : List ℕ) → IsBytes bytes → varint_at bytes ≡ Ok (n, rest)
    → bytes ≡ varint_text n ++ rest
varint_back [] n rest fits e = absurd (varint_none n rest e)
varint_back (b ∷ bytes) n rest fits e =
    elim (varint_first b bytes n rest e) [
      | inl h ↦ varint_small b bytes n rest h.0 h.1
      | inr h ↦ varint_large b bytes n rest fits h.0 h.1
    ]

varint_high : (b : ℕ) (bytes : List ℕ) (n : ℕ) (rest : List ℕ) → IsBytes (b ∷ bytes)
    → mapped (λ high. b - 128 + 128 * high) (more_at 8 bytes) ≡ Ok (n, rest) → n < 2 ^ 64
varint_high b bytes n rest fits e =
    let m = mapped_ok (λ high. b - 128 + 128 * high) (more_at 8 bytes) n rest e in
    let back = more_back 8 bytes m.0 rest (IsBytes-rest b bytes fits) m.1 in
    let high : m.0 < limit 8 = back.fits in
    let up : b < 256 = fits 0 in
    let whole : b - 128 + 128 * m.0 ≡ n = m.2 in
    omega (arith, limit_eight)

varint_low : (b : ℕ) (bytes : List ℕ) (n : ℕ) (rest : List ℕ) → ltb b 128 ≡ true
    → answer_of b bytes ≡ Ok (n, rest) → n < 2 ^ 64
varint_low b bytes n rest t e =
    let p = ok_is (b, bytes) (n, rest) e in
    let q : b ≡ n = fst_is _ _ p in
    omega (arith, ltb-true b 128 t)

-- A varint that was read is below the limit.
pub varint_below : (bytes : List ℕ) (n : ℕ) (rest : List ℕ) → IsBytes bytes
    → varint_at bytes ≡ Ok (n, rest) → n < 2 ^ 64
varint_below [] n rest fits e = absurd (varint_none n rest e)
varint_below (b ∷ bytes) n rest fits e =
    elim (varint_first b bytes n rest e) [
      | inl h ↦ varint_low b bytes n rest h.0 h.1
      | inr h ↦ varint_high b bytes n rest fits h.1
    ]

pub vector_again : (min max : ℕ) (text rest : List ℕ) → (length text < 2 ^ 64) × (min ≤ length text)
    × (length text ≤ max) → vector_at min max (vector_text text ++ rest) ≡ Ok (text, rest)
vector_again min max text rest h =
    let read = varint_again (length text) (text ++ rest) h.0 in
    let low : ltb (length text) min ≡ false = le-ltb _ _ h.1 in
    let high : ltb max (length text) ≡ false = le-ltb _ _ h.2 in
    rw (append_assoc (varint_text (length text)) text rest, read, low, high) (front_again (length text) text rest refl)

not_fault : {A : Type 0} (b : Bool) (d : Fault) (r : Result A Fault) (y : A) → cond b (Err d) r ≡ Ok y → r ≡ Ok y
not_fault true d r y e = absurd cc
not_fault false d r y e = e

front_len : (n : ℕ) (bytes text rest : List ℕ) → front_at n bytes ≡ Ok (text, rest) → length text ≡ n
front_len n bytes text rest e =
    let g = guard_ok (ltb (length bytes) n) EndOfBuffer (take n bytes, drop n bytes) (text, rest) e in
    let long : n ≤ length bytes = ltb-false _ _ g.0 in
    let front : take n bytes ≡ text = fst_is _ _ g.1 in
    rw (← front) (omega (arith, length-take n bytes))

pub vector_back : (min max : ℕ) (bytes text rest : List ℕ) → IsBytes bytes → vector_at min max bytes ≡ Ok (text, rest)
    → bytes ≡ vector_text text ++ rest
vector_back min max bytes text rest fits e =
    let b = bind_ok (varint_at bytes)
    (λ n. cond (ltb n.0 min || ltb max n.0) (Err (InvalidLength n.0)) (front_at n.0 n.1)) (text, rest) e in
    let front = varint_back bytes b.0.0 b.0.1 fits b.1 in
    let g = not_fault (ltb b.0.0 min || ltb max b.0.0) (InvalidLength b.0.0) (front_at b.0.0 b.0.1) (text, rest) b.2 in
    let after = front_back b.0.0 b.0.1 text rest g in
    let len = front_len b.0.0 b.0.1 text rest g in
    front ∙ rw (after, len, append_assoc (varint_text b.0.0) text rest) refl
