-- What was written is read again, and what is read was written so.
use Rattle.std.proofs.Common.{◌≡◌, ℕ, zero, suc, ◌^◌, ◌<◌, ◌≤◌, Bool, true, false, cond, ltb, leb, List, [], ◌∷◌, ◌++◌, length, take, drop, Option, Some, None, Result, Ok, Err, refl, sym, ap, subst, ◌∙◌, arith, inl, inr}
use Rattle.std.specs.Prelude.{IfSome, option_map}
use Rattle.std.specs.Int.{Width, w64, byte_len, from_be_bytes, to_be_bytes}
use Rattle.std.proofs.lemmas.Bool.{cases_lt, ltb-false, le-ltb}
use Rattle.std.proofs.lemmas.List.{take_at, drop_at, take-append-drop, length-append, length-take, get_or-take, get_or_past}
use Rattle.std.proofs.lemmas.Nat.{be_bytes_8, from_be_bytes-to_be_bytes_8}
use Rattle.storage_codec.specs.Faults.{Fault, ◌>>=◌, EndOfBuffer}
use Rattle.storage_codec.specs.Parts.{IsBytes, bool_bytes, option_text}
use Rattle.storage_codec.specs.Codec.{Answer, mapped, front_at, fixed_at, bool_at, number_at, u64_at, option_at}

-- the value of a step that did not fail
pub bind_ok : {A B : Type 0} (r : Result A Fault) (f : A → Result B Fault) (y : B) → (r >>= f) ≡ Ok y
    → (x : A) × (r ≡ Ok x) × (f x ≡ Ok y)
bind_ok (Ok x) f y e = (x, refl, e)
bind_ok (Err d) f y e = absurd cc

-- a test that did not fail
pub guard_ok : {A : Type 0} (b : Bool) (d : Fault) (x y : A) → cond b (Err d) (Ok x) ≡ Ok y → (b ≡ false) × (x ≡ y)
guard_ok true d x y e = absurd cc
guard_ok false d x y e = (refl, cc)

abbrev ok_of : {A : Type 0} → A → Result A Fault
ok_of x = Ok x

abbrev pub answer_of : {V : Type 0} → V → List ℕ → Answer V
answer_of v rest = Ok (v, rest)

pub fst_is : {A B : Type 0} (x y : A × B) → x ≡ y → x.0 ≡ y.0
fst_is {A} {B} x y e = ap (λ (p : A × B). p.0) e

pub snd_is : {A B : Type 0} (x y : A × B) → x ≡ y → x.1 ≡ y.1
snd_is {A} {B} x y e = ap (λ (p : A × B). p.1) e

pub ok_is : {A : Type 0} (x y : A) → ok_of x ≡ ok_of y → x ≡ y
ok_is x y e = cc

pub not_fault : {A : Type 0} (b : Bool) (d : Fault) (r : Result A Fault) (y : A) → cond b (Err d) r ≡ Ok y → r ≡ Ok y
not_fault true d r y e = absurd cc
not_fault false d r y e = e

pub front_again : (n : ℕ) (text rest : List ℕ) → length text ≡ n → front_at n (text ++ rest) ≡ Ok (text, rest)
front_again n text rest len =
    let long : ltb (length (text ++ rest)) n ≡ false = le-ltb _ _ (omega (arith, length-append text rest)) in
    rw (long, take_at text rest n len, drop_at text rest n len) refl

pub front_back : (n : ℕ) (bytes text rest : List ℕ) → front_at n bytes ≡ Ok (text, rest) → bytes ≡ text ++ rest
front_back n bytes text rest e =
    let g = guard_ok (ltb (length bytes) n) EndOfBuffer (take n bytes, drop n bytes) (text, rest) e in
    sym (take-append-drop n bytes) ∙ ap (λ (p : List ℕ × List ℕ). p.0 ++ p.1) g.1

pub length-bool_bytes : (b : Bool) → length (bool_bytes b) ≡ 1
length-bool_bytes true = refl
length-bool_bytes false = refl

pub bool_again : (b : Bool) (rest : List ℕ) → bool_at (bool_bytes b ++ rest) ≡ Ok (b, rest)
bool_again true rest = refl
bool_again false rest = refl

pub bool_back : (bytes : List ℕ) (b : Bool) (rest : List ℕ) → bool_at bytes ≡ Ok (b, rest)
    → bytes ≡ bool_bytes b ++ rest
bool_back [] b rest e = absurd cc
bool_back (zero ∷ bytes) b rest e =
    let p : (false, bytes) ≡ (b, rest) = cc in ap (λ (x : Bool × List ℕ). bool_bytes x.0 ++ x.1) p
bool_back (suc zero ∷ bytes) b rest e =
    let p : (true, bytes) ≡ (b, rest) = cc in ap (λ (x : Bool × List ℕ). bool_bytes x.0 ++ x.1) p
bool_back (suc (suc n) ∷ bytes) b rest e = absurd cc

IsBytes-take : (n : ℕ) (bytes : List ℕ) → IsBytes bytes → IsBytes (take n bytes)
IsBytes-take n bytes h i =
    elim (cases_lt i n) [
      | inl lt ↦ rw (get_or-take n bytes i 0 lt) (h i)
      | inr le ↦ rw (get_or_past (take n bytes) i 0 (omega (arith, length-take n bytes))) (omega arith)
    ]

record IsWide (w : Width) (limit : ℕ) : Type 0 where
  len : (n : ℕ) → length (to_be_bytes w n) ≡ byte_len w
  back : (bytes : List ℕ) → length bytes ≡ byte_len w → IsBytes bytes → to_be_bytes w (from_be_bytes w bytes) ≡ bytes
  again : (n : ℕ) → n < limit → from_be_bytes w (to_be_bytes w n) ≡ n

wide64 : IsWide w64 (2 ^ 64)
wide64 = record {
  len = λ n. refl;
  back = λ bytes len fits. be_bytes_8 bytes _ len fits refl;
  again = λ n lt. from_be_bytes-to_be_bytes_8 n lt;
}

number_again : (w : Width) (limit : ℕ) (wide : IsWide w limit) (n : ℕ) (rest : List ℕ) → n < limit
    → number_at w (to_be_bytes w n ++ rest) ≡ Ok (n, rest)
number_again w limit wide n rest lt =
    rw (front_again (byte_len w) (to_be_bytes w n) rest (wide.len n), wide.again n lt) refl

number_back : (w : Width) (limit : ℕ) (wide : IsWide w limit) (bytes : List ℕ) (n : ℕ) (rest : List ℕ) → IsBytes bytes
    → number_at w bytes ≡ Ok (n, rest) → bytes ≡ to_be_bytes w n ++ rest
number_back w limit wide bytes n rest fits e =
    let b = bind_ok (front_at (byte_len w) bytes) (λ x. Ok (from_be_bytes w x.0, x.1)) (n, rest) e in
    let g = guard_ok (ltb (length bytes) (byte_len w)) EndOfBuffer (
      take (byte_len w) bytes,
      drop (byte_len w) bytes,
    ) b.0 b.1 in
    let long : byte_len w ≤ length bytes = ltb-false _ _ g.0 in
    let pair = ok_is (from_be_bytes w b.0.0, b.0.1) (n, rest) b.2 in
    let front : to_be_bytes w (from_be_bytes w (take (byte_len w) bytes)) ≡ take (byte_len w) bytes =
    wide.back (take (byte_len w) bytes) (omega (arith, length-take (byte_len w) bytes))
    (IsBytes-take (byte_len w) bytes fits) in
    let split = sym (take-append-drop (byte_len w) bytes) in
    let again : bytes ≡ to_be_bytes w (from_be_bytes w (take (byte_len w) bytes)) ++ drop (byte_len w) bytes =
    rw front split in
    subst (λ (p : ℕ × List ℕ). bytes ≡ to_be_bytes w p.0 ++ p.1) pair
    (subst (λ (p : List ℕ × List ℕ). bytes ≡ to_be_bytes w (from_be_bytes w p.0) ++ p.1) g.1 again)

pub u64_again : (n : ℕ) (rest : List ℕ) → n < 2 ^ 64 → u64_at (to_be_bytes w64 n ++ rest) ≡ Ok (n, rest)
u64_again n rest lt = number_again w64 (2 ^ 64) wide64 n rest lt

pub u64_back : (bytes : List ℕ) (n : ℕ) (rest : List ℕ) → IsBytes bytes → u64_at bytes ≡ Ok (n, rest)
    → bytes ≡ to_be_bytes w64 n ++ rest
u64_back bytes n rest fits e = number_back w64 (2 ^ 64) wide64 bytes n rest fits e

pub option_again : {A V : Type 0} (text : A → List ℕ) (view : A → V) (parse : List ℕ → Answer V) (admits : A → Type 0)
    → ((x : A) (rest : List ℕ) → admits x → parse (text x ++ rest) ≡ Ok (view x, rest))
    → (o : Option A) (rest : List ℕ) → IfSome o admits
    → option_at parse (option_text text o ++ rest) ≡ Ok (option_map view o, rest)
option_again text view parse admits again None rest h = refl
option_again text view parse admits again (Some x) rest h = rw (again x rest h) refl

pub mapped_ok : {V W : Type 0} (f : V → W) (answer : Answer V) (w : W) (rest : List ℕ) → mapped f answer ≡ Ok (w, rest)
    → (v : V) × (answer ≡ Ok (v, rest)) × (f v ≡ w)
mapped_ok f (Ok x) w rest e =
    let p = ok_is (f x.0, x.1) (w, rest) e in
    let left : x.1 ≡ rest = snd_is _ _ p in
    (x.0, ap (λ (t : List ℕ). answer_of x.0 t) left, fst_is _ _ p)
mapped_ok f (Err d) w rest e = absurd cc

IsBytes-rest : (b : Bool) (bytes : List ℕ) → IsBytes (bool_bytes b ++ bytes) → IsBytes bytes
IsBytes-rest true bytes h i = h (suc i)
IsBytes-rest false bytes h i = h (suc i)

option_back-cases : {A V : Type 0} (text : A → List ℕ) (view : A → V) (parse : List ℕ → Answer V)
    → ((bytes : List ℕ) (x : A) (rest : List ℕ) → IsBytes bytes → parse bytes ≡ Ok (view x, rest)
    → bytes ≡ text x ++ rest)
    → (b : Bool) (bytes : List ℕ) (o : Option A) (rest : List ℕ) → IsBytes bytes
    → cond b (mapped Some (parse bytes)) (Ok (None, bytes)) ≡ Ok (option_map view o, rest)
    → bool_bytes b ++ bytes ≡ option_text text o ++ rest
option_back-cases text view parse back true bytes None rest fits e =
    let m = mapped_ok Some (parse bytes) None rest e in absurd (let p = m.2 in cc)
option_back-cases text view parse back true bytes (Some x) rest fits e =
    let m = mapped_ok Some (parse bytes) (Some (view x)) rest e in
    let p = m.2 in
    let value : m.0 ≡ view x = cc in
    let read = m.1 in
    ap (λ (t : List ℕ). 1 ∷ t) (back bytes x rest fits (rw value at read))
option_back-cases text view parse back false bytes None rest fits e =
    let p = ok_is (None, bytes) (None, rest) e in
    let left : bytes ≡ rest = snd_is _ _ p in ap (λ (t : List ℕ). 0 ∷ t) left
option_back-cases text view parse back false bytes (Some x) rest fits e =
    let p = ok_is (None, bytes) (Some (view x), rest) e in
    let q = fst_is _ _ p in absurd cc

pub option_back : {A V : Type 0} (text : A → List ℕ) (view : A → V) (parse : List ℕ → Answer V)
    → ((bytes : List ℕ) (x : A) (rest : List ℕ) → IsBytes bytes → parse bytes ≡ Ok (view x, rest)
    → bytes ≡ text x ++ rest)
    → (bytes : List ℕ) (o : Option A) (rest : List ℕ) → IsBytes bytes
    → option_at parse bytes ≡ Ok (option_map view o, rest) → bytes ≡ option_text text o ++ rest
option_back {A} {V} text view parse back bytes o rest fits e =
    let b = bind_ok {B = Option V × List ℕ} (bool_at bytes)
    (λ there. cond there.0 (mapped Some (parse there.1)) (Ok (None, there.1))) (option_map view o, rest) e in
    let front = bool_back bytes b.0.0 b.0.1 b.1 in
    rw front (option_back-cases text view parse back b.0.0 b.0.1 o rest
    (IsBytes-rest b.0.0 b.0.1 (subst IsBytes front fits)) b.2)

pub fixed_again : (n : ℕ) (text rest : List ℕ) → length text ≡ n → n ≤ 2 ^ 32
    → fixed_at n (text ++ rest) ≡ Ok (text, rest)
fixed_again n text rest len small =
    let t : ltb (2 ^ 32) n ≡ false = le-ltb _ _ small in
    rw t (front_again n text rest len)

pub fixed_back : (n : ℕ) (bytes text rest : List ℕ) → fixed_at n bytes ≡ Ok (text, rest) → bytes ≡ text ++ rest
fixed_back n bytes text rest e =
    front_back n bytes text rest (not_fault (ltb (2 ^ 32) n) EndOfBuffer (front_at n bytes) (text, rest) e)

pub fixed_sized : (n : ℕ) (bytes : List ℕ) → length bytes ≡ n → n ≤ 2 ^ 32 → length bytes ≡ cond (leb n (2 ^ 32)) n 0
fixed_sized n bytes len small = grind arith

pub fixed_small : (n : ℕ) → cond (leb n (2 ^ 32)) n 0 ≤ 2 ^ 32
fixed_small n = grind arith
