-- Writing and reading items one after another.
use Rattle.std.proofs.Common.{◌≡◌, ℕ, zero, suc, ◌+◌, ◌-◌, ◌^◌, ◌<◌, ◌≤◌, List, [], ◌∷◌, ◌++◌, length, map, take, drop, get_or, Bool, cond, Some, None, Result, Ok, Err, refl, sym, ap, subst, ◌∙◌, append_assoc, append-nil, arith, length-append}
use Rattle.std.specs.Result.{OnErr}
use Rattle.std.proofs.lemmas.Bool.{lt-ltb}
use Rattle.std.proofs.lemmas.List.{get_or-map, length-map, take_all}
use Rattle.storage_codec.specs.declared.codec.error.Error.{Error}
use Rattle.storage_codec.specs.declared.codec.error.Error.TheVariants as code
use Rattle.storage_codec.specs.Faults.{Fault, ◌>>=◌, EndOfBuffer, InvalidBool, InvalidEnum, InvalidVarint, InvalidLength, Invalid, ExtraData}
use Rattle.storage_codec.specs.Parts.{AppendsStart, size_of}
use Rattle.storage_codec.specs.Codec.{Answer, mapped, MayFail}
use Rattle.storage_codec.specs.Laws.Parts.{starts_then, starts_first}
use Rattle.storage_merkle.specs.ProofWire.{joined_text}
use Rattle.storage_sync.specs.Messages.{items_at}

-- ---- writing

-- the texts up to one, that one, and those after it
joined_at : (texts : List (List ℕ)) (i : ℕ) → i < length texts
    → joined_text texts ≡ joined_text (take i texts) ++ (get_or texts i [] ++ joined_text (drop (suc i) texts))
joined_at [] i l = absurd (omega arith)
joined_at (x ∷ xs) zero l = refl
joined_at (x ∷ xs) (suc i) l =
    ap (λ (t : List ℕ). x ++ t) (joined_at xs i (omega arith))
    ∙ sym (append_assoc x (joined_text (take i xs)) (get_or xs i [] ++ joined_text (drop (suc i) xs)))

joined_next : (texts : List (List ℕ)) (i : ℕ) → i < length texts
    → joined_text (take (suc i) texts) ≡ joined_text (take i texts) ++ get_or texts i []
joined_next [] i l = absurd (omega arith)
joined_next (x ∷ xs) zero l = append-nil x
joined_next (x ∷ xs) (suc i) l =
    ap (λ (t : List ℕ). x ++ t) (joined_next xs i (omega arith))
    ∙ sym (append_assoc x (joined_text (take i xs)) (get_or xs i []))

pub item_at : {X : Type 0} (xs : List X) (see : X → List ℕ) (i : ℕ) (x : X) → i < length xs → x ≡ get_or xs i x
    → see x ≡ get_or (map see xs) i []
item_at xs see i x l e = ap see e ∙ sym (get_or-map see xs i x [] l)

-- the text of an item of a list, as it is seen
pub text_at : {X : Type 0} (text : List ℕ → List ℕ) (xs : List X) (see : X → List ℕ) (i : ℕ) (x : X) → i < length xs
    → x ≡ get_or xs i x → text (see x) ≡ get_or (map text (map see xs)) i []
text_at text xs see i x l e =
    let inside : i < length (map see xs) = omega (arith, length-map xs see) in
    ap (λ y. text (see y)) e ∙ sym (ap text (get_or-map see xs i x [] l)) ∙ sym (get_or-map text (map see xs) i [] [] inside)

pub length-texts : {X : Type 0} (text : List ℕ → List ℕ) (xs : List X) (see : X → List ℕ)
    → length (map text (map see xs)) ≡ length xs
length-texts text xs see = length-map (map see xs) text ∙ length-map xs see

-- out is old and the first i texts
pub writing_next : (old out new : List ℕ) (texts : List (List ℕ)) (i : ℕ) (x : List ℕ) → i < length texts
    → out ≡ old ++ joined_text (take i texts) → x ≡ get_or texts i [] → new ≡ out ++ x
    → new ≡ old ++ joined_text (take (i + 1) texts)
writing_next old out new texts i x l w e f =
    let one : i + 1 ≡ suc i = omega arith in
    f ∙ ap (λ (o : List ℕ). o ++ x) w ∙ append_assoc old (joined_text (take i texts)) x
    ∙ ap (λ (t : List ℕ). old ++ (joined_text (take i texts) ++ t)) e
    ∙ ap (λ (t : List ℕ). old ++ t) (sym (joined_next texts i l))
    ∙ ap (λ (k : ℕ). old ++ joined_text (take k texts)) (sym one)

pub writing_stops : (old out new : List ℕ) (texts : List (List ℕ)) (i : ℕ) (x : List ℕ) → i < length texts
    → out ≡ old ++ joined_text (take i texts) → x ≡ get_or texts i [] → AppendsStart out new x
    → AppendsStart old new (joined_text texts)
writing_stops old out new texts i x l w e a =
    let rest = joined_text (drop (suc i) texts) in
    subst (AppendsStart old new) (sym (joined_at texts i l))
    (starts_then (joined_text (take i texts)) (get_or texts i [] ++ rest) w
    (starts_first rest (subst (AppendsStart out new) e a)))

pub writing_end : (old out : List ℕ) (texts : List (List ℕ)) (i : ℕ) → length texts ≤ i → out ≡ old ++ joined_text (take i texts)
    → out ≡ old ++ joined_text texts
writing_end old out texts i all w = w ∙ ap (λ (ts : List (List ℕ)). old ++ joined_text ts) (take_all i texts all)

pub size_known : (n m : ℕ) → n ≡ m → n < 2 ^ 64 → Some n ≡ size_of m
size_known n m e fits = sym (ap (λ (b : Bool). cond b (Some n) None) (lt-ltb n (2 ^ 64) fits)) ∙ ap size_of e

pub three_lengths : (a b c : List ℕ) → length a + (length b + length c) ≡ length (a ++ (b ++ c))
three_lengths a b c = omega (arith, length-append a (b ++ c), length-append b c)

pub size_next : (texts : List (List ℕ)) (i n : ℕ) (x : List ℕ) → i < length texts → x ≡ get_or texts i []
    → (n + length (joined_text (take i texts))) + length x ≡ n + length (joined_text (take (i + 1) texts))
size_next texts i n x l e =
    let one : i + 1 ≡ suc i = omega arith in
    let all : length (joined_text (take (i + 1) texts)) ≡ length (joined_text (take i texts)) + length x =
    ap (λ (k : ℕ). length (joined_text (take k texts))) one ∙ ap length (joined_next texts i l)
    ∙ length-append (joined_text (take i texts)) (get_or texts i [])
    ∙ ap (λ (t : List ℕ). length (joined_text (take i texts)) + length t) (sym e) in
    omega arith

pub on_err : {A E : Type 0} (r : Result A E) (P : Type 0) → P → OnErr r P
on_err (Ok x) P p = tt
on_err (Err e) P p = p

pub on_err_to : {A E : Type 0} (r : Result A E) (P Q : Type 0) → (P → Q) → OnErr r P → OnErr r Q
on_err_to (Ok x) P Q f p = tt
on_err_to (Err e) P Q f p = f p

-- ---- reading

-- what the first fails with, both fail with
pub fault_on : {X Y : Type 0} (e : Error) (a : Result X Fault) (b : Result Y Fault)
    → ((f : Fault) → a ≡ Err f → b ≡ Err f) → MayFail e a → MayFail e b
fault_on code.EndOfBuffer a b h m = h EndOfBuffer m
fault_on code.InvalidBool a b h m = h InvalidBool m
fault_on (code.InvalidEnum tag) a b h m = h (InvalidEnum tag) m
fault_on code.InvalidVarint a b h m = h InvalidVarint m
fault_on (code.InvalidLength n) a b h m = h (InvalidLength n) m
fault_on (code.Invalid where_ what) a b h m = h (Invalid where_.now what.now) m
fault_on (code.ExtraData n) a b h m = h (ExtraData n) m
fault_on code.Memory a b h m = tt

pub fails_then : {A B : Type 0} (e : Error) (a : Result A Fault) (f : A → Result B Fault) → MayFail e a
    → MayFail e (a >>= f)
fails_then {A} {B} e a f m = fault_on e a (a >>= f) (λ d g. ap (λ (r : Result A Fault). r >>= f) g) m

module _ {V : Type 0} (item : List ℕ → Answer V) where
  -- items that were read in front of those to come
  abbrev pub following : List V → Answer (List V) → Answer (List V)
  following xs answer = mapped (λ ys. xs ++ ys) answer

  following_one : (xs : List V) (x : V) (a : Answer (List V))
      → following xs (mapped (λ ys. x ∷ ys) a) ≡ following (xs ++ x ∷ []) a
  following_one xs x (Ok y) = ap (λ (l : List V). Ok (l, y.1)) (sym (append_assoc xs (x ∷ []) y.0))
  following_one xs x (Err e) = refl

  pub reading_start : (a : Answer (List V)) → a ≡ following [] a
  reading_start (Ok x) = refl
  reading_start (Err e) = refl

  items_step : (n : ℕ) (bytes rest : List ℕ) (x : V) → item bytes ≡ Ok (x, rest)
      → items_at item (suc n) bytes ≡ mapped (λ ys. x ∷ ys) (items_at item n rest)
  items_step n bytes rest x e = ap (λ (a : Answer V). a >>= λ y. mapped (λ ys. y.0 ∷ ys) (items_at item n y.1)) e

  pub reading_next : (n i : ℕ) (total : Answer (List V)) (xs new : List V) (x : V) (bytes rest : List ℕ) → i < n
      → total ≡ following xs (items_at item (n - i) bytes) → item bytes ≡ Ok (x, rest) → new ≡ xs ++ x ∷ []
      → total ≡ following new (items_at item (n - (i + 1)) rest)
  reading_next n i total xs new x bytes rest lt t e f =
      let m : n - i ≡ suc (n - (i + 1)) = omega arith in
      t ∙ ap (λ k. following xs (items_at item k bytes)) m ∙ ap (following xs) (items_step (n - (i + 1)) bytes rest x e)
      ∙ following_one xs x (items_at item (n - (i + 1)) rest)
      ∙ ap (λ l. following l (items_at item (n - (i + 1)) rest)) (sym f)

  pub reading_stops : (e : Error) (n i : ℕ) (total : Answer (List V)) (xs : List V) (bytes : List ℕ) → i < n
      → total ≡ following xs (items_at item (n - i) bytes) → MayFail e (item bytes) → MayFail e total
  reading_stops e n i total xs bytes lt t m =
      let k : n - i ≡ suc (n - (i + 1)) = omega arith in
      fault_on e (item bytes) total
      (λ f g. t ∙ ap (λ j. following xs (items_at item j bytes)) k ∙ ap
      (λ (a : Answer V). following xs (a >>= λ y. mapped (λ ys. y.0 ∷ ys) (items_at item (n - (i + 1)) y.1))) g) m

  pub reading_end : (n i : ℕ) (total : Answer (List V)) (xs : List V) (bytes : List ℕ) → n ≤ i
      → total ≡ following xs (items_at item (n - i) bytes) → total ≡ Ok (xs, bytes)
  reading_end n i total xs bytes le t =
      let k : n - i ≡ 0 = omega arith in
      t ∙ ap (λ j. following xs (items_at item j bytes)) k ∙ ap (λ (l : List V). Ok (l, bytes)) (append-nil xs)
