-- What was written is read again, and what is read was written so.
use Rattle.std.proofs.Common.{◌≡◌, ℕ, ◌^◌, ◌≤◌, Bool, true, false, cond, ltb, List, ◌++◌, length, Option, Some, None, Ok, Err, refl, ◌∙◌, arith}
use Rattle.std.specs.Prelude.{IfSome, option_map, codes}
use Rattle.std.proofs.lemmas.Bool.{le-ltb}
use Rattle.storage_codec.specs.Faults.{◌>>=◌, Invalid}
use Rattle.storage_codec.specs.Parts.{IsBytes, varint_text}
use Rattle.storage_codec.specs.Codec.{Answer, varint_at, front_at}
use Rattle.storage_codec.specs.Laws.Reading.{answer_of, bind_ok, not_fault, ok_is, snd_is, option_again, option_back, front_again, front_back}
use Rattle.storage_codec.specs.Laws.Varint.{varint_again, varint_back}
use Rattle.storage_merkle.specs.Wire.{location_at, slot_text, slot_at, IsPendingSlot}

within : (answer : Answer ℕ) (n : ℕ) (rest : List ℕ) → answer ≡ Ok (n, rest) → n ≤ 2 ^ 62 → (answer >>= λ x. cond (ltb (2 ^ 62) x.0) (Err (Invalid (codes "location") (codes "past the limit"))) (answer_of x.0 x.1)) ≡ Ok (n, rest)
within answer n rest e h = let low : ltb (2 ^ 62) n ≡ false = le-ltb _ _ h in rw (e, low) refl

pub location_again : (n : ℕ) (rest : List ℕ) → n ≤ 2 ^ 62 → location_at (varint_text n ++ rest) ≡ Ok (n, rest)
location_again n rest h = within (varint_at (varint_text n ++ rest)) n rest (varint_again n rest (omega arith)) h

unguarded : (answer : Answer ℕ) (n : ℕ) (rest : List ℕ) → (answer >>= λ x. cond (ltb (2 ^ 62) x.0) (Err (Invalid (codes "location") (codes "past the limit"))) (answer_of x.0 x.1)) ≡ Ok (n, rest) → answer ≡ Ok (n, rest)
unguarded answer n rest e =
    let b = bind_ok {B = ℕ × List ℕ} answer (λ x. cond (ltb (2 ^ 62) x.0) (Err (Invalid (codes "location") (codes "past the limit"))) (answer_of x.0 x.1)) (n, rest) e in
    b.1 ∙ not_fault (ltb (2 ^ 62) b.0.0) (Invalid (codes "location") (codes "past the limit")) (answer_of b.0.0 b.0.1) (n, rest) b.2

pub location_back : (bytes : List ℕ) (n : ℕ) (rest : List ℕ) → IsBytes bytes → location_at bytes ≡ Ok (n, rest)
    → bytes ≡ varint_text n ++ rest
location_back bytes n rest fits e = varint_back bytes n rest fits (unguarded (varint_at bytes) n rest e)

-- the pending slot: written and read, and read and written
pub slot_again : {A V : Type 0} (text : A → List ℕ) (view : A → V) (parse : List ℕ → Answer V) (admits : A → Type 0)
    → ((x : A) (rest : List ℕ) → admits x → parse (text x ++ rest) ≡ Ok (view x, rest))
    → (there : Bool) (slot : Option A) (rest : List ℕ) → IsPendingSlot there slot → IfSome slot admits
    → slot_at there parse (slot_text there text slot ++ rest) ≡ Ok (option_map view slot, rest)
slot_again text view parse admits again false None rest s h = refl
slot_again text view parse admits again false (Some x) rest s h = absurd cc
slot_again text view parse admits again true slot rest s h = option_again text view parse admits again slot rest h

pub slot_back : {A V : Type 0} (text : A → List ℕ) (view : A → V) (parse : List ℕ → Answer V)
    → ((bytes : List ℕ) (x : A) (rest : List ℕ) → IsBytes bytes → parse bytes ≡ Ok (view x, rest)
    → bytes ≡ text x ++ rest)
    → (there : Bool) (bytes : List ℕ) (slot : Option A) (rest : List ℕ) → IsBytes bytes
    → slot_at there parse bytes ≡ Ok (option_map view slot, rest) → bytes ≡ slot_text there text slot ++ rest
slot_back {V = V} text view parse back false bytes slot rest fits e =
    let none : Option V = None in
    snd_is _ _ (ok_is (none, bytes) (option_map view slot, rest) e)
slot_back text view parse back true bytes slot rest fits e = option_back text view parse back bytes slot rest fits e

always : {A : Type 0} (slot : Option A) → IfSome slot (λ _. Unit {0})
always None = tt
always (Some x) = tt

-- the same of digests of one length, seen by their bytes
pub digest_slot_again : {A : Type 0} (text : A → List ℕ) (size : ℕ) → ((x : A) → length (text x) ≡ size)
    → (there : Bool) (slot : Option A) (rest : List ℕ) → IsPendingSlot there slot
    → slot_at there (front_at size) (slot_text there text slot ++ rest) ≡ Ok (option_map text slot, rest)
digest_slot_again text size sized there slot rest s =
    slot_again text text (front_at size) (λ _. Unit {0})
    (λ x r _. front_again size (text x) r (sized x)) there slot rest s (always slot)

pub digest_slot_back : {A : Type 0} (text : A → List ℕ) (size : ℕ) (there : Bool) (bytes : List ℕ) (slot : Option A)
    (rest : List ℕ) → IsBytes bytes
    → slot_at there (front_at size) bytes ≡ Ok (option_map text slot, rest) → bytes ≡ slot_text there text slot ++ rest
digest_slot_back text size there bytes slot rest fits e =
    slot_back text text (front_at size) (λ b x r _ q. front_back size b (text x) r q) there bytes slot rest fits e
