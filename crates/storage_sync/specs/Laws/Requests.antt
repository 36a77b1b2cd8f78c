-- A request that was written is read again, and what is read was written so.
use Rattle.std.proofs.Common.{◌≡◌, ℕ, ◌<◌, false, cond, eqb, ltb, ◌||◌, List, ◌++◌, Ok, Err, refl, sym, ap, subst, ◌∙◌, append_assoc, arith}
use Rattle.std.proofs.lemmas.Bool.{le-ltb}
use Rattle.storage_codec.specs.Faults.{◌>>=◌, InvalidLength}
use Rattle.storage_codec.specs.Parts.{IsBytes, varint_text}
use Rattle.storage_codec.specs.Codec.{varint_at}
use Rattle.storage_codec.specs.Laws.Reading.{bind_ok, not_fault, ok_is}
use Rattle.storage_codec.specs.Laws.Varint.{varint_again, varint_back}
use Rattle.storage_merkle.specs.Wire.{location_at}
use Rattle.storage_merkle.specs.Laws.Wire.{location_again, location_back}
use Rattle.storage_ops.specs.Laws.Reading.{tail_bytes, along}
use Rattle.storage_sync.specs.Messages.{Request, request_text, request_at, IsAdmittedRequest}

abbrev asked : ℕ → ℕ → Request
asked start count = record { start = start; max_ops = count }

not_zero : (n : ℕ) → 0 < n → eqb n 0 ≡ false
not_zero n some = grind arith

pub request_again : (most : ℕ) (r : Request) (rest : List ℕ) → IsAdmittedRequest most r
    → request_at most (request_text r ++ rest) ≡ Ok (r, rest)
request_again most r rest ok =
    let parts : request_text r ++ rest ≡ varint_text r.start ++ (varint_text r.max_ops ++ rest) = simp append_assoc in
    rw (
      parts,
      location_again r.start (varint_text r.max_ops ++ rest) ok.start,
      varint_again r.max_ops rest ok.count,
      not_zero r.max_ops ok.some,
      le-ltb most r.max_ops ok.few,
    ) refl

pub request_back : (most : ℕ) (bytes : List ℕ) (r : Request) (rest : List ℕ) → IsBytes bytes
    → request_at most bytes ≡ Ok (r, rest) → bytes ≡ request_text r ++ rest
request_back most bytes r rest fits e =
    let a = bind_ok {B = Request × List ℕ} (location_at bytes) (λ start. varint_at start.1 >>= λ count.
    cond (eqb count.0 0 || ltb most count.0) (Err (InvalidLength count.0)) (Ok (asked start.0 count.0, count.1)))
    (r, rest) e in
    let b = bind_ok {B = Request × List ℕ} (varint_at a.0.1) (λ count.
    cond (eqb count.0 0 || ltb most count.0) (Err (InvalidLength count.0)) (Ok (asked a.0.0 count.0, count.1)))
    (r, rest) a.2 in
    let given = not_fault {A = Request × List ℕ} (eqb b.0.0 0 || ltb most b.0.0) (InvalidLength b.0.0)
    (Ok (asked a.0.0 b.0.0, b.0.1)) (r, rest) b.2 in
    let pair = ok_is (asked a.0.0 b.0.0, b.0.1) (r, rest) given in
    let x = location_back bytes a.0.0 a.0.1 fits a.1 in
    let y = varint_back a.0.1 b.0.0 b.0.1 (tail_bytes (varint_text a.0.0) a.0.1 (along _ _ x fits)) b.1 in
    subst (λ (q : Request × List ℕ). bytes ≡ request_text q.0 ++ q.1) pair
    (x ∙ ap (λ (t : List ℕ). varint_text a.0.0 ++ t) y
    ∙ sym (append_assoc (varint_text a.0.0) (varint_text b.0.0) b.0.1))
