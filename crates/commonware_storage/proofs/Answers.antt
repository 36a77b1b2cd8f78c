-- What bytes are read as, and what a check of them answers.
use Rattle.std.proofs.Common.{◌≡◌, ℕ, ◌<◌, ◌^◌, ◌↔◌, Bool, true, false, cond, leb, ltb, ◌&&◌, List, [], length, take, drop, Result, Ok, Err, refl, sym, ap, subst, ◌∙◌, append-nil, arith, inl, inr}
use Rattle.std.specs.Prelude.{codes}
use Rattle.std.specs.Bool.{IsTrue, one_answer}
use Rattle.std.specs.Result.{IfOk}
use Rattle.std.proofs.lemmas.List.{length-take, nil_from_length}
use Rattle.std.proofs.lemmas.Bool.{ltb-false}
use Rattle.storage_codec.specs.declared.codec.error.Error.{Error}
use Rattle.storage_codec.specs.declared.codec.error.Error.TheVariants as code
use Rattle.storage_codec.specs.Digests.{HashFunction}
use Rattle.storage_codec.specs.Faults.{Fault, ◌>>=◌, Invalid, EndOfBuffer}
use Rattle.storage_codec.specs.Parts.{IsBytes}
use Rattle.storage_codec.specs.Codec.{Answer, MayFail, whole, front_at}
use Rattle.storage_codec.specs.Laws.Codec.{whole_ok}
use Rattle.storage_codec.specs.Laws.Reading.{bind_ok, guard_ok, ok_is}
use Rattle.storage_merkle.specs.Shape.{Shape}
use Rattle.storage_merkle.specs.Wire.{location_at}
use Rattle.storage_bitmap.specs.Chunks.{halves}
use Rattle.storage_current.specs.Snapshots.{Grafting, RangeProof, OperationProof, own_operation_proof, IsActive}
use Rattle.storage_current.specs.CurrentProofs.{IsActiveCurrent}
use Rattle.storage_current.specs.CurrentSoundness.{MeansActive}
use Rattle.storage_current.specs.CurrentWire.{range_proof_at, operation_text, operation_at, sized_operation_at}
use Rattle.storage_current.specs.Laws.CurrentWire.{sized_back}
use Rattle.commonware_storage.specs.Light.{IsAcceptedAt, IsTrueAt, IsAnswerOf}

abbrev at_location : ℕ → List ℕ → RangeProof → OperationProof
at_location location chunk range = record { location = location; chunk = chunk; range = range }

front_length : (n : ℕ) (bytes : List ℕ) (x : List ℕ × List ℕ) → front_at n bytes ≡ Ok x → length x.0 ≡ n
front_length n bytes x e =
    let g = guard_ok (ltb (length bytes) n) EndOfBuffer (take n bytes, drop n bytes) x e in
    let enough = ltb-false (length bytes) n g.0 in
    subst (λ (p : List ℕ × List ℕ). length p.0 ≡ n) g.1 (omega (arith, length-take n bytes))

operation_chunk : (there : Bool) (d size most : ℕ) (bytes : List ℕ) (p : OperationProof) (rest : List ℕ)
    → operation_at there d size most bytes ≡ Ok (p, rest) → length p.chunk ≡ size
operation_chunk there d size most bytes p rest e =
    let a = bind_ok {B = OperationProof × List ℕ} (location_at bytes) (λ location. front_at size location.1 >>= λ chunk.
    range_proof_at there d most chunk.1 >>= λ range. Ok (at_location location.0 chunk.0 range.0, range.1))
    (p, rest) e in
    let b = bind_ok {B = OperationProof × List ℕ} (front_at size a.0.1) (λ chunk.
    range_proof_at there d most chunk.1 >>= λ range. Ok (at_location a.0.0 chunk.0 range.0, range.1)) (p, rest) a.2 in
    let c = bind_ok {B = OperationProof × List ℕ} (range_proof_at there d most b.0.1)
    (λ range. Ok (at_location a.0.0 b.0.0 range.0, range.1)) (p, rest) b.2 in
    let range = c.0.0 in
    let tail = c.0.1 in
    subst (λ (q : OperationProof × List ℕ). length q.0.chunk ≡ size)
    (ok_is (at_location a.0.0 b.0.0 range, tail) (p, rest) c.2) (front_length size a.0.1 b.0 b.1)

-- the chunk of a proof that was read has the size that the reader was told
pub front_chunk : (there : Bool) (d size most : ℕ) (bytes : List ℕ) (p : OperationProof) (rest : List ℕ)
    → sized_operation_at there d size most bytes ≡ Ok (p, rest) → length p.chunk ≡ size
front_chunk there d size most bytes p rest e =
    elim (halves size size && leb size (2 ^ 59)) as (λ b. cond b (operation_at there d size most bytes) (Err (Invalid (codes "current proof") (codes "invalid bitmap chunk size"))) ≡ Ok (p, rest) → length p.chunk ≡ size) [
      | true ↦ λ f. operation_chunk there d size most bytes p rest f
      | false ↦ λ f. absurd cc
    ] e

pub chunk_is : (there : Bool) (d size most : ℕ) (bytes : List ℕ) (p : OperationProof)
    → whole (sized_operation_at there d size most bytes) ≡ Ok (p, []) → length p.chunk ≡ size
chunk_is there d size most bytes p e =
    front_chunk there d size most bytes p [] (whole_ok (sized_operation_at there d size most bytes) p [] e).0

-- bytes that are refused, and not for want of memory, are read as nothing
pub nothing_read : {Y : Type 0} (e : Error) (answer : Result Y Fault) (y : Y) → MayFail e answer → (e ≡ code.Memory → ⊥)
    → answer ≡ Ok y → ⊥
nothing_read code.Memory answer y m other e = other refl
nothing_read code.EndOfBuffer answer y m other e = let f = sym m ∙ e in cc
nothing_read code.InvalidBool answer y m other e = let f = sym m ∙ e in cc
nothing_read (code.InvalidEnum tag) answer y m other e = let f = sym m ∙ e in cc
nothing_read code.InvalidVarint answer y m other e = let f = sym m ∙ e in cc
nothing_read (code.InvalidLength n) answer y m other e = let f = sym m ∙ e in cc
nothing_read (code.Invalid a b) answer y m other e = let f = sym m ∙ e in cc
nothing_read (code.ExtraData n) answer y m other e = let f = sym m ∙ e in cc

-- a value that was read with no bytes left is all of them
pub all_read : {V : Type 0} (answer : Answer V) (v : V) (rest : List ℕ) → answer ≡ Ok (v, rest) → length rest ≡ 0
    → whole answer ≡ Ok (v, [])
all_read answer v rest e none = let nothing : rest ≡ [] = nil_from_length rest none in rw (e, nothing) refl

-- and one that was read with some left is not
pub left_over : {V : Type 0} (answer : Answer V) (v w : V) (rest : List ℕ) → answer ≡ Ok (v, rest) → 0 < length rest
    → whole answer ≡ Ok (w, []) → ⊥
left_over {V} answer v w rest e some f =
    let none : List ℕ = [] in
    let same = ok_is (v, rest) (w, none) (sym e ∙ (whole_ok answer w none f).0) in
    let nothing : rest ≡ none = ap (λ (x : V × List ℕ). x.1) same in
    let zero : length rest ≡ 0 = ap (λ (bytes : List ℕ). length bytes) nothing in
    absurd (omega arith)

same_proof : {answer : Answer OperationProof} {p q : OperationProof} → answer ≡ Ok (p, []) → answer ≡ Ok (q, []) → p ≡ q
same_proof {answer} {p} {q} e f = let none : List ℕ = [] in
    ap (λ (x : OperationProof × List ℕ). x.0) (ok_is (p, none) (q, none) (sym e ∙ f))

module _ (h : HashFunction) (S : Shape) (size : ℕ) (there : Bool) (d location : ℕ) (bytes operation root : List ℕ) where
  abbrev grafting : ℕ → Grafting
  grafting n = record { shape = S; bytes = n }

  abbrev Read : OperationProof → Type 0
  Read p = whole (sized_operation_at there d size 128 bytes) ≡ Ok (p, [])

  -- a proof of another location is not accepted
  pub elsewhere : (p : OperationProof) → Read p → (p.location ≡ location → ⊥)
      → IsAcceptedAt h (grafting size) there d location bytes operation root → ⊥
  elsewhere p read other a = other (ap (λ (q : OperationProof). q.location) (same_proof read a.read) ∙ a.at)

  module _ (p : OperationProof) (read : Read p) (at : p.location ≡ location) {E : Type 0} where
    -- what the check of the bytes answers, from what the check of the proof that they are read as does
    pub accepted_exactly : (answer : Result Bool E)
        → IfOk answer (λ yes. IsTrue yes ↔ IsActiveCurrent h (grafting (length p.chunk)) p operation root)
        → IfOk answer (λ yes. IsTrue yes ↔ IsAcceptedAt h (grafting size) there d location bytes operation root)
    accepted_exactly (Err e) exact = tt
    accepted_exactly (Ok b) exact =
        let on : IsTrue b ↔ IsActiveCurrent h (grafting size) p operation root = subst (λ (n : ℕ). IsTrue b
        ↔ IsActiveCurrent h (grafting n) p operation root) (chunk_is there d size 128 bytes p read) exact in (
          λ t. record { proof = p; read = read; at = at; accepted = on.0 t },
          λ a. on.1 (subst (λ (q : OperationProof). IsActiveCurrent h (grafting size) q operation root)
              (same_proof a.read read) a.accepted),
        )

    -- and what its yes means
    pub true_of : IsBytes bytes → (answer : Result Bool E)
        → IfOk answer (λ yes. IsTrue yes → MeansActive h (grafting (length p.chunk)) p operation root)
        → IfOk answer (λ yes. IsTrue yes → IsTrueAt h (grafting size) there d location bytes operation root)
    true_of fits (Err e) meaning = tt
    true_of fits (Ok b) meaning = λ t.
        let means : MeansActive h (grafting size) p operation root = subst (λ (n : ℕ). IsTrue b
        → MeansActive h (grafting n) p operation root) (chunk_is there d size 128 bytes p read) meaning t in
        let text : bytes ≡ operation_text there p = sized_back there d size 128 bytes p [] fits
        (whole_ok (sized_operation_at there d size 128 bytes) p [] read).0 ∙ append-nil (operation_text there p) in
        record {
          proof = p;
          read = read;
          meaning = λ s snapshot same. elim (means s snapshot same) [
            | inl both ↦ inl (
              subst (λ (n : ℕ). IsActive s n operation) at both.1,
              text ∙ ap (operation_text there) (both.0 ∙ ap (own_operation_proof h (grafting size) s) at),
            )
            | inr crossed ↦ inr crossed
          ];
        }

-- an answer whose yes is exact is that of each other call whose yes is exactly the same
pub same_answer : {P E : Type 0} (answer : Result Bool E) → IfOk answer (λ yes. IsTrue yes ↔ P) → IsAnswerOf answer P
same_answer (Err e) exact = λ other also. tt
same_answer (Ok b) exact = λ other also. one_answer b other exact also
