-- A proof that was written is read again, and what is read was written so.
use Rattle.std.proofs.Common.{◌≡◌, ℕ, ◌+◌, ◌^◌, Bool, true, false, cond, leb, ◌&&◌, List, ◌++◌, length, Option, Some, None, Ok, Err, refl, sym, ap, subst, ◌∙◌, append_assoc, arith, length-append}
use Rattle.std.specs.Prelude.{IfSome, option_map, codes}
use Rattle.std.proofs.lemmas.Bool.{le-leb}
use Rattle.storage_codec.specs.Faults.{◌>>=◌, Invalid}
use Rattle.storage_codec.specs.Parts.{IsBytes, option_text, varint_text}
use Rattle.storage_codec.specs.Codec.{front_at, option_at}
use Rattle.storage_codec.specs.Laws.Reading.{bind_ok, ok_is, front_again, front_back, option_again, option_back}
use Rattle.storage_merkle.specs.Wire.{location_at, slot_text, slot_at, IsPendingSlot}
use Rattle.storage_merkle.specs.Laws.Wire.{location_again, location_back, slot_again, slot_back}
use Rattle.storage_merkle.specs.RangeProofs.{Proof}
use Rattle.storage_merkle.specs.ProofWire.{proof_text, proof_at}
use Rattle.storage_merkle.specs.Laws.ProofWire.{all_digests, proof_again, proof_back}
use Rattle.storage_ops.specs.Laws.Reading.{tail_bytes, along}
use Rattle.storage_bitmap.specs.Chunks.{halves}
use Rattle.storage_current.specs.Snapshots.{RangeProof, OperationProof}
use Rattle.storage_current.specs.CurrentSoundness.{HasDigests}
use Rattle.storage_current.specs.CurrentProofs as check
use Rattle.storage_current.specs.declared.qmdb.current.proof.RangeProof.{RangeProof as Held}
use Rattle.storage_current.specs.Held.{range_proof_of}
use Rattle.storage_current.specs.CurrentWire.{as_is, range_proof_text, range_proof_at, operation_text, operation_at, sized_operation_at, IsAdmittedRangeProof, IsAdmittedOperation, IsAdmittedSized}

-- ---- slots of digests, by their bytes

pub slot_bytes : {A : Type 0} (text : A → List ℕ) (there : Bool) (slot : Option A)
    → slot_text there text slot ≡ slot_text there as_is (option_map text slot)
slot_bytes text false slot = refl
slot_bytes text true None = refl
slot_bytes text true (Some x) = refl

pub option_bytes : {A : Type 0} (text : A → List ℕ) (slot : Option A)
    → option_text text slot ≡ option_text as_is (option_map text slot)
option_bytes text None = refl
option_bytes text (Some x) = refl

pub slot_there : {A B : Type 0} (f : A → B) (there : Bool) (slot : Option A) → IsPendingSlot there slot
    → IsPendingSlot there (option_map f slot)
slot_there f false None s = refl
slot_there f false (Some x) s = absurd cc
slot_there f true slot s = tt

pub same_slot : (slot : Option (List ℕ)) → option_map as_is slot ≡ slot
same_slot None = refl
same_slot (Some x) = refl

abbrev Sized : ℕ → List ℕ → Type 0
Sized d x = length x ≡ d

sized_slot : (d : ℕ) (slot : Option (List ℕ)) → check.IsSlot d slot → IfSome slot (Sized d)
sized_slot d None s = tt
sized_slot d (Some x) s = s

digest_again : (d : ℕ) (x rest : List ℕ) → Sized d x → front_at d (as_is x ++ rest) ≡ Ok (as_is x, rest)
digest_again d x rest s = front_again d x rest s

pub pending_again : (there : Bool) (d : ℕ) (slot : Option (List ℕ)) (rest : List ℕ) → IsPendingSlot there slot
    → check.IsSlot d slot
    → slot_at there (front_at d) (slot_text there as_is slot ++ rest) ≡ Ok (slot, rest)
pending_again there d slot rest s z =
    let e = slot_again as_is as_is (front_at d) (Sized d) (digest_again d) there slot rest s (sized_slot d slot z) in
    e ∙ ap (λ (x : Option (List ℕ)). Ok (x, rest)) (same_slot slot)

partial_again : (d : ℕ) (slot : Option (List ℕ)) (rest : List ℕ) → check.IsSlot d slot
    → option_at (front_at d) (option_text as_is slot ++ rest) ≡ Ok (slot, rest)
partial_again d slot rest z =
    let e = option_again as_is as_is (front_at d) (Sized d) (digest_again d) slot rest (sized_slot d slot z) in
    e ∙ ap (λ (x : Option (List ℕ)). Ok (x, rest)) (same_slot slot)

pub held_slot : {D : Type 0} (text : D → List ℕ) (d : ℕ) → ((x : D) → length (text x) ≡ d) → (slot : Option D)
    → check.IsSlot d (option_map text slot)
held_slot text d sized None = tt
held_slot text d sized (Some x) = sized x

-- the digests of a proof value have the size of its digests
pub held_digests : {F D : Type 0} (text : D → List ℕ) (d : ℕ) → ((x : D) → length (text x) ≡ d) → (p : Held F D)
    → HasDigests d (range_proof_of text p)
held_digests text d sized p = record {
  range = all_digests text d sized p.proof.digests.items;
  ops_root = sized p.ops_root;
  pending = held_slot text d sized p.pending_chunk_digest;
  partial = held_slot text d sized p.partial_chunk_digest;
}

-- ---- how long they are

pub current_length : (there : Bool) (p : RangeProof) → length (proof_text p.range)
    + (length (slot_text there as_is p.pending) + (length (option_text as_is p.partial) + length p.ops_root))
    ≡ length (range_proof_text there p)
current_length there p =
    let partial = length-append (option_text as_is p.partial) p.ops_root in
    let pending = length-append (slot_text there as_is p.pending) (option_text as_is p.partial ++ p.ops_root) in
    let range = length-append (proof_text p.range)
    (slot_text there as_is p.pending ++ (option_text as_is p.partial ++ p.ops_root)) in
    omega (arith, partial, pending, range)

pub operation_length : (there : Bool) (p : OperationProof) → length (varint_text p.location)
    + (length p.chunk + length (range_proof_text there p.range)) ≡ length (operation_text there p)
operation_length there p =
    let chunk = length-append p.chunk (range_proof_text there p.range) in
    let location = length-append (varint_text p.location) (p.chunk ++ range_proof_text there p.range) in
    omega (arith, chunk, location)

-- ---- what was written is read again

pub current_again : (there : Bool) (d most : ℕ) (p : RangeProof) (rest : List ℕ) → HasDigests d p
    → IsAdmittedRangeProof there most p
    → range_proof_at there d most (range_proof_text there p ++ rest) ≡ Ok (p, rest)
current_again there d most p rest has ok =
    let slot = slot_text there as_is p.pending in
    let partial = option_text as_is p.partial in
    let parts : range_proof_text there p ++ rest ≡ proof_text p.range ++ (slot ++ (partial ++ (p.ops_root ++ rest))) =
    simp append_assoc in
    rw (
      parts,
      proof_again d most p.range (slot ++ (partial ++ (p.ops_root ++ rest))) has.range ok.range,
      pending_again there d p.pending (partial ++ (p.ops_root ++ rest)) ok.pending has.pending,
      partial_again d p.partial (p.ops_root ++ rest) has.partial,
      front_again d p.ops_root rest has.ops_root,
    ) refl

pub operation_again : (there : Bool) (d size most : ℕ) (p : OperationProof) (rest : List ℕ) → HasDigests d p.range
    → length p.chunk ≡ size
    → IsAdmittedOperation there most p → operation_at there d size most (operation_text there p ++ rest) ≡ Ok (p, rest)
operation_again there d size most p rest has len ok =
    let text = range_proof_text there p.range in
    let parts : operation_text there p ++ rest ≡ varint_text p.location ++ (p.chunk ++ (text ++ rest)) =
    simp append_assoc in
    rw (
      parts,
      location_again p.location (p.chunk ++ (text ++ rest)) ok.location,
      front_again size p.chunk (text ++ rest) len,
      current_again there d most p.range rest has ok.range,
    ) refl

pub sized_again : (there : Bool) (d size most : ℕ) (p : OperationProof) (rest : List ℕ) → HasDigests d p.range
    → IsAdmittedSized there size most p
    → sized_operation_at there d size most (operation_text there p ++ rest) ≡ Ok (p, rest)
sized_again there d size most p rest has ok =
    rw (ok.size_is.0, le-leb size (2 ^ 59) ok.size_is.1)
    (operation_again there d size most p rest has ok.array.chunk ok.array.proof)

-- ---- what is read was written so

pub digest_back : (d : ℕ) (bytes x rest : List ℕ) → IsBytes bytes → front_at d bytes ≡ Ok (as_is x, rest)
    → bytes ≡ as_is x ++ rest
digest_back d bytes x rest fits e = front_back d bytes x rest e

abbrev with_root : Proof → Option (List ℕ) → Option (List ℕ) → List ℕ → RangeProof
with_root range pending partial root = record { range = range; pending = pending; partial = partial; ops_root = root }

pub current_back : (there : Bool) (d most : ℕ) (bytes : List ℕ) (p : RangeProof) (rest : List ℕ) → IsBytes bytes
    → range_proof_at there d most bytes ≡ Ok (p, rest) → bytes ≡ range_proof_text there p ++ rest
current_back there d most bytes p rest fits e =
    let a = bind_ok {B = RangeProof × List ℕ} (proof_at d most bytes)
    (λ range. slot_at there (front_at d) range.1 >>= λ pending. option_at (front_at d) pending.1 >>= λ partial.
    front_at d partial.1 >>= λ root. Ok (with_root range.0 pending.0 partial.0 root.0, root.1)) (p, rest) e in
    let b = bind_ok {B = RangeProof × List ℕ} (slot_at there (front_at d) a.0.1)
    (λ pending. option_at (front_at d) pending.1 >>= λ partial. front_at d partial.1 >>= λ root.
    Ok (with_root a.0.0 pending.0 partial.0 root.0, root.1)) (p, rest) a.2 in
    let c = bind_ok {B = RangeProof × List ℕ} (option_at (front_at d) b.0.1) (λ partial.
    front_at d partial.1 >>= λ root. Ok (with_root a.0.0 b.0.0 partial.0 root.0, root.1)) (p, rest) b.2 in
    let f = bind_ok {B = RangeProof × List ℕ} (front_at d c.0.1)
    (λ root. Ok (with_root a.0.0 b.0.0 c.0.0 root.0, root.1)) (p, rest) c.2 in
    let x = proof_back d most bytes a.0.0 a.0.1 fits a.1 in
    let fits2 = tail_bytes (proof_text a.0.0) a.0.1 (along _ _ x fits) in
    let pending_is : slot_at there (front_at d) a.0.1 ≡ Ok (option_map as_is b.0.0, b.0.1) =
    b.1 ∙ ap (λ (o : Option (List ℕ)). Ok (o, b.0.1)) (sym (same_slot b.0.0)) in
    let y = slot_back as_is as_is (front_at d) (digest_back d) there a.0.1 b.0.0 b.0.1 fits2 pending_is in
    let fits3 = tail_bytes (slot_text there as_is b.0.0) b.0.1 (along _ _ y fits2) in
    let partial_is : option_at (front_at d) b.0.1 ≡ Ok (option_map as_is c.0.0, c.0.1) =
    c.1 ∙ ap (λ (o : Option (List ℕ)). Ok (o, c.0.1)) (sym (same_slot c.0.0)) in
    let z = option_back as_is as_is (front_at d) (digest_back d) b.0.1 c.0.0 c.0.1 fits3 partial_is in
    let w = front_back d c.0.1 f.0.0 f.0.1 f.1 in
    let root = f.0.0 in
    let tail = f.0.1 in
    let z2 = z ∙ ap (λ (t : List ℕ). option_text as_is c.0.0 ++ t) w in
    let y2 = y ∙ ap (λ (t : List ℕ). slot_text there as_is b.0.0 ++ t) z2 in
    let x2 = x ∙ ap (λ (t : List ℕ). proof_text a.0.0 ++ t) y2 in
    let parts : range_proof_text there (with_root a.0.0 b.0.0 c.0.0 root) ++ tail ≡ proof_text a.0.0
    ++ (slot_text there as_is b.0.0 ++ (option_text as_is c.0.0 ++ (root ++ tail))) = simp append_assoc in
    let pair = ok_is (with_root a.0.0 b.0.0 c.0.0 root, tail) (p, rest) f.2 in
    subst (λ (q : RangeProof × List ℕ). bytes ≡ range_proof_text there q.0 ++ q.1) pair (x2 ∙ sym parts)

abbrev at_location : ℕ → List ℕ → RangeProof → OperationProof
at_location location chunk range = record { location = location; chunk = chunk; range = range }

pub operation_back : (there : Bool) (d size most : ℕ) (bytes : List ℕ) (p : OperationProof) (rest : List ℕ)
    → IsBytes bytes
    → operation_at there d size most bytes ≡ Ok (p, rest) → bytes ≡ operation_text there p ++ rest
operation_back there d size most bytes p rest fits e =
    let a = bind_ok {B = OperationProof × List ℕ} (location_at bytes) (λ location. front_at size location.1 >>= λ chunk.
    range_proof_at there d most chunk.1 >>= λ range. Ok (at_location location.0 chunk.0 range.0, range.1))
    (p, rest) e in
    let b = bind_ok {B = OperationProof × List ℕ} (front_at size a.0.1) (λ chunk.
    range_proof_at there d most chunk.1 >>= λ range. Ok (at_location a.0.0 chunk.0 range.0, range.1)) (p, rest) a.2 in
    let c = bind_ok {B = OperationProof × List ℕ} (range_proof_at there d most b.0.1)
    (λ range. Ok (at_location a.0.0 b.0.0 range.0, range.1)) (p, rest) b.2 in
    let x = location_back bytes a.0.0 a.0.1 fits a.1 in
    let fits2 = tail_bytes (varint_text a.0.0) a.0.1 (along _ _ x fits) in
    let y = front_back size a.0.1 b.0.0 b.0.1 b.1 in
    let fits3 = tail_bytes b.0.0 b.0.1 (along _ _ y fits2) in
    let z = current_back there d most b.0.1 c.0.0 c.0.1 fits3 c.1 in
    let range = c.0.0 in
    let tail = c.0.1 in
    let y2 = y ∙ ap (λ (t : List ℕ). b.0.0 ++ t) z in
    let x2 = x ∙ ap (λ (t : List ℕ). varint_text a.0.0 ++ t) y2 in
    let parts : operation_text there (at_location a.0.0 b.0.0 range) ++ tail
    ≡ varint_text a.0.0 ++ (b.0.0 ++ (range_proof_text there range ++ tail)) = simp append_assoc in
    let pair = ok_is (at_location a.0.0 b.0.0 range, tail) (p, rest) c.2 in
    subst (λ (q : OperationProof × List ℕ). bytes ≡ operation_text there q.0 ++ q.1) pair (x2 ∙ sym parts)

pub sized_back : (there : Bool) (d size most : ℕ) (bytes : List ℕ) (p : OperationProof) (rest : List ℕ) → IsBytes bytes
    → sized_operation_at there d size most bytes ≡ Ok (p, rest) → bytes ≡ operation_text there p ++ rest
sized_back there d size most bytes p rest fits e =
    elim (halves size size && leb size (2 ^ 59)) as (λ b. cond b (operation_at there d size most bytes) (Err (Invalid (codes "current proof") (codes "invalid bitmap chunk size"))) ≡ Ok (p, rest) → bytes ≡ operation_text there p ++ rest) [
      | true ↦ λ f. operation_back there d size most bytes p rest fits f
      | false ↦ λ f. absurd cc
    ] e
