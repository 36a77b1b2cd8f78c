-- A witness that was written is read again, and what is read was written so.
use Rattle.std.proofs.Common.{◌≡◌, ℕ, ◌+◌, ◌<◌, ◌^◌, Bool, List, ◌++◌, length, Option, Some, None, Ok, refl, sym, ap, subst, ◌∙◌, append_assoc, arith, length-append}
use Rattle.std.specs.Prelude.{IfSome, option_map}
use Rattle.storage_codec.specs.Codec.{front_at, option_at, varint_at}
use Rattle.storage_codec.specs.Faults.{◌>>=◌}
use Rattle.storage_codec.specs.Parts.{IsBytes, option_text, varint_text}
use Rattle.storage_codec.specs.Laws.Reading.{bind_ok, ok_is, front_again, front_back, option_again, option_back}
use Rattle.storage_codec.specs.Laws.Varint.{varint_again, varint_back}
use Rattle.storage_merkle.specs.Wire.{slot_text, slot_at}
use Rattle.storage_merkle.specs.Laws.Wire.{slot_back}
use Rattle.storage_ops.specs.Laws.Reading.{tail_bytes, along}
use Rattle.storage_current.specs.CurrentWire.{as_is}
use Rattle.storage_current.specs.Laws.CurrentWire.{pending_again, held_slot, same_slot, digest_back}
use Rattle.storage_current.specs.Snapshots.{Witness}
use Rattle.storage_current.specs.WitnessWire.{counted_text, counted_at, witness_of, witness_text, witness_at, IsAdmittedWitness}
use Rattle.storage_current.specs.declared.qmdb.current.proof.witness.OpsRootWitness.{OpsRootWitness}

abbrev same : ℕ × List ℕ → ℕ × List ℕ
same p = p

same_partial : (partial : Option (ℕ × List ℕ)) → option_map same partial ≡ partial
same_partial None = refl
same_partial (Some p) = refl

-- how many bytes a witness is written as
pub witness_length : (there : Bool) (w : Witness)
    → length w.grafted_root + (length (slot_text there as_is w.pending) + length (option_text counted_text w.partial))
    ≡ length (witness_text there w)
witness_length there w =
    let pending = length-append (slot_text there as_is w.pending) (option_text counted_text w.partial) in
    let root = length-append w.grafted_root (slot_text there as_is w.pending ++ option_text counted_text w.partial) in
    omega (arith, pending, root)

-- ---- what was written is read again

abbrev IsCounted : ℕ → ℕ × List ℕ → Type 0
IsCounted d p = (p.0 < 2 ^ 64) × (length p.1 ≡ d)

pub counted_again : (d : ℕ) (p : ℕ × List ℕ) (rest : List ℕ) → IsCounted d p
    → counted_at d (counted_text p ++ rest) ≡ Ok (p, rest)
counted_again d p rest ok =
    let parts : counted_text p ++ rest ≡ varint_text p.0 ++ (p.1 ++ rest) = append_assoc (varint_text p.0) p.1 rest in
    rw (parts, varint_again p.0 (p.1 ++ rest) ok.0, front_again d p.1 rest ok.1) refl

counted_same : (d : ℕ) (p : ℕ × List ℕ) (rest : List ℕ) → IsCounted d p
    → counted_at d (counted_text p ++ rest) ≡ Ok (same p, rest)
counted_same d p rest ok = counted_again d p rest ok

partial_again : (d : ℕ) (partial : Option (ℕ × List ℕ)) (rest : List ℕ) → IfSome partial (IsCounted d)
    → option_at (counted_at d) (option_text counted_text partial ++ rest) ≡ Ok (partial, rest)
partial_again d partial rest ok =
    let e = option_again counted_text same (counted_at d) (IsCounted d) (counted_same d) partial rest ok in
    e ∙ ap (λ (x : Option (ℕ × List ℕ)). Ok (x, rest)) (same_partial partial)

abbrev held : {D : Type 0} → (D → List ℕ) → Option (ℕ × D) → Option (ℕ × List ℕ)
held text partial = option_map (λ p. (p.0, text p.1)) partial

counted_slot : {D : Type 0} (text : D → List ℕ) (d : ℕ) → ((x : D) → length (text x) ≡ d) → (partial : Option (ℕ × D))
    → IfSome (held text partial) (λ p. p.0 < 2 ^ 64) → IfSome (held text partial) (IsCounted d)
counted_slot text d sized None ok = tt
counted_slot text d sized (Some p) ok = (ok, sized p.1)

pub witness_again : {F D : Type 0} (there : Bool) (text : D → List ℕ) (d : ℕ) → ((x : D) → length (text x) ≡ d)
    → (w : OpsRootWitness F D) (rest : List ℕ) → IsAdmittedWitness there (witness_of text w)
    → witness_at there d (witness_text there (witness_of text w) ++ rest) ≡ Ok (witness_of text w, rest)
witness_again there text d sized w rest ok =
    let v = witness_of text w in
    let slot = slot_text there as_is v.pending in
    let partial = option_text counted_text v.partial in
    let parts : witness_text there v ++ rest ≡ v.grafted_root ++ (slot ++ (partial ++ rest)) = simp append_assoc in
    rw (
      parts,
      front_again d v.grafted_root (slot ++ (partial ++ rest)) (sized w.grafted_root),
      pending_again there d v.pending (partial ++ rest) ok.pending (held_slot text d sized w.pending_chunk_digest),
      partial_again d v.partial rest (counted_slot text d sized w.partial_chunk ok.bits),
    ) refl

-- ---- what is read was written so

pub counted_back : (d : ℕ) (bytes : List ℕ) (p : ℕ × List ℕ) (rest : List ℕ) → IsBytes bytes
    → counted_at d bytes ≡ Ok (p, rest) → bytes ≡ counted_text p ++ rest
counted_back d bytes p rest fits e =
    let a = bind_ok {B = (ℕ × List ℕ) × List ℕ} (varint_at bytes)
    (λ bits. front_at d bits.1 >>= λ digest. Ok ((bits.0, digest.0), digest.1)) (p, rest) e in
    let b = bind_ok {B = (ℕ × List ℕ) × List ℕ} (front_at d a.0.1) (λ digest. Ok ((a.0.0, digest.0), digest.1))
    (p, rest) a.2 in
    let x = varint_back bytes a.0.0 a.0.1 fits a.1 in
    let y = front_back d a.0.1 b.0.0 b.0.1 b.1 in
    let whole : bytes ≡ varint_text a.0.0 ++ (b.0.0 ++ b.0.1) = x ∙ ap (λ (t : List ℕ). varint_text a.0.0 ++ t) y in
    let pair = ok_is ((a.0.0, b.0.0), b.0.1) (p, rest) b.2 in
    subst (λ (q : (ℕ × List ℕ) × List ℕ). bytes ≡ counted_text q.0 ++ q.1) pair (whole
    ∙ sym (append_assoc (varint_text a.0.0) b.0.0 b.0.1))

counted_as : (d : ℕ) (bytes : List ℕ) (p : ℕ × List ℕ) (rest : List ℕ) → IsBytes bytes
    → counted_at d bytes ≡ Ok (same p, rest) → bytes ≡ counted_text p ++ rest
counted_as d bytes p rest fits e = counted_back d bytes p rest fits e

abbrev made_witness : List ℕ → Option (List ℕ) → Option (ℕ × List ℕ) → Witness
made_witness root pending partial = record { grafted_root = root; pending = pending; partial = partial }

pub witness_back : (there : Bool) (d : ℕ) (bytes : List ℕ) (w : Witness) (rest : List ℕ) → IsBytes bytes
    → witness_at there d bytes ≡ Ok (w, rest) → bytes ≡ witness_text there w ++ rest
witness_back there d bytes w rest fits e =
    let a = bind_ok {B = Witness × List ℕ} (front_at d bytes) (λ root. slot_at there (front_at d) root.1 >>= λ pending.
    option_at (counted_at d) pending.1 >>= λ partial. Ok (made_witness root.0 pending.0 partial.0, partial.1))
    (w, rest) e in
    let b = bind_ok {B = Witness × List ℕ} (slot_at there (front_at d) a.0.1) (λ pending. option_at
    (counted_at d) pending.1 >>= λ partial. Ok (made_witness a.0.0 pending.0 partial.0, partial.1)) (w, rest) a.2 in
    let c = bind_ok {B = Witness × List ℕ} (option_at (counted_at d) b.0.1)
    (λ partial. Ok (made_witness a.0.0 b.0.0 partial.0, partial.1)) (w, rest) b.2 in
    let x = front_back d bytes a.0.0 a.0.1 a.1 in
    let fits2 = tail_bytes a.0.0 a.0.1 (along _ _ x fits) in
    let pending_is : slot_at there (front_at d) a.0.1 ≡ Ok (option_map as_is b.0.0, b.0.1) =
    b.1 ∙ ap (λ (o : Option (List ℕ)). Ok (o, b.0.1)) (sym (same_slot b.0.0)) in
    let y = slot_back as_is as_is (front_at d) (digest_back d) there a.0.1 b.0.0 b.0.1 fits2 pending_is in
    let fits3 = tail_bytes (slot_text there as_is b.0.0) b.0.1 (along _ _ y fits2) in
    let partial_is : option_at (counted_at d) b.0.1 ≡ Ok (option_map same c.0.0, c.0.1) =
    c.1 ∙ ap (λ (o : Option (ℕ × List ℕ)). Ok (o, c.0.1)) (sym (same_partial c.0.0)) in
    let z = option_back counted_text same (counted_at d) (counted_as d) b.0.1 c.0.0 c.0.1 fits3 partial_is in
    let tail = c.0.1 in
    let y2 = y ∙ ap (λ (t : List ℕ). slot_text there as_is b.0.0 ++ t) z in
    let x2 = x ∙ ap (λ (t : List ℕ). a.0.0 ++ t) y2 in
    let parts : witness_text there (made_witness a.0.0 b.0.0 c.0.0) ++ tail
    ≡ a.0.0 ++ (slot_text there as_is b.0.0 ++ (option_text counted_text c.0.0 ++ tail)) = simp append_assoc in
    let pair = ok_is (made_witness a.0.0 b.0.0 c.0.0, tail) (w, rest) c.2 in
    subst (λ (q : Witness × List ℕ). bytes ≡ witness_text there q.0 ++ q.1) pair (x2 ∙ sym parts)
