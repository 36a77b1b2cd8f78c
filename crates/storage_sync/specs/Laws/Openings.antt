-- An opening that was written is read again, and what is read was written so.
use Rattle.std.proofs.Common.{◌≡◌, ℕ, Bool, List, ◌++◌, length, Ok, refl, sym, ap, subst, ◌∙◌, append_assoc}
use Rattle.storage_codec.specs.Faults.{◌>>=◌}
use Rattle.storage_codec.specs.Parts.{IsBytes, varint_text, vector_text}
use Rattle.storage_codec.specs.Codec.{Answer, front_at, vector_at}
use Rattle.storage_codec.specs.Laws.Reading.{bind_ok, ok_is, front_again, front_back}
use Rattle.storage_codec.specs.Laws.Varint.{vector_back}
use Rattle.storage_merkle.specs.ProofWire.{proof_at, proof_text}
use Rattle.storage_merkle.specs.RangeProofs.{Proof}
use Rattle.storage_merkle.specs.Wire.{location_at}
use Rattle.storage_merkle.specs.Laws.ProofWire.{proof_again, proof_back}
use Rattle.storage_merkle.specs.Laws.Wire.{location_again, location_back}
use Rattle.storage_ops.specs.Laws.Reading.{tail_bytes, along}
use Rattle.storage_current.specs.CurrentWire.{as_is}
use Rattle.storage_current.specs.Laws.WitnessWire.{witness_again, witness_back}
use Rattle.storage_current.specs.Snapshots.{Witness}
use Rattle.storage_current.specs.WitnessWire.{witness_at, witness_text}
use Rattle.storage_sync.specs.declared.sync.limits.Limits.{Limits}
use Rattle.storage_sync.specs.Messages.{list_at, list_text}
use Rattle.storage_sync.specs.Openings.{Opening, OpeningsAreReadAgain, OpeningsAreWrittenSo, opening_at, opening_text}
use Rattle.storage_sync.specs.Laws.Lists.{list_again, list_back}
use Rattle.storage_sync.specs.Laws.Pages.{short_again, sized_again}

-- seven parts, and what follows them
seven : (a b c d e f g rest : List ℕ) → (a ++ (b ++ (c ++ (d ++ (e ++ (f ++ g)))))) ++ rest
    ≡ a ++ (b ++ (c ++ (d ++ (e ++ (f ++ (g ++ rest))))))
seven a b c d e f g rest =
    append_assoc a (b ++ (c ++ (d ++ (e ++ (f ++ g))))) rest
    ∙ ap (λ (t : List ℕ). a ++ t) (append_assoc b (c ++ (d ++ (e ++ (f ++ g)))) rest
    ∙ ap (λ (t : List ℕ). b ++ t) (append_assoc c (d ++ (e ++ (f ++ g))) rest
    ∙ ap (λ (t : List ℕ). c ++ t) (append_assoc d (e ++ (f ++ g)) rest
    ∙ ap (λ (t : List ℕ). d ++ t) (append_assoc e (f ++ g) rest ∙ ap (λ (t : List ℕ). e ++ t) (append_assoc f g rest)))))

pub openings_again : {F D : Type 0} (text : D → List ℕ) (there : Bool) (d : ℕ) → ((x : D) → length (text x) ≡ d)
    → OpeningsAreReadAgain F text there d
openings_again text there d sized limits o w held ok rest =
    let begin = varint_text o.begin in
    let witness = witness_text there o.witness in
    let proof = proof_text o.proof in
    let operations = list_text vector_text o.operations in
    let pins = list_text as_is o.pins in
    let over = list_text as_is o.over_chunks in
    let parts : opening_text there o ++ rest
    ≡ begin ++ (witness ++ (o.ops_root ++ (proof ++ (operations ++ (pins ++ (over ++ rest)))))) =
    seven begin witness o.ops_root proof operations pins over rest in
    let tail = o.ops_root ++ (proof ++ (operations ++ (pins ++ (over ++ rest)))) in
    let read : witness_at there d (witness ++ tail) ≡ Ok (o.witness, tail) =
    subst (λ (v : Witness). witness_at there d (witness_text there v ++ tail) ≡ Ok (v, tail)) (sym held)
    (witness_again there text d sized w tail (rw held at ok.witness)) in
    rw (
      parts,
      location_again o.begin (witness ++ tail) ok.begin,
      read,
      front_again d o.ops_root (proof ++ (operations ++ (pins ++ (over ++ rest)))) ok.root,
      proof_again d limits.max_digests o.proof (operations ++ (pins ++ (over ++ rest))) ok.digests ok.proof,
      list_again vector_text (vector_at 0 limits.max_operation_len) limits.max_ops o.operations (pins ++ (over ++ rest)) ok.count
          ok.few (short_again limits.max_operation_len o.operations ok.short),
      list_again as_is (front_at d) limits.max_digests o.pins (over ++ rest) ok.pins.count ok.pins.few
          (sized_again d o.pins ok.pins.sized),
      list_again as_is (front_at d) limits.max_digests o.over_chunks rest ok.over_chunks.count ok.over_chunks.few
          (sized_again d o.over_chunks ok.over_chunks.sized),
    ) refl

abbrev made : ℕ → Witness → List ℕ → Proof → List (List ℕ) → List (List ℕ) → List (List ℕ) → Opening
made begin witness root proof operations pins over = record {
  begin = begin;
  witness = witness;
  ops_root = root;
  proof = proof;
  operations = operations;
  pins = pins;
  over_chunks = over;
}

module _ (there : Bool) (d : ℕ) (limits : Limits) where
  abbrev pins_at : List ℕ → Answer (List (List ℕ))
  pins_at bytes = list_at (front_at d) limits.max_digests bytes

  abbrev operations_at : List ℕ → Answer (List (List ℕ))
  operations_at bytes = list_at (vector_at 0 limits.max_operation_len) limits.max_ops bytes

  -- what is read after some parts
  abbrev after_pins : ℕ → Witness → List ℕ → Proof → List (List ℕ) → List (List ℕ) × List ℕ → Answer Opening
  after_pins b w r p os pins = pins_at pins.1 >>= λ over. Ok (made b w r p os pins.0 over.0, over.1)

  abbrev after_operations : ℕ → Witness → List ℕ → Proof → List (List ℕ) × List ℕ → Answer Opening
  after_operations b w r p os = pins_at os.1 >>= λ pins. after_pins b w r p os.0 pins

  abbrev after_proof : ℕ → Witness → List ℕ → Proof × List ℕ → Answer Opening
  after_proof b w r p = operations_at p.1 >>= λ os. after_operations b w r p.0 os

  abbrev after_root : ℕ → Witness → List ℕ × List ℕ → Answer Opening
  after_root b w r = proof_at d limits.max_digests r.1 >>= λ p. after_proof b w r.0 p

  abbrev after_witness : ℕ → Witness × List ℕ → Answer Opening
  after_witness b w = front_at d w.1 >>= λ r. after_root b w.0 r

  abbrev after_begin : ℕ × List ℕ → Answer Opening
  after_begin b = witness_at there d b.1 >>= λ w. after_witness b.0 w

  lists_back : (bytes : List ℕ) (xs : List (List ℕ)) (rest : List ℕ) → IsBytes bytes → pins_at bytes ≡ Ok (xs, rest)
      → bytes ≡ list_text as_is xs ++ rest
  lists_back bytes xs rest fits e =
      list_back as_is (front_at d) (λ bs t r f q. front_back d bs t r q) limits.max_digests bytes xs rest fits e

  pub opening_back : (bytes : List ℕ) (o : Opening) (rest : List ℕ) → IsBytes bytes → opening_at there d limits bytes ≡ Ok (o, rest)
      → bytes ≡ opening_text there o ++ rest
  opening_back bytes o rest fits e =
      let y : Opening × List ℕ = (o, rest) in
      let b = bind_ok {B = Opening × List ℕ} (location_at bytes) (λ x. after_begin x) y e in
      let w = bind_ok {B = Opening × List ℕ} (witness_at there d b.0.1) (λ x. after_witness b.0.0 x) y b.2 in
      let r = bind_ok {B = Opening × List ℕ} (front_at d w.0.1) (λ x. after_root b.0.0 w.0.0 x) y w.2 in
      let p = bind_ok {B = Opening × List ℕ} (proof_at d limits.max_digests r.0.1) (λ x. after_proof b.0.0 w.0.0 r.0.0 x) y r.2 in
      let s = bind_ok {B = Opening × List ℕ} (operations_at p.0.1) (λ x. after_operations b.0.0 w.0.0 r.0.0 p.0.0 x) y p.2 in
      let q = bind_ok {B = Opening × List ℕ} (pins_at s.0.1) (λ x. after_pins b.0.0 w.0.0 r.0.0 p.0.0 s.0.0 x) y s.2 in
      let v = bind_ok {B = Opening × List ℕ} (pins_at q.0.1)
      (λ over. Ok (made b.0.0 w.0.0 r.0.0 p.0.0 s.0.0 q.0.0 over.0, over.1)) y q.2 in
      let all = made b.0.0 w.0.0 r.0.0 p.0.0 s.0.0 q.0.0 v.0.0 in
      let same = ok_is (all, v.0.1) y v.2 in
      let one = location_back bytes b.0.0 b.0.1 fits b.1 in
      let fits1 = tail_bytes (varint_text b.0.0) b.0.1 (along _ _ one fits) in
      let two = witness_back there d b.0.1 w.0.0 w.0.1 fits1 w.1 in
      let fits2 = tail_bytes (witness_text there w.0.0) w.0.1 (along _ _ two fits1) in
      let three = front_back d w.0.1 r.0.0 r.0.1 r.1 in
      let fits3 = tail_bytes r.0.0 r.0.1 (along _ _ three fits2) in
      let four = proof_back d limits.max_digests r.0.1 p.0.0 p.0.1 fits3 p.1 in
      let fits4 = tail_bytes (proof_text p.0.0) p.0.1 (along _ _ four fits3) in
      let five = list_back vector_text (vector_at 0 limits.max_operation_len)
      (λ bs t r f z. vector_back 0 limits.max_operation_len bs t r f z) limits.max_ops p.0.1 s.0.0 s.0.1 fits4 s.1 in
      let fits5 = tail_bytes (list_text vector_text s.0.0) s.0.1 (along _ _ five fits4) in
      let six = lists_back s.0.1 q.0.0 q.0.1 fits5 q.1 in
      let fits6 = tail_bytes (list_text as_is q.0.0) q.0.1 (along _ _ six fits5) in
      let last = lists_back q.0.1 v.0.0 v.0.1 fits6 v.1 in
      let parts : opening_text there all ++ v.0.1 ≡ varint_text b.0.0 ++ (witness_text there w.0.0 ++ (r.0.0 ++ (proof_text p.0.0
      ++ (list_text vector_text s.0.0 ++ (list_text as_is q.0.0 ++ (list_text as_is v.0.0 ++ v.0.1)))))) =
      seven (varint_text b.0.0) (witness_text there w.0.0) r.0.0 (proof_text p.0.0) (list_text vector_text s.0.0)
      (list_text as_is q.0.0) (list_text as_is v.0.0) v.0.1 in
      subst (λ (z : Opening × List ℕ). bytes ≡ opening_text there z.0 ++ z.1) same
      (one ∙ ap (λ (t : List ℕ). varint_text b.0.0 ++ t) (two ∙ ap (λ (t : List ℕ). witness_text there w.0.0 ++ t)
      (three ∙ ap (λ (t : List ℕ). r.0.0 ++ t) (four ∙ ap (λ (t : List ℕ). proof_text p.0.0 ++ t)
      (five ∙ ap (λ (t : List ℕ). list_text vector_text s.0.0 ++ t) (six ∙ ap (λ (t : List ℕ). list_text as_is q.0.0 ++ t)
      last))))) ∙ sym parts)

pub openings_back : OpeningsAreWrittenSo
openings_back there d limits bytes o rest fits e = opening_back there d limits bytes o rest fits e
