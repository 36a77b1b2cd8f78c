use Rattle.std.proofs.Common.{◌≡◌, ℕ, ◌/◌, ◌∷◌, [], List, Option, Some, map, option_map, ap, sym, subst, ◌∙◌, arith}
use Rattle.std.proofs.lemmas.List.{map-append}
use Rattle.storage_merkle.specs.Checks.{IsRecomputed}
use Rattle.storage_merkle.specs.Held.{proof_of}
use Rattle.storage_merkle.specs.Mmr.{mmr}
use Rattle.storage_merkle.specs.Trees.{ungrafted, listed}
use Rattle.reference.proofs.BitParts.{aligned_from, between_from}
use Rattle.std.proofs.lemmas.Grind.{common_steps}
use Rattle.reference.proofs.bit.computed_root.Goals as goal

pub returns-then-length-bits_per_chunk-eq0 : goal.returns-then-length-bits_per_chunk-eq0
returns-then-length-bits_per_chunk-eq0 g c =
    let text = g.H.Digest.Digest.text in
    aligned_from g.H.Hasher.hash_of c.args.bagging c.args.size (proof_of text c.args.proof.now) c.args.bytes.now
    c.args.bit text c.recomputed_chunks_root.result c.as_u64-length.result c.bits_per_chunk-3.result
    (c.as_u64-length.result / c.bits_per_chunk.result) (c.args.bit / c.bits_per_chunk-2.result) (map text c.deref.result.now)
    c.requires.below c.as_u64-length.ensures c.bits_per_chunk-3.ensures.value c.if-length-bits_per_chunk-eq0.true
    (ap (λ (m : ℕ). c.as_u64-length.result / m) c.bits_per_chunk.ensures.value)
    (ap (λ (m : ℕ). c.args.bit / m) c.bits_per_chunk-2.ensures.value)
    (ap (map text) c.deref.ensures.value) c.recomputed_chunks_root.ensures

pub returns-in_ok-partial_root-in-Some-2 : goal.returns-in_ok-partial_root-in-Some-2
returns-in_ok-partial_root-in-Some-2 g c =
    let text = g.H.Digest.Digest.text in
    let place = c.args.bit / c.bits_per_chunk-2.result in
    let complete = c.as_u64-length.result / c.bits_per_chunk.result in
    let others = map text c.in-Some.others.now in
    let found : option_map text c.in_ok-recomputed_chunks_root.field-0 ≡ Some (text c.in-Some-2.root) =
    ap (option_map text) c.in-Some-2.is in
    between_from g.H.Hasher.hash_of c.args.bagging c.args.size (proof_of text c.args.proof.now) c.args.bytes.now
    c.args.bit c.as_u64-length.result c.bits_per_chunk-3.result complete place others (text c.in-Some.last.now)
    (text c.in-Some-2.root) (text c.in_ok-partial_root-in-Some-2.field-0)
    c.as_u64-length.ensures c.bits_per_chunk-3.ensures.value c.if-length-bits_per_chunk-eq0.false
    (ap (λ (m : ℕ). c.as_u64-length.result / m) c.bits_per_chunk.ensures.value)
    (ap (λ (m : ℕ). c.args.bit / m) c.bits_per_chunk-2.ensures.value) c.if-place-complete.false
    (ap (map text) (sym c.deref-2.ensures.value ∙ c.in-Some.ensures.cases.0)
    ∙ map-append text c.in-Some.others.now (c.in-Some.last.now ∷ []))
    (subst (λ (o : Option (List ℕ)). IsRecomputed g.H.Hasher.hash_of (ungrafted mmr) c.args.bagging
    (record { leaves = complete; inactive = 0; digests = others }) place (listed (c.args.bytes.now ∷ [])) o)
    found c.in_ok-recomputed_chunks_root.ensures)
    c.in_ok-partial_root-in-Some-2.ensures

pub returns-in_default : goal.returns-in_default
returns-in_default g c = grind (arith, common_steps)

pub returns-then-not-is_empty : goal.returns-then-not-is_empty
returns-then-not-is_empty g c = grind (arith, common_steps)

pub returns-then-place-complete : goal.returns-then-place-complete
returns-then-place-complete g c = grind (arith, common_steps)

pub returns-in-None : goal.returns-in-None
returns-in-None g c = grind (arith, common_steps)
