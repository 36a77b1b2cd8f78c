use Rattle.std.proofs.Common.{◌*◌, ◌/◌, ◌%◌, ◌∷◌, [], ap, map, option_map, refl, sym, ◌∙◌, arith}
use Rattle.std.proofs.lemmas.List.{map-append}
use Rattle.storage_bitmap.proofs.BitChecks.{aligned_answer, between_answer, not_both}
use Rattle.std.proofs.lemmas.Grind.{common_steps}
use Rattle.storage_bitmap.proofs.bitmap.authenticated.inclusion.computed_root.Goals as goal

pub returns-then-is_multiple_of-clause-root : goal.returns-then-is_multiple_of-clause-root
returns-then-is_multiple_of-clause-root g c = λ same.
    aligned_answer g.H.Hasher.hash_of (g.H.Hasher.bagging c.args.hasher.now) g.row.N
    (record {
      leaves = c.args.proof.now.leaves;
      inactive = c.args.proof.now.inactive_peaks;
      digests = map g.H.Digest.Digest.text c.args.proof.now.digests.items;
    }) c.args.chunk.now c.args.bit
    g.H.Digest.Digest.text c.chunks_root.result (c.as_u64-length.result / (8 * g.row.N)) (c.args.bit / (8 * g.row.N))
    (map g.H.Digest.Digest.text c.deref.result.now) c.requires.below
    (ap (λ m. m % (8 * g.row.N)) (sym c.as_u64-length.ensures)
    ∙ c.is_multiple_of.ensures.0 c.if-is_multiple_of.true) (ap (λ m. m / (8 * g.row.N)) c.as_u64-length.ensures)
    refl (ap (map g.H.Digest.Digest.text) c.deref.ensures.value) (c.chunks_root.ensures same)

pub returns-then-place-complete-clause-root : goal.returns-then-place-complete-clause-root
returns-then-place-complete-clause-root g c = λ same.
    between_answer g.H.Hasher.hash_of (g.H.Hasher.bagging c.args.hasher.now) g.row.N
    (record {
      leaves = c.args.proof.now.leaves;
      inactive = c.args.proof.now.inactive_peaks;
      digests = map g.H.Digest.Digest.text c.args.proof.now.digests.items;
    }) c.args.chunk.now c.args.bit
    (λ e. not_both c.is_multiple_of.result (c.is_multiple_of.ensures.1
    (ap (λ m. m % (8 * g.row.N)) c.as_u64-length.ensures ∙ e)) c.if-is_multiple_of.false)
    (map g.H.Digest.Digest.text c.in-Some.front.now) (g.H.Digest.Digest.text c.in-Some.last.now)
    (ap (map g.H.Digest.Digest.text) (sym c.deref-2.ensures.value ∙ c.in-Some.ensures.cases.0)
    ∙ map-append g.H.Digest.Digest.text c.in-Some.front.now (c.in-Some.last.now ∷ []))
    (c.as_u64-length.result / (8 * g.row.N)) (c.args.bit / (8 * g.row.N)) (option_map g.H.Digest.Digest.text
    c.in_ok-root.field-0) (g.H.Digest.Digest.text c.in-Some-2.root) (g.H.Digest.Digest.text c.partial_root.result)
    c.as_u64-length.result c.if-place-complete.true c.as_u64-length.ensures refl refl
    (ap (option_map g.H.Digest.Digest.text) c.in-Some-2.is) (c.in_ok-root.ensures same) c.partial_root.ensures

pub returns-clause-root : goal.returns-clause-root
returns-clause-root g c = grind (arith, common_steps)

pub returns-in_default-clause-root : goal.returns-in_default-clause-root
returns-in_default-clause-root g c = grind (arith, common_steps)

pub returns-in_default-2-clause-root : goal.returns-in_default-2-clause-root
returns-in_default-2-clause-root g c = grind (arith, common_steps)

pub returns-then-not-is_empty-clause-root : goal.returns-then-not-is_empty-clause-root
returns-then-not-is_empty-clause-root g c = grind (arith, common_steps)
