use Rattle.std.proofs.Common.{arith, ◌≡◌, ◌+◌, ◌++◌, [], ◌∷◌, length, map, ap, ap₂, ◌∙◌, sym, subst, length-append}
use Rattle.storage_merkle.specs.Hashing.{join_digest, node_over}
use Rattle.storage_merkle.specs.Laws.Peaks.{length_places}
use Rattle.storage_merkle.specs.Laws.Shape.{early_fits}
use Rattle.storage_merkle.specs.Rests.{EachPeak}
use Rattle.storage_current.specs.GraftedTrees.{IsPeak}
use Rattle.storage_current.proofs.Pinned.{each_of, peak_taken}
use Rattle.storage_current.proofs.Pruning.{digests_of, peak_had, peak_true, walk_end, walk_push}
use Rattle.storage_current.proofs.qmdb.current.grafting.tree.peaks_over.Goals as goal

pub loop-first-init : goal.loop-first-init
loop-first-init g c =
    let S = g.F.Family.shape in
    let at = c.into_iter-first-iterator.ensures.into_iter_gives ∙ c.over-first-items.ensures in
    let none = c.new-peaks.ensures.items in
    record {
      each = subst (EachPeak (IsPeak (S.peaks c.args.chunks) 0)) (sym at)
          (each_of (IsPeak (S.peaks c.args.chunks) 0) 0 (S.peaks c.args.chunks) (λ a k i. i));
      count = omega (arith, ap length none, ap length at, length_places 0 (S.peaks c.args.chunks));
      digests = λ list keeps. ap₂ (λ xs ps. map g.D.Digest.text xs ++ digests_of (node_over g.H.Hasher.hash_of
          (g.H.Hasher.layout c.args.hasher.now) (g.H.Hasher.chunk c.args.hasher.now) list) ps) none at;
    }

pub node_of-requires-clause-aligned : goal.node_of-requires-clause-aligned
node_of-requires-clause-aligned g c = c.in-Some.ensures.steps.1.aligned

pub node_of-requires-clause-fits : goal.node_of-requires-clause-fits
node_of-requires-clause-fits g c =
    let placed = c.in-Some.ensures.steps.1 in
    early_fits g.F.Family.shape g.met.F.Family.laws _ _ placed.aligned (omega (arith, placed.fits))

pub node_of-requires-clause-takes : goal.node_of-requires-clause-takes
node_of-requires-clause-takes g c =
    let S = g.F.Family.shape in
    let t = c.args.tree.now in
    let steps = c.in-Some.ensures.steps in
    let each = subst (EachPeak (IsPeak (S.peaks c.args.chunks) 0)) steps.0 c.loop-first.invariant.each in
    peak_taken S g.met.F.Family.laws t.pruned t.pinned t.leaves c.requires.whole.pins
    (g.H.Hasher.takes c.args.hasher.now) c.args.chunks _ _ c.requires.takes c.requires.from steps.1.aligned each.0

pub unwrap-requires : goal.unwrap-requires
unwrap-requires g c =
    let S = g.F.Family.shape in
    let steps = c.in-Some.ensures.steps in
    let each = subst (EachPeak (IsPeak (S.peaks c.args.chunks) 0)) steps.0 c.loop-first.invariant.each in
    peak_had g.D.Digest.text S g.met.F.Family.laws
    (join_digest g.H.Hasher.hash_of (g.H.Hasher.layout c.args.hasher.now) (g.H.Hasher.chunk c.args.hasher.now))
    c.args.tree.now c.args.chunks _ _ c.node_of.result c.requires.whole.pins c.requires.from c.requires.to
    steps.1.aligned each.0 c.node_of.ensures

pub loop-first-preserved : goal.loop-first-preserved
loop-first-preserved g c =
    let S = g.F.Family.shape in
    let text = g.D.Digest.text in
    let T = g.H.Hasher.layout c.args.hasher.now in
    let chunk = g.H.Hasher.chunk c.args.hasher.now in
    let steps = c.in-Some.ensures.steps in
    let each = subst (EachPeak (IsPeak (S.peaks c.args.chunks) 0)) steps.0 c.loop-first.invariant.each in
    let more = ap length steps.0 in
    rw c.in_ok-push.ensures.items (record {
      each = each.1;
      count = omega (arith, c.loop-first.invariant.count, more, length-append c.loop-first.peaks.items (c.unwrap.result ∷ []));
      digests = λ list keeps.
          walk_push (node_over g.H.Hasher.hash_of T chunk list) text c.loop-first.peaks.items _ _ _ c.unwrap.result _
          steps.0 (c.loop-first.invariant.digests list keeps)
          (peak_true text g.H.Hasher.hash_of T chunk S g.met.F.Family.laws c.args.tree.now list _ _ c.node_of.result
          c.unwrap.result keeps steps.1.aligned c.node_of.ensures c.unwrap.ensures);
    })

pub returns-clause-digests : goal.returns-clause-digests
returns-clause-digests g c list keeps =
    walk_end _ _ _ _ c.in-None.ensures.steps.0 (c.loop-first.invariant.digests list keeps)

pub returns-clause-count : goal.returns-clause-count
returns-clause-count g c = omega (arith, c.loop-first.invariant.count, ap length c.in-None.ensures.steps.0)
