use Rattle.std.proofs.Common.{◌++◌, ◌∙◌, ap₂, map, subst, sym}
use Rattle.storage_merkle.specs.Rests.{EachPeak}
use Rattle.storage_merkle.proofs.MemNodes.{IsPeak}
use Rattle.storage_merkle.proofs.Peaks.{each_of}
use Rattle.storage_merkle.proofs.Walks.{fits_within}
use Rattle.storage_current.proofs.Beginnings.{peak_is, peak_there}
use Rattle.storage_current.proofs.Pruning.{digests_of, walk_end, walk_push}
use Rattle.storage_current.proofs.qmdb.current.snapshot.opening.peaks_over.Goals as goal

pub loop-first-init : goal.loop-first-init
loop-first-init g c =
    let S = g.F.Family.shape in
    let at = c.into_iter-first-iterator.ensures.into_iter_gives ∙ c.over-first-items.ensures in
    let none = c.new-pins.ensures.items in
    record {
      each = subst (EachPeak (IsPeak (S.peaks c.args.count) 0)) (sym at)
          (each_of (IsPeak (S.peaks c.args.count) 0) 0 (S.peaks c.args.count) (λ a k i. i));
      digests = λ nodes list stands. ap₂ (λ xs ps. map g.H.Digest.Digest.text xs ++ digests_of (nodes list) ps) none at;
    }

pub position-requires-clause-aligned : goal.position-requires-clause-aligned
position-requires-clause-aligned g c = c.in-Some.ensures.steps.1.aligned

pub position-requires-clause-fits : goal.position-requires-clause-fits
position-requires-clause-fits g c = fits_within g.F.Family.shape g.met.F.Family.laws _ _
    c.in-Some.ensures.steps.1.aligned c.in-Some.ensures.steps.1.fits

pub unwrap-requires : goal.unwrap-requires
unwrap-requires g c =
    let S = g.F.Family.shape in
    let steps = c.in-Some.ensures.steps in
    let each = subst (EachPeak (IsPeak (S.peaks c.args.count) 0)) steps.0 c.loop-first.invariant.each in
    peak_there g.H.Digest.Digest.text S g.met.F.Family.laws c.args.tree.now c.trees_keep_the_nodes_of_their_list.ensures
    g.H.Hasher.hash_of c.requires.grown c.args.count _ _ c.requires.from c.requires.to steps.1.aligned each.0 c.get_node.result _
    (c.new-position.ensures ∙ c.position.ensures) c.get_node.ensures

pub loop-first-preserved : goal.loop-first-preserved
loop-first-preserved g c =
    let S = g.F.Family.shape in
    let text = g.H.Digest.Digest.text in
    let steps = c.in-Some.ensures.steps in
    let each = subst (EachPeak (IsPeak (S.peaks c.args.count) 0)) steps.0 c.loop-first.invariant.each in
    rw c.in_ok-push.ensures.items (record {
      each = each.1;
      digests = λ nodes list stands. walk_push (nodes list) text c.loop-first.pins.items _ _ _ c.unwrap.result _ steps.0
          (c.loop-first.invariant.digests nodes list stands)
          (peak_is text S g.met.F.Family.laws c.args.tree.now c.trees_keep_the_nodes_of_their_list.ensures nodes list stands
          c.args.count _ _ c.requires.from c.requires.to steps.1.aligned each.0 c.get_node.result c.unwrap.result _
          (c.new-position.ensures ∙ c.position.ensures) c.get_node.ensures c.unwrap.ensures);
    })

pub returns : goal.returns
returns g c = λ nodes list stands. walk_end _ _ _ _ c.in-None.ensures.steps.0 (c.loop-first.invariant.digests nodes list stands)
