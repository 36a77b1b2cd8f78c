use Rattle.std.proofs.Common.{arith, map, length, ◌+◌, [], ap, ◌∙◌, refl, sym, subst}
use Rattle.std.proofs.lemmas.List.{length-map, length-set}
use Rattle.storage_merkle.specs.Rests.{EachPeak}
use Rattle.storage_merkle.specs.Shape.{size}
use Rattle.storage_merkle.specs.Laws.Peaks.{length_places}
use Rattle.storage_merkle.specs.Laws.Shape.{step}
use Rattle.storage_merkle.proofs.MemNodes.{IsPeak, found, seen, value_of, kept_some_at, kept_is, clean_none}
use Rattle.storage_merkle.proofs.Peaks.{each_of, none_left}
use Rattle.storage_merkle.proofs.Topmost.{digests_of, first_kept, peak_kept, walk_more}
use Rattle.storage_merkle.proofs.Walks.{fits_within}
use Rattle.storage_merkle.proofs.merkle.mem.nodes.peaks_over.Goals as goal

pub position-highest-requires-clause-aligned : goal.position-highest-requires-clause-aligned
position-highest-requires-clause-aligned g c =
    let s = step g.F.Family.shape g.met.F.Family.laws 0 c.args.leaves c.first_peak.result
    (omega (arith, c.requires.few)) (g.met.F.Family.laws.aligned c.args.leaves) c.first_peak.ensures.first in
    s.aligned

pub position-highest-requires-clause-fits : goal.position-highest-requires-clause-fits
position-highest-requires-clause-fits g c =
    let s = step g.F.Family.shape g.met.F.Family.laws 0 c.args.leaves c.first_peak.result
    (omega (arith, c.requires.few)) (g.met.F.Family.laws.aligned c.args.leaves) c.first_peak.ensures.first in
    s.fits

pub unwrap-digests-requires : goal.unwrap-digests-requires
unwrap-digests-requires g c =
    let S = g.F.Family.shape in
    let L = g.met.F.Family.laws in
    let i = first_kept S L c.args.boundary c.args.leaves (length c.args.nodes.now + size S c.args.boundary)
    c.first_peak.result c.requires.order c.requires.there c.first_peak.ensures.first in
    let d = kept_some_at S L c.args.boundary (length c.args.nodes.now + size S c.args.boundary) 0 c.first_peak.result
    c.position-highest.result (map g.D.Digest.text c.args.pinned.now) (map g.D.Digest.text c.args.nodes.now)
    c.position-highest.ensures i (rw length-map refl) (rw length-map c.requires.pins) in
    found g.D.Digest.text c.look_up.result _ d.0 (seen g.D.Digest.text g.F.Family.shape c.args.boundary c.args.pinned.now
    c.args.nodes.now _ _ c.look_up.ensures) d.1

pub loop-first-init : goal.loop-first-init
loop-first-init g c =
    let S = g.F.Family.shape in
    let at = c.into_iter-first-iterator.ensures.into_iter_gives ∙ c.over-first-items.ensures in
    record {
      peaks = subst (EachPeak (IsPeak (S.peaks c.args.leaves) 0)) (sym at)
          (each_of (IsPeak (S.peaks c.args.leaves) 0) 0 (S.peaks c.args.leaves) (λ a k i. i));
      room = refl;
      count = omega (arith, ap length at, length_places 0 (S.peaks c.args.leaves));
      digests = λ node held. ap (digests_of node) at;
    }

pub position-requires-clause-aligned : goal.position-requires-clause-aligned
position-requires-clause-aligned g c = c.in-Some.ensures.steps.1.aligned

pub position-requires-clause-fits : goal.position-requires-clause-fits
position-requires-clause-fits g c = fits_within g.F.Family.shape g.met.F.Family.laws _ _
    c.in-Some.ensures.steps.1.aligned c.in-Some.ensures.steps.1.fits

pub unwrap-requires : goal.unwrap-requires
unwrap-requires g c =
    let S = g.F.Family.shape in
    let L = g.met.F.Family.laws in
    let steps = c.in-Some.ensures.steps in
    let peak = subst (EachPeak (IsPeak (S.peaks c.args.leaves) 0)) steps.0 c.loop-first.invariant.peaks in
    let i = peak_kept S L c.args.boundary c.args.leaves (length c.args.nodes.now + size S c.args.boundary) _ _
    c.requires.order c.requires.there steps.1.aligned peak.0 in
    let d = kept_some_at S L c.args.boundary (length c.args.nodes.now + size S c.args.boundary) _ _ c.position.result
    (map g.D.Digest.text c.args.pinned.now) (map g.D.Digest.text c.args.nodes.now) c.position.ensures i
    (rw length-map refl) (rw length-map c.requires.pins) in
    found g.D.Digest.text c.look_up-in-loop-first.result _ d.0 (seen g.D.Digest.text g.F.Family.shape c.args.boundary
    c.args.pinned.now c.args.nodes.now _ _ c.look_up-in-loop-first.ensures) d.1

pub loop-first-preserved : goal.loop-first-preserved
loop-first-preserved g c =
    let S = g.F.Family.shape in
    let L = g.met.F.Family.laws in
    let f = g.D.Digest.text in
    let steps = c.in-Some.ensures.steps in
    let peak = subst (EachPeak (IsPeak (S.peaks c.args.leaves) 0)) steps.0 c.loop-first.invariant.peaks in
    let i = peak_kept S L c.args.boundary c.args.leaves (length c.args.nodes.now + size S c.args.boundary) _ _
    c.requires.order c.requires.there steps.1.aligned peak.0 in
    let few = L.few c.args.leaves c.requires.few in
    let more = ap length steps.0 in
    record {
      peaks = peak.1;
      room = rw length-set c.loop-first.invariant.room;
      count = omega (arith, c.loop-first.invariant.count);
      digests = λ node held.
          walk_more node f c.loop-first.digests c.loop-first.count _ _ _ c.unwrap.result _ steps.0
          (c.loop-first.invariant.digests node held) (omega (arith, c.loop-first.invariant.count, c.loop-first.invariant.room))
          (value_of f c.look_up-in-loop-first.result _ _ _ (seen g.D.Digest.text g.F.Family.shape c.args.boundary
          c.args.pinned.now c.args.nodes.now _ _ c.look_up-in-loop-first.ensures) c.unwrap.ensures (rw
          c.position.ensures (kept_is S L node [] c.args.boundary (length c.args.nodes.now + size S c.args.boundary)
          _ _ (map f c.args.pinned.now) (map f c.args.nodes.now) i (rw length-map refl) held (clean_none _ _))));
    }

pub returns-clause-count : goal.returns-clause-count
returns-clause-count g c = omega (arith, c.loop-first.invariant.count, ap length c.in-None.ensures.steps.0)

pub returns-clause-digests : goal.returns-clause-digests
returns-clause-digests g c node h =
    none_left (digests_of node) _ _ _ refl c.in-None.ensures.steps.0 (c.loop-first.invariant.digests node h)
