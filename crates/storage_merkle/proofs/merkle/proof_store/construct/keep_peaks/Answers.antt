use Rattle.std.proofs.Common.{◌<◌, ◌-◌, ◌∷◌, ◌++◌, length, map, take, drop, rules, arith, sym, ap, subst, refl, ◌∙◌}
use Rattle.std.proofs.lemmas.List.{length-drop}
use Rattle.storage_merkle.specs.Calc.{back}
use Rattle.storage_merkle.specs.CheckParts.{top_sites}
use Rattle.storage_merkle.specs.Extracted.{by_bytes}
use Rattle.storage_merkle.specs.Rests.{peaks_from}
use Rattle.storage_merkle.specs.StoreParts.{back_among}
use Rattle.storage_merkle.proofs.Store.Reads.{Reads, peak_entries, reads_all, reads_peak, reads_fold, reads_end, all_but_first}
use Rattle.storage_merkle.proofs.Walked.{PastIsLast, counts_met, met_site, met_sites, past_is_last}
use Rattle.storage_merkle.proofs.merkle.proof_store.construct.keep_peaks.Goals as goal

pub loop-top-init : goal.loop-top-init
loop-top-init g c =
    let S = g.F.Family.shape in
    let text = g.D.Digest.text in
    let r = c.args.rest in
    let tops = top_sites c.args.start c.args.end (peaks_from S r.first r.left) r.folded in
    let at = c.into_iter-top-iterator.ensures.into_iter_gives ∙ c.apart-top-items.ensures in
    record {
      last = subst PastIsLast (sym at) (past_is_last c.args.start c.args.end (peaks_from S r.first r.left) r.folded);
      enough = omega (
        arith,
        ap length at,
        counts_met c.args.start c.args.end (peaks_from S r.first r.left) r.folded,
        c.requires.enough,
      );
      reads = λ digest later e. subst (λ ss. Reads S digest later (map text c.args.digests.now)
          (by_bytes text c.args.kept.now.items)
          (by_bytes text c.args.kept.now.items ++ peak_entries S digest later tops) ss (back_among digest tops))
          (sym (ap (map met_site) at ∙ met_sites c.args.start c.args.end (peaks_from S r.first r.left) r.folded))
          (reads_all S digest later _ _ tops e);
    }

pub node_position-requires-clause-aligned : goal.node_position-requires-clause-aligned
node_position-requires-clause-aligned g c = (rw c.in-One.is at c.in-Some.ensures.steps.1).aligned

pub node_position-requires-clause-within : goal.node_position-requires-clause-within
node_position-requires-clause-within g c = (rw c.in-One.is at c.in-Some.ensures.steps.1).fits

pub bounds-digests-0 : goal.bounds-digests-0
bounds-digests-0 g c =
    let some : 0 < length c.loop-top.digests.now =
    omega (arith, ap length c.in-Some.ensures.steps.0, c.loop-top.invariant.enough) in
    search rules

pub returns-in-Past : goal.returns-in-Past
returns-in-Past g c = λ digest later e.
    let steps = rw c.in-Past.is at c.in-Some.ensures.steps.0 in
    let last = subst PastIsLast steps c.loop-top.invariant.last in
    reads_fold g.F.Family.shape digest later g.D.Digest.text c.loop-top.digests.now c.loop-top.kept.items _ _ _
    (c.loop-top.invariant.reads digest later e) _ (ap (map met_site) steps ∙ ap (λ ms. back ∷ map met_site ms) last)
    c.index-digests-0-in-Past.is

pub loop-top-preserved : goal.loop-top-preserved
loop-top-preserved g c =
    let S = g.F.Family.shape in
    let steps = rw c.in-One.is at c.in-Some.ensures.steps.0 in
    let ds = c.loop-top.digests.now in
    let left = all_but_first ds (take (length ds - 1) (drop 1 ds)) (length ds - 1) refl (omega arith) in
    record {
      last = subst PastIsLast steps c.loop-top.invariant.last;
      enough = omega (
        arith,
        ap length steps,
        ap length left,
        length-drop 1 c.loop-top.digests.now,
        c.loop-top.invariant.enough,
      );
      reads = λ digest later e. reads_peak S digest later g.D.Digest.text c.loop-top.digests.now c.loop-top.kept.items _
          _ _ (c.loop-top.invariant.reads digest later e) _ _ c.node_position.result _ _ _ c.index-digests-0.result
          (ap (map met_site) steps) c.node_position.ensures left c.index-digests-0.is c.in_ok-push-in-One.ensures.items;
    }

pub returns : goal.returns
returns g c = λ digest later e. reads_end g.F.Family.shape digest later g.D.Digest.text _ c.loop-top.kept.items _ _ _
    (c.loop-top.invariant.reads digest later e) (ap (map met_site) c.in-None.ensures.steps.0)
