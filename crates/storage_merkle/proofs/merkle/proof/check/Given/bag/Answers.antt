use Rattle.std.proofs.Common.{ℕ, List, map, option_map, length, ap, refl, inl, inr, ◌<◌, ◌≤◌, ◌⊎◌, ◌∙◌, arith}
use Rattle.storage_merkle.specs.Calc.{Site, Values, back, eval}
use Rattle.storage_merkle.specs.CheckParts.{given_values}
use Rattle.storage_merkle.specs.RangeProofs.{apart}
use Rattle.storage_merkle.specs.Trees.{part}
use Rattle.storage_merkle.proofs.Walks.{peak_in_tree, peaks_next}
use Rattle.storage_merkle.proofs.Check.Tops.{first_and_others, present_first, present_others, some_top, tops_left, top_here, tops_after, bag_step, bag_none, bag_some, tops_unfolded}
use Rattle.storage_merkle.proofs.Found.{keeps_on, found_first}
use Rattle.storage_merkle.proofs.merkle.proof.check.Given.bag.Goals.{then-loop-rest-test+else-rest-gt0-2, else-loop-rest-test}
use Rattle.std.proofs.lemmas.Grind.{common_steps}
use Rattle.storage_merkle.proofs.merkle.proof.check.Given.bag.Goals as goal

pub item-requires-clause-within : goal.item-requires-clause-within
item-requires-clause-within g c = peak_in_tree _ g.met.F.Family.laws _ _ _ _ c.requires.given.few
    c.loop-rest.invariant.peaks c.first_peak-height.ensures.first

pub item-requires-clause-present : goal.item-requires-clause-present
item-requires-clause-present g c =
    let self = c.args.self.now in
    let r = c.loop-rest.rest in
    present_first g.F.Family.shape self.start self.end r.first r.left r.folded _ _ _ _ c.first_peak-height.ensures.first
    refl refl refl self.siblings.now c.loop-rest.invariant.present

pub item-requires-clause-tops : goal.item-requires-clause-tops
item-requires-clause-tops g c =
    let self = c.args.self.now in
    let r = c.loop-rest.rest in
    some_top g.F.Family.shape self.start self.end r.first r.left r.folded _ _ _ _ c.first_peak-height.ensures.first refl
    refl refl (inl c.if-rest-gt0-2.true) c.loop-rest.tops.now c.loop-rest.invariant.count

pub loop-rest-preserved : goal.loop-rest-preserved
loop-rest-preserved g c =
    let S = g.F.Family.shape in
    let self = c.args.self.now in
    let r = c.loop-rest.rest in
    let n = c.next-rest.ensures in
    let first = c.first_peak-height.ensures.first in
    let h = g.H.Hasher.hash_of in
    let T = g.H.Hasher.layout c.args.hasher.now in
    let values : (Site → List ℕ) → Values = λ digest. given_values digest self.start
    (map g.E.AsSlice.items self.elements.now) (g.H.Hasher.chunk c.args.hasher.now) in
    let some : (0 < r.folded) ⊎ ((r.folded ≤ 0) × (r.first < self.end)) = inl c.if-rest-gt0-2.true in
    record {
      peaks = rw (n.first, n.left)
          (peaks_next _ g.met.F.Family.laws _ _ _ _ c.requires.given.few c.loop-rest.invariant.peaks first);
      present = present_others S self.start self.end r.first r.left r.folded _ _ _ _ first n.first n.left n.folded _
          c.loop-rest.invariant.present;
      count = tops_left S self.start self.end r.first r.left r.folded _ _ _ _ first n.first n.left n.folded some
          c.loop-rest.tops.now c.in_ok-item.after.now c.loop-rest.invariant.count c.in_ok-item.ensures.left;
      exact = λ digest serves is.
          let invariant = c.loop-rest.invariant.exact digest serves is in
          let item = c.in_ok-item.ensures.exact digest _ serves (top_here S self.start self.end r.first r.left r.folded
          _ _ _ _ first n.first n.left n.folded some g.D.Digest.text digest c.loop-rest.tops.now invariant.0) in (
            tops_after S self.start self.end r.first r.left r.folded _ _ _ _ first n.first n.left n.folded some
                g.D.Digest.text digest c.loop-rest.tops.now c.in_ok-item.after.now invariant.0 c.in_ok-item.ensures.left,
            bag_step S h (λ p. eval h (values digest) (part T (apart self.start self.end) p)) (digest back) self.end r.first
                r.left r.folded _ _ _ _ first n.first n.left n.folded c.if-rest-gt0-2.true
                (option_map g.D.Digest.text c.loop-rest.folded) _ _ item.0 c.append.ensures ∙ invariant.1,
            keeps_on _ c.loop-rest.found c.item.new.found _ _ _ _ (found_first h T self.start self.end (values digest) _
                r.first _ _
                (first_and_others S self.start self.end r.first r.left r.folded _ _ _ _ first n.first n.left n.folded))
                item.1 invariant.2,
          );
    }

pub fold_right-requires-clause-tops : goal.fold_right-requires-clause-tops
fold_right-requires-clause-tops g c =
    let over : (c.loop-rest.rest.left ≤ 0) ⊎ (c.loop-rest.rest.folded ≤ 0) = elim c.loop-rest-test.branch [
      | then-loop-rest-test+else-rest-gt0-2 w ↦ inr w.if-rest-gt0-2.false
      | else-loop-rest-test w ↦ inl w.loop-rest-test.false
    ] in
    let r = c.loop-rest.rest in
    c.loop-rest.invariant.count ∙ ap length (tops_unfolded g.F.Family.shape g.met.F.Family.laws c.args.self.now.start
    c.args.self.now.end r.first r.left r.folded over)

pub returns-in-None : goal.returns-in-None
returns-in-None g c = λ digest serves is.
    let over : (c.loop-rest.rest.left ≤ 0) ⊎ (c.loop-rest.rest.folded ≤ 0) = elim c.loop-rest-test.branch [
      | then-loop-rest-test+else-rest-gt0-2 w ↦ inr w.if-rest-gt0-2.false
      | else-loop-rest-test w ↦ inl w.loop-rest-test.false
    ] in
    let r = c.loop-rest.rest in
    let invariant = c.loop-rest.invariant.exact digest serves is in
    let onto = c.in_ok-onto.ensures digest serves
    (invariant.0 ∙ ap (map digest) (tops_unfolded g.F.Family.shape g.met.F.Family.laws
    c.args.self.now.start c.args.self.now.end r.first r.left r.folded over)) in (
      bag_none g.F.Family.shape g.met.F.Family.laws g.H.Hasher.hash_of _ (digest back) c.args.self.now.end r.first r.left r.folded over g.D.Digest.text c.loop-rest.folded _ _ onto.0 invariant.1
          c.in-None.is,
      onto.1 ∙ invariant.2,
    )

pub returns-in-Some : goal.returns-in-Some
returns-in-Some g c = λ digest serves is.
    let over : (c.loop-rest.rest.left ≤ 0) ⊎ (c.loop-rest.rest.folded ≤ 0) = elim c.loop-rest-test.branch [
      | then-loop-rest-test+else-rest-gt0-2 w ↦ inr w.if-rest-gt0-2.false
      | else-loop-rest-test w ↦ inl w.loop-rest-test.false
    ] in
    let r = c.loop-rest.rest in
    let invariant = c.loop-rest.invariant.exact digest serves is in
    let onto = c.in_ok-onto.ensures digest serves
    (invariant.0 ∙ ap (map digest) (tops_unfolded g.F.Family.shape g.met.F.Family.laws
    c.args.self.now.start c.args.self.now.end r.first r.left r.folded over)) in (
      bag_some g.F.Family.shape g.met.F.Family.laws g.H.Hasher.hash_of _ (digest back) c.args.self.now.end r.first r.left r.folded over g.D.Digest.text c.loop-rest.folded _ _ onto.0 invariant.1
          c.in-Some.folded _ c.in-Some.is c.join.ensures,
      onto.1 ∙ invariant.2,
    )

pub loop-rest-init : goal.loop-rest-init
loop-rest-init g c = grind (arith, common_steps)
