use Rattle.std.proofs.Common.{rules, arith, Some, map, length, inr, refl, ap, ◌<◌, ◌≤◌, ◌⊎◌, ◌^◌, ◌∙◌}
use Rattle.std.proofs.lemmas.Nat.{pow_pos}
use Rattle.storage_merkle.specs.Calc.{Values, back, eval}
use Rattle.storage_merkle.specs.CheckParts.{given_values}
use Rattle.storage_merkle.specs.Plans.{ArePeaks}
use Rattle.storage_merkle.specs.RangeProofs.{apart}
use Rattle.storage_merkle.specs.Trees.{part}
use Rattle.storage_merkle.proofs.Walks.{peak_in_tree, peaks_next}
use Rattle.storage_merkle.proofs.Check.Nodes.{first_of}
use Rattle.storage_merkle.proofs.Check.Tops.{first_and_others, tops_fold, present_first, present_others, some_top, tops_left, top_here, tops_after, right_step, right_end, right_fold}
use Rattle.storage_merkle.specs.Laws.Shape.{no_peaks}
use Rattle.storage_merkle.proofs.Found.{adds_nothing, adds_then, found_none, found_past, found_first}
use Rattle.storage_merkle.proofs.merkle.proof.check.Given.+fold_right.Goals as goal

pub returns-then-rest-eq0 : goal.returns-then-rest-eq0
returns-then-rest-eq0 g t c = λ digest serves is.
    let self = c.args.self.now in
    let r = c.args.rest in
    let L = g.met.F.Family.laws in
    let v = given_values digest self.start (map g.E.AsSlice.items self.elements.now)
    (g.H.Hasher.chunk c.args.hasher.now) in (
      right_end g.F.Family.shape L g.H.Hasher.hash_of _ (digest back) self.end r.first r.left c.if-rest-eq0.true,
      adds_nothing _ c.args.found.now _ (found_none g.H.Hasher.hash_of (g.H.Hasher.layout c.args.hasher.now) self.start
          self.end v g.F.Family.shape (no_peaks g.F.Family.shape L) r.first r.left (omega arith)),
    )

pub bounds-tops-0 : goal.bounds-tops-0
bounds-tops-0 g t c =
    let fold = tops_fold g.F.Family.shape c.args.self.now.start c.args.self.now.end g.met.F.Family.laws
    c.args.rest.first c.args.rest.left 0 (omega arith) (omega arith) c.if-self-rest.true in
    let some : 0 < length c.args.tops.now = omega (arith, c.requires.tops, ap length fold) in
    search rules

pub returns-then-self-rest : goal.returns-then-self-rest
returns-then-self-rest g t c = λ digest serves is.
    let self = c.args.self.now in
    let r = c.args.rest in
    let L = g.met.F.Family.laws in
    let v = given_values digest self.start (map g.E.AsSlice.items self.elements.now)
    (g.H.Hasher.chunk c.args.hasher.now) in
    let fold = tops_fold g.F.Family.shape self.start self.end L r.first r.left 0 (omega arith) (omega arith)
    c.if-self-rest.true in (
      right_fold g.F.Family.shape L g.H.Hasher.hash_of _ (digest back) self.end r.first r.left (omega arith)
          c.if-self-rest.true _ (first_of g.D.Digest.text c.args.tops.now c.index-tops-0.result (digest back) _
          c.index-tops-0.is (is ∙ ap (map digest) fold)),
      adds_nothing _ c.args.found.now _ (found_past g.H.Hasher.hash_of (g.H.Hasher.layout c.args.hasher.now) self.start
          self.end v g.F.Family.shape r.first r.left c.if-self-rest.true),
    )

pub item-requires-clause-within : goal.item-requires-clause-within
item-requires-clause-within g t c = peak_in_tree _ g.met.F.Family.laws _ _ _ _ c.requires.given.few c.requires.peaks
    c.first_peak-height.ensures.first

pub item-requires-clause-present : goal.item-requires-clause-present
item-requires-clause-present g t c =
    let self = c.args.self.now in
    let r = c.args.rest in
    present_first g.F.Family.shape self.start self.end r.first r.left 0 _ _ _ _ c.first_peak-height.ensures.first refl
    refl refl self.siblings.now c.requires.present

pub item-requires-clause-tops : goal.item-requires-clause-tops
item-requires-clause-tops g t c =
    let self = c.args.self.now in
    let r = c.args.rest in
    some_top g.F.Family.shape self.start self.end r.first r.left 0 _ _ _ _ c.first_peak-height.ensures.first refl refl
    refl (inr (omega arith, c.if-self-rest.false)) c.args.tops.now c.requires.tops

pub fold_right-requires : goal.fold_right-requires
fold_right-requires g t c κs within =
    let S = g.F.Family.shape in
    let self = c.args.self.now in
    let r = c.args.rest in
    let n = c.next.ensures in
    let first = c.first_peak-height.ensures.first in
    let some : 0 < 2 ^ c.first_peak-height.result = pow_pos c.first_peak-height.result in
    let q : ArePeaks S self.leaves c.next.result.first c.next.result.left = rw (n.first, n.left)
    (peaks_next S g.met.F.Family.laws self.leaves r.first r.left _ c.requires.given.few c.requires.peaks first) in
    let less : c.next.result.left < r.left = omega (arith, n.left, c.first_peak-height.ensures.within) in
    let others = present_others S self.start self.end r.first r.left 0 c.first_peak-height.result _ _ 0 first n.first
    n.left refl self.siblings.now c.requires.present in
    let left = tops_left S self.start self.end r.first r.left 0 c.first_peak-height.result _ _ 0 first n.first n.left
    refl (inr (omega arith, c.if-self-rest.false)) c.args.tops.now c.in_ok-item.tops.now c.requires.tops
    c.in_ok-item.ensures.left in
    search rules

pub returns : goal.returns
returns g t c = λ digest serves is.
    let S = g.F.Family.shape in
    let self = c.args.self.now in
    let r = c.args.rest in
    let n = c.next.ensures in
    let k = c.first_peak-height.result in
    let first = c.first_peak-height.ensures.first in
    let v : Values = given_values digest self.start (map g.E.AsSlice.items self.elements.now)
    (g.H.Hasher.chunk c.args.hasher.now) in
    let begins : (0 < 0) ⊎ ((0 ≤ 0) × (r.first < self.end)) = inr (omega arith, c.if-self-rest.false) in
    let item = c.in_ok-item.ensures.exact digest _ serves (top_here S self.start self.end r.first r.left 0 k _ _ 0 first
    n.first n.left refl begins g.D.Digest.text digest c.args.tops.now is) in
    let onto = c.in_ok-onto.ensures digest serves (tops_after S self.start self.end r.first r.left 0 k _ _ 0 first
    n.first n.left refl begins g.D.Digest.text digest c.args.tops.now c.in_ok-item.tops.now is
    c.in_ok-item.ensures.left) in
    let opened = first_and_others S self.start self.end r.first r.left 0 k _ _ 0 first n.first n.left refl in (
      ap (λ x. Some x) c.join.ensures ∙ right_step S self.start self.end r.first r.left 0 k _ _ 0 first n.first n.left
          refl g.H.Hasher.hash_of (λ p. eval g.H.Hasher.hash_of v
          (part (g.H.Hasher.layout c.args.hasher.now) (apart self.start self.end) p)) (digest back) _ _
          c.if-self-rest.false item.0 onto.0,
      adds_then _ c.args.found.now c.item.new.found c.fold_right.new.found _ _ _ (found_first g.H.Hasher.hash_of
          (g.H.Hasher.layout c.args.hasher.now) self.start self.end v k r.first _ _ opened) item.1 onto.1,
    )
