use Rattle.std.proofs.Common.{◌≡◌, ◌∙◌, ◌++◌, map, take, drop, subst, sym, ap, ap₂, length, ℕ, List}
use Rattle.storage_merkle.specs.Rests.{peaks_from, AreFolded, AreAfterLeading}
use Rattle.storage_merkle.specs.Plans.{PlanOf, planned}
use Rattle.storage_merkle.specs.PlanParts.{AreOf, AreInOrder, ArePlannedApart, peaks_by, site_digest}
use Rattle.storage_merkle.specs.CheckParts.{top_sites}
use Rattle.storage_merkle.specs.Hashers.{forward_of}
use Rattle.storage_merkle.specs.RangeProofs.{leading, trailing, sites}
use Rattle.storage_merkle.specs.Trees.{ungrafted, Peak, folded, unfolded}
use Rattle.storage_merkle.proofs.Check.Roots.{after_all}
use Rattle.storage_merkle.proofs.Plan.Among.{peaks_planned, siblings_planned, planned_in_order, proof_digests}
use Rattle.storage_merkle.proofs.Plan.Tops.{front_planned, rest_planned}
use Rattle.storage_merkle.proofs.merkle.plan.RangePlan.digests.Given.{Over}
use Rattle.storage_merkle.proofs.merkle.plan.RangePlan.digests.Goals as goal
use Rattle.storage_merkle.proofs.merkle.plan.RangePlan.digests.Goals.{After-all-peaks}

module _ (g : Over) (c : After-all-peaks g) where
  in_order : AreInOrder c.deref.result.now c.args.answered.now
  in_order =
      let S = g.F.Family.shape in
      let many = subst (λ (p : PlanOf). length c.args.answered.now ≡ length (planned S p.leaves p.start p.end))
      (sym c.self.view_is) c.requires in
      planned_in_order S c.self.inside.leaves c.self.inside.start c.self.inside.end c.deref.result.now
      c.args.answered.now (c.deref.ensures.value ∙ c.self.invariant.positions_are) many

  all_planned : ArePlannedApart g.F.Family.shape c.self.inside.start c.self.inside.end c.deref.result.now
      (peaks_from g.F.Family.shape c.all-peaks.result.first c.all-peaks.result.left)
  all_planned = rw (
    c.all-peaks.ensures.first,
    c.all-peaks.ensures.left,
    c.as_u64.ensures,
    c.deref.ensures.value,
    c.self.invariant.positions_are,
  ) (peaks_planned g.F.Family.shape c.self.inside.leaves c.self.inside.start c.self.inside.end)

pub fold_leading-requires-clause-order : goal.fold_leading-requires-clause-order
fold_leading-requires-clause-order g c = in_order g (goal.at.fold_leading-requires-clause-order g c).After-all-peaks

pub fold_leading-requires-clause-planned : goal.fold_leading-requires-clause-planned
fold_leading-requires-clause-planned g c = rw c.as_u64-start.ensures (front_planned g.F.Family.shape
    c.self.inside.start c.self.inside.end c.deref.result.now c.all-peaks.result.first c.all-peaks.result.left
    c.all-peaks.result.folded (all_planned g (goal.at.fold_leading-requires-clause-planned g c).After-all-peaks))

pub add_peaks-requires-clause-order : goal.add_peaks-requires-clause-order
add_peaks-requires-clause-order g c = in_order g (goal.at.add_peaks-requires-clause-order g c).After-all-peaks

pub add_peaks-requires-clause-planned : goal.add_peaks-requires-clause-planned
add_peaks-requires-clause-planned g c =
    let r = c.after_leading-rest.result in
    let all = c.all-peaks.result in
    rw (c.as_u64-start.ensures, c.as_u64-2.ensures)
    (rest_planned g.F.Family.shape c.self.inside.start c.self.inside.end c.deref.result.now all.first all.left
    all.folded r.first r.left r.folded (rw c.as_u64-start.ensures at c.after_leading-rest.ensures.after)
    (all_planned g (goal.at.add_peaks-requires-clause-planned g c).After-all-peaks))

pub add_all-requires-clause-order : goal.add_all-requires-clause-order
add_all-requires-clause-order g c = in_order g (goal.at.add_all-requires-clause-order g c).After-all-peaks

pub add_all-requires-clause-among : goal.add_all-requires-clause-among
add_all-requires-clause-among g c =
    rw (c.deref.ensures.value, c.deref-2.ensures.value, c.self.invariant.positions_are, c.self.invariant.siblings_are)
    (siblings_planned g.F.Family.shape c.self.inside.leaves c.self.inside.start c.self.inside.end)

pub returns : goal.returns
returns g c =
    let S = g.F.Family.shape in
    let T = ungrafted S in
    let h = g.H.Hasher.hash_of in
    let b = g.H.Hasher.bagging c.args.hasher.now in
    let i = c.args.inactive in
    let p = c.self.inside in
    let text = g.H.Digest.Digest.text in
    let all = c.all-peaks.result in
    let f = all.folded in
    let r = c.after_leading-rest.result in
    let parts : AreFolded S b i p.leaves f =
    subst (λ m. AreFolded S b i m f) c.as_u64.ensures c.all-peaks.ensures.folded in
    let left = c.all-peaks.ensures.left ∙ c.as_u64.ensures in
    let after : AreAfterLeading S p.start 0 p.leaves f r.first r.left r.folded =
    subst (λ z. AreAfterLeading S z 0 p.leaves f r.first r.left r.folded) c.as_u64-start.ensures
    (after_all S c.as_u64-start.result p.leaves f all.first all.left r.first r.left r.folded c.all-peaks.ensures.first
    left c.after_leading-rest.ensures.after) in
    let same : c.deref.result.now ≡ planned S p.leaves p.start p.end =
    c.deref.ensures.value ∙ c.self.invariant.positions_are in
    let Adds : (ℕ → ℕ → List ℕ) → ℕ → ℕ → Type 0 = λ digest_of low high. (xs ys : List Peak)
    → trailing high (drop r.folded (peaks_from S r.first r.left)) ≡ trailing high ys
    → map text c.add_peaks.new.digests.items ≡ map text c.push_some.new.digests.items ++ map
    (site_digest low high xs ys h digest_of) (top_sites low high (peaks_from S r.first r.left) r.folded) in
    subst (λ (p : PlanOf). (digest_of : ℕ → ℕ → List ℕ)
    → AreOf text S (planned S p.leaves p.start p.end) c.args.answered.now digest_of
    → map text c.add_all.new.digests.items ≡ map (site_digest p.start p.end (folded b i (peaks_from S 0 p.leaves))
    (unfolded b i (peaks_from S 0 p.leaves)) h digest_of) (sites T p.start p.end b p.leaves i)) c.self.view_is
    (λ digest_of are.
    let of : AreOf text S c.deref.result.now c.args.answered.now digest_of =
    subst (λ (ps : List ℕ). AreOf text S ps c.args.answered.now digest_of) (sym same) are in
    let front = c.fold_leading.ensures digest_of of
    ∙ ap (λ z. forward_of h (peaks_by digest_of (leading z (take f (peaks_from S all.first all.left)))))
    c.as_u64-start.ensures
    ∙ ap₂ (λ a m. forward_of h (peaks_by digest_of (leading p.start (take f (peaks_from S a m)))))
    c.all-peaks.ensures.first left in
    let adds : Adds digest_of p.start p.end = subst (Adds digest_of p.start) c.as_u64-2.ensures
    (subst (λ z. Adds digest_of z c.as_u64-2.result) c.as_u64-start.ensures
    (λ xs ys late. c.in_ok-add_peaks.ensures digest_of xs ys of late)) in
    proof_digests text S g.met.F.Family.laws h digest_of b i p.leaves p.start p.end f r.first r.left r.folded
    c.self.invariant.some parts after c.deref.result.now c.deref-2.result.now c.args.answered.now
    c.in_ok-digests.digests.items c.push_some.new.digests.items c.add_peaks.new.digests.items
    c.add_all.new.digests.items c.fold_leading.result same (c.deref-2.ensures.value ∙ c.self.invariant.siblings_are)
    c.in_ok-digests.ensures.items of front c.in_ok-push_some.ensures adds c.in_ok-add_all.ensures.0
    c.in_ok-add_all.ensures.1 c.in_ok-add_all.ensures.2)
