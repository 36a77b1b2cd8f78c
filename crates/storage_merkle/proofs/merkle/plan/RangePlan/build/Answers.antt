use Rattle.std.proofs.Common.{◌≡◌, ◌∙◌, ap, map, refl, sym, subst, length, ℕ, List, Option, Some}
use Rattle.std.specs.List.{AllZip}
use Rattle.storage_merkle.specs.Plans.{PlanOf, planned}
use Rattle.storage_merkle.specs.Trees.{tree_node}
use Rattle.storage_merkle.proofs.Plan.Own.{are_of, are_of_any, as_many, each_answered, is_own, is_gathered}
use Rattle.storage_merkle.proofs.merkle.plan.RangePlan.build.Goals as goal

pub digests-requires : goal.digests-requires
digests-requires g c =
    let same : c.deref.result.now
    ≡ planned g.F.Family.shape c.args.self.now.leaves c.args.self.now.start c.args.self.now.end =
    subst (λ (p : PlanOf). c.deref.result.now ≡ planned g.F.Family.shape p.leaves p.start p.end) c.self.view_is
    (c.deref.ensures.value ∙ c.self.invariant.positions_are) in
    ap length c.deref-2.ensures.value ∙ as_many _ c.deref.result.now c.in-Ok.answered.items c.in-Ok.ensures.served
    ∙ ap length same

pub returns-clause-own : goal.returns-clause-own
returns-clause-own g c = λ T content shapes many are.
    let S = g.F.Family.shape in
    let h = g.H.Hasher.hash_of in
    let p = c.args.self.now in
    let A : ℕ → Option g.row.H-Digest.Denot → Type 0 = λ q a. g.G.Fn.post c.args.get_node (q, tt) a in
    let same : c.deref.result.now ≡ planned S p.leaves p.start p.end = subst (λ (q : PlanOf). c.deref.result.now
    ≡ planned S q.leaves q.start q.end) c.self.view_is (c.deref.ensures.value ∙ c.self.invariant.positions_are) in
    let served : AllZip (λ q d. A q (Some d)) (planned S p.leaves p.start p.end) c.deref-2.result.now =
    subst (λ (ps : List ℕ). AllZip (λ q d. A q (Some d)) ps c.deref-2.result.now) same
    (subst (λ (ds : List g.row.H-Digest.Denot). AllZip (λ q d. A q (Some d)) c.deref.result.now ds)
    (sym c.deref-2.ensures.value) c.in-Ok.ensures.served) in
    let of = are_of g.H.Digest.Digest.text A h S T content shapes
    (planned S p.leaves p.start p.end) c.deref-2.result.now served are in
    is_own h S T shapes (g.H.Hasher.bagging c.args.hasher.now) content p.leaves c.args.inactive p.start p.end
    c.self.inside.leaves c.args.inactive (map g.H.Digest.Digest.text c.in_ok-digests.field-0.items) many
    (ap (λ (q : PlanOf). q.leaves) c.self.view_is) refl (c.in_ok-digests.ensures (tree_node h T content) of)

pub returns-clause-gathered : goal.returns-clause-gathered
returns-clause-gathered g c = λ digest_of are.
    let S = g.F.Family.shape in
    let p = c.args.self.now in
    let A : ℕ → Option g.row.H-Digest.Denot → Type 0 = λ q a. g.G.Fn.post c.args.get_node (q, tt) a in
    let same : c.deref.result.now ≡ planned S p.leaves p.start p.end = subst (λ (q : PlanOf). c.deref.result.now
    ≡ planned S q.leaves q.start q.end) c.self.view_is (c.deref.ensures.value ∙ c.self.invariant.positions_are) in
    let served : AllZip (λ q d. A q (Some d)) (planned S p.leaves p.start p.end) c.deref-2.result.now =
    subst (λ (ps : List ℕ). AllZip (λ q d. A q (Some d)) ps c.deref-2.result.now) same
    (subst (λ (ds : List g.row.H-Digest.Denot). AllZip (λ q d. A q (Some d)) c.deref.result.now ds)
    (sym c.deref-2.ensures.value) c.in-Ok.ensures.served) in
    let of = are_of_any g.H.Digest.Digest.text A S digest_of
    (planned S p.leaves p.start p.end) c.deref-2.result.now served are in
    is_gathered g.H.Hasher.hash_of S (g.H.Hasher.bagging c.args.hasher.now) digest_of p c.args.inactive
    c.self.inside.leaves c.args.inactive (map g.H.Digest.Digest.text c.in_ok-digests.field-0.items)
    (ap (λ (q : PlanOf). q.leaves) c.self.view_is) refl (c.in_ok-digests.ensures digest_of of)

pub returns-clause-answered : goal.returns-clause-answered
returns-clause-answered g c =
    let S = g.F.Family.shape in
    let p = c.args.self.now in
    let A : ℕ → Option g.row.H-Digest.Denot → Type 0 = λ q a. g.G.Fn.post c.args.get_node (q, tt) a in
    let same : c.deref.result.now ≡ planned S p.leaves p.start p.end = subst (λ (q : PlanOf). c.deref.result.now
    ≡ planned S q.leaves q.start q.end) c.self.view_is (c.deref.ensures.value ∙ c.self.invariant.positions_are) in
    each_answered (λ q d. A q (Some d)) (planned S p.leaves p.start p.end) c.in-Ok.answered.items
    (subst (λ (ps : List ℕ). AllZip (λ q d. A q (Some d)) ps c.in-Ok.answered.items) same c.in-Ok.ensures.served)
