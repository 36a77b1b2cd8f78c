use Rattle.std.proofs.Common.{◌≡◌, inr, ap, ◌∙◌, subst, length, Some, arith}
use Rattle.std.proofs.lemmas.Result.{IfOk-weaker, IfErr-weaker}
use Rattle.storage_merkle.specs.declared.merkle.error.Error.TheVariants.{Memory}
use Rattle.storage_merkle.specs.Kept.{Kept, IsWhole}
use Rattle.storage_merkle.specs.Plans.{refusal}
use Rattle.storage_merkle.proofs.MemProofs.{range_own, why_refused, not_pruned, plan_is, planned_then, refused_then}
use Rattle.storage_merkle.proofs.merkle.mem.Mem.proof_by.Goals as goal

pub returns-in-Err-clause-why : goal.returns-in-Err-clause-why
returns-in-Err-clause-why g c =
    let leaves : c.new.result ≡ c.args.self.now.leaves =
    c.new.ensures ∙ ap (λ (m : Kept g.row.D.Denot). m.leaves) c.self.view_is in
    rw (← leaves) (refused_then _ _ (refusal g.row.F.Denot c.new.result c.args.range.start c.args.range.end)
    c.in-Err.error Memory _ c.in-Err.ensures (λ same. inr (inr same)))

pub returns-clause-own : goal.returns-clause-own
returns-clause-own g c =
    let leaves : c.new.result ≡ c.args.self.now.leaves =
    c.new.ensures ∙ ap (λ (m : Kept g.row.D.Denot). m.leaves) c.self.view_is in
    let whole = subst (λ (m : Kept g.row.D.Denot). IsWhole g.F.Family.shape m.leaves m.boundary (length m.pinned)
    (length m.nodes)) c.self.view_is (record {
      few = c.self.invariant.few;
      order = c.self.invariant.order;
      pins = omega (arith, c.self.invariant.pins, c.self.inside.pinned.ok);
      count = omega (arith, c.self.invariant.count, c.self.inside.nodes.ok);
    }) in
    let plan : c.in-Ok.plan
    ≡ record { leaves = c.args.self.now.leaves; start = c.args.range.start; end = c.args.range.end } =
    plan_is (refusal g.row.F.Denot c.new.result c.args.range.start c.args.range.end) c.in-Ok.plan _ c.in-Ok.ensures
    ∙ ap (λ n. (record { leaves = n; start = c.args.range.start; end = c.args.range.end })) leaves in
    IfOk-weaker c.build.result _ _ (λ proof x T content shape stands. range_own g.F.Family.shape g.met.F.Family.laws
    g.D.Digest.text c.args.self.now whole (goal.G-post g c.args.get_node) (λ p d fits a.
    c.requires.kept p (Some d) fits a) g.H.Hasher.hash_of (g.H.Hasher.bagging c.args.hasher.now) c.in-Ok.plan
    c.args.inactive c.args.range.start c.args.range.end _ plan x T content shape stands) c.build.ensures.own

pub returns-clause-why : goal.returns-clause-why
returns-clause-why g c =
    let leaves : c.new.result ≡ c.args.self.now.leaves =
    c.new.ensures ∙ ap (λ (m : Kept g.row.D.Denot). m.leaves) c.self.view_is in
    let whole = subst (λ (m : Kept g.row.D.Denot). IsWhole g.F.Family.shape m.leaves m.boundary (length m.pinned)
    (length m.nodes)) c.self.view_is (record {
      few = c.self.invariant.few;
      order = c.self.invariant.order;
      pins = omega (arith, c.self.invariant.pins, c.self.inside.pinned.ok);
      count = omega (arith, c.self.invariant.count, c.self.inside.nodes.ok);
    }) in
    let plan : c.in-Ok.plan
    ≡ record { leaves = c.args.self.now.leaves; start = c.args.range.start; end = c.args.range.end } =
    plan_is (refusal g.row.F.Denot c.new.result c.args.range.start c.args.range.end) c.in-Ok.plan _ c.in-Ok.ensures
    ∙ ap (λ n. (record { leaves = n; start = c.args.range.start; end = c.args.range.end })) leaves in
    let built = IfErr-weaker c.build.result _ _ (λ e x. why_refused g.F.Family.shape g.met.F.Family.laws g.D.Digest.text
    c.args.self.now whole (goal.G-post g c.args.get_node) c.requires.kept c.in-Ok.plan c.args.inactive
    c.args.range.start c.args.range.end plan e x) c.build.ensures.why in
    planned_then (refusal g.row.F.Denot c.args.self.now.leaves c.args.range.start c.args.range.end) c.in-Ok.plan _ _ _
    (rw leaves at c.in-Ok.ensures) built

pub returns-clause-kept : goal.returns-clause-kept
returns-clause-kept g c = λ from.
    let leaves : c.new.result ≡ c.args.self.now.leaves =
    c.new.ensures ∙ ap (λ (m : Kept g.row.D.Denot). m.leaves) c.self.view_is in
    let whole = subst (λ (m : Kept g.row.D.Denot). IsWhole g.F.Family.shape m.leaves m.boundary (length m.pinned)
    (length m.nodes)) c.self.view_is (record {
      few = c.self.invariant.few;
      order = c.self.invariant.order;
      pins = omega (arith, c.self.invariant.pins, c.self.inside.pinned.ok);
      count = omega (arith, c.self.invariant.count, c.self.inside.nodes.ok);
    }) in
    let plan : c.in-Ok.plan
    ≡ record { leaves = c.args.self.now.leaves; start = c.args.range.start; end = c.args.range.end } =
    plan_is (refusal g.row.F.Denot c.new.result c.args.range.start c.args.range.end) c.in-Ok.plan _ c.in-Ok.ensures
    ∙ ap (λ n. (record { leaves = n; start = c.args.range.start; end = c.args.range.end })) leaves in
    IfErr-weaker c.build.result _ _ (λ e x. not_pruned g.F.Family.shape g.met.F.Family.laws g.D.Digest.text
    c.args.self.now whole (goal.G-post g c.args.get_node) c.requires.kept c.in-Ok.plan c.args.inactive
    c.args.range.start c.args.range.end plan e from x) c.build.ensures.why
