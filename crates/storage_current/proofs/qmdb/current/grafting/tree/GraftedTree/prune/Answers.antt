use Rattle.std.proofs.Common.{arith, ◌≡◌, ◌+◌, ◌-◌, ◌≤◌, length, drop, take, ap, ◌∙◌, rules}
use Rattle.storage_current.proofs.Pruning.{kept_pruned, rotated}
use Rattle.storage_merkle.specs.Kept.{pins}
use Rattle.std.proofs.lemmas.Grind.{common_steps}
use Rattle.storage_current.proofs.qmdb.current.grafting.tree.GraftedTree.prune.Goals as goal

pub peaks_over-requires-clause-whole : goal.peaks_over-requires-clause-whole
peaks_over-requires-clause-whole g c = rw (← c.self.view_is) (record {
  few = omega (arith, c.self.invariant.few, c.self.inside.leaves.ok);
  pins = omega (arith, c.self.invariant.pins, c.self.inside.pinned.ok);
})

pub peaks_over-requires-clause-takes : goal.peaks_over-requires-clause-takes
peaks_over-requires-clause-takes g c =
    c.requires (omega (arith, c.if-chunks-as_u64.false, c.as_u64.ensures, c.leaves.ensures))

pub returns-clause-stands : goal.returns-clause-stands
returns-clause-stands g c list keeps =
    let gone = c.args.chunks - c.self.inside.pruned in
    let vp : c.self.inside.pruned ≡ c.args.self.now.pruned = ap (λ t. t.pruned) c.self.view_is in
    let vl : length c.self.inside.leaves.items ≡ length c.args.self.now.leaves = ap (λ t. length t.leaves) c.self.view_is in
    let top : c.args.chunks ≤ c.self.inside.pruned + length c.self.inside.leaves.items =
    omega (arith, c.if-chunks-as_u64.false, c.as_u64.ensures, c.leaves.ensures, vp, vl) in
    let leaves : c.truncate.new.self.items ≡ drop gone c.self.inside.leaves.items =
    c.truncate.ensures.items
    ∙ ap (λ xs. take (c.len.result - gone) xs) c.rotate_left.ensures.items
    ∙ rotated c.self.inside.leaves.items gone (c.len.result - gone)
    (omega (arith, c.len.ensures, c.self.inside.leaves.ok, top, c.if-chunks-self.false)) in
    let keeps' = rw (← c.self.view_is) at keeps in
    kept_pruned g.D.Digest.text g.F.Family.shape _ _ c.args.chunks _ _ list
    (omega (arith, c.if-chunks-self.false)) top keeps'
    (c.in-Ok.ensures.digests list keeps) leaves

pub returns-then-chunks-as_u64-clause-why : goal.returns-then-chunks-as_u64-clause-why
returns-then-chunks-as_u64-clause-why g c = search rules

pub returns-clause-rest : goal.returns-clause-rest
returns-clause-rest g c = grind (arith, common_steps)

pub invariant_of-self : goal.invariant_of-self
invariant_of-self g c = search rules
