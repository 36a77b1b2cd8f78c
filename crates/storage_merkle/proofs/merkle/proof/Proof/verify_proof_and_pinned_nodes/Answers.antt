use Rattle.std.proofs.Common.{◌==◌, ◌∙◌, map, ap, subst, sym}
use Rattle.std.proofs.lemmas.List.{length-map}
use Rattle.storage_merkle.specs.Laws.ProofWire.{all_digests}
use Rattle.storage_merkle.specs.Shape.{Laws}
use Rattle.storage_merkle.proofs.Meaning.{no_elements, some_elements}
use Rattle.storage_merkle.proofs.Pinned.Meaning.{if_ok, nothing_pinned, counts_fit, agreeing_pinned, pinned_proved}
use Rattle.storage_merkle.proofs.merkle.proof.Proof.verify_proof_and_pinned_nodes.Goals as goal

pub returns-then-is_empty-clause-exact : goal.returns-then-is_empty-clause-exact
returns-then-is_empty-clause-exact g c = nothing_pinned _ _ _ _ _ _ _ _
    ((c.in_ok-verify_range_inclusion.ensures.exact).0 c.if-not-branch.false)
    (subst Laws (sym (g.met.H.Hasher.over c.args.hasher.now)) g.met.F.Family.laws)
    (no_elements g.E.AsSlice.items c.args.elements.now c.if-is_empty.ensures) c.is_empty-then-is_empty.result
    (c.is_empty-then-is_empty.ensures ∙ ap (λ n. n == 0) (sym (length-map c.args.pinned.now g.D.Digest.text)))

pub returns-then-is_empty-clause-meaning : goal.returns-then-is_empty-clause-meaning
returns-then-is_empty-clause-meaning g c = λ plain empty y. pinned_proved g.D.Digest.size _ g.met.H.Hasher.sized _
    g.met.F.Family.laws _ plain _ empty _ _ _ _ _ _
    (all_digests g.D.Digest.text g.D.Digest.size g.met.D.Digest.sized c.args.self.now.digests.items)
    (all_digests g.D.Digest.text g.D.Digest.size g.met.D.Digest.sized c.args.pinned.now)
    ((returns-then-is_empty-clause-exact g c).0 y)

pub returns-clause-exact : goal.returns-clause-exact
returns-clause-exact g c =
    let accepted = (c.in_ok-verify_range_inclusion.ensures.exact).0 c.if-not-branch.false in
    if_ok _ _ c.agrees_with.result (λ answer i. agreeing_pinned _ _ _ _ _ _ _ _ accepted answer i)
    (c.agrees_with.ensures (map g.E.AsSlice.items c.args.elements.now)
    (length-map c.args.elements.now g.E.AsSlice.items)
    (counts_fit _ _ _ _ _ _ (map g.D.Digest.text c.args.pinned.now) _ accepted
    (some_elements g.E.AsSlice.items c.args.elements.now c.if-is_empty.ensures)))

pub returns-clause-meaning : goal.returns-clause-meaning
returns-clause-meaning g c = λ plain empty. if_ok _ _ c.agrees_with.result (λ answer i y. pinned_proved
    g.D.Digest.size _ g.met.H.Hasher.sized _ g.met.F.Family.laws _ plain _ empty _ _ _ _ _ _
    (all_digests g.D.Digest.text g.D.Digest.size g.met.D.Digest.sized c.args.self.now.digests.items)
    (all_digests g.D.Digest.text g.D.Digest.size g.met.D.Digest.sized c.args.pinned.now) (i.0 y))
    (returns-clause-exact g c)
