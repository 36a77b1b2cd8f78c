use Rattle.std.proofs.Common.{[], option_map, refl, sym, subst}
use Rattle.storage_merkle.specs.Laws.ProofWire.{all_digests}
use Rattle.storage_merkle.specs.Shape.{Laws}
use Rattle.storage_merkle.specs.Trees.{listed}
use Rattle.storage_merkle.proofs.Meaning.{chained, same_option}
use Rattle.storage_merkle.proofs.Multi.Meaning.{accepted_none, accepted_claims}
use Rattle.storage_merkle.proofs.Multi.Sound.{multi_sound}
use Rattle.storage_merkle.proofs.merkle.proof.Proof.verify_multi_inclusion.Goals as goal

pub returns-then-is_empty-clause-exact : goal.returns-then-is_empty-clause-exact
returns-then-is_empty-clause-exact g c = chained (c.verify_nothing.ensures (listed []) refl)
    (accepted_none _ _ _ _ _ _ g.E.AsSlice.items c.args.elements.now c.new.result c.new.ensures c.if-is_empty.ensures)

pub returns-then-is_empty-clause-meaning : goal.returns-then-is_empty-clause-meaning
returns-then-is_empty-clause-meaning g c = λ accepted. multi_sound g.D.Digest.size _ g.met.H.Hasher.sized _
    (subst Laws (sym (g.met.H.Hasher.over c.args.hasher.now)) g.met.F.Family.laws) _ _ _ _ _
    (all_digests g.D.Digest.text g.D.Digest.size g.met.D.Digest.sized c.args.self.now.digests.items)
    ((returns-then-is_empty-clause-exact g c).0 accepted)

pub returns-clause-exact : goal.returns-clause-exact
returns-clause-exact g c = chained (same_option g.D.PartialEq.eq g.D.Digest.text g.met.D.Digest.same
    c.in_ok-recomputed.recomputed c.args.root.now c.eq.result c.eq.ensures) (accepted_claims _ _ _ _ _ _
    g.E.AsSlice.items c.args.elements.now c.if-is_empty.ensures
    (option_map g.D.Digest.text c.in_ok-recomputed.recomputed) c.in_ok-recomputed.ensures)

pub returns-clause-meaning : goal.returns-clause-meaning
returns-clause-meaning g c = λ accepted. multi_sound g.D.Digest.size _ g.met.H.Hasher.sized _
    (subst Laws (sym (g.met.H.Hasher.over c.args.hasher.now)) g.met.F.Family.laws) _ _ _ _ _
    (all_digests g.D.Digest.text g.D.Digest.size g.met.D.Digest.sized c.args.self.now.digests.items)
    ((returns-clause-exact g c).0 accepted)
