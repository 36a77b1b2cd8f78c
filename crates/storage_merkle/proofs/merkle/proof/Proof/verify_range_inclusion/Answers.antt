use Rattle.std.proofs.Common.{map, option_map, subst, sym, rules}
use Rattle.storage_merkle.specs.Laws.ProofWire.{all_digests}
use Rattle.storage_merkle.specs.Shape.{Laws}
use Rattle.storage_merkle.proofs.Meaning.{accepted_proved, accepted_nothing, accepted_some, chained, no_elements, some_elements, same_option}
use Rattle.storage_merkle.proofs.merkle.proof.Proof.verify_range_inclusion.Goals as goal

pub returns-then-is_empty-clause-exact : goal.returns-then-is_empty-clause-exact
returns-then-is_empty-clause-exact g c =
    let none = no_elements g.E.AsSlice.items c.args.elements.now c.if-is_empty.ensures in
    chained (c.verify_nothing.ensures
    (record { elements = map g.E.AsSlice.items c.args.elements.now; chunk = g.H.Hasher.chunk c.args.hasher.now }) none)
    (accepted_nothing _ _ _ _ _ _ _ none)

pub returns-then-is_empty-clause-meaning : goal.returns-then-is_empty-clause-meaning
returns-then-is_empty-clause-meaning g c = λ accepted. accepted_proved _ _ _ _ _ _ _ g.D.Digest.size
    g.met.H.Hasher.sized (subst Laws (sym (g.met.H.Hasher.over c.args.hasher.now)) g.met.F.Family.laws)
    (all_digests g.D.Digest.text g.D.Digest.size g.met.D.Digest.sized c.args.self.now.digests.items)
    ((returns-then-is_empty-clause-exact g c).0 accepted)

pub returns-clause-exact : goal.returns-clause-exact
returns-clause-exact g c = chained (same_option g.D.PartialEq.eq g.D.Digest.text g.met.D.Digest.same
    c.in_ok-computed.computed c.args.root.now c.eq.result c.eq.ensures) (accepted_some _ _ _ _ _ _ _
    (some_elements g.E.AsSlice.items c.args.elements.now c.if-is_empty.ensures)
    (option_map g.D.Digest.text c.in_ok-computed.computed) c.in_ok-computed.ensures)

pub returns-clause-meaning : goal.returns-clause-meaning
returns-clause-meaning g c = λ accepted. accepted_proved _ _ _ _ _ _ _ g.D.Digest.size g.met.H.Hasher.sized
    (subst Laws (sym (g.met.H.Hasher.over c.args.hasher.now)) g.met.F.Family.laws)
    (all_digests g.D.Digest.text g.D.Digest.size g.met.D.Digest.sized c.args.self.now.digests.items)
    ((returns-clause-exact g c).0 accepted)

pub returns-then-is_empty-clause-none : goal.returns-then-is_empty-clause-none
returns-then-is_empty-clause-none g c = search rules
