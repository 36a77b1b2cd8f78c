use Rattle.std.proofs.Common.{inl, inr, refl, map, sym, subst, ap, arith}
use Rattle.storage_merkle.specs.Laws.ProofWire.{all_digests}
use Rattle.storage_merkle.specs.Shape.{Laws}
use Rattle.storage_merkle.specs.Extracted.{by_bytes}
use Rattle.storage_merkle.proofs.Meaning.{no_elements, some_elements}
use Rattle.storage_merkle.proofs.ExtractMeaning.{handed_none, handed_some, misfit_none, other_root, other_root_none, differ, alike}
use Rattle.std.proofs.lemmas.Grind.{common_steps}
use Rattle.storage_merkle.proofs.merkle.proof.Proof.verify_range_inclusion_and_extract_digests.Goals as goal

pub returns-in-Ok-clause-handed : goal.returns-in-Ok-clause-handed
returns-in-Ok-clause-handed g c = handed_none _ _ _ _ _ _ _ g.D.Digest.size g.met.H.Hasher.sized
    (subst Laws (sym (g.met.H.Hasher.over c.args.hasher.now)) g.met.F.Family.laws)
    (all_digests g.D.Digest.text g.D.Digest.size g.met.D.Digest.sized c.args.self.now.digests.items)
    (c.in-Ok.ensures
    (record { elements = map g.E.AsSlice.items c.args.elements.now; chunk = g.H.Hasher.chunk c.args.hasher.now })
    (no_elements g.E.AsSlice.items c.args.elements.now c.if-is_empty.ensures)) _
    (ap (by_bytes g.D.Digest.text) c.new.ensures.items)

pub returns-in-Err-clause-why : goal.returns-in-Err-clause-why
returns-in-Err-clause-why g c =
    let none = no_elements g.E.AsSlice.items c.args.elements.now c.if-is_empty.ensures in
    elim (c.in-Err.ensures (record {
      elements = map g.E.AsSlice.items c.args.elements.now;
      chunk = g.H.Hasher.chunk c.args.hasher.now;
    }) none) [
      | inl e ↦ inr (inl (e.0, misfit_none _ _ _ _ _ _ (g.D.Digest.text c.args.root.now) none e.1))
      | inr e ↦ inr (inr (e.0, other_root_none _ _ _ _ _ _ _ none e.1 e.2))
    ]

pub returns-then-ne-clause-why : goal.returns-then-ne-clause-why
returns-then-ne-clause-why g c = inr (inr (
  refl,
  other_root _ _ _ _ _ _ _ (some_elements g.E.AsSlice.items c.args.elements.now c.if-is_empty.ensures) _
      (rw c.in-Some.is at c.in_ok-given.ensures.root)
      (differ g.D.PartialEq.eq g.D.Digest.text g.met.D.Digest.same _ c.args.root.now c.if-ne.ensures),
))

pub returns-clause-handed : goal.returns-clause-handed
returns-clause-handed g c = handed_some _ _ _ _ _ _ _ g.D.Digest.size g.met.H.Hasher.sized
    (subst Laws (sym (g.met.H.Hasher.over c.args.hasher.now)) g.met.F.Family.laws)
    (all_digests g.D.Digest.text g.D.Digest.size g.met.D.Digest.sized c.args.self.now.digests.items) _
    (rw c.in-Some.is at c.in_ok-given.ensures.root)
    (alike g.D.PartialEq.eq g.D.Digest.text g.met.D.Digest.same _ c.args.root.now c.if-ne.ensures) _
    (rw c.in-Some.is at c.in_ok-given.ensures.digests)

pub returns-in_default-clause-why : goal.returns-in_default-clause-why
returns-in_default-clause-why g c = grind (arith, common_steps)
