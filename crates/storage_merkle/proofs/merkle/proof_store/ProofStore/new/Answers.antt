use Rattle.std.proofs.Common.{inl, inr, refl, map, sym, subst, ap, arith}
use Rattle.std.proofs.lemmas.List.{length-map}
use Rattle.storage_merkle.specs.Shape.{Laws}
use Rattle.storage_merkle.specs.Extracted.{by_bytes}
use Rattle.storage_merkle.specs.Laws.ProofWire.{all_digests}
use Rattle.storage_merkle.proofs.Meaning.{no_elements, some_elements}
use Rattle.storage_merkle.proofs.ExtractedEntries.{taken}
use Rattle.storage_merkle.proofs.ExtractMeaning.{misfit, misfit_none, other_root, other_root_none, differ, alike}
use Rattle.storage_merkle.proofs.Store.Accepted.{made_some, made_nothing, not_lost}
use Rattle.storage_merkle.proofs.merkle.proof_store.ProofStore.new.Goals.{in_default-via-in-Some+in_default, in_default-via-in_default}
use Rattle.std.proofs.lemmas.Grind.{common_steps}
use Rattle.storage_merkle.proofs.merkle.proof_store.ProofStore.new.Goals as goal

pub returns-in-Ok-clause-made : goal.returns-in-Ok-clause-made
returns-in-Ok-clause-made g c = made_nothing _ _ _ _ _ _ (g.D.Digest.text c.args.root.now) g.D.Digest.size
    g.met.H.Hasher.sized (subst Laws (sym (g.met.H.Hasher.over c.args.hasher.now)) g.met.F.Family.laws)
    (all_digests g.D.Digest.text g.D.Digest.size g.met.D.Digest.sized c.args.proof.now.digests.items)
    c.of_nothing.result (c.in-Ok.ensures
    (record { elements = map g.E.AsSlice.items c.args.elements.now; chunk = g.H.Hasher.chunk c.args.hasher.now })
    (no_elements g.E.AsSlice.items c.args.elements.now c.if-is_empty.ensures)) c.of_nothing.ensures

pub returns-in-Err-clause-why : goal.returns-in-Err-clause-why
returns-in-Err-clause-why g c =
    let root = g.D.Digest.text c.args.root.now in
    let none = no_elements g.E.AsSlice.items c.args.elements.now c.if-is_empty.ensures in
    elim (c.in-Err.ensures (record {
      elements = map g.E.AsSlice.items c.args.elements.now;
      chunk = g.H.Hasher.chunk c.args.hasher.now;
    }) none) [
      | inl e ↦ inr (inl (e.0, misfit_none _ _ _ _ _ _ root none e.1))
      | inr e ↦ inr (inr (e.0, other_root_none _ _ _ _ _ _ root none e.1 e.2))
    ]

pub returns-in_default-clause-why : goal.returns-in_default-clause-why
returns-in_default-clause-why g c = inr (inl (
  refl,
  misfit _ _ _ _ _ _ (g.D.Digest.text c.args.root.now)
      (some_elements g.E.AsSlice.items c.args.elements.now c.if-is_empty.ensures) (elim c.in_default.branch [
        | in_default-via-in-Some+in_default w ↦ absurd (not_lost (λ v. by_bytes g.D.Digest.text v.items) c.new.result
            c.recompute.new.found c.in_ok-computed.computed w.in_default.field-0-0 _ w.in_default.is-0 w.in_default.is-1
            c.in_ok-computed.ensures.found)
        | in_default-via-in_default w ↦
            rw (w.in_default.is-0, c.lent.ensures.leaves, c.lent.ensures.inactive, c.lent.ensures.digests) at
            c.in_ok-computed.ensures.root
      ]),
))

pub returns-then-ne-clause-why : goal.returns-then-ne-clause-why
returns-then-ne-clause-why g c = inr (inr (
  refl,
  other_root _ _ _ _ _ _ _ (some_elements g.E.AsSlice.items c.args.elements.now c.if-is_empty.ensures)
      (g.D.Digest.text c.in-Some-Some.computed)
      (rw (c.in-Some-Some.is-0, c.lent.ensures.leaves, c.lent.ensures.inactive, c.lent.ensures.digests) at
      c.in_ok-computed.ensures.root) (differ g.D.PartialEq.eq g.D.Digest.text g.met.D.Digest.same
      c.in-Some-Some.computed c.args.root.now c.if-ne.ensures),
))

pub returns-clause-made : goal.returns-clause-made
returns-clause-made g c =
    let same = g.met.H.Hasher.over c.args.hasher.now in
    let text = g.D.Digest.text in
    let r = rw (c.in-Some-Some.is-0, c.lent.ensures.leaves, c.lent.ensures.inactive, c.lent.ensures.digests) at
    c.in_ok-computed.ensures.root in
    let found = rw (c.lent.ensures.leaves, c.lent.ensures.inactive, c.lent.ensures.digests) at
    (taken (λ v. by_bytes text v.items) c.new.result c.in-Some-Some.kept c.recompute.new.found
    c.in_ok-computed.computed c.in-Some-Some.computed _ c.in-Some-Some.is-0 c.in-Some-Some.is-1
    (ap (by_bytes text) c.new.ensures.items) c.in_ok-computed.ensures.found) in
    made_some _ _ _ _ _ _ (text c.args.root.now) g.D.Digest.size g.met.H.Hasher.sized
    (subst Laws (sym same) g.met.F.Family.laws) (all_digests text g.D.Digest.size g.met.D.Digest.sized
    c.args.proof.now.digests.items) c.in_ok-from_accepted_proof.field-0 (text c.in-Some-Some.computed) r
    (alike g.D.PartialEq.eq text g.met.D.Digest.same c.in-Some-Some.computed c.args.root.now c.if-ne.ensures)
    (c.in_ok-from_accepted_proof.ensures (g.H.Hasher.layout c.args.hasher.now)
    (record { elements = map g.E.AsSlice.items c.args.elements.now; chunk = g.H.Hasher.chunk c.args.hasher.now }) same
    (omega (arith, c.new-past.ensures, c.as_u64.ensures, length-map c.args.elements.now g.E.AsSlice.items)) found)

pub overflow_add-as_u64 : goal.overflow_add-as_u64
overflow_add-as_u64 g c = grind (arith, common_steps)

pub from_accepted_proof-requires : goal.from_accepted_proof-requires
from_accepted_proof-requires g c = grind (arith, common_steps)
