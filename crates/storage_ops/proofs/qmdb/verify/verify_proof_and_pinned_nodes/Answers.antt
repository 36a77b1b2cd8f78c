use Rattle.std.proofs.Common.{refl, map, ap, subst, ◌∙◌, IfOk, IsTrue, arith}
use Rattle.storage_merkle.specs.declared.merkle.bagging.Bagging.{Bagging}
use Rattle.storage_merkle.specs.declared.merkle.bagging.Bagging.TheVariants.{BackwardFold}
use Rattle.storage_merkle.specs.Pinned.{IsPinnedProved}
use Rattle.storage_merkle.specs.RangeProofs.{Proof}
use Rattle.std.proofs.lemmas.Grind.{common_steps}
use Rattle.storage_ops.proofs.qmdb.verify.verify_proof_and_pinned_nodes.Goals as goal

pub returns-clause-exact : goal.returns-clause-exact
returns-clause-exact g c = rw (c.deref.ensures.value, c.in_ok-elements.ensures.all, c.hasher-hasher.ensures) at
    c.verify_proof_and_pinned_nodes.ensures.exact

pub returns-clause-meaning : goal.returns-clause-meaning
returns-clause-meaning g c =
    let text = g.H.Digest.Digest.text in
    let proof : Proof = record {
      leaves = c.args.proof.now.leaves;
      inactive = c.args.proof.now.inactive_peaks;
      digests = map text c.args.proof.now.digests.items;
    } in
    let elements = ap (map (λ bytes. bytes.items)) c.deref.ensures.value ∙ c.in_ok-elements.ensures.all in
    subst (λ es. IfOk c.verify_proof_and_pinned_nodes.result (λ y. IsTrue y
    → IsPinnedProved g.H.Hasher.hash_of g.F.Family.shape BackwardFold proof c.args.start es
    (map text c.args.pinned.now) (text c.args.root.now))) elements
    (subst (λ (b : Bagging). IfOk c.verify_proof_and_pinned_nodes.result (λ y. IsTrue y
    → IsPinnedProved g.H.Hasher.hash_of g.F.Family.shape b proof c.args.start
    (map (λ bytes. bytes.items) c.deref.result.now) (map text c.args.pinned.now) (text c.args.root.now)))
    c.hasher-hasher.ensures (c.verify_proof_and_pinned_nodes.ensures.meaning refl refl))

pub returns-clause-none : goal.returns-clause-none
returns-clause-none g c = grind (arith, common_steps)
