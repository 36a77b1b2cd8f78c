use Rattle.std.specs.Prelude.{IfOk, IsTrue}
use Rattle.std.proofs.Common.{◌≡◌, map, refl, subst}
use Rattle.std.proofs.lemmas.Result.{IfOk-weaker}
use Rattle.storage_merkle.specs.declared.merkle.bagging.Bagging.{Bagging}
use Rattle.storage_merkle.specs.declared.merkle.bagging.Bagging.TheVariants.{BackwardFold}
use Rattle.storage_merkle.specs.Held.{proof_of}
use Rattle.storage_merkle.specs.Pinned.{IsPinnedProved}
use Rattle.storage_current.specs.WitnessWire.{witness_of}
use Rattle.storage_current.proofs.Openings.{opened}
use Rattle.storage_current.proofs.qmdb.current.proof.witness.OpsRootWitness.verify_pins.Goals as goal

pub returns-clause-exact : goal.returns-clause-exact
returns-clause-exact g c =
    let root = c.verify.ensures.exact.0 c.if-not-verify.false in
    let pinned = rw c.hasher-hasher.ensures at c.verify_proof_and_pinned_nodes.ensures.exact in
    IfOk-weaker c.verify_proof_and_pinned_nodes.result _ _ (λ yes both. (λ t. (root, both.0 t), λ ok. both.1 ok.1)) pinned

pub returns-clause-meaning : goal.returns-clause-meaning
returns-clause-meaning g c some =
    let S = g.F.Family.shape in
    let h = g.H.Hasher.hash_of in
    let text = g.D.Digest.text in
    let proof = proof_of text c.args.proof.now in
    let operations = map g.E.AsSlice.items c.args.operations.now in
    let pinned = map text c.args.pinned.now in
    let ops_root = text c.args.ops_root.now in
    let P : Bagging → Type 0 = λ b. IfOk c.verify_proof_and_pinned_nodes.result
    (λ yes. IsTrue yes → IsPinnedProved h S b proof c.args.start operations pinned ops_root) in
    let raw : P c.hasher-hasher.result.bagging = c.verify_proof_and_pinned_nodes.ensures.meaning refl refl in
    let proved : P BackwardFold = subst P c.hasher-hasher.ensures raw in
    IfOk-weaker c.verify_proof_and_pinned_nodes.result _ _ (λ yes is t.
    opened h S g.met.F.Family.laws (witness_of text c.args.self.now) ops_root proof c.args.start operations pinned
    (text c.args.root.now) (c.verify.ensures.meaning some c.if-not-verify.false) (is t)) proved
