use Rattle.std.proofs.Common.{◌∙◌, sym}
use Rattle.storage_current.proofs.WitnessWritten.{means_witness}
use Rattle.storage_current.proofs.qmdb.current.proof.witness.OpsRootWitness.verify.Goals as goal

pub returns-clause-meaning : goal.returns-clause-meaning
returns-clause-meaning g c = λ some accepted. means_witness c.witnesses_are_sound.ensures g.D.Digest.text
    g.D.Digest.size g.met.D.Digest.sized g.H.Hasher.hash_of some g.met.H.Hasher.sized c.args.self.now
    c.args.ops_root.now _ c.combined.ensures.bits (sym c.combined.ensures.root
    ∙ (g.met.D.Digest.same c.combined.result c.args.root.now).0 (sym c.eq.ensures ∙ accepted))
