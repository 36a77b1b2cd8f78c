use Rattle.std.proofs.Common.{refl}
use Rattle.storage_current.specs.Held.{operation_proof_of}
use Rattle.storage_current.specs.Keys.{keyed_by}
use Rattle.storage_current.specs.Snapshots.{grafting_of}
use Rattle.storage_db.specs.Parts.{committed_of}
use Rattle.storage_db.proofs.Shown.{shown_by_update}
use Rattle.storage_db.proofs.db.commit.Commit.absence_by_update.Goals as goal

pub returns : goal.returns
returns g c = λ commit keeps entry copy.
    shown_by_update (keyed_by g.K.Write.text g.V.Value.Write.text g.V.OperationCodec.operation_text g.K.Ord.cmp) g.V.Value.Read.view
    c.operations_settle_keys.ensures g.H.Hasher.hash_of (grafting_of g.F.Family.shape g.row.N) _ _
    refl commit keeps
    c.args.before.0.now (record { value = c.args.before.1.now; location = c.args.before.2 }) entry copy
    c.in_ok-clone.field-0 c.in_ok-clone-2.field-0 c.in_ok-next_committed_or_own.field-0
    (operation_proof_of g.H.Digest.Digest.text (λ bytes. bytes) c.in_ok-proof.proof)
    (g.met.K.Key.clones c.args.before.0.now c.in_ok-clone.field-0 c.in_ok-clone.ensures.cases).1
    (g.met.V.ValueEncoding.clones c.args.before.1.now c.in_ok-clone-2.field-0 c.in_ok-clone-2.ensures.cases).1
    c.in_ok-next_committed_or_own.ensures (c.in_ok-proof.ensures (committed_of g.K.Ord.cmp c.args.active.now) commit keeps)
