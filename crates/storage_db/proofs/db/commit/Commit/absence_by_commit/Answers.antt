use Rattle.std.proofs.Common.{ℕ, ap, ◌∙◌}
use Rattle.storage_current.specs.Held.{operation_proof_of}
use Rattle.storage_current.specs.Keys.{keyed_by}
use Rattle.storage_current.specs.Snapshots.{grafting_of, own_operation_proof}
use Rattle.storage_db.proofs.Remembering.{view_with}
use Rattle.storage_db.proofs.Shown.{shown_by_commit}
use Rattle.storage_db.proofs.db.commit.Commit.absence_by_commit.Goals as goal

pub returns : goal.returns
returns g c = λ entries commit keeps.
    let h = g.H.Hasher.hash_of in
    let gr = grafting_of g.F.Family.shape g.row.N in
    shown_by_commit (keyed_by g.K.Write.text g.V.Value.Write.text g.V.OperationCodec.operation_text g.K.Ord.cmp) g.V.Value.Read.view h gr _ _
    (view_with entries _ _ c.self.view_is) commit keeps c.in_ok-metadata.metadata
    (operation_proof_of g.H.Digest.Digest.text (λ bytes. bytes) c.in_ok-proof.proof) c.in_ok-metadata.ensures
    (c.in_ok-proof.ensures entries commit keeps ∙ ap (λ (l : ℕ). own_operation_proof h gr commit.snapshot l) c.location.ensures)
