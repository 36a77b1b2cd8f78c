use Rattle.std.proofs.Common.{ℕ, ap, ◌∙◌}
use Rattle.storage_current.specs.Keys.{Keyed, keyed_by}
use Rattle.storage_current.specs.Snapshots.{grafting_of, own_operation_proof}
use Rattle.storage_db.proofs.Cases.{if_ok}
use Rattle.storage_db.proofs.Remembering.{view_with}
use Rattle.storage_db.proofs.Shown.{keeps_inside}
use Rattle.storage_db.proofs.db.commit.Commit.proof.Goals as goal

pub returns : goal.returns
returns g c =
    let e : Keyed g.row.K.Denot g.row.V-Value.Denot
    = keyed_by g.K.Write.text g.V.Value.Write.text g.V.OperationCodec.operation_text g.K.Ord.cmp in
    let h = g.H.Hasher.hash_of in
    let gr = grafting_of g.F.Family.shape g.row.N in
    if_ok _ _ c.own_proof.result (λ proof own entries commit keeps.
    let inside = keeps_inside e g.V.Value.Read.view h gr _ _ (view_with entries _ _ c.self.view_is) commit keeps in
    own commit.snapshot inside.whole inside.snapshot (c.new-leaves.ensures ∙ inside.count) inside.floor
    ∙ ap (λ (l : ℕ). own_operation_proof h gr commit.snapshot l) c.new-location.ensures) c.own_proof.ensures
