use Rattle.std.proofs.Common.{ℕ, refl, sym, ap₂, ◌∙◌, subst}
use Rattle.storage_bitmap.specs.Chunks.{IsRest, Retained}
use Rattle.storage_current.specs.Keys.{Keyed, keyed_by}
use Rattle.storage_current.specs.Snapshots.{grafting_of, own_range_proof}
use Rattle.storage_db.proofs.Remembering.{view_with}
use Rattle.storage_db.proofs.Shown.{keeps_inside}
use Rattle.storage_db.proofs.db.commit.Commit.range_proof.Goals as goal

pub returns : goal.returns
returns g c = λ entries commit keeps.
    let e : Keyed g.row.K.Denot g.row.V-Value.Denot
    = keyed_by g.K.Write.text g.V.Value.Write.text g.V.OperationCodec.operation_text g.K.Ord.cmp in
    let h = g.H.Hasher.hash_of in
    let gr = grafting_of g.F.Family.shape g.row.N in
    let inside = keeps_inside e g.V.Value.Read.view h gr _ _ (view_with entries _ _ c.self.view_is) commit keeps in (
      c.in_ok-proof.ensures commit.snapshot inside.whole inside.snapshot (c.new-leaves.ensures ∙ inside.count) inside.floor
          ∙ ap₂ (λ (start end : ℕ). own_range_proof h gr commit.snapshot start end) c.new.ensures c.new-2.ensures,
      c.in_ok-chunks.ensures gr commit.snapshot.bits refl
          (subst (λ (r : Retained). IsRest g.row.N r commit.snapshot.bits) (sym c.status.ensures) inside.snapshot.status),
    )
