use Rattle.std.specs.Prelude.{option_and_then}
use Rattle.std.proofs.Common.{sym, ap, ◌∙◌}
use Rattle.storage_current.specs.Keys.{keyed_by}
use Rattle.storage_current.specs.Snapshots.{grafting_of}
use Rattle.storage_db.specs.Kept.{KeptCommit}
use Rattle.storage_db.specs.Parts.{committed_of}
use Rattle.storage_db.proofs.Remembering.{with_all}
use Rattle.storage_db.proofs.Recalled.{metadata_told}
use Rattle.storage_db.proofs.db.ordered.Ordered.metadata.Goals as goal

pub returns-in-Some : goal.returns-in-Some
returns-in-Some g c = λ d keeps.
    c.metadata.ensures
    ∙ ap (option_and_then (λ (k : KeptCommit g.row.K.Denot g.row.V-Value.Denot). k.metadata)) (sym (ap (with_all (committed_of g.K.Ord.cmp c.self.inside.active)) c.in-Some.is))
    ∙ metadata_told (keyed_by g.K.Write.text g.V.Value.Write.text g.V.OperationCodec.operation_text g.K.Ord.cmp)
    g.V.Value.Read.view g.H.Hasher.hash_of (grafting_of g.F.Family.shape g.row.N) _ _ c.self.view_is d keeps

pub returns-in-None : goal.returns-in-None
returns-in-None g c = λ d keeps.
    ap (option_and_then (λ (k : KeptCommit g.row.K.Denot g.row.V-Value.Denot). k.metadata)) (sym (ap (with_all (committed_of g.K.Ord.cmp c.self.inside.active)) c.in-None.is))
    ∙ metadata_told (keyed_by g.K.Write.text g.V.Value.Write.text g.V.OperationCodec.operation_text g.K.Ord.cmp)
    g.V.Value.Read.view g.H.Hasher.hash_of (grafting_of g.F.Family.shape g.row.N) _ _ c.self.view_is d keeps
