use Rattle.std.proofs.Common.{Some, option_map, sym, ap, ◌∙◌}
use Rattle.storage_current.specs.Keys.{keyed_by}
use Rattle.storage_current.specs.Snapshots.{grafting_of}
use Rattle.storage_db.specs.Kept.{KeptCommit}
use Rattle.storage_db.specs.Parts.{committed_of}
use Rattle.storage_db.proofs.Remembering.{with_all}
use Rattle.storage_db.proofs.Recalled.{floor_told}
use Rattle.storage_db.proofs.db.ordered.Ordered.floor.Goals as goal

pub returns-in-Some : goal.returns-in-Some
returns-in-Some g c = λ d keeps.
    ap Some c.floor.ensures ∙ ap (option_map (λ (k : KeptCommit g.row.K.Denot g.row.V-Value.Denot). k.floor)) (sym (ap (with_all (committed_of g.K.Ord.cmp c.self.inside.active)) c.in-Some.is))
    ∙ floor_told (keyed_by g.K.Write.text g.V.Value.Write.text g.V.OperationCodec.operation_text g.K.Ord.cmp)
    g.V.Value.Read.view g.H.Hasher.hash_of (grafting_of g.F.Family.shape g.row.N) _ _ c.self.view_is d keeps

pub returns-in-None : goal.returns-in-None
returns-in-None g c = λ d keeps.
    ap (option_map (λ (k : KeptCommit g.row.K.Denot g.row.V-Value.Denot). k.floor)) (sym (ap (with_all (committed_of g.K.Ord.cmp c.self.inside.active)) c.in-None.is))
    ∙ floor_told (keyed_by g.K.Write.text g.V.Value.Write.text g.V.OperationCodec.operation_text g.K.Ord.cmp)
    g.V.Value.Read.view g.H.Hasher.hash_of (grafting_of g.F.Family.shape g.row.N) _ _ c.self.view_is d keeps
