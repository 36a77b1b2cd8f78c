use Rattle.storage_current.specs.Keys.{keyed_by}
use Rattle.storage_current.specs.Snapshots.{grafting_of}
use Rattle.storage_db.proofs.Made.{each_call}
use Rattle.storage_db.proofs.laws.each_call_is_kept.Goals as goal

pub returns : goal.returns
returns g c = each_call (keyed_by g.K.Write.text g.V.Value.Write.text g.V.OperationCodec.operation_text g.K.Ord.cmp)
    g.V.Value.Read.view g.H.Hasher.hash_of (grafting_of g.F.Family.shape g.row.N)
