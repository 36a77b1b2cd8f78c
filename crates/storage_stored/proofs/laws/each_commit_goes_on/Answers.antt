use Rattle.storage_current.specs.Keys.{keyed_by}
use Rattle.storage_current.specs.Snapshots.{grafting_of}
use Rattle.storage_stored.proofs.Lists.{ahead}
use Rattle.storage_stored.proofs.laws.each_commit_goes_on.Goals as goal

pub returns : goal.returns
returns g c = λ kept d metadata lists keeps are.
    ahead (keyed_by g.K.Write.text g.V.Value.Write.text g.V.OperationCodec.operation_text g.K.Ord.cmp) g.V.Value.Read.view
    g.H.Hasher.hash_of (grafting_of g.F.Family.shape g.row.N) kept lists d metadata keeps are
