use Rattle.std.proofs.Common.{refl}
use Rattle.storage_current.specs.Keys.{Keyed, keyed_by}
use Rattle.storage_db.specs.Databases.{empty, run}
use Rattle.storage_db.proofs.Compacting.{all_moved}
use Rattle.storage_db.proofs.Floors.{made_floored}
use Rattle.storage_db.proofs.Said.{AreSaid}
use Rattle.storage_db.proofs.laws.each_compaction_is_kept.Goals as goal

pub returns : goal.returns
returns g c = λ commands more are.
    let e : Keyed g.row.K.Denot g.row.V-Value.Denot
    = keyed_by g.K.Write.text g.V.Value.Write.text g.V.OperationCodec.operation_text g.K.Ord.cmp in
    let said : AreSaid e = record { put_is = λ d key value. refl; commit_is = λ d metadata. refl } in
    all_moved e c.operations_settle_keys.ensures said more (run e empty commands)
    (made_floored e c.operations_settle_keys.ensures said commands).0 are
