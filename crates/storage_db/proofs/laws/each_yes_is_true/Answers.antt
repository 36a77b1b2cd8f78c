use Rattle.std.proofs.Common.{refl}
use Rattle.storage_current.specs.Snapshots.{grafting_of}
use Rattle.storage_db.proofs.Answered.{each_true}
use Rattle.storage_db.proofs.laws.each_yes_is_true.Goals as goal

pub returns : goal.returns
returns g c = λ commands. each_true _ c.operations_settle_keys.ensures
    (record { put_is = λ d key value. refl; commit_is = λ d metadata. refl }) g.H.Hasher.hash_of
    (grafting_of g.F.Family.shape g.row.N) commands
