use Rattle.std.proofs.Common.{refl}
use Rattle.storage_current.specs.Snapshots.{grafting_of}
use Rattle.storage_db.proofs.Lists.{each_accepted}
use Rattle.storage_db.proofs.laws.each_proof_is_accepted.Goals as goal

pub returns : goal.returns
returns g c = λ commands grafting. each_accepted _ c.operations_settle_keys.ensures
    (record { put_is = λ d key value. refl; commit_is = λ d metadata. refl })
    c.own_operation_proofs_are_accepted.ensures g.H.Hasher.hash_of (grafting_of g.F.Family.shape g.row.N) grafting commands
