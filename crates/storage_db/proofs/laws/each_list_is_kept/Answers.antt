use Rattle.std.proofs.Common.{refl}
use Rattle.storage_db.proofs.Lists.{each_list}
use Rattle.storage_db.proofs.laws.each_list_is_kept.Goals as goal

pub returns : goal.returns
returns g c = λ commands.
    let kept = each_list _ c.operations_settle_keys.ensures
    (record { put_is = λ d key value. refl; commit_is = λ d metadata. refl }) commands in
    (kept.now, kept.committed)
