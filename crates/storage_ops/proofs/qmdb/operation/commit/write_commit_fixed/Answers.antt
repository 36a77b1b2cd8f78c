use Rattle.storage_codec.specs.Laws.Parts.{starts_then, starts_first}
use Rattle.storage_ops.proofs.Starts.{appended, on_err}
use Rattle.storage_ops.proofs.qmdb.operation.commit.write_commit_fixed.Goals as goal

pub returns-in_err-write_presence-clause-err : goal.returns-in_err-write_presence-clause-err
returns-in_err-write_presence-clause-err g c = on_err c.from_residual.result (starts_first _ c.in_err-write_presence.ensures.err)

pub returns-in_err-write-clause-err : goal.returns-in_err-write-clause-err
returns-in_err-write-clause-err g c = on_err c.from_residual-in_err-write.result
    (starts_then _ _ c.in_ok-write_presence.ensures.ok (rw c.as_u64.ensures at c.in_err-write.ensures.err))

pub returns-clause-ok : goal.returns-clause-ok
returns-clause-ok g c = appended _ _ _ c.in_ok-write_presence.ensures.ok
    (rw c.as_u64.ensures at c.in_ok-write.ensures.ok)
