use Rattle.storage_codec.specs.Laws.Parts.{starts_then, starts_first}
use Rattle.storage_ops.proofs.Starts.{appended, on_err}
use Rattle.storage_ops.proofs.qmdb.any.operation.fixed.write_commit_padded.Goals as goal

pub returns-in_err-write_commit_fixed-clause-err : goal.returns-in_err-write_commit_fixed-clause-err
returns-in_err-write_commit_fixed-clause-err g c = on_err c.from_residual.result (starts_first _ c.in_err-write_commit_fixed.ensures.err)

pub returns-in_err-put_zeros-clause-err : goal.returns-in_err-put_zeros-clause-err
returns-in_err-put_zeros-clause-err g c = on_err c.from_residual-in_err-put_zeros.result
    (starts_then _ _ c.in_ok-write_commit_fixed.ensures.ok c.in_err-put_zeros.ensures.err)

pub returns-clause-ok : goal.returns-clause-ok
returns-clause-ok g c = appended _ _ _ c.in_ok-write_commit_fixed.ensures.ok c.in_ok-put_zeros.ensures.ok
