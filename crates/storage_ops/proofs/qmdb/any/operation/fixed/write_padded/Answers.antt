use Rattle.std.proofs.Common.{replicate}
use Rattle.storage_codec.specs.Laws.Parts.{starts_then, starts_first}
use Rattle.storage_ops.proofs.Starts.{appended, on_err}
use Rattle.storage_ops.proofs.qmdb.any.operation.fixed.write_padded.Goals as goal

pub returns-in_err-write_tagged-clause-err : goal.returns-in_err-write_tagged-clause-err
returns-in_err-write_tagged-clause-err g c = on_err c.from_residual.result (starts_first (replicate c.args.n 0) c.in_err-write_tagged.ensures.err)

pub returns-in_err-put_zeros-clause-err : goal.returns-in_err-put_zeros-clause-err
returns-in_err-put_zeros-clause-err g c = on_err c.from_residual-in_err-put_zeros.result
    (starts_then _ (replicate c.args.n 0) c.in_ok-write_tagged.ensures.ok c.in_err-put_zeros.ensures.err)

pub returns-clause-ok : goal.returns-clause-ok
returns-clause-ok g c = appended _ _ _ c.in_ok-write_tagged.ensures.ok c.in_ok-put_zeros.ensures.ok
