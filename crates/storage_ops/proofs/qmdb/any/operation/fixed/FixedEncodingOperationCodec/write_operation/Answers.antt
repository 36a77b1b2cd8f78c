use Rattle.std.proofs.Common.{rules, arith}
use Rattle.std.proofs.lemmas.Grind.{common_steps}
use Rattle.storage_codec.specs.Laws.Parts.{starts_cons, starts_none}
use Rattle.storage_ops.proofs.qmdb.any.operation.fixed.FixedEncodingOperationCodec.write_operation.Goals as goal

pub returns-in-Delete-clause-ok : goal.returns-in-Delete-clause-ok
returns-in-Delete-clause-ok g c = search rules

pub returns-in_err-push-in-CommitFloor-clause-err : goal.returns-in_err-push-in-CommitFloor-clause-err
returns-in_err-push-in-CommitFloor-clause-err g c = grind (arith, starts_cons, starts_none)

pub returns-in_ok-push-in-CommitFloor-clause-ok : goal.returns-in_ok-push-in-CommitFloor-clause-ok
returns-in_ok-push-in-CommitFloor-clause-ok g c = grind (arith, common_steps)

pub returns-in_ok-push-in-CommitFloor-clause-err : goal.returns-in_ok-push-in-CommitFloor-clause-err
returns-in_ok-push-in-CommitFloor-clause-err g c = grind (arith, common_steps)

pub returns-in-Delete-clause-err : goal.returns-in-Delete-clause-err
returns-in-Delete-clause-err g c = search rules
