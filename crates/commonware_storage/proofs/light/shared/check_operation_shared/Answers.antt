use Rattle.std.proofs.Common.{subst, rules}
use Rattle.storage_codec.specs.Parts.{IsBytes}
use Rattle.commonware_storage.proofs.Answers.{same_answer}
use Rattle.commonware_storage.proofs.light.shared.check_operation_shared.Goals as goal

pub returns-clause-same : goal.returns-clause-same
returns-clause-same g c = same_answer c.operation_from.result c.operation_from.ensures.exact

pub returns-clause-meaning : goal.returns-clause-meaning
returns-clause-meaning g c =
    c.operation_from.ensures.meaning (subst IsBytes c.as_slice.ensures c.are_bytes.ensures)

pub returns-clause-refused : goal.returns-clause-refused
returns-clause-refused g c = search rules

pub returns-clause-exact : goal.returns-clause-exact
returns-clause-exact g c = search rules

pub returns-clause-whole : goal.returns-clause-whole
returns-clause-whole g c = search rules
