use Rattle.commonware_storage.proofs.Answers.{same_answer}
use Rattle.std.proofs.Common.{rules}
use Rattle.commonware_storage.proofs.light.shared.check_value_shared.Goals as goal

pub returns-clause-same : goal.returns-clause-same
returns-clause-same g c = same_answer c.value_from.result c.value_from.ensures.exact

pub returns-clause-refused : goal.returns-clause-refused
returns-clause-refused g c = search rules

pub returns-clause-exact : goal.returns-clause-exact
returns-clause-exact g c = search rules

pub returns-clause-meaning : goal.returns-clause-meaning
returns-clause-meaning g c = search rules
