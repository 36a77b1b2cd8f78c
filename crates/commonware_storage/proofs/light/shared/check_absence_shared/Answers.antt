use Rattle.commonware_storage.proofs.Answers.{same_answer}
use Rattle.std.proofs.Common.{rules}
use Rattle.commonware_storage.proofs.light.shared.check_absence_shared.Goals as goal

pub returns-clause-same : goal.returns-clause-same
returns-clause-same g c = same_answer c.absence_from.result c.absence_from.ensures.exact

pub returns-clause-exact : goal.returns-clause-exact
returns-clause-exact g c = search rules
