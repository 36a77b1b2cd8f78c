use Rattle.std.proofs.Common.{[], rules}
use Rattle.storage_db.proofs.db.ordered.Ordered.new.Goals as goal

pub returns-clause-keeps : goal.returns-clause-keeps
returns-clause-keeps g c = search rules

pub returns-clause-made : goal.returns-clause-made
returns-clause-made g c = ([], search rules)

pub invariant_of-result : goal.invariant_of-result
invariant_of-result g c = (c.requires, tt, ([], search rules))
