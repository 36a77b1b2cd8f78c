use Rattle.std.proofs.Common.{rules}
use Rattle.storage_merkle.proofs.merkle.proof.Proof.verify_element_inclusion.Goals as goal

pub returns-clause-exact : goal.returns-clause-exact
returns-clause-exact g c = c.verify_range_inclusion.ensures.exact

pub returns-clause-meaning : goal.returns-clause-meaning
returns-clause-meaning g c = search rules
