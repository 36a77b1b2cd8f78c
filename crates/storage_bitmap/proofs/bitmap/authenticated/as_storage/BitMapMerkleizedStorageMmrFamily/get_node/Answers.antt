use Rattle.std.proofs.Common.{rules}
use Rattle.storage_bitmap.proofs.bitmap.authenticated.as_storage.BitMapMerkleizedStorageMmrFamily.get_node.Goals as goal

pub returns-clause-answer : goal.returns-clause-answer
returns-clause-answer g c = search rules

pub returns-clause-fault : goal.returns-clause-fault
returns-clause-fault g c code same = absurd (cc)

pub returns-clause-failure : goal.returns-clause-failure
returns-clause-failure g c = search rules

pub returns-clause-exact : goal.returns-clause-exact
returns-clause-exact g c = search rules
