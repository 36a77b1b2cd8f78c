use Rattle.std.proofs.Common.{rules, refl}
use Rattle.storage_current.proofs.qmdb.current.grafting.storage.StorageStorage.get_node.Goals as goal

pub returns-in-Below-clause-answer : goal.returns-in-Below-clause-answer
returns-in-Below-clause-answer g c = search rules

pub returns-in-Below-clause-fault : goal.returns-in-Below-clause-fault
returns-in-Below-clause-fault g c code same =
    (rw c.size.ensures at (c.in-Below.ensures.below refl), c.get_node.ensures.fault code same)

pub returns-in-Found-clause-fault : goal.returns-in-Found-clause-fault
returns-in-Found-clause-fault g c code same = absurd (cc)

pub returns-in-Found-clause-failure : goal.returns-in-Found-clause-failure
returns-in-Found-clause-failure g c = search rules
