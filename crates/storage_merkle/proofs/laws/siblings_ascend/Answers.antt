use Rattle.storage_merkle.proofs.SiblingOrder.{siblings_ascend}
use Rattle.storage_merkle.proofs.laws.siblings_ascend.Goals as goal

pub returns : goal.returns
returns c = siblings_ascend
