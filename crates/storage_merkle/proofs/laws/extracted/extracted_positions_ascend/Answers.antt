use Rattle.storage_merkle.proofs.Extracted.{extracted_ascend}
use Rattle.storage_merkle.proofs.laws.extracted.extracted_positions_ascend.Goals as goal

pub returns : goal.returns
returns c = extracted_ascend
