use Rattle.storage_merkle.proofs.Extracted.{extracted_true}
use Rattle.storage_merkle.proofs.laws.extracted.extracted_digests_are_true.Goals as goal

pub returns : goal.returns
returns c = extracted_true
