use Rattle.storage_current.proofs.Extracting.{extracted_true}
use Rattle.storage_current.proofs.laws.extracted.extracted_current_digests_are_true.Goals as goal

pub returns : goal.returns
returns c = extracted_true c.extracted_digests_are_true.ensures
