use Rattle.storage_current.specs.CurrentWire.{operation_text}
use Rattle.storage_current.proofs.SharedChunks.{operations_alike, agreeing}
use Rattle.storage_current.proofs.laws.shared.operation_proofs_agree.Goals as goal

pub returns-clause-agree : goal.returns-clause-agree
returns-clause-agree g c = agreeing _ _ (operation_text g.F.Graftable.has_pending) _

pub returns-clause-read : goal.returns-clause-read
returns-clause-read g c = λ most is. operations_alike g.F.Graftable.has_pending g.H.Digest.Digest.size g.row.N most is
