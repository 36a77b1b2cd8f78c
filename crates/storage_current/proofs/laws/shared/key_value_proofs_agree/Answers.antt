use Rattle.std.proofs.Common.{◌++◌}
use Rattle.storage_current.specs.CurrentWire.{operation_text}
use Rattle.storage_current.proofs.SharedChunks.{pairs_alike, agreeing}
use Rattle.storage_current.proofs.laws.shared.key_value_proofs_agree.Goals as goal

pub returns-clause-agree : goal.returns-clause-agree
returns-clause-agree g c = agreeing _ _ (λ x. operation_text g.F.Graftable.has_pending x.0 ++ g.K.Write.text x.1) _

pub returns-clause-read : goal.returns-clause-read
returns-clause-read g c = λ most cfg is.
    pairs_alike g.F.Graftable.has_pending g.H.Digest.Digest.size g.row.N most is (g.K.Read.parse cfg)
