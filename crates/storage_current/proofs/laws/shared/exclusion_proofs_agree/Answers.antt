use Rattle.std.proofs.Common.{◌++◌}
use Rattle.storage_current.specs.KeyWire.{exclusion_text}
use Rattle.storage_ops.specs.Updates.{ordered_at}
use Rattle.storage_current.proofs.SharedChunks.{exclusions_alike, agreeing}
use Rattle.storage_current.proofs.laws.shared.exclusion_proofs_agree.Goals as goal

pub returns-clause-agree : goal.returns-clause-agree
returns-clause-agree g c = agreeing _ _ (exclusion_text g.F.Graftable.has_pending
    (λ t. g.K.Write.text t.0 ++ g.V.Value.Write.text t.1 ++ g.K.Write.text t.2) g.V.Value.Write.text) _

pub returns-clause-read : goal.returns-clause-read
returns-clause-read g c = λ most update value is.
    exclusions_alike g.F.Graftable.has_pending g.H.Digest.Digest.size g.row.N most is
    (ordered_at (g.K.Read.parse (g.V.UpdateCodec.key_cfg update))
    (g.V.Value.Read.parse (g.V.UpdateCodec.value_cfg update))) (g.V.Value.Read.parse value)
