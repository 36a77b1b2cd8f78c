use Rattle.storage_current.specs.Snapshots.{grafting_of}
use Rattle.storage_db.proofs.Made.{made_as}
use Rattle.storage_db.proofs.db.ordered.Ordered.is_made.Goals as goal

pub returns-clause-made : goal.returns-clause-made
returns-clause-made g c =
    rw (← c.self.view_is) (made_as g.K.Write.text g.V.Value.Write.text g.K.Ord.cmp g.V.Value.Read.view g.H.Hasher.hash_of
    (grafting_of g.F.Family.shape g.row.N) g.V.OperationCodec.operation_text g.V.KeyedEncoding.keyed_text
    g.met.V.OrderedCodec.agrees _ c.self.invariant.2)
