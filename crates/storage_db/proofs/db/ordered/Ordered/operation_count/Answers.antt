use Rattle.std.proofs.Common.{length, ap, ◌∙◌}
use Rattle.storage_current.specs.Keys.{keyed_by}
use Rattle.storage_current.specs.Snapshots.{grafting_of}
use Rattle.storage_db.specs.Kept.{KeptDatabase}
use Rattle.storage_db.proofs.Changing.{count_of_texts}
use Rattle.storage_db.proofs.Forgetting.{counted}
use Rattle.storage_db.proofs.db.ordered.Ordered.operation_count.Goals as goal

pub returns : goal.returns
returns g c = λ d keeps.
    c.len.ensures.count ∙ count_of_texts c.self.inside.log
    ∙ ap (λ (k : KeptDatabase g.row.K.Denot g.row.V-Value.Denot). length k.operations) c.self.view_is
    ∙ counted (keyed_by g.K.Write.text g.V.Value.Write.text g.V.OperationCodec.operation_text g.K.Ord.cmp) g.V.Value.Read.view
    g.H.Hasher.hash_of (grafting_of g.F.Family.shape g.row.N) c.args.self.now d keeps
