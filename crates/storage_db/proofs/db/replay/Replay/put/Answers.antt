use Rattle.std.proofs.Common.{sym}
use Rattle.storage_current.specs.Keys.{Keyed, keyed_by}
use Rattle.storage_db.specs.Databases.{Put}
use Rattle.storage_db.proofs.OpeningReplays.{put_last, step_answered}
use Rattle.storage_db.proofs.db.replay.Replay.put.Goals as goal

pub put_new-requires : goal.put_new-requires
put_new-requires g c = sym c.if-contains_key.ensures

pub returns-then-contains_key : goal.returns-then-contains_key
returns-then-contains_key g c = λ d replay.
    let e : Keyed g.row.K.Denot g.row.V-Value.Denot
    = keyed_by g.K.Write.text g.V.Value.Write.text g.V.OperationCodec.operation_text g.K.Ord.cmp in
    step_answered e c.args.self.now.log c.put_active.new.log c.args.self.now.active.present.entries c.put_active.new.active.present.entries
    c.args.self.now.last d replay (Put c.args.key c.args.value) c.put_active.result c.is_done.result c.is_done.ensures
    c.put_active.ensures.ok c.put_active.ensures.few c.put_active.ensures.on.committed c.put_active.ensures.why tt
    (put_last e d c.args.key c.args.value)

pub returns-else-contains_key : goal.returns-else-contains_key
returns-else-contains_key g c = λ d replay.
    let e : Keyed g.row.K.Denot g.row.V-Value.Denot
    = keyed_by g.K.Write.text g.V.Value.Write.text g.V.OperationCodec.operation_text g.K.Ord.cmp in
    step_answered e c.args.self.now.log c.put_new.new.log c.args.self.now.active.present.entries c.put_new.new.active.present.entries
    c.args.self.now.last d replay (Put c.args.key c.args.value) c.put_new.result c.is_done-else-contains_key.result c.is_done-else-contains_key.ensures
    c.put_new.ensures.ok c.put_new.ensures.few c.put_new.ensures.on.committed c.put_new.ensures.why tt
    (put_last e d c.args.key c.args.value)
