use Rattle.std.proofs.Common.{sym, ◌∙◌}
use Rattle.storage_current.specs.Keys.{Keyed, keyed_by}
use Rattle.storage_db.specs.Databases.{Delete}
use Rattle.storage_db.proofs.OpeningReplays.{absent_not_done, delete_last, held_own, step_answered}
use Rattle.storage_db.proofs.db.replay.Replay.delete.Goals as goal

pub returns-then-not-contains_key : goal.returns-then-not-contains_key
returns-then-not-contains_key g c = λ d replay.
    let e : Keyed g.row.K.Denot g.row.V-Value.Denot
    = keyed_by g.K.Write.text g.V.Value.Write.text g.V.OperationCodec.operation_text g.K.Ord.cmp in
    absent_not_done e c.args.self.now.log c.args.self.now.active.present.entries c.args.self.now.last d replay c.args.key.now
    (sym c.contains_key.ensures ∙ c.if-not-contains_key.true)

pub returns : goal.returns
returns g c = λ d replay.
    let e : Keyed g.row.K.Denot g.row.V-Value.Denot
    = keyed_by g.K.Write.text g.V.Value.Write.text g.V.OperationCodec.operation_text g.K.Ord.cmp in
    step_answered e c.args.self.now.log c.remove.new.log c.args.self.now.active.present.entries c.remove.new.active.present.entries
    c.args.self.now.last d replay (Delete c.args.key.now) c.remove.result c.is_done.result c.is_done.ensures
    c.remove.ensures.ok c.remove.ensures.few c.remove.ensures.on.committed c.remove.ensures.why
    (held_own e c.args.self.now.log c.args.self.now.active.present.entries c.args.self.now.last d replay c.args.key.now
    (sym c.contains_key.ensures ∙ c.if-not-contains_key.false))
    (delete_last e d c.args.key.now)
