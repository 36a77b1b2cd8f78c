use Rattle.storage_current.specs.Keys.{Keyed, keyed_by}
use Rattle.storage_db.specs.declared.db.log.Log.{Log}
use Rattle.storage_db.specs.Databases.{put}
use Rattle.storage_db.specs.Parts.{GoesOn}
use Rattle.storage_db.proofs.Changing.{no_room, no_memory, update_count, same_database}
use Rattle.storage_db.proofs.Going.{goes_same, goes_trans}
use Rattle.storage_db.proofs.Keeping.{on_err}
use Rattle.std.proofs.Common.{sym, subst, arith}
use Rattle.std.proofs.lemmas.Grind.{common_steps}
use Rattle.storage_db.proofs.db.changes.put_active.Goals as goal

pub returns-in_err-make_room-clause-why : goal.returns-in_err-make_room-clause-why
returns-in_err-make_room-clause-why g c =
    let e : Keyed g.row.K.Denot g.row.V-Value.Denot
    = keyed_by g.K.Write.text g.V.Value.Write.text g.V.OperationCodec.operation_text g.K.Ord.cmp in
    no_room c.args.log.now c.args.active.now.present.entries (λ x. put e x c.args.key c.args.value) 1
    (update_count e c.args.log.now c.args.active.now.present.entries c.args.key c.args.value c.requires)
    c.from_residual.result _ c.in_err-make_room.ensures.why c.from_residual.ensures.1

pub returns-in_err-next_key-clause-why : goal.returns-in_err-next_key-clause-why
returns-in_err-next_key-clause-why g c =
    let e : Keyed g.row.K.Denot g.row.V-Value.Denot
    = keyed_by g.K.Write.text g.V.Value.Write.text g.V.OperationCodec.operation_text g.K.Ord.cmp in
    no_memory c.args.log.now c.args.active.now.present.entries (λ x. put e x c.args.key c.args.value) 1
    (update_count e c.args.log.now c.args.active.now.present.entries c.args.key c.args.value c.requires)
    c.from_residual-in_err-next_key.result c.in_ok-make_room.ensures.few c.from_residual-in_err-next_key.ensures.1

pub returns-in_err-bytes-clause-why : goal.returns-in_err-bytes-clause-why
returns-in_err-bytes-clause-why g c =
    let e : Keyed g.row.K.Denot g.row.V-Value.Denot
    = keyed_by g.K.Write.text g.V.Value.Write.text g.V.OperationCodec.operation_text g.K.Ord.cmp in
    no_memory c.args.log.now c.args.active.now.present.entries (λ x. put e x c.args.key c.args.value) 1
    (update_count e c.args.log.now c.args.active.now.present.entries c.args.key c.args.value c.requires)
    c.from_residual-in_err-bytes.result c.in_ok-make_room.ensures.few c.from_residual-in_err-bytes.ensures.1

pub returns-in_err-set-clause-why : goal.returns-in_err-set-clause-why
returns-in_err-set-clause-why g c =
    let e : Keyed g.row.K.Denot g.row.V-Value.Denot
    = keyed_by g.K.Write.text g.V.Value.Write.text g.V.OperationCodec.operation_text g.K.Ord.cmp in
    no_memory c.args.log.now c.args.active.now.present.entries (λ x. put e x c.args.key c.args.value) 1
    (update_count e c.args.log.now c.args.active.now.present.entries c.args.key c.args.value c.requires)
    c.from_residual-in_err-set.result c.in_ok-make_room.ensures.few c.from_residual-in_err-set.ensures.1

pub returns-clause-ok : goal.returns-clause-ok
returns-clause-ok g c = grind (arith, common_steps)

pub returns-in_err-make_room-clause-err : goal.returns-in_err-make_room-clause-err
returns-in_err-make_room-clause-err g c = on_err c.from_residual.result
    (same_database c.args.log.now c.make_room.new.self c.in_err-make_room.ensures.operations c.in_err-make_room.ensures.bits c.args.active.now.present.entries)

pub returns-in_err-next_key-clause-err : goal.returns-in_err-next_key-clause-err
returns-in_err-next_key-clause-err g c = on_err c.from_residual-in_err-next_key.result
    (same_database c.args.log.now c.make_room.new.self c.in_ok-make_room.ensures.operations c.in_ok-make_room.ensures.bits c.args.active.now.present.entries)

pub returns-in_err-bytes-clause-err : goal.returns-in_err-bytes-clause-err
returns-in_err-bytes-clause-err g c = on_err c.from_residual-in_err-bytes.result
    (same_database c.args.log.now c.make_room.new.self c.in_ok-make_room.ensures.operations c.in_ok-make_room.ensures.bits c.args.active.now.present.entries)

pub returns-in_err-make_room-clause-on : goal.returns-in_err-make_room-clause-on
returns-in_err-make_room-clause-on g c =
    goes_same c.args.log.now c.make_room.new.self c.in_err-make_room.ensures.operations c.in_err-make_room.ensures.bits
    c.in_err-make_room.ensures.committed c.in_err-make_room.ensures.cleared

pub returns-in_err-next_key-clause-on : goal.returns-in_err-next_key-clause-on
returns-in_err-next_key-clause-on g c =
    goes_same c.args.log.now c.make_room.new.self c.in_ok-make_room.ensures.operations c.in_ok-make_room.ensures.bits
    c.in_ok-make_room.ensures.committed c.in_ok-make_room.ensures.cleared

pub returns-in_err-bytes-clause-on : goal.returns-in_err-bytes-clause-on
returns-in_err-bytes-clause-on g c =
    goes_same c.args.log.now c.make_room.new.self c.in_ok-make_room.ensures.operations c.in_ok-make_room.ensures.bits
    c.in_ok-make_room.ensures.committed c.in_ok-make_room.ensures.cleared

pub returns-in_err-set-clause-on : goal.returns-in_err-set-clause-on
returns-in_err-set-clause-on g c =
    subst (λ (l : Log). GoesOn c.args.log.now l) (sym c.in_err-set.ensures.err)
    (goes_same c.args.log.now c.make_room.new.self c.in_ok-make_room.ensures.operations c.in_ok-make_room.ensures.bits
    c.in_ok-make_room.ensures.committed c.in_ok-make_room.ensures.cleared)

pub returns-clause-on : goal.returns-clause-on
returns-clause-on g c =
    goes_trans c.args.log.now c.make_room.new.self c.set.new.log (goes_same c.args.log.now c.make_room.new.self c.in_ok-make_room.ensures.operations c.in_ok-make_room.ensures.bits
    c.in_ok-make_room.ensures.committed c.in_ok-make_room.ensures.cleared)
    c.in_ok-set.ensures.on
