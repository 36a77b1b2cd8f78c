use Rattle.storage_current.specs.Keys.{Keyed, keyed_by}
use Rattle.storage_db.specs.Opening.{ReadsAs, ReadsCommand}
use Rattle.storage_db.proofs.Again.{again_is, unread_told}
use Rattle.storage_db.proofs.Changing.{sorted_of}
use Rattle.storage_db.proofs.Going.{goes_same}
use Rattle.storage_db.proofs.db.again.put_again.Goals as goal

pub returns-in_err-make_room-clause-on : goal.returns-in_err-make_room-clause-on
returns-in_err-make_room-clause-on g c =
    goes_same c.args.log.now c.make_room.new.self c.in_err-make_room.ensures.operations c.in_err-make_room.ensures.bits
    c.in_err-make_room.ensures.committed c.in_err-make_room.ensures.cleared

pub returns-in_err-key-clause-on : goal.returns-in_err-key-clause-on
returns-in_err-key-clause-on g c =
    goes_same c.args.log.now c.make_room.new.self c.in_ok-make_room.ensures.operations c.in_ok-make_room.ensures.bits
    c.in_ok-make_room.ensures.committed c.in_ok-make_room.ensures.cleared

pub returns-in_default-clause-on : goal.returns-in_default-clause-on
returns-in_default-clause-on g c =
    goes_same c.args.log.now c.make_room.new.self c.in_ok-make_room.ensures.operations c.in_ok-make_room.ensures.bits
    c.in_ok-make_room.ensures.committed c.in_ok-make_room.ensures.cleared

pub returns-in_err-note-clause-on : goal.returns-in_err-note-clause-on
returns-in_err-note-clause-on g c =
    goes_same c.args.log.now c.make_room.new.self c.in_ok-make_room.ensures.operations c.in_ok-make_room.ensures.bits
    c.in_ok-make_room.ensures.committed c.in_ok-make_room.ensures.cleared

pub returns-in_default-clause-why : goal.returns-in_default-clause-why
returns-in_default-clause-why g c =
    let e : Keyed g.row.K.Denot g.row.V-Value.Denot
    = keyed_by g.K.Write.text g.V.Value.Write.text g.V.OperationCodec.operation_text g.K.Ord.cmp in
    let reads = ReadsCommand (ReadsAs (g.V.OperationCodec.operation_parse c.args.cfg.now) g.V.OperationCodec.operation_view)
    (λ k v n. record { key = k; value = v; next_key = n }) in
    let found = rw c.in_default.is at c.in_ok-key.ensures in
    unread_told e reads c.args.active.now.present.entries c.args.location g.row.F.Denot c.args.log.now c.make_room.new.self
    c.in_ok-make_room.ensures.operations c.in_ok-make_room.ensures.few found c.new.result c.new.ensures

pub returns-clause-ok : goal.returns-clause-ok
returns-clause-ok g c =
    let e : Keyed g.row.K.Denot g.row.V-Value.Denot
    = keyed_by g.K.Write.text g.V.Value.Write.text g.V.OperationCodec.operation_text g.K.Ord.cmp in
    let entries = c.args.active.now.present.entries in
    let written = rw c.in-Some.is at c.in_ok-key.ensures in
    let sorted = rw c.note.ensures.present at (sorted_of e.cmp c.note.new.active.present.entries c.renew.ensures.ordered) in
    let bits = rw c.note.ensures.present at c.renew.ensures.bits in
    let moved = rw c.note.ensures.present at c.renew.ensures.entries in
    again_is e c.operations_settle_keys.ensures c.args.log.now c.make_room.new.self c.renew.new.log entries
    c.renew.new.active.present.entries c.in_ok-make_room.ensures.operations c.in_ok-make_room.ensures.bits sorted
    c.in-Some.key c.args.location c.in-Some.bytes written c.renew.ensures.operations bits moved
