use Rattle.std.proofs.Common.{◌≡◌, List, Some, sym, ap, ◌∙◌, subst, arith}
use Rattle.storage_current.specs.Keys.{Keyed, keyed_by, IsKeyed}
use Rattle.std.specs.BTreeMap.{BTreeMap}
use Rattle.storage_db.specs.declared.db.active.Active.{Active}
use Rattle.storage_db.specs.Rings.{next_key, previous}
use Rattle.storage_db.specs.Databases.{Database, active_at, updated, removed, delete}
use Rattle.storage_db.specs.Parts.{GoesOn, committed_of, database_of}
use Rattle.storage_db.proofs.Changing.{sorted_of, no_room, no_memory, delete_count, same_database, removed_parts, renewed_parts, stays_removed, delete_is}
use Rattle.storage_db.proofs.Going.{goes_same, goes_trans}
use Rattle.storage_db.specs.declared.db.log.Log.{Log}
use Rattle.storage_db.specs.Notes.{AreAlike}
use Rattle.storage_db.proofs.Keeping.{on_err}
use Rattle.storage_db.proofs.Notes.{alike_trans}
use Rattle.std.proofs.lemmas.Grind.{common_steps}
use Rattle.storage_db.proofs.db.changes.remove.Goals as goal

pub returns-clause-ok : goal.returns-clause-ok
returns-clause-ok g c = λ last.
    let e : Keyed g.row.K.Denot g.row.V-Value.Denot
    = keyed_by g.K.Write.text g.V.Value.Write.text g.V.OperationCodec.operation_text g.K.Ord.cmp in
    let is : IsKeyed e = c.operations_settle_keys.ensures in
    let found = rw c.in-Some.is at c.in_ok-predecessor_update.ensures in
    let key = c.args.key.now in
    let entries = c.args.active.now.present.entries in
    let at : previous e.cmp entries key ≡ Some found.0 = sym c.previous-before.ensures.value ∙ found.1 in
    let fewer = c.remove_active-in-Some.new.active.present.entries in
    let d : Database g.row.K.Denot g.row.V-Value.Denot = database_of c.args.log.now entries last in
    let next = next_key e.cmp entries key in
    let sorted = sorted_of e.cmp entries c.previous-before.ensures.ordered in
    let bits = rw c.note.ensures.present at c.in_ok-remove_active-in-Some.ensures.bits in
    let removed_is = rw c.note.ensures.present at c.in_ok-remove_active-in-Some.ensures.entries in
    let first : database_of c.remove_active-in-Some.new.log fewer last ≡ removed e d key
    = removed_parts e c.make_room.new.self c.remove_active-in-Some.new.log entries fewer last key c.in_ok-bytes.bytes
    c.in_ok-bytes.ensures c.in_ok-remove_active-in-Some.ensures.operations bits removed_is
    ∙ ap (λ (x : Database g.row.K.Denot g.row.V-Value.Denot). removed e x key)
    (same_database c.args.log.now c.make_room.new.self c.in_ok-make_room.ensures.operations
    c.in_ok-make_room.ensures.bits entries last) in
    let there : active_at e fewer found.0.0 ≡ Some found.0.1
    = ap (λ (x : Database g.row.K.Denot g.row.V-Value.Denot). active_at e x.entries found.0.0) first
    ∙ stays_removed e is d sorted key found.0 at in
    renewed_parts e is c.remove_active-in-Some.new.log c.renew.new.log fewer c.renew.new.active.present.entries last c.in-Some.start
    found.0 c.in_ok-next_key.next_key next c.in-Some.link found.2 (sorted_of e.cmp fewer c.renew.ensures.ordered) there
    c.in_ok-next_key.ensures found.3 c.renew.ensures.operations c.renew.ensures.bits c.renew.ensures.entries
    ∙ ap (λ (x : Database g.row.K.Denot g.row.V-Value.Denot). updated e x found.0.0 found.0.1.value next) first
    ∙ delete_is e is d sorted key found.0 at c.requires

pub returns-in_err-make_room-clause-why : goal.returns-in_err-make_room-clause-why
returns-in_err-make_room-clause-why g c =
    let e : Keyed g.row.K.Denot g.row.V-Value.Denot
    = keyed_by g.K.Write.text g.V.Value.Write.text g.V.OperationCodec.operation_text g.K.Ord.cmp in
    no_room c.args.log.now c.args.active.now.present.entries (λ x. delete e x c.args.key.now) c.appended.result
    (delete_count e c.args.log.now c.args.active.now.present.entries c.args.key.now _ c.previous-before.result c.previous-before.ensures.value
    c.appended.result c.appended.ensures c.requires)
    c.from_residual.result _ c.in_err-make_room.ensures.why c.from_residual.ensures.1

pub returns-in_err-next_key-clause-why : goal.returns-in_err-next_key-clause-why
returns-in_err-next_key-clause-why g c =
    let e : Keyed g.row.K.Denot g.row.V-Value.Denot
    = keyed_by g.K.Write.text g.V.Value.Write.text g.V.OperationCodec.operation_text g.K.Ord.cmp in
    no_memory c.args.log.now c.args.active.now.present.entries (λ x. delete e x c.args.key.now) c.appended.result
    (delete_count e c.args.log.now c.args.active.now.present.entries c.args.key.now _ c.previous-before.result c.previous-before.ensures.value
    c.appended.result c.appended.ensures c.requires)
    c.from_residual-in_err-next_key.result c.in_ok-make_room.ensures.few c.from_residual-in_err-next_key.ensures.1

pub returns-in_err-bytes-clause-why : goal.returns-in_err-bytes-clause-why
returns-in_err-bytes-clause-why g c =
    let e : Keyed g.row.K.Denot g.row.V-Value.Denot
    = keyed_by g.K.Write.text g.V.Value.Write.text g.V.OperationCodec.operation_text g.K.Ord.cmp in
    no_memory c.args.log.now c.args.active.now.present.entries (λ x. delete e x c.args.key.now) c.appended.result
    (delete_count e c.args.log.now c.args.active.now.present.entries c.args.key.now _ c.previous-before.result c.previous-before.ensures.value
    c.appended.result c.appended.ensures c.requires)
    c.from_residual-in_err-bytes.result c.in_ok-make_room.ensures.few c.from_residual-in_err-bytes.ensures.1

pub returns-in_err-predecessor_update-clause-why : goal.returns-in_err-predecessor_update-clause-why
returns-in_err-predecessor_update-clause-why g c =
    let e : Keyed g.row.K.Denot g.row.V-Value.Denot
    = keyed_by g.K.Write.text g.V.Value.Write.text g.V.OperationCodec.operation_text g.K.Ord.cmp in
    no_memory c.args.log.now c.args.active.now.present.entries (λ x. delete e x c.args.key.now) c.appended.result
    (delete_count e c.args.log.now c.args.active.now.present.entries c.args.key.now _ c.previous-before.result c.previous-before.ensures.value
    c.appended.result c.appended.ensures c.requires)
    c.from_residual-in_err-predecessor_update.result c.in_ok-make_room.ensures.few c.from_residual-in_err-predecessor_update.ensures.1

pub returns-in_err-note-in-Some-clause-why : goal.returns-in_err-note-in-Some-clause-why
returns-in_err-note-in-Some-clause-why g c =
    let e : Keyed g.row.K.Denot g.row.V-Value.Denot
    = keyed_by g.K.Write.text g.V.Value.Write.text g.V.OperationCodec.operation_text g.K.Ord.cmp in
    no_memory c.args.log.now c.args.active.now.present.entries (λ x. delete e x c.args.key.now) c.appended.result
    (delete_count e c.args.log.now c.args.active.now.present.entries c.args.key.now _ c.previous-before.result c.previous-before.ensures.value
    c.appended.result c.appended.ensures c.requires)
    c.from_residual-in_err-note-in-Some.result c.in_ok-make_room.ensures.few c.from_residual-in_err-note-in-Some.ensures.1

pub returns-in-None-clause-ok : goal.returns-in-None-clause-ok
returns-in-None-clause-ok g c = grind (arith, common_steps)

pub renew-requires-clause-room : goal.renew-requires-clause-room
renew-requires-clause-room g c = grind (arith, common_steps)

pub renew-requires-clause-clear_room : goal.renew-requires-clause-clear_room
renew-requires-clause-clear_room g c = grind (arith, common_steps)

pub renew-requires-clause-few : goal.renew-requires-clause-few
renew-requires-clause-few g c = grind (arith, common_steps)

pub returns-in_err-make_room-clause-err : goal.returns-in_err-make_room-clause-err
returns-in_err-make_room-clause-err g c = on_err c.from_residual.result
    (same_database c.args.log.now c.make_room.new.self c.in_err-make_room.ensures.operations c.in_err-make_room.ensures.bits c.args.active.now.present.entries)

pub returns-in_err-next_key-clause-err : goal.returns-in_err-next_key-clause-err
returns-in_err-next_key-clause-err g c = on_err c.from_residual-in_err-next_key.result
    (same_database c.args.log.now c.make_room.new.self c.in_ok-make_room.ensures.operations c.in_ok-make_room.ensures.bits c.args.active.now.present.entries)

pub returns-in_err-bytes-clause-err : goal.returns-in_err-bytes-clause-err
returns-in_err-bytes-clause-err g c = on_err c.from_residual-in_err-bytes.result
    (same_database c.args.log.now c.make_room.new.self c.in_ok-make_room.ensures.operations c.in_ok-make_room.ensures.bits c.args.active.now.present.entries)

pub returns-in_err-predecessor_update-clause-err : goal.returns-in_err-predecessor_update-clause-err
returns-in_err-predecessor_update-clause-err g c = on_err c.from_residual-in_err-predecessor_update.result
    (same_database c.args.log.now c.make_room.new.self c.in_ok-make_room.ensures.operations c.in_ok-make_room.ensures.bits c.args.active.now.present.entries)

pub returns-in_err-note-in-Some-clause-err : goal.returns-in_err-note-in-Some-clause-err
returns-in_err-note-in-Some-clause-err g c = on_err c.from_residual-in_err-note-in-Some.result (λ last.
    ap (λ (b : BTreeMap g.row.K.Denot (Active g.row.V-Value.Denot)). database_of c.make_room.new.self b.entries last) c.note.ensures.present
    ∙ same_database c.args.log.now c.make_room.new.self c.in_ok-make_room.ensures.operations c.in_ok-make_room.ensures.bits
    c.args.active.now.present.entries last)

pub returns-in_err-make_room-clause-on : goal.returns-in_err-make_room-clause-on
returns-in_err-make_room-clause-on g c =
    goes_same c.args.log.now c.make_room.new.self c.in_err-make_room.ensures.operations c.in_err-make_room.ensures.bits
    c.in_err-make_room.ensures.committed c.in_err-make_room.ensures.cleared

pub returns-in_err-next_key-clause-on : goal.returns-in_err-next_key-clause-on
returns-in_err-next_key-clause-on g c =
    goes_same c.args.log.now c.make_room.new.self c.in_ok-make_room.ensures.operations c.in_ok-make_room.ensures.bits
    c.in_ok-make_room.ensures.committed c.in_ok-make_room.ensures.cleared

pub returns-in_err-bytes-clause-on : goal.returns-in_err-bytes-clause-on
returns-in_err-bytes-clause-on g c =
    goes_same c.args.log.now c.make_room.new.self c.in_ok-make_room.ensures.operations c.in_ok-make_room.ensures.bits
    c.in_ok-make_room.ensures.committed c.in_ok-make_room.ensures.cleared

pub returns-in_err-predecessor_update-clause-on : goal.returns-in_err-predecessor_update-clause-on
returns-in_err-predecessor_update-clause-on g c =
    goes_same c.args.log.now c.make_room.new.self c.in_ok-make_room.ensures.operations c.in_ok-make_room.ensures.bits
    c.in_ok-make_room.ensures.committed c.in_ok-make_room.ensures.cleared

pub returns-in_err-note-in-Some-clause-on : goal.returns-in_err-note-in-Some-clause-on
returns-in_err-note-in-Some-clause-on g c =
    goes_same c.args.log.now c.make_room.new.self c.in_ok-make_room.ensures.operations c.in_ok-make_room.ensures.bits
    c.in_ok-make_room.ensures.committed c.in_ok-make_room.ensures.cleared

pub returns-in-None-clause-on : goal.returns-in-None-clause-on
returns-in-None-clause-on g c =
    goes_trans c.args.log.now c.make_room.new.self c.remove_active.new.log (goes_same c.args.log.now c.make_room.new.self c.in_ok-make_room.ensures.operations c.in_ok-make_room.ensures.bits
    c.in_ok-make_room.ensures.committed c.in_ok-make_room.ensures.cleared)
    c.in_ok-remove_active-in-None.ensures.on

pub returns-clause-on : goal.returns-clause-on
returns-clause-on g c =
    goes_trans c.args.log.now c.remove_active-in-Some.new.log c.renew.new.log
    (goes_trans c.args.log.now c.make_room.new.self c.remove_active-in-Some.new.log (goes_same c.args.log.now c.make_room.new.self c.in_ok-make_room.ensures.operations c.in_ok-make_room.ensures.bits
    c.in_ok-make_room.ensures.committed c.in_ok-make_room.ensures.cleared)
    c.in_ok-remove_active-in-Some.ensures.on) c.renew.ensures.on

pub returns-clause-committed : goal.returns-clause-committed
returns-clause-committed g c = λ noting.
    let old = committed_of g.K.Ord.cmp c.args.active.now in
    let then = committed_of g.K.Ord.cmp c.remove_active-in-Some.new.active in
    alike_trans g.met.K.Ord.total old then (committed_of g.K.Ord.cmp c.renew.new.active)
    (subst (λ (l : List (g.row.K.Denot × Active g.row.V-Value.Denot)). AreAlike g.K.Ord.cmp l then) c.note.ensures.committed
    (c.in_ok-remove_active-in-Some.ensures.committed noting))
    (c.renew.ensures.committed (c.remove_active-in-Some.ensures.others c.in-Some.start (c.in_ok-note-in-Some.ensures.noted noting)))

pub returns-in_err-remove_active-in-None-clause-why : goal.returns-in_err-remove_active-in-None-clause-why
returns-in_err-remove_active-in-None-clause-why g c =
    let e : Keyed g.row.K.Denot g.row.V-Value.Denot
    = keyed_by g.K.Write.text g.V.Value.Write.text g.V.OperationCodec.operation_text g.K.Ord.cmp in
    no_memory c.args.log.now c.args.active.now.present.entries (λ x. delete e x c.args.key.now) c.appended.result
    (delete_count e c.args.log.now c.args.active.now.present.entries c.args.key.now _ c.previous-before.result c.previous-before.ensures.value
    c.appended.result c.appended.ensures c.requires)
    c.from_residual-in_err-remove_active-in-None.result c.in_ok-make_room.ensures.few c.from_residual-in_err-remove_active-in-None.ensures.1

pub returns-in_err-remove_active-in-None-clause-on : goal.returns-in_err-remove_active-in-None-clause-on
returns-in_err-remove_active-in-None-clause-on g c =
    subst (λ (l : Log). GoesOn c.args.log.now l) (sym c.in_err-remove_active-in-None.ensures.err)
    (goes_same c.args.log.now c.make_room.new.self c.in_ok-make_room.ensures.operations c.in_ok-make_room.ensures.bits
    c.in_ok-make_room.ensures.committed c.in_ok-make_room.ensures.cleared)

pub returns-in_err-remove_active-in-Some-clause-why : goal.returns-in_err-remove_active-in-Some-clause-why
returns-in_err-remove_active-in-Some-clause-why g c =
    let e : Keyed g.row.K.Denot g.row.V-Value.Denot
    = keyed_by g.K.Write.text g.V.Value.Write.text g.V.OperationCodec.operation_text g.K.Ord.cmp in
    no_memory c.args.log.now c.args.active.now.present.entries (λ x. delete e x c.args.key.now) c.appended.result
    (delete_count e c.args.log.now c.args.active.now.present.entries c.args.key.now _ c.previous-before.result c.previous-before.ensures.value
    c.appended.result c.appended.ensures c.requires)
    c.from_residual-in_err-remove_active-in-Some.result c.in_ok-make_room.ensures.few c.from_residual-in_err-remove_active-in-Some.ensures.1

pub returns-in_err-remove_active-in-Some-clause-on : goal.returns-in_err-remove_active-in-Some-clause-on
returns-in_err-remove_active-in-Some-clause-on g c =
    subst (λ (l : Log). GoesOn c.args.log.now l) (sym c.in_err-remove_active-in-Some.ensures.err)
    (goes_same c.args.log.now c.make_room.new.self c.in_ok-make_room.ensures.operations c.in_ok-make_room.ensures.bits
    c.in_ok-make_room.ensures.committed c.in_ok-make_room.ensures.cleared)
