use Rattle.std.proofs.Common.{◌≡◌, ℕ, Bool, List, length, refl, sym, ap, ◌∙◌, arith}
use Rattle.std.specs.Global.{Vec}
use Rattle.storage_current.specs.Keys.{Keyed, keyed_by}
use Rattle.storage_db.specs.Databases.{Database, empty, run}
use Rattle.storage_db.specs.Logs.{cleared_at}
use Rattle.storage_db.proofs.OpeningFloors.{floor_again}
use Rattle.storage_db.proofs.OpeningReplays.{commit_done, passed, place_found, room_replay}
use Rattle.storage_db.proofs.db.replay.Replay.commit.Goals as goal

pub returns : goal.returns
returns g c = λ commands replay.
    let e : Keyed g.row.K.Denot g.row.V-Value.Denot
    = keyed_by g.K.Write.text g.V.Value.Write.text g.V.OperationCodec.operation_text g.K.Ord.cmp in
    let d : Database g.row.K.Denot g.row.V-Value.Denot = run e empty commands in
    let log = c.args.self.now.log in
    let room = c.make_room.new.self in
    let new = c.settle.new.self in
    let entries = c.args.self.now.active.present.entries in
    let made = room_replay e log room entries c.args.self.now.last d c.make_room.ensures.operations c.make_room.ensures.bits
    c.make_room.ensures.committed c.make_room.ensures.cleared replay in
    let few = passed c.make_room.result c.in_ok-is_done.field-0 c.in_ok-is_done.ensures c.if-not-branch.false c.make_room.ensures.few in
    let place = place_found room.committed c.checked_sub-before.result c.checked_sub-before.ensures in
    let same : length room.operations.items ≡ length log.operations.items
    = ap (λ (l : List (Vec ℕ)). length l) c.make_room.ensures.operations in
    commit_done e room new entries c.args.self.now.last d made c.args.metadata c.new-floor.result c.in_ok-bytes.bytes
    c.checked_sub-before.result (omega (arith, same, few))
    (c.new-floor.ensures ∙ floor_again e c.operations_settle_keys.ensures
    (record { put_is = λ d key value. refl; commit_is = λ d metadata. refl }) room entries c.args.self.now.last commands made
    c.checked_sub-before.result place c.last_floor.result c.last_floor.ensures c.first_active.result c.first_active.ensures)
    c.in_ok-bytes.ensures place
    (ap (λ (v : Vec (Vec ℕ)). v.items) c.settle.ensures.operations ∙ c.append.ensures.operations)
    (c.settle.ensures.bits ∙ ap (λ (b : List Bool). cleared_at c.checked_sub-before.result b) c.append.ensures.bits)
    (c.settle.ensures.committed ∙ sym (ap (λ (v : Vec (Vec ℕ)). length v.items) c.settle.ensures.operations))
    c.settle.ensures.cleared
