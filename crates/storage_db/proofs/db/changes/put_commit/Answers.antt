use Rattle.std.proofs.Common.{refl, ◌∙◌}
use Rattle.storage_current.specs.Keys.{Keyed, keyed_by}
use Rattle.storage_current.specs.Snapshots.{grafting_of}
use Rattle.storage_db.specs.Databases.{Commit, commit}
use Rattle.storage_db.specs.Floors.{floor_of}
use Rattle.storage_db.specs.Parts.{committed_of, kept_of, kept_with, place_of}
use Rattle.storage_db.proofs.Changing.{no_room, no_memory}
use Rattle.storage_db.proofs.Commits.{HasRoomMore, commit_count, done_with_room, keeps_with_room, kept_same, since_same}
use Rattle.storage_db.proofs.Floors.{floor_found, floor_later}
use Rattle.storage_db.proofs.Keeping.{on_err}
use Rattle.storage_db.proofs.db.changes.put_commit.Goals as goal

pub returns-clause-ok : goal.returns-clause-ok
returns-clause-ok g c = λ since marked.
    let e : Keyed g.row.K.Denot g.row.V-Value.Denot
    = keyed_by g.K.Write.text g.V.Value.Write.text g.V.OperationCodec.operation_text g.K.Ord.cmp in
    let more : HasRoomMore c.args.log.now c.make_room.new.self
    = record {
      operations = c.in_ok-make_room.ensures.operations;
      bits = c.in_ok-make_room.ensures.bits;
      committed = c.in_ok-make_room.ensures.committed;
      cleared = c.in_ok-make_room.ensures.cleared;
    } in
    done_with_room e g.V.Value.Read.view g.H.Hasher.hash_of (grafting_of g.F.Family.shape g.row.N) c.args.log.now c.make_room.new.self
    c.args.active.now.present.entries (kept_with g.K.Ord.cmp c.args.active.now c.args.last.now) (kept_of c.append_commit.new.log c.append_commit.new.active.present.entries (kept_with g.K.Ord.cmp c.append_commit.new.active c.append_commit.new.last)) (Commit c.args.metadata) more
    (c.in_ok-append_commit.ensures.ok (since_same c.args.log.now c.make_room.new.self (kept_with g.K.Ord.cmp c.args.active.now c.args.last.now) (kept_with g.K.Ord.cmp c.args.active.now c.args.last.now) more refl since)
    (floor_later c.args.log.now c.make_room.new.self c.args.active.now.present.entries
    (place_of (kept_with g.K.Ord.cmp c.args.active.now c.args.last.now)) (floor_of (kept_with g.K.Ord.cmp c.args.active.now c.args.last.now)) marked c.in_ok-make_room.ensures.bits
    c.location_of.result c.floor_of.result (c.floor_of.ensures (committed_of g.K.Ord.cmp c.args.active.now)) c.first_active.result c.first_active.ensures
    c.new-floor.result c.new-floor.ensures)
    (c.new-floor.ensures ∙ floor_found g.met.K.Ord.total c.args.log.now c.make_room.new.self c.args.active.now.present.entries
    (place_of (kept_with g.K.Ord.cmp c.args.active.now c.args.last.now)) (floor_of (kept_with g.K.Ord.cmp c.args.active.now c.args.last.now)) marked c.in_ok-make_room.ensures.bits
    c.location_of.result (c.location_of.ensures (committed_of g.K.Ord.cmp c.args.active.now)) c.floor_of.result (c.floor_of.ensures (committed_of g.K.Ord.cmp c.args.active.now)) c.first_active.result c.first_active.ensures)
    c.in_ok-bytes.ensures)

pub returns-in_err-append_commit-clause-err : goal.returns-in_err-append_commit-clause-err
returns-in_err-append_commit-clause-err g c =
    let more : HasRoomMore c.args.log.now c.make_room.new.self
    = record {
      operations = c.in_ok-make_room.ensures.operations;
      bits = c.in_ok-make_room.ensures.bits;
      committed = c.in_ok-make_room.ensures.committed;
      cleared = c.in_ok-make_room.ensures.cleared;
    } in
    on_err c.from_residual-in_err-append_commit.result
    (c.in_err-append_commit.ensures.err ∙ kept_same c.args.log.now c.make_room.new.self c.args.active.now.present.entries (kept_with g.K.Ord.cmp c.args.active.now c.args.last.now) (kept_with g.K.Ord.cmp c.args.active.now c.args.last.now) more refl)

pub returns-in_err-make_room-clause-err : goal.returns-in_err-make_room-clause-err
returns-in_err-make_room-clause-err g c =
    let more : HasRoomMore c.args.log.now c.make_room.new.self
    = record {
      operations = c.in_err-make_room.ensures.operations;
      bits = c.in_err-make_room.ensures.bits;
      committed = c.in_err-make_room.ensures.committed;
      cleared = c.in_err-make_room.ensures.cleared;
    } in
    on_err c.from_residual.result (kept_same c.args.log.now c.make_room.new.self c.args.active.now.present.entries (kept_with g.K.Ord.cmp c.args.active.now c.args.last.now) (kept_with g.K.Ord.cmp c.args.active.now c.args.last.now) more refl)

pub returns-in_err-bytes-clause-err : goal.returns-in_err-bytes-clause-err
returns-in_err-bytes-clause-err g c =
    let more : HasRoomMore c.args.log.now c.make_room.new.self
    = record {
      operations = c.in_ok-make_room.ensures.operations;
      bits = c.in_ok-make_room.ensures.bits;
      committed = c.in_ok-make_room.ensures.committed;
      cleared = c.in_ok-make_room.ensures.cleared;
    } in
    on_err c.from_residual-in_err-bytes.result (kept_same c.args.log.now c.make_room.new.self c.args.active.now.present.entries (kept_with g.K.Ord.cmp c.args.active.now c.args.last.now) (kept_with g.K.Ord.cmp c.args.active.now c.args.last.now) more refl)

pub returns-in_err-make_room-clause-since : goal.returns-in_err-make_room-clause-since
returns-in_err-make_room-clause-since g c = λ since d keeps.
    let more : HasRoomMore c.args.log.now c.make_room.new.self
    = record {
      operations = c.in_err-make_room.ensures.operations;
      bits = c.in_err-make_room.ensures.bits;
      committed = c.in_err-make_room.ensures.committed;
      cleared = c.in_err-make_room.ensures.cleared;
    } in
    since_same c.args.log.now c.make_room.new.self (kept_with g.K.Ord.cmp c.args.active.now c.args.last.now) (kept_with g.K.Ord.cmp c.args.active.now c.args.last.now) more refl since

pub returns-in_err-bytes-clause-since : goal.returns-in_err-bytes-clause-since
returns-in_err-bytes-clause-since g c = λ since d keeps.
    let more : HasRoomMore c.args.log.now c.make_room.new.self
    = record {
      operations = c.in_ok-make_room.ensures.operations;
      bits = c.in_ok-make_room.ensures.bits;
      committed = c.in_ok-make_room.ensures.committed;
      cleared = c.in_ok-make_room.ensures.cleared;
    } in
    since_same c.args.log.now c.make_room.new.self (kept_with g.K.Ord.cmp c.args.active.now c.args.last.now) (kept_with g.K.Ord.cmp c.args.active.now c.args.last.now) more refl since

pub returns-in_err-append_commit-clause-since : goal.returns-in_err-append_commit-clause-since
returns-in_err-append_commit-clause-since g c = λ since d keeps.
    let e : Keyed g.row.K.Denot g.row.V-Value.Denot
    = keyed_by g.K.Write.text g.V.Value.Write.text g.V.OperationCodec.operation_text g.K.Ord.cmp in
    let more : HasRoomMore c.args.log.now c.make_room.new.self
    = record {
      operations = c.in_ok-make_room.ensures.operations;
      bits = c.in_ok-make_room.ensures.bits;
      committed = c.in_ok-make_room.ensures.committed;
      cleared = c.in_ok-make_room.ensures.cleared;
    } in
    c.append_commit.ensures.since (since_same c.args.log.now c.make_room.new.self (kept_with g.K.Ord.cmp c.args.active.now c.args.last.now) (kept_with g.K.Ord.cmp c.args.active.now c.args.last.now) more refl since)
    d (keeps_with_room e g.V.Value.Read.view g.H.Hasher.hash_of (grafting_of g.F.Family.shape g.row.N) c.args.log.now c.make_room.new.self
    c.args.active.now.present.entries (kept_with g.K.Ord.cmp c.args.active.now c.args.last.now) more d keeps)

pub returns-clause-since : goal.returns-clause-since
returns-clause-since g c = λ since d keeps.
    let e : Keyed g.row.K.Denot g.row.V-Value.Denot
    = keyed_by g.K.Write.text g.V.Value.Write.text g.V.OperationCodec.operation_text g.K.Ord.cmp in
    let more : HasRoomMore c.args.log.now c.make_room.new.self
    = record {
      operations = c.in_ok-make_room.ensures.operations;
      bits = c.in_ok-make_room.ensures.bits;
      committed = c.in_ok-make_room.ensures.committed;
      cleared = c.in_ok-make_room.ensures.cleared;
    } in
    c.append_commit.ensures.since (since_same c.args.log.now c.make_room.new.self (kept_with g.K.Ord.cmp c.args.active.now c.args.last.now) (kept_with g.K.Ord.cmp c.args.active.now c.args.last.now) more refl since)
    d (keeps_with_room e g.V.Value.Read.view g.H.Hasher.hash_of (grafting_of g.F.Family.shape g.row.N) c.args.log.now c.make_room.new.self
    c.args.active.now.present.entries (kept_with g.K.Ord.cmp c.args.active.now c.args.last.now) more d keeps)

pub returns-in_err-make_room-clause-why : goal.returns-in_err-make_room-clause-why
returns-in_err-make_room-clause-why g c =
    let e : Keyed g.row.K.Denot g.row.V-Value.Denot
    = keyed_by g.K.Write.text g.V.Value.Write.text g.V.OperationCodec.operation_text g.K.Ord.cmp in
    no_room c.args.log.now c.args.active.now.present.entries (λ x. commit e x c.args.metadata) 1
    (λ last. commit_count e c.args.log.now c.args.active.now.present.entries last c.args.metadata)
    c.from_residual.result _ c.in_err-make_room.ensures.why c.from_residual.ensures.1

pub returns-in_err-bytes-clause-why : goal.returns-in_err-bytes-clause-why
returns-in_err-bytes-clause-why g c =
    let e : Keyed g.row.K.Denot g.row.V-Value.Denot
    = keyed_by g.K.Write.text g.V.Value.Write.text g.V.OperationCodec.operation_text g.K.Ord.cmp in
    no_memory c.args.log.now c.args.active.now.present.entries (λ x. commit e x c.args.metadata) 1
    (λ last. commit_count e c.args.log.now c.args.active.now.present.entries last c.args.metadata)
    c.from_residual-in_err-bytes.result c.in_ok-make_room.ensures.few c.from_residual-in_err-bytes.ensures.1

pub returns-in_err-append_commit-clause-why : goal.returns-in_err-append_commit-clause-why
returns-in_err-append_commit-clause-why g c =
    let e : Keyed g.row.K.Denot g.row.V-Value.Denot
    = keyed_by g.K.Write.text g.V.Value.Write.text g.V.OperationCodec.operation_text g.K.Ord.cmp in
    no_memory c.args.log.now c.args.active.now.present.entries (λ x. commit e x c.args.metadata) 1
    (λ last. commit_count e c.args.log.now c.args.active.now.present.entries last c.args.metadata)
    c.from_residual-in_err-append_commit.result c.in_ok-make_room.ensures.few c.from_residual-in_err-append_commit.ensures.1
