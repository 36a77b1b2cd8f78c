use Rattle.std.proofs.Common.{ℕ, List, [], ◌∷◌, length, ap, sym, ◌∙◌, subst, arith}
use Rattle.std.specs.Global.{Vec}
use Rattle.std.proofs.lemmas.List.{length-append}
use Rattle.storage_current.specs.Keys.{Keyed, keyed_by}
use Rattle.storage_current.specs.Snapshots.{grafting_of}
use Rattle.std.specs.BTreeMap.{BTreeMap}
use Rattle.storage_db.specs.declared.db.active.Active.{Active}
use Rattle.storage_db.specs.Databases.{Commit}
use Rattle.storage_db.specs.Kept.{IsDone, KeptDatabase}
use Rattle.storage_db.specs.Parts.{committed_of, kept_of, kept_with}
use Rattle.storage_db.proofs.Cases.{on_ok, on_refused}
use Rattle.storage_db.proofs.Commits.{HasOneMore, HasRoomMore, IsSettled, committed_with, kept_same, one_goes, since_now, since_same, taken_back}
use Rattle.storage_db.proofs.Going.{since_on}
use Rattle.storage_db.proofs.Remembering.{forgotten, since_any, some_with, with_all}
use Rattle.storage_db.proofs.db.changes.append_commit.Goals as goal

pub returns-clause-ok : goal.returns-clause-ok
returns-clause-ok g c = λ since later floor written.
    let e : Keyed g.row.K.Denot g.row.V-Value.Denot
    = keyed_by g.K.Write.text g.V.Value.Write.text g.V.OperationCodec.operation_text g.K.Ord.cmp in
    let one : HasOneMore c.args.log.now c.append.new.self c.args.bytes
    = record {
      operations = c.append.ensures.operations;
      bits = c.append.ensures.bits;
      committed = c.append.ensures.committed;
      cleared = c.append.ensures.cleared;
    } in
    let made = since_on c.args.log.now c.append.new.self (kept_with g.K.Ord.cmp c.args.active.now c.args.last.now) (one_goes c.args.log.now c.append.new.self c.args.bytes one)
    since in
    let settled : IsSettled c.append.new.self c.settle.new.self c.location_of-before.result
    = record {
      operations = c.settle.ensures.operations;
      bits = c.settle.ensures.bits;
      committed = c.settle.ensures.committed;
      cleared = c.settle.ensures.cleared;
    } in
    subst (λ (k : KeptDatabase g.row.K.Denot g.row.V-Value.Denot). IsDone e g.V.Value.Read.view g.H.Hasher.hash_of
    (grafting_of g.F.Family.shape g.row.N) (kept_of c.args.log.now c.args.active.now.present.entries
    (kept_with g.K.Ord.cmp c.args.active.now c.args.last.now)) k (Commit c.args.metadata))
    (sym (forgotten g.K.Ord.cmp c.forget.new.self c.args.active.now.present.entries c.settle.new.self c.keep.new.last
    (ap (λ (b : BTreeMap g.row.K.Denot (Active g.row.V-Value.Denot)). b.entries) c.forget.ensures.present) c.forget.ensures.notes))
    (λ d keeps. committed_with e g.V.Value.Read.view g.H.Hasher.hash_of (grafting_of g.F.Family.shape g.row.N) c.args.log.now
    c.append.new.self c.settle.new.self c.args.active.now.present.entries (kept_with g.K.Ord.cmp c.args.active.now c.args.last.now) c.args.bytes one since
    c.location_of-before.result (c.location_of-before.ensures (committed_of g.K.Ord.cmp c.args.active.now)) settled c.args.metadata
    c.args.floor
    (with_all c.args.active.now.present.entries c.keep.new.last) later floor written (some_with _ c.args.active.now.present.entries c.keep.new.last
    (on_ok _ c.keep.result (sym c.if-is_err.ensures.value)
    (c.keep.ensures.ok (committed_of g.K.Ord.cmp c.args.active.now) c.args.active.now.present.entries made))) d keeps)

pub returns-clause-since : goal.returns-clause-since
returns-clause-since g c = λ since d keeps.
    let e : Keyed g.row.K.Denot g.row.V-Value.Denot
    = keyed_by g.K.Write.text g.V.Value.Write.text g.V.OperationCodec.operation_text g.K.Ord.cmp in
    let one : HasOneMore c.args.log.now c.append.new.self c.args.bytes
    = record {
      operations = c.append.ensures.operations;
      bits = c.append.ensures.bits;
      committed = c.append.ensures.committed;
      cleared = c.append.ensures.cleared;
    } in
    let made = since_on c.args.log.now c.append.new.self (kept_with g.K.Ord.cmp c.args.active.now c.args.last.now) (one_goes c.args.log.now c.append.new.self c.args.bytes one)
    since in
    let settled : IsSettled c.append.new.self c.settle.new.self c.location_of-before.result
    = record {
      operations = c.settle.ensures.operations;
      bits = c.settle.ensures.bits;
      committed = c.settle.ensures.committed;
      cleared = c.settle.ensures.cleared;
    } in
    since_any c.settle.new.self c.args.active.now.present.entries (committed_of g.K.Ord.cmp c.forget.new.self) c.keep.new.last
    (since_now e g.V.Value.Read.view g.H.Hasher.hash_of (grafting_of g.F.Family.shape g.row.N) c.args.log.now
    c.append.new.self c.settle.new.self c.args.active.now.present.entries (kept_with g.K.Ord.cmp c.args.active.now c.args.last.now) c.args.bytes one since
    c.location_of-before.result (c.location_of-before.ensures (committed_of g.K.Ord.cmp c.args.active.now)) settled c.args.metadata
    c.args.floor
    (with_all c.args.active.now.present.entries c.keep.new.last) (some_with _ c.args.active.now.present.entries c.keep.new.last
    (on_ok _ c.keep.result (sym c.if-is_err.ensures.value)
    (c.keep.ensures.ok (committed_of g.K.Ord.cmp c.args.active.now) c.args.active.now.present.entries made))) d keeps)

pub returns-then-is_err-clause-err : goal.returns-then-is_err-clause-err
returns-then-is_err-clause-err g c =
    let one : HasOneMore c.args.log.now c.append.new.self c.args.bytes
    = record {
      operations = c.append.ensures.operations;
      bits = c.append.ensures.bits;
      committed = c.append.ensures.committed;
      cleared = c.append.ensures.cleared;
    } in
    let back : HasRoomMore c.args.log.now c.take_back.new.self
    = taken_back c.args.log.now c.append.new.self c.take_back.new.self c.args.bytes one
    c.take_back.ensures.operations c.take_back.ensures.bits c.take_back.ensures.committed c.take_back.ensures.cleared in
    kept_same c.args.log.now c.take_back.new.self c.args.active.now.present.entries (kept_with g.K.Ord.cmp c.args.active.now c.args.last.now) (kept_with g.K.Ord.cmp c.args.active.now c.keep.new.last) back
    (ap (with_all (committed_of g.K.Ord.cmp c.args.active.now)) (on_refused _ c.keep.result (sym c.if-is_err.ensures.value) c.keep.ensures.err))

pub returns-then-is_err-clause-since : goal.returns-then-is_err-clause-since
returns-then-is_err-clause-since g c = λ since d keeps.
    let one : HasOneMore c.args.log.now c.append.new.self c.args.bytes
    = record {
      operations = c.append.ensures.operations;
      bits = c.append.ensures.bits;
      committed = c.append.ensures.committed;
      cleared = c.append.ensures.cleared;
    } in
    let back : HasRoomMore c.args.log.now c.take_back.new.self
    = taken_back c.args.log.now c.append.new.self c.take_back.new.self c.args.bytes one
    c.take_back.ensures.operations c.take_back.ensures.bits c.take_back.ensures.committed c.take_back.ensures.cleared in
    since_same c.args.log.now c.take_back.new.self (kept_with g.K.Ord.cmp c.args.active.now c.args.last.now) (kept_with g.K.Ord.cmp c.args.active.now c.keep.new.last) back
    (ap (with_all (committed_of g.K.Ord.cmp c.args.active.now)) (on_refused _ c.keep.result (sym c.if-is_err.ensures.value) c.keep.ensures.err)) since

pub take_back-requires : goal.take_back-requires
take_back-requires g c =
    omega (
      arith,
      c.append.ensures.committed,
      c.args.log.now.within,
      ap (λ (l : List (Vec ℕ)). length l) c.append.ensures.operations
          ∙ length-append c.args.log.now.operations.items (c.args.bytes ∷ []),
    )
