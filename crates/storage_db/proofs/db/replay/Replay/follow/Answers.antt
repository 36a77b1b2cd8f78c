use Rattle.storage_current.specs.Keys.{Keyed, keyed_by}
use Rattle.storage_db.specs.Databases.{Commit, Delete, Put, empty, run}
use Rattle.storage_db.specs.Opening.{ReadsAs, ReadsCommand}
use Rattle.storage_db.proofs.OpeningCalls.{followed_if, none_read}
use Rattle.storage_db.proofs.db.replay.Replay.follow.Goals as goal

pub returns-in-None : goal.returns-in-None
returns-in-None g c = λ commands replay command read doing.
    let found = rw c.in-None.is at c.in_ok-update.ensures in
    none_read (ReadsAs (g.V.OperationCodec.operation_parse c.args.cfg.now) g.V.OperationCodec.operation_view)
    (λ k v n. record { key = k; value = v; next_key = n }) c.args.operation.now found command read

pub returns-in-Some-Update : goal.returns-in-Some-Update
returns-in-Some-Update g c = λ commands replay.
    let e : Keyed g.row.K.Denot g.row.V-Value.Denot
    = keyed_by g.K.Write.text g.V.Value.Write.text g.V.OperationCodec.operation_text g.K.Ord.cmp in
    let reads = ReadsCommand (ReadsAs (g.V.OperationCodec.operation_parse c.args.cfg.now) g.V.OperationCodec.operation_view)
    (λ k v n. record { key = k; value = v; next_key = n }) in
    let some = rw c.in-Some-Update.is at c.in_ok-update.ensures in
    let found = rw c.in-Some-Update.field-0-is at some in
    followed_if e g.V.Value.Read.view c.operations_settle_keys.ensures reads (c.bytes_settle_commands.ensures c.args.cfg.now)
    c.put.new.self.log c.put.new.self.active.present.entries c.put.new.self.last (run e empty commands) c.args.operation.now
    (Put c.in-Some-Update.update.key c.in-Some-Update.update.value) (c.in-Some-Update.update.next_key, found) c.put.result (c.put.ensures (run e empty commands) replay)

pub returns-in-Some-Delete : goal.returns-in-Some-Delete
returns-in-Some-Delete g c = λ commands replay.
    let e : Keyed g.row.K.Denot g.row.V-Value.Denot
    = keyed_by g.K.Write.text g.V.Value.Write.text g.V.OperationCodec.operation_text g.K.Ord.cmp in
    let reads = ReadsCommand (ReadsAs (g.V.OperationCodec.operation_parse c.args.cfg.now) g.V.OperationCodec.operation_view)
    (λ k v n. record { key = k; value = v; next_key = n }) in
    let some = rw c.in-Some-Delete.is at c.in_ok-update.ensures in
    let found = rw c.in-Some-Delete.field-0-is at some in
    followed_if e g.V.Value.Read.view c.operations_settle_keys.ensures reads (c.bytes_settle_commands.ensures c.args.cfg.now)
    c.delete.new.self.log c.delete.new.self.active.present.entries c.delete.new.self.last (run e empty commands) c.args.operation.now
    (Delete c.in-Some-Delete.key) found c.delete.result (c.delete.ensures (run e empty commands) replay)

pub returns-in-Some-CommitFloor : goal.returns-in-Some-CommitFloor
returns-in-Some-CommitFloor g c = λ commands replay.
    let e : Keyed g.row.K.Denot g.row.V-Value.Denot
    = keyed_by g.K.Write.text g.V.Value.Write.text g.V.OperationCodec.operation_text g.K.Ord.cmp in
    let reads = ReadsCommand (ReadsAs (g.V.OperationCodec.operation_parse c.args.cfg.now) g.V.OperationCodec.operation_view)
    (λ k v n. record { key = k; value = v; next_key = n }) in
    let some = rw c.in-Some-CommitFloor.is at c.in_ok-update.ensures in
    let found = rw c.in-Some-CommitFloor.field-0-is at some in
    followed_if e g.V.Value.Read.view c.operations_settle_keys.ensures reads (c.bytes_settle_commands.ensures c.args.cfg.now)
    c.commit.new.self.log c.commit.new.self.active.present.entries c.commit.new.self.last (run e empty commands) c.args.operation.now
    (Commit c.in-Some-CommitFloor.metadata) (c.in-Some-CommitFloor.field-0-1, found) c.commit.result (c.commit.ensures commands replay)
