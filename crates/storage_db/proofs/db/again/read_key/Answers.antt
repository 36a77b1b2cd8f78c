use Rattle.storage_db.specs.Databases.{Commit, Delete, Put}
use Rattle.storage_db.specs.Opening.{ReadsAs}
use Rattle.storage_db.proofs.OpeningCalls.{none_read}
use Rattle.storage_db.proofs.db.again.read_key.Goals as goal

pub returns-in-Some-Update : goal.returns-in-Some-Update
returns-in-Some-Update g c =
    let some = rw c.in-Some-Update.is at c.in_ok-update.ensures in
    let found = rw c.in-Some-Update.field-0-is at some in
    (c.in-Some-Update.update.value, (c.in-Some-Update.update.next_key, found))

pub returns-in-Some-Delete : goal.returns-in-Some-Delete
returns-in-Some-Delete g c = λ key read.
    let some = rw c.in-Some-Delete.is at c.in_ok-update.ensures in
    let found = rw c.in-Some-Delete.field-0-is at some in
    c.bytes_settle_commands.ensures c.args.cfg.now c.args.operation.now (Delete _) (Put key read.0) found read.1

pub returns-in-Some-CommitFloor : goal.returns-in-Some-CommitFloor
returns-in-Some-CommitFloor g c = λ key read.
    let some = rw c.in-Some-CommitFloor.is at c.in_ok-update.ensures in
    let found = rw c.in-Some-CommitFloor.field-0-is at some in
    c.bytes_settle_commands.ensures c.args.cfg.now c.args.operation.now (Commit _) (Put key read.0) (_, found) read.1

pub returns : goal.returns
returns g c = λ key read.
    let found = rw c.in-None.is at c.in_ok-update.ensures in
    none_read (ReadsAs (g.V.OperationCodec.operation_parse c.args.cfg.now) g.V.OperationCodec.operation_view)
    (λ k v n. record { key = k; value = v; next_key = n }) c.args.operation.now found (Put key read.0) read.1
