use Rattle.std.proofs.Common.{◌≡◌, ℕ, ◌<◌, ◌≤◌, List, Some, length, option_map, slice_get, sym, ap, ◌∙◌, arith}
use Rattle.std.specs.Global.{Vec}
use Rattle.std.proofs.lemmas.Option.{slice_get-get_or, slice_get-map}
use Rattle.storage_current.specs.Keys.{Keyed, keyed_by}
use Rattle.storage_db.specs.Opening.{ReadsAs, ReadsCommand}
use Rattle.storage_db.specs.Parts.{texts}
use Rattle.storage_db.proofs.Again.{none_again, none_there, nothing_there}
use Rattle.storage_db.proofs.Changing.{count_of_texts}
use Rattle.storage_db.proofs.db.again.again.Goals as goal

pub returns-then-location-len : goal.returns-then-location-len
returns-then-location-len g c =
    let e : Keyed g.row.K.Denot g.row.V-Value.Denot
    = keyed_by g.K.Write.text g.V.Value.Write.text g.V.OperationCodec.operation_text g.K.Ord.cmp in
    let reads = ReadsCommand (ReadsAs (g.V.OperationCodec.operation_parse c.args.cfg.now) g.V.OperationCodec.operation_view)
    (λ k v n. record { key = k; value = v; next_key = n }) in
    let log = c.args.log.now in
    let past : length (texts log) ≤ c.args.location = omega (arith, count_of_texts log, c.len.ensures.count, c.if-location-len.true) in
    nothing_there e reads c.args.active.now.present.entries c.args.location (texts log) past

pub returns-in_default : goal.returns-in_default
returns-in_default g c =
    let e : Keyed g.row.K.Denot g.row.V-Value.Denot
    = keyed_by g.K.Write.text g.V.Value.Write.text g.V.OperationCodec.operation_text g.K.Ord.cmp in
    let reads = ReadsCommand (ReadsAs (g.V.OperationCodec.operation_parse c.args.cfg.now) g.V.OperationCodec.operation_view)
    (λ k v n. record { key = k; value = v; next_key = n }) in
    let log = c.args.log.now in
    let entries = c.args.active.now.present.entries in
    let bytes : Vec ℕ → List ℕ = λ v. v.items in
    let written : Vec ℕ = c.index-operation.result.now in
    let own : List ℕ = c.deref.result.now in
    let within : c.args.location < length log.operations.items = omega (arith, c.len.ensures.count, c.if-location-len.false) in
    let there : slice_get (texts log) c.args.location ≡ Some own
    = slice_get-map bytes log.operations.items c.args.location
    ∙ ap (option_map bytes) (slice_get-get_or log.operations.items c.args.location written within ∙ ap Some (sym c.index-operation.ensures))
    ∙ ap Some (sym c.deref.ensures.value) in
    let found = rw c.in_default.is at c.in_ok-key.ensures in
    none_there e reads entries c.args.location (texts log) own there (λ key read active stands. found key read)

pub returns-in-None : goal.returns-in-None
returns-in-None g c =
    let e : Keyed g.row.K.Denot g.row.V-Value.Denot
    = keyed_by g.K.Write.text g.V.Value.Write.text g.V.OperationCodec.operation_text g.K.Ord.cmp in
    let reads = ReadsCommand (ReadsAs (g.V.OperationCodec.operation_parse c.args.cfg.now) g.V.OperationCodec.operation_view)
    (λ k v n. record { key = k; value = v; next_key = n }) in
    let log = c.args.log.now in
    let entries = c.args.active.now.present.entries in
    let bytes : Vec ℕ → List ℕ = λ v. v.items in
    let written : Vec ℕ = c.index-operation.result.now in
    let own : List ℕ = c.deref.result.now in
    let within : c.args.location < length log.operations.items = omega (arith, c.len.ensures.count, c.if-location-len.false) in
    let there : slice_get (texts log) c.args.location ≡ Some own
    = slice_get-map bytes log.operations.items c.args.location
    ∙ ap (option_map bytes) (slice_get-get_or log.operations.items c.args.location written within ∙ ap Some (sym c.index-operation.ensures))
    ∙ ap Some (sym c.deref.ensures.value) in
    let first = rw c.in-Some.is at c.in_ok-key.ensures in
    let none = rw c.in-None.is at c.in_ok-bytes.ensures in
    none_there e reads entries c.args.location (texts log) own there
    (none_again e c.operations_settle_keys.ensures g.V.Value.Read.view reads (c.bytes_settle_commands.ensures c.args.cfg.now)
    entries own c.args.location c.in-Some.key first none)
