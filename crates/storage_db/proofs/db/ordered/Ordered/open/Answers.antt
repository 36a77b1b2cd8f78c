use Rattle.std.proofs.Common.{ℕ, List, map, subst, sym, arith}
use Rattle.std.specs.Global.{Vec}
use Rattle.std.proofs.lemmas.List.{length-map}
use Rattle.storage_current.specs.Keys.{Keyed, keyed_by}
use Rattle.storage_db.specs.Opening.{IsOpenRefused, ReadsAs, ReadsCommand}
use Rattle.storage_db.proofs.Cases.{err_and}
use Rattle.storage_db.proofs.OpeningEnds.{only_memory}
use Rattle.storage_db.proofs.db.ordered.Ordered.open.Goals as goal

pub returns-in_err-replay-clause-why : goal.returns-in_err-replay-clause-why
returns-in_err-replay-clause-why g c =
    let e : Keyed g.row.K.Denot g.row.V-Value.Denot
    = keyed_by g.K.Write.text g.V.Value.Write.text g.V.OperationCodec.operation_text g.K.Ord.cmp in
    let reads = ReadsCommand (ReadsAs (g.V.OperationCodec.operation_parse c.args.cfg.now) g.V.OperationCodec.operation_view)
    (λ k v n. record { key = k; value = v; next_key = n }) in
    let bytes : Vec ℕ → List ℕ = λ v. v.items in
    err_and _ (λ error. IsOpenRefused e reads (map bytes c.args.operations.items) error) c.from_residual.result
    (λ error same. subst (λ x. IsOpenRefused e reads (map bytes c.args.operations.items) x) (sym same) c.in_err-replay.ensures.why)
    c.from_residual.ensures.1

pub returns-in_err-replay-clause-left : goal.returns-in_err-replay-clause-left
returns-in_err-replay-clause-left g c = λ commands leave.
    let e : Keyed g.row.K.Denot g.row.V-Value.Denot
    = keyed_by g.K.Write.text g.V.Value.Write.text g.V.OperationCodec.operation_text g.K.Ord.cmp in
    let reads = ReadsCommand (ReadsAs (g.V.OperationCodec.operation_parse c.args.cfg.now) g.V.OperationCodec.operation_view)
    (λ k v n. record { key = k; value = v; next_key = n }) in
    let bytes : Vec ℕ → List ℕ = λ v. v.items in
    only_memory e reads (map bytes c.args.operations.items) commands leave c.from_residual.result
    (err_and _ (λ error. IsOpenRefused e reads (map bytes c.args.operations.items) error) c.from_residual.result
    (λ error same. subst (λ x. IsOpenRefused e reads (map bytes c.args.operations.items) x) (sym same) c.in_err-replay.ensures.why)
    c.from_residual.ensures.1)

pub returns-clause-ok : goal.returns-clause-ok
returns-clause-ok g c =
    let bytes : Vec ℕ → List ℕ = λ v. v.items in
    c.replayed.ensures.ok c.args.cfg.now (map bytes c.args.operations.items)
    (omega (arith, c.len-count.ensures, length-map c.args.operations.items bytes)) c.in_ok-replay.ensures.ok

pub returns-clause-why : goal.returns-clause-why
returns-clause-why g c =
    let bytes : Vec ℕ → List ℕ = λ v. v.items in
    c.replayed.ensures.why c.args.cfg.now (map bytes c.args.operations.items)
    (omega (arith, c.len-count.ensures, length-map c.args.operations.items bytes)) c.in_ok-replay.ensures.ok

pub returns-clause-left : goal.returns-clause-left
returns-clause-left g c = λ commands leave.
    let e : Keyed g.row.K.Denot g.row.V-Value.Denot
    = keyed_by g.K.Write.text g.V.Value.Write.text g.V.OperationCodec.operation_text g.K.Ord.cmp in
    let reads = ReadsCommand (ReadsAs (g.V.OperationCodec.operation_parse c.args.cfg.now) g.V.OperationCodec.operation_view)
    (λ k v n. record { key = k; value = v; next_key = n }) in
    let bytes : Vec ℕ → List ℕ = λ v. v.items in
    only_memory e reads (map bytes c.args.operations.items) commands leave c.replayed.result
    (c.replayed.ensures.why c.args.cfg.now (map bytes c.args.operations.items)
    (omega (arith, c.len-count.ensures, length-map c.args.operations.items bytes)) c.in_ok-replay.ensures.ok)
