use Rattle.std.proofs.Common.{arith}
use Rattle.storage_current.specs.Keys.{Keyed, keyed_by}
use Rattle.storage_current.specs.Snapshots.{grafting_of}
use Rattle.storage_db.specs.Opening.{ReadsAs, ReadsCommand}
use Rattle.storage_db.proofs.Cases.{err_and}
use Rattle.storage_db.proofs.Compacting.{all_asked, ended, none_yet, one_further, stopped}
use Rattle.storage_db.proofs.db.ordered.Ordered.compact.Goals as goal

pub loop-moved-init : goal.loop-moved-init
loop-moved-init g c =
    let e : Keyed g.row.K.Denot g.row.V-Value.Denot
    = keyed_by g.K.Write.text g.V.Value.Write.text g.V.OperationCodec.operation_text g.K.Ord.cmp in
    none_yet e g.V.Value.Read.view g.H.Hasher.hash_of (grafting_of g.F.Family.shape g.row.N) c.args.self.now c.span-from.result.0
    c.span-from.ensures.start

pub overflow_add-from : goal.overflow_add-from
overflow_add-from g c =
    let next = rw c.in-Some.is at (c.in_ok-location.ensures.ok c.loop-moved.invariant.low) in
    omega (arith, next.1, c.span-from.ensures.few)

pub returns-in_default-clause-ok : goal.returns-in_default-clause-ok
returns-in_default-clause-ok g c =
    let e : Keyed g.row.K.Denot g.row.V-Value.Denot
    = keyed_by g.K.Write.text g.V.Value.Write.text g.V.OperationCodec.operation_text g.K.Ord.cmp in
    let next = rw c.in_default.is at (c.in_ok-location.ensures.ok c.loop-moved.invariant.low) in
    ended e g.V.Value.Read.view g.H.Hasher.hash_of (grafting_of g.F.Family.shape g.row.N) c.args.self.now c.loop-moved.self
    c.move_next.new.self c.args.count c.loop-moved.moved c.loop-moved.from c.span-from.result.1 c.loop-moved.invariant
    c.loop-moved-test.true c.span-from.ensures.end next

pub loop-moved-preserved : goal.loop-moved-preserved
loop-moved-preserved g c =
    let e : Keyed g.row.K.Denot g.row.V-Value.Denot
    = keyed_by g.K.Write.text g.V.Value.Write.text g.V.OperationCodec.operation_text g.K.Ord.cmp in
    let next = rw c.in-Some.is at (c.in_ok-location.ensures.ok c.loop-moved.invariant.low) in
    one_further e g.V.Value.Read.view g.H.Hasher.hash_of (grafting_of g.F.Family.shape g.row.N) c.args.self.now c.loop-moved.self
    c.move_next.new.self c.loop-moved.moved c.loop-moved.from c.in-Some.location c.loop-moved.invariant next.0

pub returns-in_err-location-clause-err : goal.returns-in_err-location-clause-err
returns-in_err-location-clause-err g c =
    let e : Keyed g.row.K.Denot g.row.V-Value.Denot
    = keyed_by g.K.Write.text g.V.Value.Write.text g.V.OperationCodec.operation_text g.K.Ord.cmp in
    let reads = ReadsCommand (ReadsAs (g.V.OperationCodec.operation_parse c.args.cfg.now) g.V.OperationCodec.operation_view)
    (λ k v n. record { key = k; value = v; next_key = n }) in
    err_and _ _ c.from_residual.result (λ error same.
    stopped e g.V.Value.Read.view g.H.Hasher.hash_of (grafting_of g.F.Family.shape g.row.N) reads c.args.self.now c.loop-moved.self
    c.move_next.new.self c.args.count c.loop-moved.moved c.loop-moved.from c.span-from.result.1 c.loop-moved.invariant
    c.loop-moved-test.true c.span-from.ensures.end error _ same (c.in_err-location.ensures.err c.loop-moved.invariant.low)) c.from_residual.ensures.1

pub returns-clause-ok : goal.returns-clause-ok
returns-clause-ok g c =
    let e : Keyed g.row.K.Denot g.row.V-Value.Denot
    = keyed_by g.K.Write.text g.V.Value.Write.text g.V.OperationCodec.operation_text g.K.Ord.cmp in
    all_asked e g.V.Value.Read.view g.H.Hasher.hash_of (grafting_of g.F.Family.shape g.row.N) c.args.self.now c.loop-moved.self
    c.args.count c.loop-moved.moved c.loop-moved.from c.loop-moved.invariant c.loop-moved.auto.moved-end c.loop-moved-test.false
