use Rattle.std.proofs.Common.{refl}
use Rattle.storage_current.specs.Keys.{Keyed, keyed_by}
use Rattle.storage_current.specs.Snapshots.{grafting_of}
use Rattle.storage_db.specs.Kept.{KeptDatabase}
use Rattle.storage_db.specs.Parts.{committed_of, kept_of, kept_with}
use Rattle.storage_db.proofs.Made.{made_as, made_over}
use Rattle.storage_db.proofs.Pruning.{prune_err, prune_made, prune_ok, prune_since, prune_why}
use Rattle.storage_db.proofs.db.ordered.Ordered.prune.Goals as goal

pub returns-clause-ok : goal.returns-clause-ok
returns-clause-ok g c =
    let e : Keyed g.row.K.Denot g.row.V-Value.Denot
    = keyed_by g.K.Write.text g.V.Value.Write.text g.V.OperationCodec.operation_text g.K.Ord.cmp in
    let gr = grafting_of g.F.Family.shape g.row.N in
    let entries = c.self.inside.active.present.entries in
    let committed = committed_of g.K.Ord.cmp c.self.inside.active in
    let made = made_as g.K.Write.text g.V.Value.Write.text g.K.Ord.cmp g.V.Value.Read.view g.H.Hasher.hash_of gr
    g.V.OperationCodec.operation_text g.V.KeyedEncoding.keyed_text g.met.V.OrderedCodec.agrees
    (kept_of c.self.inside.log entries (kept_with g.K.Ord.cmp c.self.inside.active c.self.inside.last)) c.self.invariant.2 in
    prune_ok e c.operations_settle_keys.ensures (record { put_is = λ d key value. refl; commit_is = λ d metadata. refl })
    g.V.Value.Read.view g.H.Hasher.hash_of gr c.self.inside.log c.forget.new.log entries committed c.self.inside.last c.forget.new.last
    c.args.location made c.forget.result c.forget.ensures.ok c.args.self.now c.self.view_is

pub returns-clause-err : goal.returns-clause-err
returns-clause-err g c =
    let e : Keyed g.row.K.Denot g.row.V-Value.Denot
    = keyed_by g.K.Write.text g.V.Value.Write.text g.V.OperationCodec.operation_text g.K.Ord.cmp in
    let gr = grafting_of g.F.Family.shape g.row.N in
    let entries = c.self.inside.active.present.entries in
    let committed = committed_of g.K.Ord.cmp c.self.inside.active in
    prune_err e c.operations_settle_keys.ensures (record { put_is = λ d key value. refl; commit_is = λ d metadata. refl })
    g.V.Value.Read.view g.H.Hasher.hash_of gr c.self.inside.log c.forget.new.log entries committed c.self.inside.last c.forget.new.last
    c.args.location c.forget.result c.forget.ensures.err c.forget.ensures.same c.args.self.now c.self.view_is

pub returns-clause-why : goal.returns-clause-why
returns-clause-why g c =
    let e : Keyed g.row.K.Denot g.row.V-Value.Denot
    = keyed_by g.K.Write.text g.V.Value.Write.text g.V.OperationCodec.operation_text g.K.Ord.cmp in
    let gr = grafting_of g.F.Family.shape g.row.N in
    let entries = c.self.inside.active.present.entries in
    let committed = committed_of g.K.Ord.cmp c.self.inside.active in
    prune_why e c.operations_settle_keys.ensures (record { put_is = λ d key value. refl; commit_is = λ d metadata. refl })
    g.V.Value.Read.view g.H.Hasher.hash_of gr c.self.inside.log c.forget.new.log entries committed c.self.inside.last c.forget.new.last
    c.args.location c.forget.result c.forget.ensures.why c.args.self.now c.self.view_is

pub invariant_of-self : goal.invariant_of-self
invariant_of-self g c =
    let e : Keyed g.row.K.Denot g.row.V-Value.Denot
    = keyed_by g.K.Write.text g.V.Value.Write.text g.V.OperationCodec.operation_text g.K.Ord.cmp in
    let gr = grafting_of g.F.Family.shape g.row.N in
    let entries = c.self.inside.active.present.entries in
    let committed = committed_of g.K.Ord.cmp c.self.inside.active in
    let made = made_as g.K.Write.text g.V.Value.Write.text g.K.Ord.cmp g.V.Value.Read.view g.H.Hasher.hash_of gr
    g.V.OperationCodec.operation_text g.V.KeyedEncoding.keyed_text g.met.V.OrderedCodec.agrees
    (kept_of c.self.inside.log entries (kept_with g.K.Ord.cmp c.self.inside.active c.self.inside.last)) c.self.invariant.2 in
    let old : KeptDatabase g.row.K.Denot g.row.V-Value.Denot
    = kept_of c.self.inside.log entries (kept_with g.K.Ord.cmp c.self.inside.active c.self.inside.last) in
    let new : KeptDatabase g.row.K.Denot g.row.V-Value.Denot
    = kept_of c.forget.new.log entries (kept_with g.K.Ord.cmp c.self.inside.active c.forget.new.last) in (
      c.self.invariant.0,
      prune_since e c.operations_settle_keys.ensures (record { put_is = λ d key value. refl; commit_is = λ d metadata. refl })
          g.V.Value.Read.view g.H.Hasher.hash_of gr c.self.inside.log c.forget.new.log entries committed c.self.inside.last c.forget.new.last
          c.args.location made c.forget.result c.forget.ensures.ok c.forget.ensures.err c.forget.ensures.same c.self.invariant.1,
      made_over g.K.Write.text g.V.Value.Write.text g.K.Ord.cmp g.V.Value.Read.view g.H.Hasher.hash_of gr
          g.V.OperationCodec.operation_text g.V.KeyedEncoding.keyed_text g.met.V.OrderedCodec.agrees old new
          (λ is_made. prune_made e c.operations_settle_keys.ensures (record { put_is = λ d key value. refl; commit_is = λ d metadata. refl })
          g.V.Value.Read.view g.H.Hasher.hash_of gr c.self.inside.log c.forget.new.log entries committed c.self.inside.last c.forget.new.last
          c.args.location is_made c.forget.result c.forget.ensures.ok
          (prune_err e c.operations_settle_keys.ensures (record { put_is = λ d key value. refl; commit_is = λ d metadata. refl })
          g.V.Value.Read.view g.H.Hasher.hash_of gr c.self.inside.log c.forget.new.log entries committed c.self.inside.last c.forget.new.last
          c.args.location c.forget.result c.forget.ensures.err c.forget.ensures.same old refl))
          c.self.invariant.2,
    )
