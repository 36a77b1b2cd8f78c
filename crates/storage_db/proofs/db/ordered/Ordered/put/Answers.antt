use Rattle.storage_current.specs.Keys.{Keyed, keyed_by}
use Rattle.storage_current.specs.Snapshots.{grafting_of}
use Rattle.storage_db.specs.Databases.{Put, put}
use Rattle.storage_db.specs.Parts.{committed_of, kept_of, kept_with}
use Rattle.storage_db.proofs.Commands.{command_err, command_made, command_ok, command_since}
use Rattle.storage_db.proofs.Forgetting.{put_counted}
use Rattle.storage_db.proofs.Keeping.{refused_err}
use Rattle.storage_db.proofs.Made.{made_over}
use Rattle.std.proofs.Common.{sym}
use Rattle.storage_db.proofs.db.ordered.Ordered.put.Goals as goal

pub returns-then-contains_key-clause-ok : goal.returns-then-contains_key-clause-ok
returns-then-contains_key-clause-ok g c =
    let e : Keyed g.row.K.Denot g.row.V-Value.Denot
    = keyed_by g.K.Write.text g.V.Value.Write.text g.V.OperationCodec.operation_text g.K.Ord.cmp in
    command_ok e g.V.Value.Read.view c.operations_settle_keys.ensures g.H.Hasher.hash_of (grafting_of g.F.Family.shape g.row.N) (Put c.args.key c.args.value)
    c.self.inside.log c.put_active.new.log c.self.inside.active.present.entries c.put_active.new.active.present.entries
    (committed_of g.K.Ord.cmp c.self.inside.active) (committed_of g.K.Ord.cmp c.put_active.new.active) c.self.inside.last
    c.put_active.result c.self.invariant.1 c.put_active.ensures.ok c.put_active.ensures.few c.put_active.ensures.on c.is_some-noting.result c.is_some-noting.ensures c.put_active.ensures.committed
    c.put_active.ensures.err c.put_active.ensures.kept
    c.args.self.now c.self.view_is

pub returns-then-contains_key-clause-err : goal.returns-then-contains_key-clause-err
returns-then-contains_key-clause-err g c =
    let e : Keyed g.row.K.Denot g.row.V-Value.Denot
    = keyed_by g.K.Write.text g.V.Value.Write.text g.V.OperationCodec.operation_text g.K.Ord.cmp in
    command_err e g.V.Value.Read.view c.operations_settle_keys.ensures g.H.Hasher.hash_of (grafting_of g.F.Family.shape g.row.N) (Put c.args.key c.args.value)
    c.self.inside.log c.put_active.new.log c.self.inside.active.present.entries c.put_active.new.active.present.entries
    (committed_of g.K.Ord.cmp c.self.inside.active) (committed_of g.K.Ord.cmp c.put_active.new.active) c.self.inside.last
    c.put_active.result c.self.invariant.1 c.put_active.ensures.ok c.put_active.ensures.few c.put_active.ensures.on c.is_some-noting.result c.is_some-noting.ensures c.put_active.ensures.committed
    c.put_active.ensures.err c.put_active.ensures.kept
    c.args.self.now c.self.view_is

pub returns-then-contains_key-clause-why : goal.returns-then-contains_key-clause-why
returns-then-contains_key-clause-why g c =
    let e : Keyed g.row.K.Denot g.row.V-Value.Denot
    = keyed_by g.K.Write.text g.V.Value.Write.text g.V.OperationCodec.operation_text g.K.Ord.cmp in
    refused_err e g.V.Value.Read.view g.H.Hasher.hash_of (grafting_of g.F.Family.shape g.row.N) (λ x. put e x c.args.key c.args.value)
    c.self.inside.log c.put_active.new.log c.self.inside.active.present.entries c.put_active.new.active.present.entries
    (kept_with g.K.Ord.cmp c.self.inside.active c.self.inside.last) c.args.self.now c.self.view_is (put_counted e c.args.key c.args.value) c.put_active.result
    c.put_active.ensures.why

pub invariant_of-self : goal.invariant_of-self
invariant_of-self g c =
    let e : Keyed g.row.K.Denot g.row.V-Value.Denot
    = keyed_by g.K.Write.text g.V.Value.Write.text g.V.OperationCodec.operation_text g.K.Ord.cmp in (
      c.self.invariant.0,
      command_since e g.V.Value.Read.view c.operations_settle_keys.ensures g.H.Hasher.hash_of (grafting_of g.F.Family.shape g.row.N) (Put c.args.key c.args.value)
          c.self.inside.log c.put_active.new.log c.self.inside.active.present.entries c.put_active.new.active.present.entries
          (committed_of g.K.Ord.cmp c.self.inside.active) (committed_of g.K.Ord.cmp c.put_active.new.active) c.self.inside.last
          c.put_active.result c.self.invariant.1 c.put_active.ensures.ok c.put_active.ensures.few c.put_active.ensures.on c.is_some-noting.result c.is_some-noting.ensures c.put_active.ensures.committed
          c.put_active.ensures.err c.put_active.ensures.kept,
      made_over g.K.Write.text g.V.Value.Write.text g.K.Ord.cmp g.V.Value.Read.view g.H.Hasher.hash_of
          (grafting_of g.F.Family.shape g.row.N) g.V.OperationCodec.operation_text g.V.KeyedEncoding.keyed_text
          g.met.V.OrderedCodec.agrees
          (kept_of c.self.inside.log c.self.inside.active.present.entries (kept_with g.K.Ord.cmp c.self.inside.active c.self.inside.last))
          (kept_of c.put_active.new.log c.put_active.new.active.present.entries (kept_with g.K.Ord.cmp c.put_active.new.active c.self.inside.last))
          (command_made e g.V.Value.Read.view c.operations_settle_keys.ensures g.H.Hasher.hash_of (grafting_of g.F.Family.shape g.row.N) (Put c.args.key c.args.value)
          c.self.inside.log c.put_active.new.log c.self.inside.active.present.entries c.put_active.new.active.present.entries
          (committed_of g.K.Ord.cmp c.self.inside.active) (committed_of g.K.Ord.cmp c.put_active.new.active) c.self.inside.last
          c.put_active.result c.self.invariant.1 c.put_active.ensures.ok c.put_active.ensures.few c.put_active.ensures.on c.is_some-noting.result c.is_some-noting.ensures c.put_active.ensures.committed
          c.put_active.ensures.err c.put_active.ensures.kept)
          c.self.invariant.2,
    )

pub returns-else-contains_key-clause-ok : goal.returns-else-contains_key-clause-ok
returns-else-contains_key-clause-ok g c =
    let e : Keyed g.row.K.Denot g.row.V-Value.Denot
    = keyed_by g.K.Write.text g.V.Value.Write.text g.V.OperationCodec.operation_text g.K.Ord.cmp in
    command_ok e g.V.Value.Read.view c.operations_settle_keys.ensures g.H.Hasher.hash_of (grafting_of g.F.Family.shape g.row.N) (Put c.args.key c.args.value)
    c.self.inside.log c.put_new.new.log c.self.inside.active.present.entries c.put_new.new.active.present.entries
    (committed_of g.K.Ord.cmp c.self.inside.active) (committed_of g.K.Ord.cmp c.put_new.new.active) c.self.inside.last
    c.put_new.result c.self.invariant.1 c.put_new.ensures.ok c.put_new.ensures.few c.put_new.ensures.on c.is_some-noting.result c.is_some-noting.ensures c.put_new.ensures.committed
    c.put_new.ensures.err c.put_new.ensures.kept
    c.args.self.now c.self.view_is

pub returns-else-contains_key-clause-err : goal.returns-else-contains_key-clause-err
returns-else-contains_key-clause-err g c =
    let e : Keyed g.row.K.Denot g.row.V-Value.Denot
    = keyed_by g.K.Write.text g.V.Value.Write.text g.V.OperationCodec.operation_text g.K.Ord.cmp in
    command_err e g.V.Value.Read.view c.operations_settle_keys.ensures g.H.Hasher.hash_of (grafting_of g.F.Family.shape g.row.N) (Put c.args.key c.args.value)
    c.self.inside.log c.put_new.new.log c.self.inside.active.present.entries c.put_new.new.active.present.entries
    (committed_of g.K.Ord.cmp c.self.inside.active) (committed_of g.K.Ord.cmp c.put_new.new.active) c.self.inside.last
    c.put_new.result c.self.invariant.1 c.put_new.ensures.ok c.put_new.ensures.few c.put_new.ensures.on c.is_some-noting.result c.is_some-noting.ensures c.put_new.ensures.committed
    c.put_new.ensures.err c.put_new.ensures.kept
    c.args.self.now c.self.view_is

pub returns-else-contains_key-clause-why : goal.returns-else-contains_key-clause-why
returns-else-contains_key-clause-why g c =
    let e : Keyed g.row.K.Denot g.row.V-Value.Denot
    = keyed_by g.K.Write.text g.V.Value.Write.text g.V.OperationCodec.operation_text g.K.Ord.cmp in
    refused_err e g.V.Value.Read.view g.H.Hasher.hash_of (grafting_of g.F.Family.shape g.row.N) (λ x. put e x c.args.key c.args.value)
    c.self.inside.log c.put_new.new.log c.self.inside.active.present.entries c.put_new.new.active.present.entries
    (kept_with g.K.Ord.cmp c.self.inside.active c.self.inside.last) c.args.self.now c.self.view_is (put_counted e c.args.key c.args.value) c.put_new.result
    c.put_new.ensures.why

pub put_new-requires : goal.put_new-requires
put_new-requires g c = sym c.if-contains_key.ensures

pub invariant_of-self-else-contains_key : goal.invariant_of-self-else-contains_key
invariant_of-self-else-contains_key g c =
    let e : Keyed g.row.K.Denot g.row.V-Value.Denot
    = keyed_by g.K.Write.text g.V.Value.Write.text g.V.OperationCodec.operation_text g.K.Ord.cmp in (
      c.self.invariant.0,
      command_since e g.V.Value.Read.view c.operations_settle_keys.ensures g.H.Hasher.hash_of (grafting_of g.F.Family.shape g.row.N) (Put c.args.key c.args.value)
          c.self.inside.log c.put_new.new.log c.self.inside.active.present.entries c.put_new.new.active.present.entries
          (committed_of g.K.Ord.cmp c.self.inside.active) (committed_of g.K.Ord.cmp c.put_new.new.active) c.self.inside.last
          c.put_new.result c.self.invariant.1 c.put_new.ensures.ok c.put_new.ensures.few c.put_new.ensures.on c.is_some-noting.result c.is_some-noting.ensures c.put_new.ensures.committed
          c.put_new.ensures.err c.put_new.ensures.kept,
      made_over g.K.Write.text g.V.Value.Write.text g.K.Ord.cmp g.V.Value.Read.view g.H.Hasher.hash_of
          (grafting_of g.F.Family.shape g.row.N) g.V.OperationCodec.operation_text g.V.KeyedEncoding.keyed_text
          g.met.V.OrderedCodec.agrees
          (kept_of c.self.inside.log c.self.inside.active.present.entries (kept_with g.K.Ord.cmp c.self.inside.active c.self.inside.last))
          (kept_of c.put_new.new.log c.put_new.new.active.present.entries (kept_with g.K.Ord.cmp c.put_new.new.active c.self.inside.last))
          (command_made e g.V.Value.Read.view c.operations_settle_keys.ensures g.H.Hasher.hash_of (grafting_of g.F.Family.shape g.row.N) (Put c.args.key c.args.value)
          c.self.inside.log c.put_new.new.log c.self.inside.active.present.entries c.put_new.new.active.present.entries
          (committed_of g.K.Ord.cmp c.self.inside.active) (committed_of g.K.Ord.cmp c.put_new.new.active) c.self.inside.last
          c.put_new.result c.self.invariant.1 c.put_new.ensures.ok c.put_new.ensures.few c.put_new.ensures.on c.is_some-noting.result c.is_some-noting.ensures c.put_new.ensures.committed
          c.put_new.ensures.err c.put_new.ensures.kept)
          c.self.invariant.2,
    )
