use Rattle.std.proofs.Common.{refl, sym, ◌∙◌, rules}
use Rattle.storage_current.specs.Keys.{Keyed, keyed_by}
use Rattle.storage_current.specs.Snapshots.{grafting_of}
use Rattle.storage_db.specs.Databases.{Delete, delete}
use Rattle.storage_db.proofs.Cases.{err_and}
use Rattle.storage_db.specs.Parts.{committed_of, kept_of, kept_with}
use Rattle.storage_db.proofs.Forgetting.{delete_change, delete_counted}
use Rattle.storage_db.proofs.Keeping.{done_from, refused_from, kept_from, on_err}
use Rattle.storage_db.proofs.Commands.{command_made, command_since}
use Rattle.storage_db.proofs.Made.{made_over}
use Rattle.storage_db.proofs.Remembering.{kept_same_with, step_with}
use Rattle.storage_db.proofs.Told.{nothing_deleted, still_held}
use Rattle.storage_db.proofs.db.ordered.Ordered.delete.Goals as goal

pub returns-then-not-contains_key-clause-ok : goal.returns-then-not-contains_key-clause-ok
returns-then-not-contains_key-clause-ok g c =
    let e : Keyed g.row.K.Denot g.row.V-Value.Denot
    = keyed_by g.K.Write.text g.V.Value.Write.text g.V.OperationCodec.operation_text g.K.Ord.cmp in
    nothing_deleted e g.V.Value.Read.view g.H.Hasher.hash_of (grafting_of g.F.Family.shape g.row.N) c.self.inside.log
    c.self.inside.active.present.entries (kept_with g.K.Ord.cmp c.self.inside.active c.self.inside.last) c.args.self.now c.self.view_is c.args.key.now
    (sym c.contains_key.ensures ∙ c.if-not-contains_key.true)

pub returns-clause-ok : goal.returns-clause-ok
returns-clause-ok g c =
    let e : Keyed g.row.K.Denot g.row.V-Value.Denot
    = keyed_by g.K.Write.text g.V.Value.Write.text g.V.OperationCodec.operation_text g.K.Ord.cmp in
    step_with e g.V.Value.Read.view c.operations_settle_keys.ensures g.H.Hasher.hash_of (grafting_of g.F.Family.shape g.row.N)
    c.remove.new.log c.remove.new.active.present.entries (committed_of g.K.Ord.cmp c.self.inside.active)
    (committed_of g.K.Ord.cmp c.remove.new.active) c.self.inside.last c.args.self.now (λ x. delete e x c.args.key.now)
    (λ some. c.in_ok-remove.ensures.committed (c.is_some-noting.ensures ∙ some))
    (done_from e g.V.Value.Read.view g.H.Hasher.hash_of (grafting_of g.F.Family.shape g.row.N) (λ x. delete e x c.args.key.now)
    c.self.inside.log c.remove.new.log c.self.inside.active.present.entries c.remove.new.active.present.entries (kept_with g.K.Ord.cmp c.self.inside.active c.self.inside.last)
    c.args.self.now c.self.view_is (delete_change e c.args.key.now) c.in_ok-remove.ensures.ok c.remove.ensures.few)

pub returns-in_err-remove-clause-err : goal.returns-in_err-remove-clause-err
returns-in_err-remove-clause-err g c =
    let e : Keyed g.row.K.Denot g.row.V-Value.Denot
    = keyed_by g.K.Write.text g.V.Value.Write.text g.V.OperationCodec.operation_text g.K.Ord.cmp in
    on_err c.from_residual.result
    (kept_same_with c.remove.new.log c.remove.new.active.present.entries c.remove.new.active.present.entries
    (committed_of g.K.Ord.cmp c.self.inside.active) (committed_of g.K.Ord.cmp c.remove.new.active) c.self.inside.last refl
    c.in_err-remove.ensures.kept
    ∙ kept_from e g.V.Value.Read.view g.H.Hasher.hash_of (grafting_of g.F.Family.shape g.row.N) (λ x. delete e x c.args.key.now)
    c.self.inside.log c.remove.new.log c.self.inside.active.present.entries c.remove.new.active.present.entries (kept_with g.K.Ord.cmp c.self.inside.active c.self.inside.last)
    c.args.self.now c.self.view_is c.in_err-remove.ensures.err)

pub returns-in_err-remove-clause-why : goal.returns-in_err-remove-clause-why
returns-in_err-remove-clause-why g c =
    let e : Keyed g.row.K.Denot g.row.V-Value.Denot
    = keyed_by g.K.Write.text g.V.Value.Write.text g.V.OperationCodec.operation_text g.K.Ord.cmp in
    let why = c.in_err-remove.ensures.why in
    err_and _ _ c.from_residual.result (λ error same. refused_from e g.V.Value.Read.view g.H.Hasher.hash_of
    (grafting_of g.F.Family.shape g.row.N) (λ x. delete e x c.args.key.now) c.self.inside.log c.remove.new.log
    c.self.inside.active.present.entries c.remove.new.active.present.entries (kept_with g.K.Ord.cmp c.self.inside.active c.self.inside.last) c.args.self.now c.self.view_is (delete_counted e c.args.key.now) error
    (λ last. same ∙ why last)) c.from_residual.ensures.1

pub returns-then-not-contains_key-clause-answer : goal.returns-then-not-contains_key-clause-answer
returns-then-not-contains_key-clause-answer g c = search rules

pub returns-in_err-remove-clause-active : goal.returns-in_err-remove-clause-active
returns-in_err-remove-clause-active g c =
    let e : Keyed g.row.K.Denot g.row.V-Value.Denot
    = keyed_by g.K.Write.text g.V.Value.Write.text g.V.OperationCodec.operation_text g.K.Ord.cmp in
    on_err c.from_residual.result (still_held e g.V.Value.Read.view g.H.Hasher.hash_of (grafting_of g.F.Family.shape g.row.N) _ _
    c.self.view_is c.args.key.now (sym c.contains_key.ensures ∙ c.if-not-contains_key.false))

pub invariant_of-self : goal.invariant_of-self
invariant_of-self g c =
    let e : Keyed g.row.K.Denot g.row.V-Value.Denot
    = keyed_by g.K.Write.text g.V.Value.Write.text g.V.OperationCodec.operation_text g.K.Ord.cmp in (
      c.self.invariant.0,
      command_since e g.V.Value.Read.view c.operations_settle_keys.ensures g.H.Hasher.hash_of (grafting_of g.F.Family.shape g.row.N) (Delete c.args.key.now)
          c.self.inside.log c.remove.new.log c.self.inside.active.present.entries c.remove.new.active.present.entries
          (committed_of g.K.Ord.cmp c.self.inside.active) (committed_of g.K.Ord.cmp c.remove.new.active) c.self.inside.last
          c.remove.result c.self.invariant.1 c.remove.ensures.ok c.remove.ensures.few c.remove.ensures.on c.is_some-noting.result c.is_some-noting.ensures c.remove.ensures.committed
          c.remove.ensures.err c.remove.ensures.kept,
      made_over g.K.Write.text g.V.Value.Write.text g.K.Ord.cmp g.V.Value.Read.view g.H.Hasher.hash_of
          (grafting_of g.F.Family.shape g.row.N) g.V.OperationCodec.operation_text g.V.KeyedEncoding.keyed_text
          g.met.V.OrderedCodec.agrees
          (kept_of c.self.inside.log c.self.inside.active.present.entries (kept_with g.K.Ord.cmp c.self.inside.active c.self.inside.last))
          (kept_of c.remove.new.log c.remove.new.active.present.entries (kept_with g.K.Ord.cmp c.remove.new.active c.self.inside.last))
          (command_made e g.V.Value.Read.view c.operations_settle_keys.ensures g.H.Hasher.hash_of (grafting_of g.F.Family.shape g.row.N) (Delete c.args.key.now)
          c.self.inside.log c.remove.new.log c.self.inside.active.present.entries c.remove.new.active.present.entries
          (committed_of g.K.Ord.cmp c.self.inside.active) (committed_of g.K.Ord.cmp c.remove.new.active) c.self.inside.last
          c.remove.result c.self.invariant.1 c.remove.ensures.ok c.remove.ensures.few c.remove.ensures.on c.is_some-noting.result c.is_some-noting.ensures c.remove.ensures.committed
          c.remove.ensures.err c.remove.ensures.kept)
          c.self.invariant.2,
    )

pub invariant_of-self-2 : goal.invariant_of-self-2
invariant_of-self-2 g c =
    let e : Keyed g.row.K.Denot g.row.V-Value.Denot
    = keyed_by g.K.Write.text g.V.Value.Write.text g.V.OperationCodec.operation_text g.K.Ord.cmp in (
      c.self.invariant.0,
      command_since e g.V.Value.Read.view c.operations_settle_keys.ensures g.H.Hasher.hash_of (grafting_of g.F.Family.shape g.row.N) (Delete c.args.key.now)
          c.self.inside.log c.remove.new.log c.self.inside.active.present.entries c.remove.new.active.present.entries
          (committed_of g.K.Ord.cmp c.self.inside.active) (committed_of g.K.Ord.cmp c.remove.new.active) c.self.inside.last
          c.remove.result c.self.invariant.1 c.remove.ensures.ok c.remove.ensures.few c.remove.ensures.on c.is_some-noting.result c.is_some-noting.ensures c.remove.ensures.committed
          c.remove.ensures.err c.remove.ensures.kept,
      made_over g.K.Write.text g.V.Value.Write.text g.K.Ord.cmp g.V.Value.Read.view g.H.Hasher.hash_of
          (grafting_of g.F.Family.shape g.row.N) g.V.OperationCodec.operation_text g.V.KeyedEncoding.keyed_text
          g.met.V.OrderedCodec.agrees
          (kept_of c.self.inside.log c.self.inside.active.present.entries (kept_with g.K.Ord.cmp c.self.inside.active c.self.inside.last))
          (kept_of c.remove.new.log c.remove.new.active.present.entries (kept_with g.K.Ord.cmp c.remove.new.active c.self.inside.last))
          (command_made e g.V.Value.Read.view c.operations_settle_keys.ensures g.H.Hasher.hash_of (grafting_of g.F.Family.shape g.row.N) (Delete c.args.key.now)
          c.self.inside.log c.remove.new.log c.self.inside.active.present.entries c.remove.new.active.present.entries
          (committed_of g.K.Ord.cmp c.self.inside.active) (committed_of g.K.Ord.cmp c.remove.new.active) c.self.inside.last
          c.remove.result c.self.invariant.1 c.remove.ensures.ok c.remove.ensures.few c.remove.ensures.on c.is_some-noting.result c.is_some-noting.ensures c.remove.ensures.committed
          c.remove.ensures.err c.remove.ensures.kept)
          c.self.invariant.2,
    )
