use Rattle.std.proofs.Common.{◌≡◌, refl, subst}
use Rattle.std.specs.Prelude.{OnOk, OnErr}
use Rattle.storage_current.specs.Keys.{Keyed, keyed_by}
use Rattle.storage_current.specs.Snapshots.{grafting_of}
use Rattle.storage_db.specs.Databases.{Commit, commit, empty, run}
use Rattle.storage_db.specs.Kept.{KeptDatabase, IsDone}
use Rattle.storage_db.specs.Parts.{kept_of, kept_with}
use Rattle.storage_db.proofs.Floors.{made_marked}
use Rattle.storage_db.proofs.Forgetting.{commit_counted}
use Rattle.storage_db.proofs.Keeping.{refused_err}
use Rattle.storage_db.proofs.Made.{made_as, made_either, made_over}
use Rattle.storage_db.proofs.db.ordered.Ordered.commit.Goals as goal

pub returns-clause-ok : goal.returns-clause-ok
returns-clause-ok g c =
    let e : Keyed g.row.K.Denot g.row.V-Value.Denot
    = keyed_by g.K.Write.text g.V.Value.Write.text g.V.OperationCodec.operation_text g.K.Ord.cmp in
    let made = made_as g.K.Write.text g.V.Value.Write.text g.K.Ord.cmp g.V.Value.Read.view g.H.Hasher.hash_of
    (grafting_of g.F.Family.shape g.row.N) g.V.OperationCodec.operation_text g.V.KeyedEncoding.keyed_text
    g.met.V.OrderedCodec.agrees (kept_of c.self.inside.log c.self.inside.active.present.entries (kept_with g.K.Ord.cmp c.self.inside.active c.self.inside.last)) c.self.invariant.2 in
    let marked = made_marked e c.operations_settle_keys.ensures
    (record { put_is = λ d key value. refl; commit_is = λ d metadata. refl }) g.V.Value.Read.view g.H.Hasher.hash_of
    (grafting_of g.F.Family.shape g.row.N) (kept_of c.self.inside.log c.self.inside.active.present.entries (kept_with g.K.Ord.cmp c.self.inside.active c.self.inside.last)) made in
    subst (λ (k : KeptDatabase g.row.K.Denot g.row.V-Value.Denot). OnOk c.put_commit.result (IsDone e g.V.Value.Read.view
    g.H.Hasher.hash_of (grafting_of g.F.Family.shape g.row.N) k
    (kept_of c.put_commit.new.log c.put_commit.new.active.present.entries (kept_with g.K.Ord.cmp c.put_commit.new.active c.put_commit.new.last)) (Commit c.args.metadata)))
    c.self.view_is (c.put_commit.ensures.ok c.self.invariant.1 marked)

pub returns-clause-err : goal.returns-clause-err
returns-clause-err g c =
    subst (λ (k : KeptDatabase g.row.K.Denot g.row.V-Value.Denot). OnErr c.put_commit.result
    (kept_of c.put_commit.new.log c.put_commit.new.active.present.entries (kept_with g.K.Ord.cmp c.put_commit.new.active c.put_commit.new.last) ≡ k))
    c.self.view_is c.put_commit.ensures.err

pub returns-clause-why : goal.returns-clause-why
returns-clause-why g c =
    let e : Keyed g.row.K.Denot g.row.V-Value.Denot
    = keyed_by g.K.Write.text g.V.Value.Write.text g.V.OperationCodec.operation_text g.K.Ord.cmp in
    refused_err e g.V.Value.Read.view g.H.Hasher.hash_of (grafting_of g.F.Family.shape g.row.N)
    (λ x. commit e x c.args.metadata) c.self.inside.log c.put_commit.new.log c.self.inside.active.present.entries
    c.put_commit.new.active.present.entries (kept_with g.K.Ord.cmp c.self.inside.active c.self.inside.last) c.args.self.now c.self.view_is (commit_counted e c.args.metadata) c.put_commit.result c.put_commit.ensures.why

pub invariant_of-self : goal.invariant_of-self
invariant_of-self g c =
    let e : Keyed g.row.K.Denot g.row.V-Value.Denot
    = keyed_by g.K.Write.text g.V.Value.Write.text g.V.OperationCodec.operation_text g.K.Ord.cmp in
    let made = made_as g.K.Write.text g.V.Value.Write.text g.K.Ord.cmp g.V.Value.Read.view g.H.Hasher.hash_of
    (grafting_of g.F.Family.shape g.row.N) g.V.OperationCodec.operation_text g.V.KeyedEncoding.keyed_text
    g.met.V.OrderedCodec.agrees (kept_of c.self.inside.log c.self.inside.active.present.entries (kept_with g.K.Ord.cmp c.self.inside.active c.self.inside.last)) c.self.invariant.2 in
    let marked = made_marked e c.operations_settle_keys.ensures
    (record { put_is = λ d key value. refl; commit_is = λ d metadata. refl }) g.V.Value.Read.view g.H.Hasher.hash_of
    (grafting_of g.F.Family.shape g.row.N) (kept_of c.self.inside.log c.self.inside.active.present.entries (kept_with g.K.Ord.cmp c.self.inside.active c.self.inside.last)) made in
    let old : KeptDatabase g.row.K.Denot g.row.V-Value.Denot
    = kept_of c.self.inside.log c.self.inside.active.present.entries (kept_with g.K.Ord.cmp c.self.inside.active c.self.inside.last) in
    let new : KeptDatabase g.row.K.Denot g.row.V-Value.Denot
    = kept_of c.put_commit.new.log c.put_commit.new.active.present.entries (kept_with g.K.Ord.cmp c.put_commit.new.active c.put_commit.new.last) in (
      c.self.invariant.0,
      c.put_commit.ensures.since c.self.invariant.1 (run e empty made.0) made.1,
      made_over g.K.Write.text g.V.Value.Write.text g.K.Ord.cmp g.V.Value.Read.view g.H.Hasher.hash_of
          (grafting_of g.F.Family.shape g.row.N) g.V.OperationCodec.operation_text g.V.KeyedEncoding.keyed_text
          g.met.V.OrderedCodec.agrees old new
          (made_either e g.V.Value.Read.view g.H.Hasher.hash_of (grafting_of g.F.Family.shape g.row.N) old new
          (Commit c.args.metadata) c.put_commit.result (c.put_commit.ensures.ok c.self.invariant.1 marked) c.put_commit.ensures.err)
          c.self.invariant.2,
    )
