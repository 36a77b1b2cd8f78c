use Rattle.std.proofs.Common.{ℕ, ◌≤◌, length, refl, sym, ap, ◌∙◌, subst, arith}
use Rattle.std.specs.Prelude.{OnOk}
use Rattle.storage_current.specs.Keys.{Keyed, keyed_by}
use Rattle.storage_current.specs.Snapshots.{grafting_of}
use Rattle.storage_db.specs.Compacting.{IsMovedOnce}
use Rattle.storage_db.specs.Databases.{least_location}
use Rattle.storage_db.specs.Kept.{KeptDatabase, pruned_of}
use Rattle.storage_db.specs.Opening.{ReadsAs, ReadsCommand}
use Rattle.storage_db.specs.Parts.{committed_of, kept_of, kept_with}
use Rattle.storage_db.proofs.Compacting.{behind_pruned, once_moved}
use Rattle.storage_db.proofs.Made.{made_as, made_over}
use Rattle.storage_db.proofs.Moving.{again_err, again_made, again_ok, again_since, again_why, no_fewer}
use Rattle.storage_db.proofs.db.ordered.Ordered.move_oldest.Goals as goal

pub returns-clause-ok : goal.returns-clause-ok
returns-clause-ok g c = λ at.
    let e : Keyed g.row.K.Denot g.row.V-Value.Denot
    = keyed_by g.K.Write.text g.V.Value.Write.text g.V.OperationCodec.operation_text g.K.Ord.cmp in
    let inside : KeptDatabase g.row.K.Denot g.row.V-Value.Denot
    = kept_of c.self.inside.log c.self.inside.active.present.entries (kept_with g.K.Ord.cmp c.self.inside.active c.self.inside.last) in
    let new : KeptDatabase g.row.K.Denot g.row.V-Value.Denot
    = kept_of c.put_again.new.log c.put_again.new.active.present.entries (kept_with g.K.Ord.cmp c.put_again.new.active c.self.inside.last) in
    let made = made_as g.K.Write.text g.V.Value.Write.text g.K.Ord.cmp g.V.Value.Read.view g.H.Hasher.hash_of
    (grafting_of g.F.Family.shape g.row.N) g.V.OperationCodec.operation_text g.V.KeyedEncoding.keyed_text
    g.met.V.OrderedCodec.agrees inside c.self.invariant.2 in
    let least : KeptDatabase g.row.K.Denot g.row.V-Value.Denot → ℕ = λ k. least_location k.entries (length k.operations) in
    subst (λ (k : KeptDatabase g.row.K.Denot g.row.V-Value.Denot). OnOk c.put_again.result (IsMovedOnce e g.V.Value.Read.view g.H.Hasher.hash_of (grafting_of g.F.Family.shape g.row.N) k new c.args.location)) c.self.view_is
    (once_moved e c.operations_settle_keys.ensures (record { put_is = λ d key value. refl; commit_is = λ d metadata. refl })
    g.V.Value.Read.view g.H.Hasher.hash_of (grafting_of g.F.Family.shape g.row.N) inside made new c.args.location
    (at ∙ sym (ap least c.self.view_is))
    (no_fewer e g.V.Value.Read.view c.operations_settle_keys.ensures g.H.Hasher.hash_of (grafting_of g.F.Family.shape g.row.N)
    c.self.inside.log c.put_again.new.log c.self.inside.active.present.entries c.put_again.new.active.present.entries
    (committed_of g.K.Ord.cmp c.self.inside.active) (committed_of g.K.Ord.cmp c.put_again.new.active) c.self.inside.last
    c.self.invariant.1 c.args.location c.put_again.ensures.few c.put_again.ensures.on c.is_some-noting.result c.is_some-noting.ensures)
    c.put_again.result
    (again_ok e g.V.Value.Read.view c.operations_settle_keys.ensures g.H.Hasher.hash_of (grafting_of g.F.Family.shape g.row.N)
    c.self.inside.log c.put_again.new.log c.self.inside.active.present.entries c.put_again.new.active.present.entries
    (committed_of g.K.Ord.cmp c.self.inside.active) (committed_of g.K.Ord.cmp c.put_again.new.active) c.self.inside.last
    c.self.invariant.1 c.args.location c.put_again.ensures.few c.put_again.ensures.on c.is_some-noting.result c.is_some-noting.ensures
    c.put_again.result c.put_again.ensures.ok c.put_again.ensures.committed inside refl))

pub returns-clause-err : goal.returns-clause-err
returns-clause-err g c =
    let e : Keyed g.row.K.Denot g.row.V-Value.Denot
    = keyed_by g.K.Write.text g.V.Value.Write.text g.V.OperationCodec.operation_text g.K.Ord.cmp in
    again_err e g.V.Value.Read.view c.operations_settle_keys.ensures g.H.Hasher.hash_of (grafting_of g.F.Family.shape g.row.N)
    c.self.inside.log c.put_again.new.log c.self.inside.active.present.entries c.put_again.new.active.present.entries
    (committed_of g.K.Ord.cmp c.self.inside.active) (committed_of g.K.Ord.cmp c.put_again.new.active) c.self.inside.last
    c.self.invariant.1 c.args.location c.put_again.ensures.few c.put_again.ensures.on c.is_some-noting.result c.is_some-noting.ensures
    c.put_again.result c.put_again.ensures.err c.put_again.ensures.kept c.args.self.now c.self.view_is

pub returns-clause-why : goal.returns-clause-why
returns-clause-why g c = λ at.
    let e : Keyed g.row.K.Denot g.row.V-Value.Denot
    = keyed_by g.K.Write.text g.V.Value.Write.text g.V.OperationCodec.operation_text g.K.Ord.cmp in
    let reads = ReadsCommand (ReadsAs (g.V.OperationCodec.operation_parse c.args.cfg.now) g.V.OperationCodec.operation_view)
    (λ k v n. record { key = k; value = v; next_key = n }) in
    let inside : KeptDatabase g.row.K.Denot g.row.V-Value.Denot
    = kept_of c.self.inside.log c.self.inside.active.present.entries (kept_with g.K.Ord.cmp c.self.inside.active c.self.inside.last) in
    let made = made_as g.K.Write.text g.V.Value.Write.text g.K.Ord.cmp g.V.Value.Read.view g.H.Hasher.hash_of
    (grafting_of g.F.Family.shape g.row.N) g.V.OperationCodec.operation_text g.V.KeyedEncoding.keyed_text
    g.met.V.OrderedCodec.agrees inside c.self.invariant.2 in
    let least : KeptDatabase g.row.K.Denot g.row.V-Value.Denot → ℕ = λ k. least_location k.entries (length k.operations) in
    let low = behind_pruned e c.operations_settle_keys.ensures (record { put_is = λ d key value. refl; commit_is = λ d metadata. refl })
    g.V.Value.Read.view g.H.Hasher.hash_of (grafting_of g.F.Family.shape g.row.N) inside made in
    let behind : pruned_of inside.last ≤ c.args.location = omega (arith, low, at, ap least c.self.view_is) in
    again_why e g.V.Value.Read.view c.operations_settle_keys.ensures g.H.Hasher.hash_of (grafting_of g.F.Family.shape g.row.N)
    c.self.inside.log c.put_again.new.log c.self.inside.active.present.entries c.put_again.new.active.present.entries
    (committed_of g.K.Ord.cmp c.self.inside.active) (committed_of g.K.Ord.cmp c.put_again.new.active) c.self.inside.last
    c.self.invariant.1 c.args.location c.put_again.ensures.few c.put_again.ensures.on c.is_some-noting.result c.is_some-noting.ensures
    reads c.put_again.result c.put_again.ensures.why behind c.args.self.now c.self.view_is

pub invariant_of-self : goal.invariant_of-self
invariant_of-self g c =
    let e : Keyed g.row.K.Denot g.row.V-Value.Denot
    = keyed_by g.K.Write.text g.V.Value.Write.text g.V.OperationCodec.operation_text g.K.Ord.cmp in
    let inside : KeptDatabase g.row.K.Denot g.row.V-Value.Denot
    = kept_of c.self.inside.log c.self.inside.active.present.entries (kept_with g.K.Ord.cmp c.self.inside.active c.self.inside.last) in
    let new : KeptDatabase g.row.K.Denot g.row.V-Value.Denot
    = kept_of c.put_again.new.log c.put_again.new.active.present.entries (kept_with g.K.Ord.cmp c.put_again.new.active c.self.inside.last) in (
      c.self.invariant.0,
      again_since e g.V.Value.Read.view c.operations_settle_keys.ensures g.H.Hasher.hash_of (grafting_of g.F.Family.shape g.row.N)
          c.self.inside.log c.put_again.new.log c.self.inside.active.present.entries c.put_again.new.active.present.entries
          (committed_of g.K.Ord.cmp c.self.inside.active) (committed_of g.K.Ord.cmp c.put_again.new.active) c.self.inside.last
          c.self.invariant.1 c.args.location c.put_again.ensures.few c.put_again.ensures.on c.is_some-noting.result c.is_some-noting.ensures,
      made_over g.K.Write.text g.V.Value.Write.text g.K.Ord.cmp g.V.Value.Read.view g.H.Hasher.hash_of
          (grafting_of g.F.Family.shape g.row.N) g.V.OperationCodec.operation_text g.V.KeyedEncoding.keyed_text
          g.met.V.OrderedCodec.agrees inside new
          (again_made e g.V.Value.Read.view c.operations_settle_keys.ensures g.H.Hasher.hash_of (grafting_of g.F.Family.shape g.row.N)
          c.self.inside.log c.put_again.new.log c.self.inside.active.present.entries c.put_again.new.active.present.entries
          (committed_of g.K.Ord.cmp c.self.inside.active) (committed_of g.K.Ord.cmp c.put_again.new.active) c.self.inside.last
          c.self.invariant.1 c.args.location c.put_again.ensures.few c.put_again.ensures.on c.is_some-noting.result c.is_some-noting.ensures
          c.put_again.result c.put_again.ensures.ok c.put_again.ensures.committed c.put_again.ensures.err c.put_again.ensures.kept)
          c.self.invariant.2,
    )
