use Rattle.std.proofs.Common.{ℕ, ◌≤◌, length, refl, sym, ap, ◌∙◌, subst}
use Rattle.storage_current.specs.Keys.{Keyed, keyed_by}
use Rattle.storage_current.specs.Snapshots.{grafting_of}
use Rattle.storage_db.specs.Databases.{least_location}
use Rattle.storage_db.specs.Kept.{KeptDatabase}
use Rattle.storage_db.specs.Parts.{committed_of, kept_of, kept_with}
use Rattle.storage_db.proofs.Changing.{count_of_texts}
use Rattle.storage_db.proofs.Compacting.{search_start}
use Rattle.storage_db.proofs.Made.{made_as}
use Rattle.storage_db.proofs.db.ordered.Ordered.span.Goals as goal

pub returns-clause-start : goal.returns-clause-start
returns-clause-start g c =
    let e : Keyed g.row.K.Denot g.row.V-Value.Denot
    = keyed_by g.K.Write.text g.V.Value.Write.text g.V.OperationCodec.operation_text g.K.Ord.cmp in
    let inside : KeptDatabase g.row.K.Denot g.row.V-Value.Denot
    = kept_of c.self.inside.log c.self.inside.active.present.entries (kept_with g.K.Ord.cmp c.self.inside.active c.self.inside.last) in
    let made = made_as g.K.Write.text g.V.Value.Write.text g.K.Ord.cmp g.V.Value.Read.view g.H.Hasher.hash_of
    (grafting_of g.F.Family.shape g.row.N) g.V.OperationCodec.operation_text g.V.KeyedEncoding.keyed_text
    g.met.V.OrderedCodec.agrees inside c.self.invariant.2 in
    subst (λ (k : KeptDatabase g.row.K.Denot g.row.V-Value.Denot). c.floor_of.result ≤ least_location k.entries (length k.operations)) c.self.view_is
    (subst (λ (n : ℕ). n ≤ least_location inside.entries (length inside.operations))
    (sym (c.floor_of.ensures (committed_of g.K.Ord.cmp c.self.inside.active)))
    (search_start e c.operations_settle_keys.ensures (record { put_is = λ d key value. refl; commit_is = λ d metadata. refl })
    g.V.Value.Read.view g.H.Hasher.hash_of (grafting_of g.F.Family.shape g.row.N) inside made))

pub returns-clause-end : goal.returns-clause-end
returns-clause-end g c = c.len.ensures.count ∙ count_of_texts c.self.inside.log
    ∙ ap (λ (k : KeptDatabase g.row.K.Denot g.row.V-Value.Denot). length k.operations) c.self.view_is
