use Rattle.std.proofs.Common.{ℕ, ◌≤◌, length, refl, sym, ap, ◌∙◌, subst}
use Rattle.storage_current.specs.Keys.{Keyed, keyed_by}
use Rattle.storage_current.specs.Snapshots.{grafting_of}
use Rattle.storage_db.specs.Databases.{least_location}
use Rattle.storage_db.specs.Kept.{KeptDatabase}
use Rattle.storage_db.specs.Parts.{committed_of, kept_of, kept_with}
use Rattle.storage_db.proofs.Compacting.{oldest_found}
use Rattle.storage_db.proofs.Made.{made_as}
use Rattle.storage_db.proofs.db.ordered.Ordered.oldest.Goals as goal

pub returns : goal.returns
returns g c = λ from_low.
    let e : Keyed g.row.K.Denot g.row.V-Value.Denot
    = keyed_by g.K.Write.text g.V.Value.Write.text g.V.OperationCodec.operation_text g.K.Ord.cmp in
    let inside : KeptDatabase g.row.K.Denot g.row.V-Value.Denot
    = kept_of c.self.inside.log c.self.inside.active.present.entries (kept_with g.K.Ord.cmp c.self.inside.active c.self.inside.last) in
    let made = made_as g.K.Write.text g.V.Value.Write.text g.K.Ord.cmp g.V.Value.Read.view g.H.Hasher.hash_of
    (grafting_of g.F.Family.shape g.row.N) g.V.OperationCodec.operation_text g.V.KeyedEncoding.keyed_text
    g.met.V.OrderedCodec.agrees inside c.self.invariant.2 in
    let least : KeptDatabase g.row.K.Denot g.row.V-Value.Denot → ℕ = λ k. least_location k.entries (length k.operations) in
    let low : c.args.from ≤ least inside = subst (λ (k : KeptDatabase g.row.K.Denot g.row.V-Value.Denot). c.args.from ≤ least k)
    (sym c.self.view_is) from_low in
    oldest_found e c.operations_settle_keys.ensures (record { put_is = λ d key value. refl; commit_is = λ d metadata. refl })
    g.V.Value.Read.view g.H.Hasher.hash_of (grafting_of g.F.Family.shape g.row.N) inside made c.args.from low
    c.location_of.result (c.location_of.ensures (committed_of g.K.Ord.cmp c.self.inside.active)) c.first_active.result c.first_active.ensures
    ∙ ap least c.self.view_is
