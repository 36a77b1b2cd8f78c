use Rattle.std.proofs.Common.{ℕ, ◌-◌, List, map, drop, take, sym, ap, ap₂, ◌∙◌, arith}
use Rattle.std.specs.Global.{Vec}
use Rattle.std.proofs.lemmas.List.{drop-map}
use Rattle.storage_current.specs.Keys.{Keyed, keyed_by}
use Rattle.storage_current.specs.Snapshots.{grafting_of}
use Rattle.storage_db.specs.Kept.{KeptDatabase, pruned_of}
use Rattle.storage_db.specs.Parts.{kept_of, kept_with}
use Rattle.storage_db.proofs.Changing.{count_of_texts}
use Rattle.storage_db.proofs.Forgetting.{forgetting_drop, made_within, rotated}
use Rattle.storage_db.proofs.db.ordered.Ordered.into_operations.Goals as goal

pub overflow_sub-kept : goal.overflow_sub-kept
overflow_sub-kept g c =
    let named : Keyed g.row.K.Denot g.row.V-Value.Denot
    = keyed_by g.K.Write.text g.V.Value.Write.text g.V.KeyedEncoding.keyed_text g.K.Ord.cmp in
    let inside : KeptDatabase g.row.K.Denot g.row.V-Value.Denot
    = kept_of c.self.inside.log c.self.inside.active.present.entries (kept_with g.K.Ord.cmp c.self.inside.active c.self.inside.last) in
    let within = made_within named g.V.Value.Read.view g.H.Hasher.hash_of (grafting_of g.F.Family.shape g.row.N) inside c.self.invariant.2 in
    let same = ap (λ (k : KeptDatabase g.row.K.Denot g.row.V-Value.Denot). pruned_of k.last) c.self.view_is in
    omega (arith, within, same, c.pruned-pruned.ensures, count_of_texts c.self.inside.log, c.len.ensures)

pub rotate_left-requires : goal.rotate_left-requires
rotate_left-requires g c =
    let named : Keyed g.row.K.Denot g.row.V-Value.Denot
    = keyed_by g.K.Write.text g.V.Value.Write.text g.V.KeyedEncoding.keyed_text g.K.Ord.cmp in
    let inside : KeptDatabase g.row.K.Denot g.row.V-Value.Denot
    = kept_of c.self.inside.log c.self.inside.active.present.entries (kept_with g.K.Ord.cmp c.self.inside.active c.self.inside.last) in
    let within = made_within named g.V.Value.Read.view g.H.Hasher.hash_of (grafting_of g.F.Family.shape g.row.N) inside c.self.invariant.2 in
    let same = ap (λ (k : KeptDatabase g.row.K.Denot g.row.V-Value.Denot). pruned_of k.last) c.self.view_is in
    omega (arith, within, same, c.pruned-pruned.ensures, count_of_texts c.self.inside.log)

pub returns : goal.returns
returns g c = λ d keeps.
    let items : List (Vec ℕ) = c.self.inside.log.operations.items in
    let p : ℕ = pruned_of c.args.self.last in
    let left = c.truncate.ensures.items ∙ ap (take (c.len.result - c.pruned-pruned.result)) c.rotate_left.ensures.items
    ∙ rotated items c.pruned-pruned.result (c.len.result - c.pruned-pruned.result) (omega (arith, c.len.ensures)) in
    ap (map (λ (v : Vec ℕ). v.items)) left
    ∙ sym (drop-map (λ (v : Vec ℕ). v.items) c.pruned-pruned.result items)
    ∙ ap₂ (λ (n : ℕ) (l : List (List ℕ)). drop n l) c.pruned-pruned.ensures
    (ap (λ (k : KeptDatabase g.row.K.Denot g.row.V-Value.Denot). k.operations) c.self.view_is ∙ keeps.operations)
    ∙ forgetting_drop p p d.operations (omega arith)
