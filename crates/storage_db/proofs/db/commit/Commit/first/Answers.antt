use Rattle.std.proofs.Common.{◌≡◌, Bool, List, ◌++◌, refl, ap, ◌∙◌, subst}
use Rattle.storage_bitmap.specs.Chunks.{Retained}
use Rattle.storage_current.specs.Keys.{Keyed, keyed_by}
use Rattle.storage_current.specs.KeptSnapshots.{StandsForSnapshot}
use Rattle.storage_current.specs.Snapshots.{IsSnapshot, grafting_of}
use Rattle.storage_db.specs.Parts.{texts}
use Rattle.storage_db.proofs.Extensions.{snapshot_with}
use Rattle.storage_db.proofs.Remembering.{copy_itself}
use Rattle.storage_db.proofs.db.commit.Commit.first.Goals as goal

pub returns : goal.returns
returns g c = λ entries.
    let e : Keyed g.row.K.Denot g.row.V-Value.Denot
    = keyed_by g.K.Write.text g.V.Value.Write.text g.V.OperationCodec.operation_text g.K.Ord.cmp in
    let log = c.args.log.now in
    let bits : c.append.new.self.bits ≡ log.bits.items
    = ap (λ (r : Retained). r.bits) c.in_ok-append.ensures.ok
    ∙ ap (λ (r : Retained). r.bits ++ c.deref.result.now) c.new-status.ensures ∙ c.deref.ensures.value in
    let stands = rw c.deref-2.ensures.value at c.in-Ok.ensures.stands in
    record {
      metadata_is = refl;
      floor_is = refl;
      count = c.len.ensures.count;
      pruned = refl;
      copies = copy_itself e g.V.Value.Read.view entries;
      snapshot = subst (λ (b : List Bool). IsSnapshot (snapshot_with (texts log) b c.args.floor)
          × StandsForSnapshot g.H.Hasher.hash_of (grafting_of g.F.Family.shape g.row.N) c.in-Ok.snapshot
          (snapshot_with (texts log) b c.args.floor) × (c.in-Ok.snapshot.status.bits ≡ b)) bits
          (stands.0, stands.1, ap (λ (r : Retained). r.bits) c.in-Ok.ensures.status);
    }
