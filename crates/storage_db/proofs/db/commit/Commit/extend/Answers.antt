use Rattle.std.proofs.Common.{◌≡◌, ℕ, ◌-◌, ◌*◌, ◌<◌, ◌≤◌, Bool, false, List, [], ◌∷◌, ◌++◌, length, take, drop, replicate, refl, sym, ap, ◌∙◌, subst, arith}
use Rattle.std.proofs.lemmas.List.{length-append, length-replicate}
use Rattle.storage_bitmap.specs.Chunks.{Retained}
use Rattle.storage_current.specs.Extended.{cleared}
use Rattle.storage_current.specs.Keys.{Keyed, keyed_by}
use Rattle.storage_current.specs.KeptSnapshots.{KeptSnapshot, StandsForSnapshot}
use Rattle.storage_current.specs.Snapshots.{Snapshot, IsSnapshot, grafting_of}
use Rattle.storage_db.specs.Kept.{HeldCommit}
use Rattle.storage_db.specs.Parts.{AreLast}
use Rattle.storage_db.proofs.Cases.{on_ok, on_refused}
use Rattle.storage_db.proofs.Extensions.{IsRest, extended_bits, extended_is, first_bits}
use Rattle.storage_db.proofs.Remembering.{copy_itself}
use Rattle.storage_db.proofs.db.commit.Commit.extend.Goals as goal

pub returns-clause-ok : goal.returns-clause-ok
returns-clause-ok g c = λ before entries since.
    let e : Keyed g.row.K.Denot g.row.V-Value.Denot
    = keyed_by g.K.Write.text g.V.Value.Write.text g.V.OperationCodec.operation_text g.K.Ord.cmp in
    let h = g.H.Hasher.hash_of in
    let gr = grafting_of g.F.Family.shape g.row.N in
    let log = c.args.log.now in
    let was : HeldCommit g.row.V-Value.Denot = c.args.self.now in
    let kept : c.self.inside.snapshot ≡ was.snapshot
    = ap (λ (k : HeldCommit g.row.V-Value.Denot). k.snapshot) c.self.view_is in
    let pruned : c.self.inside.pruned ≡ was.pruned = ap (λ (k : HeldCommit g.row.V-Value.Denot). k.pruned) c.self.view_is in
    let clear : List ℕ = c.deref.result.now in
    let more : List Bool = c.new_bits-bits.result.now in
    let rest : IsRest log (was.count - 1) clear c.new_operations-operations.result.now more
    = record {
      clears = c.deref.ensures.value ∙ c.in_ok-clear.ensures
          ∙ ap (λ (l : ℕ). log.cleared.items ++ l ∷ []) c.location.ensures;
      more = c.new_operations-operations.ensures;
      more_bits = c.new_bits-bits.ensures;
    } in
    let within : was.count - 1 < log.committed = omega (arith, since.some, since.committed) in
    let stands = on_ok _ c.extend.result (sym c.if-is_err.ensures.value) c.extend.ensures.stands in
    let status = on_ok _ c.extend.result (sym c.if-is_err.ensures.value) c.extend.ensures.status in
    let now : Retained = c.extend.new.self.status in
    let start : now.pruned * (8 * g.row.N) ≡ was.pruned
    = ap (λ (r : Retained). r.pruned * (8 * g.row.N)) status ∙ sym c.self.invariant.1 ∙ pruned in
    record {
      metadata_is = refl;
      floor_is = refl;
      count = c.len-self-inside.ensures.count;
      pruned = pruned;
      copies = copy_itself e g.V.Value.Read.view entries;
      snapshot = λ t old long.
          let after = stands t old.0 (subst (λ (k : KeptSnapshot). StandsForSnapshot h gr k t) (sym kept) old.1) in
          let first : take was.pruned t.bits ≡ replicate was.pruned false
          = ap (take was.pruned) (sym old.2) ∙ first_bits was.pruned was.snapshot.status.bits in
          let fits : was.pruned ≤ length t.bits
          = omega (
            arith,
            ap (λ (b : List Bool). length b) old.2,
            length-append (replicate was.pruned false) was.snapshot.status.bits,
            length-replicate was.pruned false,
          ) in
          let left : now.bits ≡ drop was.pruned (cleared clear t.bits ++ more)
          = after.1.status.rest ∙ ap (λ (n : ℕ). drop n (cleared clear t.bits ++ more)) start in
          let bits : replicate c.self.inside.pruned false ++ now.bits ≡ cleared clear t.bits ++ more
          = ap (λ (n : ℕ). replicate n false ++ now.bits) pruned
          ∙ extended_bits was.pruned clear t.bits more now.bits first fits left in
          subst (λ (s : Snapshot). IsSnapshot s × StandsForSnapshot h gr c.extend.new.self s
          × (replicate c.self.inside.pruned false ++ now.bits ≡ s.bits))
          (extended_is log (was.count - 1) clear c.new_operations-operations.result.now more rest within t c.args.floor
          (subst (λ (b : List Bool). AreLast log b) old.2 since.cleared))
          (after.0, after.1, bits);
    }

pub invariant_of-self : goal.invariant_of-self
invariant_of-self g c =
    let same = on_refused _ c.extend.result (sym c.if-is_err.ensures.value) c.extend.ensures.same in
    (c.self.invariant.0, c.self.invariant.1 ∙ ap (λ (k : KeptSnapshot). k.status.pruned * (8 * g.row.N)) (sym same))

pub invariant_of-self-2 : goal.invariant_of-self-2
invariant_of-self-2 g c =
    let status = on_ok _ c.extend.result (sym c.if-is_err.ensures.value) c.extend.ensures.status in (
      omega (arith, c.requires, c.len-self-inside.ensures.count),
      c.self.invariant.1 ∙ sym (ap (λ (r : Retained). r.pruned * (8 * g.row.N)) status),
    )
