use Rattle.std.proofs.Common.{◌≡◌, ℕ, ◌-◌, ◌*◌, ◌/◌, ◌^◌, ◌<◌, ◌≤◌, min, max, sym, ap, ap₂, ◌∙◌, subst, arith}
use Rattle.std.proofs.lemmas.Bool.{le-ltb, lt-ltb}
use Rattle.storage_bitmap.specs.Chunks.{Retained}
use Rattle.storage_current.specs.KeptSnapshots.{KeptSnapshot, StandsForSnapshot}
use Rattle.storage_current.specs.Laws.Grafting.{chunk_height}
use Rattle.storage_current.specs.Snapshots.{graftable, grafting_of, height}
use Rattle.storage_db.specs.declared.db.error.Error.TheVariants.{Memory, RangeOutOfBounds}
use Rattle.storage_db.specs.Kept.{HeldCommit}
use Rattle.storage_db.proofs.Cases.{cond_no, cond_yes, on_ok, on_refused}
use Rattle.storage_db.proofs.Forgetting.{most_chunks}
use Rattle.storage_db.proofs.db.commit.Commit.prune.Goals as goal

pub returns-then-place-floor-clause-why : goal.returns-then-place-floor-clause-why
returns-then-place-floor-clause-why g c =
    let floor : c.self.inside.floor ≡ c.args.self.now.floor
    = ap (λ (k : HeldCommit g.row.V-Value.Denot). k.floor) c.self.view_is in
    let past : c.args.self.now.floor < c.args.location
    = omega (arith, c.if-place-floor.true, c.as_u64-place.ensures, c.as_u64-floor.ensures, floor) in
    sym (cond_yes _ (RangeOutOfBounds c.args.location) Memory (lt-ltb _ _ past))

pub returns-then-is_err-clause-why : goal.returns-then-is_err-clause-why
returns-then-is_err-clause-why g c =
    let floor : c.self.inside.floor ≡ c.args.self.now.floor
    = ap (λ (k : HeldCommit g.row.V-Value.Denot). k.floor) c.self.view_is in
    let before : c.args.location ≤ c.args.self.now.floor
    = omega (arith, c.if-place-floor.false, c.as_u64-place.ensures, c.as_u64-floor.ensures, floor) in
    sym (cond_no _ (RangeOutOfBounds c.args.location) Memory (le-ltb _ _ before))

pub returns-then-is_err-clause-err : goal.returns-then-is_err-clause-err
returns-then-is_err-clause-err g c =
    let same : c.prune.new.self ≡ c.self.inside.snapshot
    = on_refused _ c.prune.result (sym c.if-is_err.ensures.value) c.prune.ensures.same in
    let held : KeptSnapshot → HeldCommit g.row.V-Value.Denot = λ s. record {
      metadata = c.self.inside.metadata;
      floor = c.self.inside.floor;
      count = c.self.inside.length;
      pruned = c.self.inside.pruned;
      snapshot = s;
    } in
    ap held same ∙ c.self.view_is

pub returns-clause-ok : goal.returns-clause-ok
returns-clause-ok g c =
    let h = g.H.Hasher.hash_of in
    let gr = grafting_of g.F.Family.shape g.row.N in
    let n : ℕ = 8 * g.row.N in
    let old : HeldCommit g.row.V-Value.Denot = c.args.self.now in
    let was : Retained = c.self.inside.snapshot.status in
    let floor : c.self.inside.floor ≡ old.floor = ap (λ (k : HeldCommit g.row.V-Value.Denot). k.floor) c.self.view_is in
    let kept : c.self.inside.snapshot ≡ old.snapshot
    = ap (λ (k : HeldCommit g.row.V-Value.Denot). k.snapshot) c.self.view_is in
    let pruned : c.self.inside.pruned ≡ old.pruned
    = ap (λ (k : HeldCommit g.row.V-Value.Denot). k.pruned) c.self.view_is in
    let done = sym c.if-is_err.ensures.value in
    let status = on_ok _ c.prune.result done c.prune.ensures.status in
    let stands = on_ok _ c.prune.result done c.prune.ensures.stands in
    let chunks : ℕ = min (c.args.location / 2 ^ height gr) (graftable gr c.self.inside.snapshot.leaves) in
    let high : 2 ^ height gr ≡ n = (chunk_height gr c.pruned_bits-self-inside.ensures.size).bits in
    let count : c.pruned_bits-self-inside.result ≡ c.prune.new.self.status.pruned * n
    = c.pruned_bits-self-inside.ensures.count ∙ ap (λ (r : Retained). r.pruned * n) c.status.ensures in
    let begin : was.pruned * n ≡ old.pruned = sym c.self.invariant.1 ∙ pruned in
    let most : chunks * n ≡ min (c.args.location / 2 ^ height gr) (graftable gr old.snapshot.leaves) * 2 ^ height gr
    = ap (λ (m : ℕ). chunks * m) (sym high)
    ∙ ap (λ (k : KeptSnapshot). min (c.args.location / 2 ^ height gr) (graftable gr k.leaves) * 2 ^ height gr) kept in
    record {
      fits = omega (arith, c.if-place-floor.false, c.as_u64-place.ensures, c.as_u64-floor.ensures, floor);
      pruned = count ∙ ap (λ (r : Retained). r.pruned * n) status ∙ most_chunks was.pruned chunks n ∙ ap₂ max begin most;
      chunks = sym count;
      same = ap (λ (k : HeldCommit g.row.V-Value.Denot).
          record k { pruned = c.pruned_bits-self-inside.result; snapshot = c.prune.new.self }) c.self.view_is;
      stands = λ s is before. stands s is (subst (λ (k : KeptSnapshot). StandsForSnapshot h gr k s) (sym kept) before);
    }

pub invariant_of-self : goal.invariant_of-self
invariant_of-self g c =
    let same = on_refused _ c.prune.result (sym c.if-is_err.ensures.value) c.prune.ensures.same in
    (c.self.invariant.0, c.self.invariant.1 ∙ ap (λ (k : KeptSnapshot). k.status.pruned * (8 * g.row.N)) (sym same))

pub invariant_of-self-2 : goal.invariant_of-self-2
invariant_of-self-2 g c =
    (c.self.invariant.0, c.pruned_bits-self-inside.ensures.count ∙ ap (λ (r : Retained). r.pruned * (8 * g.row.N)) c.status.ensures)
