use Rattle.std.proofs.Common.{◌≡◌, ◌+◌, ◌-◌, ℕ, ap, ap₂, sym, ◌∙◌, arith}
use Rattle.storage_current.specs.Laws.Grafting.{graftable_is, height_of_power}
use Rattle.storage_current.specs.Snapshots.{Grafting, graftable, graftable_at, height}
use Rattle.storage_current.proofs.Extending.{graftable_grows}
use Rattle.storage_current.proofs.MemViews.{succeeded}
use Rattle.storage_current.proofs.qmdb.current.snapshot.extend.make_room.Goals as goal

pub overflow_sub-more : goal.overflow_sub-more
overflow_sub-more g c =
    let S = g.F.Family.shape in
    let L = g.met.F.Family.laws in
    let G : Grafting = record { shape = S; bytes = g.row.N } in
    let r = c.height-height.result in
    let m = c.args.operations.now in
    let level : height G ≡ r = height_of_power S g.row.N _ c.height-height.ensures.power in
    let n : c.as_u64-2.result + c.args.count ≡ m.leaves + c.args.count =
    ap (λ (x : ℕ). x + c.args.count) (c.as_u64-2.ensures ∙ c.leaves-2.ensures) in
    let total : c.graftable_chunks-grown.result ≡ graftable G (m.leaves + c.args.count) =
    rw level (graftable_is S L r (c.as_u64-2.result + c.args.count) c.graftable_chunks-grown.result
    c.graftable_chunks-grown.ensures ∙ ap (graftable_at S r) n) in
    omega (
      arith,
      total,
      graftable_grows G L m.leaves (m.leaves + c.args.count) (omega arith),
      c.requires.within,
      c.as_u64-3.ensures,
      c.leaves-3.ensures,
    )

pub returns-clause-grafts : goal.returns-clause-grafts
returns-clause-grafts g c =
    let S = g.F.Family.shape in
    let L = g.met.F.Family.laws in
    let G : Grafting = record { shape = S; bytes = g.row.N } in
    let r = c.height-height.result in
    let m = c.args.operations.now in
    let level : height G ≡ r = height_of_power S g.row.N _ c.height-height.ensures.power in
    let n : c.as_u64-2.result + c.args.count ≡ m.leaves + c.args.count =
    ap (λ (x : ℕ). x + c.args.count) (c.as_u64-2.ensures ∙ c.leaves-2.ensures) in
    let total : c.graftable_chunks-grown.result ≡ graftable G (m.leaves + c.args.count) =
    rw level (graftable_is S L r (c.as_u64-2.result + c.args.count) c.graftable_chunks-grown.result
    c.graftable_chunks-grown.ensures ∙ ap (graftable_at S r) n) in
    let more : c.graftable_chunks-grown.result - c.as_u64-3.result
    ≡ graftable G (m.leaves + c.args.count) - c.args.chunks.now.leaves =
    ap₂ (λ (x y : ℕ). x - y) total (c.as_u64-3.ensures ∙ c.leaves-3.ensures) in
    rw (← more) (succeeded c.reserve-else-is_err.result _ (sym c.if-is_err-2.ensures.value)
    c.reserve-else-is_err.ensures.room)

pub returns-clause-touched : goal.returns-clause-touched
returns-clause-touched g c =
    let S = g.F.Family.shape in
    let G : Grafting = record { shape = S; bytes = g.row.N } in
    let level : height G ≡ c.height-height.result = height_of_power S g.row.N _ c.height-height.ensures.power in
    let count : c.as_u64.result ≡ c.args.chunks.now.leaves = c.as_u64.ensures ∙ c.leaves.ensures in
    rw (level, ← count) c.in_ok-touched.ensures
