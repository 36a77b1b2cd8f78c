use Rattle.std.proofs.Common.{◌≡◌, ℕ, ◌*◌, ◌/◌, ◌^◌, ◌≤◌, sym, ap, ◌∙◌, subst, arith}
use Rattle.storage_bitmap.specs.Chunks.{IsChunkSize}
use Rattle.storage_current.specs.Laws.Grafting.{Height, chunk_height}
use Rattle.storage_current.specs.Snapshots.{height}
use Rattle.storage_db.proofs.Pages.{chunks_touched}
use Rattle.storage_db.proofs.db.nodes.chunks_touched.Goals as goal

pub touched_chunks-requires : goal.touched_chunks-requires
touched_chunks-requires g c =
    let low : c.args.status.now.pruned ≤ c.args.start / 2 ^ c.height.result
    = omega (arith, c.pruned_chunks-pruned.ensures.value, c.if-chunk-pruned.false) in
    let kept : (h : ℕ) → 8 * g.row.N ≡ 2 ^ h → c.args.status.now.pruned ≤ c.args.start / 2 ^ h
    = λ h power. subst (λ (n : ℕ). c.args.status.now.pruned ≤ c.args.start / n) (sym c.height.ensures.power ∙ power) low in (
      omega (arith, c.requires.1),
      (c.requires, (c.if-end-start.false, (omega (arith, c.if-len-end.false, c.len.ensures.value), kept))),
    )

pub returns : goal.returns
returns g c = λ gr bits same rest.
    let power : Height gr = chunk_height gr (subst IsChunkSize (sym same) c.requires) in
    let width : 8 * g.row.N ≡ 2 ^ height gr = ap (λ (n : ℕ). 8 * n) (sym same) ∙ sym power.bits in
    let low : c.args.status.now.pruned ≤ c.args.start / 2 ^ c.height.result
    = omega (arith, c.pruned_chunks-pruned.ensures.value, c.if-chunk-pruned.false) in
    c.in_ok-touched_chunks.ensures (height gr) width
    ∙ chunks_touched g.row.N c.args.status.now bits (height gr) c.args.start c.args.end rest
    (subst (λ (n : ℕ). c.args.status.now.pruned ≤ c.args.start / n) (sym c.height.ensures.power ∙ width) low)
