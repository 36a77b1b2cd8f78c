use Rattle.std.proofs.Common.{◌≡◌, arith, ap, ◌∙◌}
use Rattle.std.proofs.lemmas.Bool.{false≢true}
use Rattle.storage_bitmap.specs.Chunks.{bit_count}
use Rattle.storage_current.specs.Laws.Grafting.{graftable_is, height_of_power}
use Rattle.storage_current.specs.Snapshots.{Grafting, graftable, graftable_at, height}
use Rattle.storage_current.proofs.qmdb.current.tail.do_fit.Goals as goal

pub returns-then-chunks-graftable_chunks-clause-exact : goal.returns-then-chunks-graftable_chunks-clause-exact
returns-then-chunks-graftable_chunks-clause-exact g c =
    let S = g.F.Family.shape in
    let G : Grafting = record { shape = S; bytes = g.row.N } in
    let status = c.args.status.now in
    let level : height G ≡ c.height.result = height_of_power S g.row.N _ c.height.ensures.power in
    let total : c.graftable_chunks.result ≡ graftable G (bit_count g.row.N status) =
    rw level (graftable_is S g.met.F.Family.laws c.height.result c.len-leaves.result c.graftable_chunks.result
    c.graftable_chunks.ensures ∙ ap (graftable_at S c.height.result) c.len-leaves.ensures.value) in (
      λ yes. absurd (false≢true yes),
      λ fit. absurd (omega (arith, fit.graftable, total, c.if-chunks-graftable_chunks.true, c.pruned_chunks-chunks.ensures.value)),
    )

pub returns-clause-exact : goal.returns-clause-exact
returns-clause-exact g c =
    let S = g.F.Family.shape in
    let G : Grafting = record { shape = S; bytes = g.row.N } in
    let status = c.args.status.now in
    let level : height G ≡ c.height.result = height_of_power S g.row.N _ c.height.ensures.power in
    let total : c.graftable_chunks.result ≡ graftable G (bit_count g.row.N status) =
    rw level (graftable_is S g.met.F.Family.laws c.height.result c.len-leaves.result c.graftable_chunks.result
    c.graftable_chunks.ensures ∙ ap (graftable_at S c.height.result) c.len-leaves.ensures.value) in
    let pins = rw c.pruned_bits-before.ensures at c.are_pins.ensures in
    let over = rw c.pruned_chunks-chunks.ensures.value at c.are_pins-2.ensures in (
      λ yes. record {
        bit_each = omega (arith, c.if-leaves-before.false, c.len-leaves.ensures.value, c.pruned_bits-before.ensures);
        few = omega (arith, c.if-leaves-gt-MAX_LEAVES.false, c.len-leaves.ensures.value);
        pin_each = pins.0 c.if-not-are_pins.false;
        chunk_pin_each = over.0 yes;
        graftable = omega (arith, total, c.if-chunks-graftable_chunks.false, c.pruned_chunks-chunks.ensures.value);
      },
      λ fit. over.1 fit.chunk_pin_each,
    )
