use Rattle.std.proofs.Common.{arith, ◌-◌, ◌*◌}
use Rattle.storage_bitmap.proofs.Bits.{chunk_within, chunk_there, lent_there, lent_is}
use Rattle.storage_bitmap.proofs.bitmap.prunable.Prunable.lend_chunk.Goals as goal

pub overflow_mul-start : goal.overflow_mul-start
overflow_mul-start g c =
    let within = rw (← c.self.view_is) at c.requires.within in
    let kept = rw (← c.self.view_is) at c.requires.kept in
    omega (
      arith,
      chunk_within g.row.N c.self.inside.pruned c.self.inside.kept c.args.index c.self.inside.bytes.items
          within kept,
      c.self.invariant.few,
    )

pub slice_bounds-first_chunk-count : goal.slice_bounds-first_chunk-count
slice_bounds-first_chunk-count g c =
    let within = rw (← c.self.view_is) at c.requires.within in
    let kept = rw (← c.self.view_is) at c.requires.kept in
    let at = chunk_there g.row.N c.self.inside.pruned c.self.inside.kept c.args.index c.self.inside.bytes.items
    c.self.invariant within kept in
    rw c.deref.ensures.value (omega (arith, at))

pub slice_bounds-first_chunk-start : goal.slice_bounds-first_chunk-start
slice_bounds-first_chunk-start g c =
    let within = rw (← c.self.view_is) at c.requires.within in
    let kept = rw (← c.self.view_is) at c.requires.kept in
    let at = chunk_there g.row.N c.self.inside.pruned c.self.inside.kept c.args.index c.self.inside.bytes.items
    c.self.invariant within kept in
    rw c.deref.ensures.value (omega (arith, at))

pub unwrap-requires : goal.unwrap-requires
unwrap-requires g c =
    let within = rw (← c.self.view_is) at c.requires.within in
    let kept = rw (← c.self.view_is) at c.requires.kept in
    let at = chunk_there g.row.N c.self.inside.pruned c.self.inside.kept c.args.index c.self.inside.bytes.items
    c.self.invariant within kept in
    c.first_chunk.ensures.variant.1 (rw c.deref.ensures.value
    (lent_there g.row.N ((c.args.index - c.self.inside.pruned) * g.row.N) c.self.inside.bytes.items at))

pub returns : goal.returns
returns g c =
    rw (← c.self.view_is) (lent_is g.row.N c.self.inside.pruned c.self.inside.kept
    (c.args.index - c.self.inside.pruned) c.self.inside.bytes.items c.first_chunk.result c.unwrap.result
    c.self.invariant c.unwrap.ensures (rw c.deref.ensures.value at c.first_chunk.ensures.cases))
