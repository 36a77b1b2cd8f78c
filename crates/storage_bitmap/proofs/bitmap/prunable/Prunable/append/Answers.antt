use Rattle.std.proofs.Common.{◌≡◌, ◌≤◌, ◌<◌, ◌+◌, ◌-◌, ◌*◌, ◌++◌, ℕ, List, Bool, length, replicate, arith, refl, ap, sym, ◌∙◌}
use Rattle.storage_bitmap.proofs.Bits.{chunk_positive, chunks_within, eights, length-bits_in, more_clear, more_length, more_same, packed_append, rounded_up}
use Rattle.storage_bitmap.specs.Packed.{bits_in}
use Rattle.storage_bitmap.proofs.bitmap.prunable.Prunable.append.Goals as goal

pub overflow_sub-missing : goal.overflow_sub-missing
overflow_sub-missing g c =
    let at = rounded_up g.row.N _ c.div_ceil-chunks.result (chunk_positive g.row.N c.self.invariant.size)
    c.div_ceil-chunks.ensures in
    omega (
      arith,
      c.len.ensures,
      chunks_within g.row.N c.self.inside.pruned c.self.inside.kept (c.self.inside.kept + length c.args.bits.now)
          c.div_ceil-chunks.result c.self.inside.bytes.items c.self.invariant (omega arith) at.0,
    )

pub push_zero_bytes-requires : goal.push_zero_bytes-requires
push_zero_bytes-requires g c =
    let few = rw (← c.self.view_is) at c.requires in
    let at = rounded_up g.row.N _ c.div_ceil-chunks.result (chunk_positive g.row.N c.self.invariant.size)
    c.div_ceil-chunks.ensures in
    omega (
      arith,
      few,
      at.1,
      c.len.ensures,
      c.self.invariant.size.1,
      eights g.row.N c.div_ceil-chunks.result,
      length-bits_in c.self.inside.bytes.items c.self.inside.kept,
    )

pub fill_all-requires-clause-within : goal.fill_all-requires-clause-within
fill_all-requires-clause-within g c =
    let at = rounded_up g.row.N _ c.div_ceil-chunks.result (chunk_positive g.row.N c.self.invariant.size)
    c.div_ceil-chunks.ensures in
    rw c.in_ok-push_zero_bytes.ensures.ok (omega (
      arith,
      at.0,
      c.len.ensures,
      eights g.row.N c.div_ceil-chunks.result,
      more_length c.self.inside.bytes.items (c.div_ceil-chunks.result * g.row.N - c.len.result),
    ))

pub fill_all-requires-clause-clear : goal.fill_all-requires-clause-clear
fill_all-requires-clause-clear g c i far =
    rw c.in_ok-push_zero_bytes.ensures.ok (more_clear c.self.inside.bytes.items _ i ∙ c.self.invariant.clear i far)

pub invariant_of-self-2 : goal.invariant_of-self-2
invariant_of-self-2 g c =
    let few = rw (← c.self.view_is) at c.requires in
    let at = rounded_up g.row.N _ c.div_ceil-chunks.result (chunk_positive g.row.N c.self.invariant.size)
    c.div_ceil-chunks.ensures in
    let within = chunks_within g.row.N c.self.inside.pruned c.self.inside.kept
    (c.self.inside.kept + length c.args.bits.now) c.div_ceil-chunks.result c.self.inside.bytes.items c.self.invariant
    (omega arith) at.0 in
    packed_append g.row.N c.self.inside.pruned c.self.inside.kept c.div_ceil-chunks.result
    (c.div_ceil-chunks.result * g.row.N - c.len.result) c.self.inside.bytes.items c.push_zero_bytes.new.bytes.items
    c.fill_all.new.bytes.items c.args.bits.now c.self.invariant
    (omega (arith, few, length-bits_in c.self.inside.bytes.items c.self.inside.kept)) c.in_ok-push_zero_bytes.ensures.ok
    (omega (arith, c.len.ensures, within)) at.0 at.1 c.fill_all.ensures

pub returns-clause-ok : goal.returns-clause-ok
returns-clause-ok g c =
    let same = rw (← c.in_ok-push_zero_bytes.ensures.ok) at
    (more_same c.self.inside.bytes.items (c.div_ceil-chunks.result * g.row.N - c.len.result) c.self.inside.kept) in
    rw (← c.self.view_is, c.fill_all.ensures.are, same) refl
