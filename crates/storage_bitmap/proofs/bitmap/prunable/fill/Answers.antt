use Rattle.std.proofs.Common.{ℕ, ◌*◌, ◌/◌, ◌%◌, ◌^◌, ◌<◌, true, ap, ◌∙◌, arith, bit_or, w8, get_or-set_same, length-set}
use Rattle.std.specs.Int.{bit_at}
use Rattle.std.proofs.lemmas.List.{get_or_read}
use Rattle.std.proofs.lemmas.Nat.Bits.{bit_at_set_same, bit_at_set_other}
use Rattle.storage_bitmap.proofs.Bits.{written}
use Rattle.storage_bitmap.proofs.bitmap.prunable.fill.Goals as goal

pub returns-then-bit : goal.returns-then-bit
returns-then-bit c =
    let bytes = c.args.bytes.now.items in
    let place = c.args.place in
    let byte = c.index_mut.result.now in
    let inner : place % 8 < 8 = omega arith in
    let set = bit_or byte (1 * 2 ^ (place % 8) % 256) in
    let small : set < 256 = rw (get_or-set_same bytes (place / 8) set 0 c.requires.within) at
    (c.type_inv.bytes (place / 8) 0 (rw length-set c.requires.within)) in
    rw c.if-bit.true (
    written bytes place set true c.requires.within small (bit_at_set_same w8 byte (place % 8) inner)
    (λ i h d. bit_at_set_other w8 byte (place % 8) inner i d
    ∙ ap (λ (x : ℕ). bit_at x i) (get_or_read bytes (place / 8) byte c.requires.within c.index_mut.ensures.value 0))
    )
