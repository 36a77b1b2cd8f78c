use Rattle.std.proofs.Common.{◌∙◌, ap, ◌/◌, ℕ}
use Rattle.std.specs.Int.{bit_at}
use Rattle.std.proofs.lemmas.List.{get_or_read}
use Rattle.storage_bitmap.proofs.Bits.{written}
use Rattle.storage_bitmap.proofs.bitmap.prunable.write.Goals as goal

pub returns : goal.returns
returns c = written c.args.bytes.now.items c.args.place c.with_bit.result c.args.bit c.requires c.with_bit.type_inv
    c.with_bit.ensures.there
    (λ i h d. c.with_bit.ensures.others i h d ∙ ap (λ (x : ℕ). bit_at x i)
    (get_or_read c.args.bytes.now.items (c.args.place / 8) c.index.result.now c.requires c.index.ensures 0))
