use Rattle.std.proofs.Common.{◌∙◌, ap, ◌%◌, ◌*◌, List, ℕ}
use Rattle.storage_bitmap.specs.Packed.{bit_in}
use Rattle.storage_bitmap.proofs.Bits.{bit_in-chunk, chunk_positive}
use Rattle.storage_bitmap.proofs.bitmap.authenticated.BitMap.get_bit_from_chunk.Goals as goal

pub returns-clause-meaning : goal.returns-clause-meaning
returns-clause-meaning g c bits e =
    c.is_set.ensures ∙ (ap (λ (x : List ℕ). bit_in x (c.args.bit % (8 * g.row.N))) e
    ∙ bit_in-chunk g.row.N c.args.bit bits (chunk_positive g.row.N c.requires))
