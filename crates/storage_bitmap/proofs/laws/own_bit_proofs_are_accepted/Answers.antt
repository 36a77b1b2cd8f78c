use Rattle.std.proofs.Common.{◌*◌, ◌/◌, subst, sym}
use Rattle.storage_bitmap.specs.Chunks.{chunk}
use Rattle.storage_bitmap.specs.BitRoots.{bit_root}
use Rattle.storage_bitmap.specs.BitProofs.{IsBitAccepted}
use Rattle.storage_bitmap.proofs.BitOwn.{own_bit_accepted}
use Rattle.storage_bitmap.proofs.laws.own_bit_proofs_are_accepted.Goals as goal

pub returns : goal.returns
returns c = λ h b n some proof bytes bit bits few own.
    subst (λ x. IsBitAccepted h b n proof x bit (bit_root h b n bits)) (sym own.chunk_is)
    (subst (λ p. IsBitAccepted h b n p (chunk n bits (bit / (8 * n))) bit (bit_root h b n bits)) (sym own.proof_is)
    (own_bit_accepted c.own_range_proofs_are_accepted.ensures h b n some bit bits few own.within))
