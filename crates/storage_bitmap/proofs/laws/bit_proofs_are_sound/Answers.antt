use Rattle.std.proofs.Common.{subst, sym}
use Rattle.storage_bitmap.specs.BitProofs.{IsBitAccepted}
use Rattle.storage_bitmap.proofs.BitSound.{bits_sound}
use Rattle.storage_bitmap.proofs.laws.bit_proofs_are_sound.Goals as goal

pub returns : goal.returns
returns c = λ d h sized b n some proof bytes bit root wide fits ok size bits few root_is.
    bits_sound c.range_proofs_are_sound.ensures d h size sized b n some proof bytes bit wide fits bits few
    (subst (λ r. IsBitAccepted h b n proof bytes bit r) (sym root_is) ok)
