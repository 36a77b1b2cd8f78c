-- Examples of the order of a range proof's digests.
use Rattle.std.proofs.Common.{◌≡◌, [], ◌∷◌, refl}
use Rattle.storage_merkle.specs.declared.merkle.bagging.Bagging.TheVariants.{ForwardFold, BackwardFold}
use Rattle.storage_merkle.specs.Calc.{front, back, node}
use Rattle.storage_merkle.specs.Digits.{floor_log2, highest_from}
use Rattle.storage_merkle.specs.Mmr.{mmr, mmr_peaks, mmr_digits}
use Rattle.storage_merkle.specs.Mmb.{mmb, mmb_peaks, mmb_digits}
use Rattle.storage_merkle.specs.Trees.{ungrafted}
use Rattle.storage_merkle.specs.RangeProofs.{sites}

-- one leaf of 49, in each family
one_of_mmr : sites (ungrafted mmr) 33 34 BackwardFold 49 0
    ≡ node 0 5 ∷ back ∷ node 32 0 ∷ node 34 1 ∷ node 36 2 ∷ node 40 3 ∷ []
unfolding mmr_peaks mmr_digits
one_of_mmr = refl

one_of_mmb : sites (ungrafted mmb) 33 34 BackwardFold 49 0 ≡ node 0 5 ∷ back ∷ node 32 0 ∷ node 34 1 ∷ node 36 2 ∷ []
unfolding mmb_peaks mmb_digits floor_log2 highest_from
one_of_mmb = refl

-- siblings stand by position, and not by their leaves
siblings_by_position : sites (ungrafted mmb) 9 10 BackwardFold 23 0
    ≡ back ∷ node 8 0 ∷ node 0 3 ∷ node 10 1 ∷ node 12 2 ∷ []
unfolding mmb_peaks mmb_digits floor_log2 highest_from
siblings_by_position = refl

-- inactive peaks before the range are one fold, and those past it stand apart
inactive_before : sites (ungrafted mmb) 41 42 BackwardFold 49 4 ≡ front ∷ node 44 2 ∷ back ∷ node 40 0 ∷ node 42 1 ∷ []
unfolding mmb_peaks mmb_digits floor_log2 highest_from
inactive_before = refl

-- folding forwards, all peaks before the range are one fold, and each one past it stands apart
forward : sites (ungrafted mmb) 41 42 ForwardFold 49 0 ≡ front ∷ node 44 2 ∷ node 48 0 ∷ node 40 0 ∷ node 42 1 ∷ []
unfolding mmb_peaks mmb_digits floor_log2 highest_from
forward = refl
