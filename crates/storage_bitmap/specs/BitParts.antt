-- The steps of a check of a bit.
use Rattle.std.specs.Prelude.{◌≡◌, ◌≢◌, ℕ, ◌*◌, ◌/◌, List, [], ◌∷◌, length, true, false, Option, Some, None}
use Rattle.storage_codec.specs.Digests.{HashFunction}
use Rattle.storage_merkle.specs.Mmr.{mmr}
use Rattle.storage_merkle.specs.Trees.{ungrafted, listed}
use Rattle.storage_merkle.specs.RangeProofs.{Proof, CountsFit}
use Rattle.storage_merkle.specs.declared.merkle.bagging.Bagging.{Bagging}
use Rattle.storage_bitmap.specs.BitRoots.{is_aligned}
use Rattle.storage_bitmap.specs.BitProofs.{in_partial, chunk_proof, computed_bit_root}

-- the counts of a proof of a bit fit together
pub record BitCountsFit (h : HashFunction) (b : Bagging) (n : ℕ) (proof : Proof) (bytes : List ℕ)
    (bit : ℕ) : Type 0 where
  pub some : is_aligned n proof.leaves ≡ false → proof.digests ≢ []
  pub one : in_partial h b n proof bytes bit ≡ true → length proof.digests ≡ 1
  pub counts : in_partial h b n proof bytes bit ≡ false
      → CountsFit h (ungrafted mmr) b (chunk_proof h b n proof bytes bit) (bit / (8 * n)) (listed (bytes ∷ []))

-- the root that a check of a bit computes where the counts fit, and none where they don't
abbrev pub IsBitComputed : HashFunction → Bagging → ℕ → Proof → List ℕ → ℕ → Option (List ℕ) → Type 0
IsBitComputed h b n proof bytes bit None = BitCountsFit h b n proof bytes bit → ⊥
IsBitComputed h b n proof bytes bit (Some root) =
    BitCountsFit h b n proof bytes bit × (root ≡ computed_bit_root h b n proof bytes bit)
