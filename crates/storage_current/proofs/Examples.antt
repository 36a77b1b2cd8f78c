-- Examples of chunks, of what is graftable, and of the string of a canonical root.
use Rattle.std.proofs.Common.{◌≡◌, ℕ, List, [], ◌∷◌, length, true, false, Some, None, refl}
use Rattle.std.specs.Prelude.{replicate}
use Rattle.storage_merkle.specs.Calc.{be8}
use Rattle.storage_merkle.specs.Mmr.{mmr}
use Rattle.storage_merkle.specs.Mmb.{mmb}
use Rattle.storage_bitmap.specs.Chunks.{chunk, packed_bytes, number_of}
use Rattle.storage_current.specs.Snapshots.{graftable_at, counted_slot, canonical_string}

-- bit b stands in byte b / 8, under the mask 1 << (b mod 8); what is past the bits is 0
nine_bits : chunk 2 (true ∷ false ∷ false ∷ true ∷ false ∷ false ∷ false ∷ false ∷ true ∷ []) 0 ≡ 9 ∷ 1 ∷ []
unfolding chunk packed_bytes number_of
nine_bits = refl

-- chunks of 8 operations: the second one of an MMB is graftable from 19 operations on, of an MMR from 16
graftable_mmb : graftable_at mmb 3 10 ∷ graftable_at mmb 3 11 ∷ graftable_at mmb 3 18 ∷ graftable_at mmb 3 19 ∷ []
    ≡ 0 ∷ 1 ∷ 1 ∷ 2 ∷ []
graftable_mmb = refl

graftable_mmr : graftable_at mmr 3 7 ∷ graftable_at mmr 3 8 ∷ graftable_at mmr 3 15 ∷ graftable_at mmr 3 16 ∷ []
    ≡ 0 ∷ 1 ∷ 1 ∷ 2 ∷ []
graftable_mmr = refl

-- the number of bits in the partial chunk, highest byte first
next_bit : counted_slot 3 (Some (200 ∷ [])) ≡ 0 ∷ 0 ∷ 0 ∷ 0 ∷ 0 ∷ 0 ∷ 0 ∷ 3 ∷ 200 ∷ []
unfolding be8
next_bit = refl

-- the lengths of the string of a canonical root, for digests of 32 bytes
digest : List ℕ
digest = replicate 32 7

lengths : length (canonical_string digest digest None 0 None) ∷ length
    (canonical_string digest digest (Some digest) 0 None) ∷ length (canonical_string digest digest None 3 (Some digest))
    ∷ length (canonical_string digest digest (Some digest) 3 (Some digest)) ∷ [] ≡ 64 ∷ 96 ∷ 104 ∷ 136 ∷ []
unfolding digest be8
lengths = refl
