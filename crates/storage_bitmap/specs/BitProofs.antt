-- Proofs of a bit: where the check says yes, and the proof that a list of bits itself has.
use Rattle.std.specs.Prelude.{◌≡◌, ◌≢◌, ℕ, ◌+◌, ◌-◌, ◌*◌, ◌/◌, ◌<◌, ◌≤◌, ◌^◌, ◌⊎◌, eqb, List, [], ◌∷◌, ◌++◌, length, take, get_or, Bool, true, false, if◌then◌else◌}
use Rattle.storage_codec.specs.Digests.{HashFunction, IsSized, Cross}
use Rattle.storage_merkle.specs.Mmr.{mmr}
use Rattle.storage_merkle.specs.Trees.{ungrafted, listed}
use Rattle.storage_merkle.specs.RangeProofs.{Proof, CountsFit, recomputed_root, check_strings, own_proof, AreDigests}
use Rattle.storage_merkle.specs.declared.merkle.bagging.Bagging.{Bagging}
use Rattle.storage_merkle.specs.Shape.{max_leaves}
use Rattle.storage_bitmap.specs.Chunks.{chunk, complete_chunks}
use Rattle.storage_bitmap.specs.BitRoots.{partial_string, is_aligned, chunks_root, partial_chunk, bit_root, bit_strings}

-- the leaves of a proof of a bit are the number of bits, and chunks have n bytes
module _ (h : HashFunction) (b : Bagging) (n : ℕ) (proof : Proof) (bytes : List ℕ) (bit : ℕ) where
  -- the bit stands past the complete chunks
  abbrev pub in_partial : Bool
  in_partial = eqb (bit / (8 * n)) (proof.leaves / (8 * n))

  -- the root of the tree where the bit stands past the complete chunks, else the partial chunk's digest
  abbrev pub last_digest : List ℕ
  last_digest = get_or proof.digests (length proof.digests - 1) []

  -- the proof of the chunk in the tree over the complete chunks
  abbrev pub chunk_proof : Proof
  chunk_proof = record {
    leaves = proof.leaves / (8 * n);
    inactive = 0;
    digests = if is_aligned n proof.leaves then proof.digests else take (length proof.digests - 1) proof.digests;
  }

  -- the root of that tree that the check recomputes, and each string hashed for it
  abbrev pub recomputed_chunks_root : List ℕ
  recomputed_chunks_root = recomputed_root h (ungrafted mmr) b chunk_proof (bit / (8 * n)) (listed (bytes ∷ []))

  abbrev pub chunk_strings : List (List ℕ)
  chunk_strings = check_strings h (ungrafted mmr) b chunk_proof (bit / (8 * n)) (listed (bytes ∷ []))

  -- the string of the root that the check computes where the bits do not fill their chunks
  abbrev pub computed_string : List ℕ
  computed_string = if in_partial then partial_string last_digest proof.leaves (h bytes)
      else partial_string recomputed_chunks_root proof.leaves last_digest

  -- the root that the check computes
  abbrev pub computed_bit_root : List ℕ
  computed_bit_root = if is_aligned n proof.leaves then recomputed_chunks_root else h computed_string

  -- each string given to the digest function by the check
  abbrev pub bit_check_strings : List (List ℕ)
  bit_check_strings = if is_aligned n proof.leaves then chunk_strings
      else computed_string ∷ (if in_partial then bytes ∷ [] else chunk_strings)

  -- where the check says yes
  pub record IsBitAccepted (root : List ℕ) : Type 0 where
    pub below : bit < proof.leaves
    pub no_inactive : proof.inactive ≡ 0
    pub some : is_aligned n proof.leaves ≡ false → proof.digests ≢ []
    pub one : in_partial ≡ true → length proof.digests ≡ 1
    pub counts : in_partial ≡ false → CountsFit h (ungrafted mmr) b chunk_proof (bit / (8 * n)) (listed (bytes ∷ []))
    pub root_is : computed_bit_root ≡ root

-- the digests that a list of bits itself has for the bits of a chunk
abbrev pub own_bit_digests : HashFunction → Bagging → ℕ → List Bool → ℕ → List (List ℕ)
own_bit_digests h b n bits place =
    let inner = (own_proof h (ungrafted mmr) b (listed (complete_chunks n bits)) 0 place (place + 1)).digests in
    if eqb place (length bits / (8 * n)) then chunks_root h b n bits ∷ []
    else (if is_aligned n (length bits) then inner else inner ++ h (partial_chunk n bits) ∷ [])

-- the proof that a list of bits itself has of a bit
abbrev pub own_bit_proof : HashFunction → Bagging → ℕ → List Bool → ℕ → Proof
own_bit_proof h b n bits bit = record {
  leaves = length bits;
  inactive = 0;
  digests = own_bit_digests h b n bits (bit / (8 * n));
}

-- the proof is the list's own, field for field, of a bit that it has, and the chunk is the list's
pub record IsOwnBit (h : HashFunction) (b : Bagging) (n : ℕ) (proof : Proof) (bytes : List ℕ) (bit : ℕ)
    (bits : List Bool) : Type 0 where
  pub proof_is : proof ≡ own_bit_proof h b n bits bit
  pub within : bit < length bits
  pub chunk_is : bytes ≡ chunk n bits (bit / (8 * n))

-- Of each list of bits with that root, the proof is the list's own and the chunk is the list's, or a string of the
-- check and a different one of the list have one digest. Digests have d bytes.
abbrev pub IsBitProved : ℕ → HashFunction → Bagging → ℕ → Proof → List ℕ → ℕ → List ℕ → Type 0
IsBitProved d h b n proof bytes bit root =
    (d ≡ 32) ⊎ (d ≡ 64) → (bits : List Bool) → length bits ≤ max_leaves → bit_root h b n bits ≡ root →
    IsOwnBit h b n proof bytes bit bits ⊎ Cross h (bit_check_strings h b n proof bytes bit) (bit_strings h b n bits)

-- An accepted bit proof is that of each list of bits with the root, or two strings have one digest.
abbrev pub BitProofsAreSound : Type 0
BitProofsAreSound =
    (d : ℕ) (h : HashFunction) → IsSized d h → (b : Bagging) (n : ℕ) → 0 < n →
    (proof : Proof) (bytes : List ℕ) (bit : ℕ) (root : List ℕ) → AreDigests d proof.digests
    → proof.leaves < 2 ^ 64 →
    IsBitAccepted h b n proof bytes bit root → IsBitProved d h b n proof bytes bit root

-- The own proof of a bit is accepted against the root of the bits.
abbrev pub OwnBitProofsAreAccepted : Type 0
OwnBitProofsAreAccepted =
    (h : HashFunction) (b : Bagging) (n : ℕ) → 0 < n
    → (proof : Proof) (bytes : List ℕ) (bit : ℕ) (bits : List Bool) → length bits ≤ max_leaves →
    IsOwnBit h b n proof bytes bit bits → IsBitAccepted h b n proof bytes bit (bit_root h b n bits)
