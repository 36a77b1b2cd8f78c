-- The root of a list of bits: that of a Merkle mountain range over the complete chunks, and what is past them.
use Rattle.std.specs.Prelude.{ℕ, ◌*◌, ◌/◌, ◌%◌, eqb, List, ◌∷◌, ◌++◌, length, Bool, if◌then◌else◌}
use Rattle.storage_codec.specs.Digests.{HashFunction}
use Rattle.storage_merkle.specs.Calc.{be8}
use Rattle.storage_merkle.specs.Mmr.{mmr}
use Rattle.storage_merkle.specs.Trees.{ungrafted, listed, tree_root, tree_strings}
use Rattle.storage_merkle.specs.declared.merkle.bagging.Bagging.{Bagging}
use Rattle.storage_bitmap.specs.Chunks.{chunk, complete_chunks}

-- the string of a root where the last chunk is partial: the root of the tree, the number of bits, the partial chunk's
-- digest
abbrev pub partial_string : List ℕ → ℕ → List ℕ → List ℕ
partial_string root len last = root ++ (be8 len ++ last)

-- the bits fill their chunks of n bytes
abbrev pub is_aligned : ℕ → ℕ → Bool
is_aligned n len = eqb (len % (8 * n)) 0

-- the chunk of n bytes after the complete ones, filled up with zeros
abbrev pub partial_chunk : ℕ → List Bool → List ℕ
partial_chunk n bits = chunk n bits (length bits / (8 * n))

-- chunks of n bytes
module _ (h : HashFunction) (b : Bagging) (n : ℕ) (bits : List Bool) where
  -- the root of the tree over the complete chunks
  abbrev pub chunks_root : List ℕ
  chunks_root = tree_root h (ungrafted mmr) b (listed (complete_chunks n bits)) 0

  -- the string of the root of these bits where they do not fill their chunks
  abbrev pub unaligned_string : List ℕ
  unaligned_string = partial_string chunks_root (length bits) (h (partial_chunk n bits))

  abbrev pub bit_root : List ℕ
  bit_root = if is_aligned n (length bits) then chunks_root else h unaligned_string

  -- each string given to the digest function there
  abbrev pub bit_strings : List (List ℕ)
  bit_strings =
      if is_aligned n (length bits) then tree_strings h (ungrafted mmr) b (listed (complete_chunks n bits)) 0
      else unaligned_string ∷ (partial_chunk n bits ∷ tree_strings h (ungrafted mmr) b (listed (complete_chunks n bits)) 0)
