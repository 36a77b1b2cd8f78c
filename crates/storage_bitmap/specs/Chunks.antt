-- The chunks of a list of bits.
use Rattle.std.specs.Prelude.{◌≡◌, ℕ, zero, suc, ◌+◌, ◌-◌, ◌*◌, ◌/◌, ◌%◌, eqb, ◌&&◌, ◌||◌, ◌≤◌, ◌^◌, List, [], ◌∷◌, length, drop, Bool, true, false, IsTrue}

-- a number that comes to 1 when it is halved at most so many times
abbrev pub halves : ℕ → ℕ → Bool
halves zero n = false
halves (suc times) n = eqb n 1 || (eqb (n % 2) 0 && halves times (n / 2))

-- a number of bytes that chunks may have: a power of two up to 2^59
abbrev pub IsChunkSize : ℕ → Type 0
IsChunkSize n = IsTrue (halves n n) × (n ≤ 2 ^ 59)

abbrev pub digit_of : Bool → ℕ
digit_of true = 1
digit_of false = 0

-- the number of the first k bits, low to high, where missing bits are 0
unfoldable pub number_of : ℕ → List Bool → ℕ
number_of zero bs = 0
number_of (suc k) [] = 0
number_of (suc k) (b ∷ bs) = digit_of b + 2 * number_of k bs

-- the first bits as n bytes
unfoldable pub packed_bytes : ℕ → List Bool → List ℕ
packed_bytes zero bs = []
packed_bytes (suc n) bs = number_of 8 bs ∷ packed_bytes n (drop 8 bs)

-- chunk j, of n bytes: bit b stands in chunk b / 8n, byte (b mod 8n) / 8, at the place b mod 8, and what is past the
-- bits is 0
unfoldable pub chunk : ℕ → List Bool → ℕ → List ℕ
chunk n bits j = packed_bytes n (drop (j * (8 * n)) bits)

-- the first c chunks from chunk j on
unfoldable pub chunks_from : ℕ → List Bool → ℕ → ℕ → List (List ℕ)
chunks_from n bits zero j = []
chunks_from n bits (suc c) j = chunk n bits j ∷ chunks_from n bits c (suc j)

-- the complete chunks
abbrev pub complete_chunks : ℕ → List Bool → List (List ℕ)
complete_chunks n bits = chunks_from n bits (length bits / (8 * n)) 0

-- what is left of a list of bits once whole chunks in front are pruned
pub record Retained : Type 0 where
  -- how many chunks are pruned
  pub pruned : ℕ
  -- the bits after them
  pub bits : List Bool

-- how many bits there are, the pruned ones among them
abbrev pub bit_count : ℕ → Retained → ℕ
bit_count n r = r.pruned * (8 * n) + length r.bits

-- what is left once so many chunks in front are pruned, or as many as are already
abbrev pub pruned_to : ℕ → Retained → ℕ → Retained
pruned_to n r chunks = record {
  pruned = r.pruned + (chunks - r.pruned);
  bits = drop ((chunks - r.pruned) * (8 * n)) r.bits;
}

-- what is left of these bits
pub record IsRest (n : ℕ) (r : Retained) (bits : List Bool) : Type 0 where
  pub within : r.pruned * (8 * n) ≤ length bits
  pub rest : r.bits ≡ drop (r.pruned * (8 * n)) bits
