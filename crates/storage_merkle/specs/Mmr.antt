-- The shape of a Merkle mountain range (Peter Todd).
use Rattle.std.specs.Prelude.{ℕ, zero, suc, ◌+◌, ◌-◌, ◌*◌, ◌^◌, List, [], ◌++◌, length, replicate}
use Rattle.storage_merkle.specs.Digits.{digit}
use Rattle.storage_merkle.specs.Shape.{Shape}

-- the places of the 1 digits of n below place i, highest first
unfoldable pub mmr_digits : ℕ → ℕ → List ℕ
mmr_digits zero n = []
mmr_digits (suc i) n = replicate (digit n i) i ++ mmr_digits i n

-- the peak heights over n leaves: the places of the 1 digits of n in binary, of which there are at most n
unfoldable pub mmr_peaks : ℕ → List ℕ
mmr_peaks n = mmr_digits n n

-- the number of nodes over n leaves
abbrev pub mmr_size : ℕ → ℕ
mmr_size n = 2 * n - length (mmr_peaks n)

-- the position of the node of height k with first leaf a
abbrev pub mmr_position : ℕ → ℕ → ℕ
mmr_position a k = mmr_size a + 2 ^ suc k - 2

-- the number of leaves from which on the tree has it: it comes with the last of its leaves
abbrev pub mmr_birth : ℕ → ℕ → ℕ
mmr_birth a k = a + 2 ^ k

-- the family of Merkle mountain ranges
abbrev pub mmr : Shape
mmr = record { byte = 0; peaks = mmr_peaks; position = mmr_position; birth = mmr_birth }
