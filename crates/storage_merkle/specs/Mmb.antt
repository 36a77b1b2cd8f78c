-- The shape of an MMB, whose nodes come later than those of a Merkle mountain range: at most one parent with each leaf.
use Rattle.std.specs.Prelude.{ℕ, zero, suc, ◌+◌, ◌-◌, ◌*◌, ◌^◌, List, [], ◌∷◌, length}
use Rattle.storage_merkle.specs.Digits.{digit, floor_log2}
use Rattle.storage_merkle.specs.Shape.{Shape}

-- for each place below i, highest first: the place and the digit of n there, added
unfoldable pub mmb_digits : ℕ → ℕ → List ℕ
mmb_digits zero n = []
mmb_digits (suc i) n = (i + digit n i) ∷ mmb_digits i n

-- the peak heights over n leaves: for each place below the highest digit of n + 1
unfoldable pub mmb_peaks : ℕ → List ℕ
mmb_peaks n = mmb_digits (floor_log2 (n + 1)) (n + 1)

-- the number of nodes over n leaves
abbrev pub mmb_size : ℕ → ℕ
mmb_size n = 2 * n - length (mmb_peaks n)

-- the number of leaves from which on the tree has the node of height k with first leaf a: those up to its last one, and
-- one less than half as many as it covers
abbrev pub mmb_birth : ℕ → ℕ → ℕ
mmb_birth a zero = a + 1
mmb_birth a (suc k) = a + 3 * 2 ^ k - 1

-- its position: a leaf is the first node that comes with it, a parent the last one
abbrev pub mmb_position : ℕ → ℕ → ℕ
mmb_position a zero = mmb_size a
mmb_position a (suc k) = mmb_size (a + 3 * 2 ^ k - 1) - 1

-- the family of MMBs
abbrev pub mmb : Shape
mmb = record { byte = 1; peaks = mmb_peaks; position = mmb_position; birth = mmb_birth }
