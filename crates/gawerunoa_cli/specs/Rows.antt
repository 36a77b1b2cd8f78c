-- The operations on the lines of a text.
use Rattle.std.specs.Prelude.{◌≡◌, ℕ, Bool, List, [], ◌∷◌, Option, Some, IfSome}
use Rattle.std.specs.Io.BufRead.{drop_through, first_piece}
use Rattle.storage_codec.specs.Digests.{HashFunction}
use Rattle.storage_merkle.specs.Shape.{Shape}
use Rattle.storage_current.specs.NodeLists.{IsTreeOver, KeptTree}
use Rattle.stateproof_cli.specs.Words.{IsOperationLine}

-- These are the operations on the lines of a text, and their bits. A line ends at its LF, which is 10, and what follows the last LF is
-- a line if it is not empty.
abbrev pub AreRows : List ℕ → List (List ℕ) → List Bool → Type 0
AreRows text [] [] = text ≡ []
AreRows text (operation ∷ operations) (active ∷ bits) =
    IsOperationLine (first_piece 10 text) active operation × AreRows (drop_through 10 text) operations bits
AreRows text _ _ = ⊥

-- a tree is over the operations on the lines of a text, and these are their bits
pub record IsReadFrom (h : HashFunction) (S : Shape) (text : List ℕ) (tree : KeptTree) (bits : List Bool) : Type 0 where
  pub operations : List (List ℕ)
  pub over : IsTreeOver h S tree operations
  pub rows : AreRows text operations bits

-- the first line of what is left was taken, its LF left out, where what is left is known
abbrev pub IsTaken : List ℕ → Option (List ℕ) → Option (List ℕ) → Type 0
IsTaken line left new = IfSome left (λ rest. (line ≡ first_piece 10 rest) × (new ≡ Some (drop_through 10 rest)))
