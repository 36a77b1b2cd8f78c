-- Positions of peaks in a tree.
use Rattle.std.proofs.Common.{◌≡◌, ℕ, suc, ◌+◌, ◌^◌, List, [], ◌∷◌, length, refl, ap}
use Rattle.storage_merkle.specs.Shape.{Shape}
use Rattle.storage_merkle.specs.Nodes.{placed}

pub length-placed : (S : Shape) (s : ℕ) (hs : List ℕ) → length (placed S s hs) ≡ length hs
length-placed S s [] = refl
length-placed S s (h ∷ hs) = ap suc (length-placed S (s + 2 ^ h) hs)
