-- Lists of byte strings, handed over as one string and the length of each.
use Rattle.std.specs.Prelude.{ℕ, List, [], ◌∷◌, take, drop}

-- the strings that a string is cut into, of these lengths
abbrev pub cut : List ℕ → List ℕ → List (List ℕ)
cut [] bytes = []
cut (n ∷ lengths) bytes = take n bytes ∷ cut lengths (drop n bytes)
