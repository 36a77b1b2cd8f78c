-- Chunks over nodes of one height.
use Rattle.std.specs.Prelude.{◌≡◌, true, false, ◌⊎◌, ℕ, ◌-◌, ◌/◌, ◌%◌, ◌^◌, List, [], Bool, ◌&&◌, eqb, ltb, get_or, if◌then◌else◌}

-- the nodes of a height over the first r chunks of 2 ^ height leaves
abbrev pub grafted_over : ℕ → ℕ → ℕ → ℕ → Bool
grafted_over height r a k = eqb k height && (eqb (a % 2 ^ height) 0 && ltb (a / 2 ^ height) r)

-- chunk j of those that are supplied from a chunk on; nothing for another one
abbrev pub supplied : ℕ → List (List ℕ) → ℕ → List ℕ
supplied start chunks j = if ltb j start then [] else get_or chunks (j - start) []

-- no chunk is supplied for the node, or it is grafted with none
abbrev pub IsUngrafted : ℕ → ℕ → List (List ℕ) → ℕ → ℕ → ℕ → Type 0
IsUngrafted height start chunks r a k =
    (grafted_over height r a k ≡ false) ⊎ (supplied start chunks (a / 2 ^ height) ≡ [])

-- the node is grafted with this chunk
abbrev pub IsGraftedWith : ℕ → ℕ → List (List ℕ) → ℕ → ℕ → ℕ → List ℕ → Type 0
IsGraftedWith height start chunks r a k chunk =
    (grafted_over height r a k ≡ true) × (supplied start chunks (a / 2 ^ height) ≡ chunk)
