-- Digest calculations: a tree, and a check of a proof over it, are one calculation under two sets of values.
use Rattle.std.specs.Prelude.{◌≡◌, ℕ, List, [], ◌∷◌, ◌++◌, Bool, true, eqb, ◌&&◌, if◌then◌else◌}
use Rattle.std.specs.Int.{w64, to_be_bytes}
use Rattle.storage_codec.specs.Digests.{HashFunction}

-- where a digest that a calculation is given stands
pub data Site : Type 0 where
  -- the forward fold of the peaks before a range that are folded from the left
  front : Site
  -- the backward fold of the peaks past a range that are folded from the right
  back : Site
  -- the node of a first leaf and a height
  node : ℕ → ℕ → Site

-- how a digest is calculated
pub data Calc : Type 0 where
  -- a digest that is given
  given : Site → Calc
  -- the digest of some bytes and then the element at a location
  leaf : List ℕ → ℕ → Calc
  -- the digest of some bytes and then two digests
  pair : List ℕ → Calc → Calc → Calc
  -- that of a node, and once more with the chunk from a leaf on before it, where the chunk isn't all zero
  graft : ℕ → ℕ → Calc → Calc → Calc

-- what stands at the names of a calculation
pub record Values : Type 0 where
  pub digest : Site → List ℕ
  pub element : ℕ → List ℕ
  pub chunk : ℕ → List ℕ

-- a number in eight bytes, highest first
unfoldable pub be8 : ℕ → List ℕ
be8 n = to_be_bytes w64 n

abbrev pub is_zero : List ℕ → Bool
is_zero [] = true
is_zero (x ∷ xs) = eqb x 0 && is_zero xs

-- a node under a chunk: an all-zero chunk isn't hashed
abbrev pub grafted_digest : HashFunction → List ℕ → List ℕ → List ℕ
grafted_digest h chunk inner = if is_zero chunk then inner else h (chunk ++ inner)

abbrev pub grafted_strings : List ℕ → List ℕ → List (List ℕ)
grafted_strings chunk inner = if is_zero chunk then [] else (chunk ++ inner) ∷ []

-- the digest that is calculated
abbrev pub eval : HashFunction → Values → Calc → List ℕ
eval h v (given s) = v.digest s
eval h v (leaf prefix j) = h (prefix ++ v.element j)
eval h v (pair prefix l r) = h (prefix ++ (eval h v l ++ eval h v r))
eval h v (graft a p l r) = grafted_digest h (v.chunk a) (h (be8 p ++ (eval h v l ++ eval h v r)))

-- each string given to the digest function on the way
abbrev pub strings : HashFunction → Values → Calc → List (List ℕ)
strings h v (given s) = []
strings h v (leaf prefix j) = (prefix ++ v.element j) ∷ []
strings h v (pair prefix l r) = (prefix ++ (eval h v l ++ eval h v r)) ∷ (strings h v l ++ strings h v r)
strings h v (graft a p l r) = grafted_strings (v.chunk a) (h (be8 p ++ (eval h v l ++ eval h v r)))
    ++ ((be8 p ++ (eval h v l ++ eval h v r)) ∷ (strings h v l ++ strings h v r))

-- both sets of values have the same at each name of a calculation
abbrev pub Agree : Values → Values → Calc → Type 0
Agree v w (given s) = v.digest s ≡ w.digest s
Agree v w (leaf prefix j) = v.element j ≡ w.element j
Agree v w (pair prefix l r) = Agree v w l × Agree v w r
Agree v w (graft a p l r) = (v.chunk a ≡ w.chunk a) × (Agree v w l × Agree v w r)
