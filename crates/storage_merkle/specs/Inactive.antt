-- The leading peaks below a floor.
use Rattle.std.specs.Prelude.{◌≡◌, ℕ, ◌%◌, ◌^◌, ◌≤◌, length, take, ◌+◌, ◌<◌, List, drop}
use Rattle.storage_merkle.specs.Shape.{Shape, leaves_under}

-- the most leading peaks over n leaves that end at or before the floor are r
pub record IsExact (S : Shape) (n floor r : ℕ) : Type 0 where
  pub within : r ≤ length (S.peaks n)
  pub ends : leaves_under (take r (S.peaks n)) ≤ floor
  pub most : (k : ℕ) → k ≤ length (S.peaks n) → leaves_under (take k (S.peaks n)) ≤ floor → k ≤ r

-- the most that moreover end on a multiple of 2 ^ g
pub record IsAligned (S : Shape) (n floor g r : ℕ) : Type 0 where
  pub within : r ≤ length (S.peaks n)
  pub ends : leaves_under (take r (S.peaks n)) ≤ floor
  pub whole : leaves_under (take r (S.peaks n)) % 2 ^ g ≡ 0
  pub most : (k : ℕ) → k ≤ length (S.peaks n) → leaves_under (take k (S.peaks n)) ≤ floor
      → leaves_under (take k (S.peaks n)) % 2 ^ g ≡ 0 → k ≤ r

-- after c of some heights comes h, and then the heights ys
pub record OneMore (xs : List ℕ) (c h : ℕ) (ys : List ℕ) : Type 0 where
  pub sum : leaves_under (take (c + 1) xs) ≡ leaves_under (take c xs) + 2 ^ h
  pub rest : drop (c + 1) xs ≡ ys
  pub within : c < length xs

-- after c of the peaks over n leaves `left` leaves are left
pub record Reached (S : Shape) (n left c : ℕ) : Type 0 where
  pub within : c ≤ length (S.peaks n)
  pub sum : leaves_under (take c (S.peaks n)) + left ≡ n
  pub rest : drop c (S.peaks n) ≡ S.peaks left

-- of the first c peaks' ends the last multiple of 2 ^ g is that of the first b
pub record Best (S : Shape) (n g c b : ℕ) : Type 0 where
  pub within : b ≤ c
  pub whole : leaves_under (take b (S.peaks n)) % 2 ^ g ≡ 0
  pub most : (k : ℕ) → k ≤ c → leaves_under (take k (S.peaks n)) % 2 ^ g ≡ 0 → k ≤ b
