-- Walks along peaks: those that lead, each that is apart from a range, and one fold of those past it.
use Rattle.std.specs.Prelude.{◌≡◌, ℕ, zero, suc, ◌+◌, ◌%◌, ◌^◌, ◌≤◌, List, [], ◌∷◌, if◌then◌else◌, leb, Option, MatchOption}
use Rattle.storage_merkle.specs.Shape.{Shape, AreAligned, max_leaves}
use Rattle.storage_merkle.specs.Trees.{Peak}
use Rattle.storage_merkle.specs.RangeProofs.{apart}
use Rattle.storage_merkle.specs.Rests.{peaks_from}
use Rattle.storage_merkle.specs.declared.merkle.walk.Top.{Top}
use Rattle.storage_merkle.specs.declared.merkle.walk.Top.TheVariants.{One, Past}

-- a peak that a walk meets, or the peaks past the range that are folded from the right
pub data Met : Type 0 where
  one : Peak → Met
  past : List Peak → Met

-- of some peaks of which f are folded from the left: those apart from the range from low to high - 1, but at once those of the
-- others that begin past it
abbrev pub walked : ℕ → ℕ → List Peak → ℕ → List Met
walked low high [] f = []
walked low high (p ∷ ps) zero =
    if leb high p.first then past (p ∷ ps) ∷ []
    else (if apart low high p.first p.height then one p ∷ walked low high ps zero else walked low high ps zero)
walked low high (p ∷ ps) (suc f) =
    if apart low high p.first p.height then one p ∷ walked low high ps f else walked low high ps f

-- what a walk meets, by leaves
abbrev pub met : Shape → Top → Met
met S (One a k) = one (record { first = a; height = k })
met S (Past a r) = past (peaks_from S a r)

-- a peak begins at a multiple of its length, and peaks each do
pub record IsPlaced (a k : ℕ) : Type 0 where
  pub aligned : a % 2 ^ k ≡ 0
  pub small : k ≤ 62
  pub fits : a + 2 ^ k ≤ max_leaves

pub record ArePlaced (S : Shape) (a r : ℕ) : Type 0 where
  pub aligned : AreAligned (S.peaks r) a
  pub fits : a + r ≤ max_leaves

abbrev pub IsPlacedTop : Shape → Top → Type 0
IsPlacedTop S (One a k) = IsPlaced a k
IsPlacedTop S (Past a r) = ArePlaced S a r

-- a step of a walk meets the first of what is left
abbrev pub Meets : Shape → List Met → Option Top → List Met → Type 0
Meets S ms r ns = MatchOption r ((ms ≡ []) × (ns ≡ [])) (λ t. (ms ≡ met S t ∷ ns) × IsPlacedTop S t)

-- a step along the leading peaks gives the first of those that are left
abbrev pub Leads : List Peak → Option (ℕ × ℕ) → List Peak → Type 0
Leads ps r qs = MatchOption r ((ps ≡ []) × (qs ≡ []))
    (λ x. (ps ≡ (record { first = x.0; height = x.1 }) ∷ qs) × IsPlaced x.0 x.1)
