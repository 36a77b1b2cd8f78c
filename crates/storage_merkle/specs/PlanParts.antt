-- What the parts of a plan answer: the digests that stand at positions, and those of the peaks and folds apart from a range.
use Rattle.std.specs.Prelude.{◌≡◌, ℕ, ◌⊎◌, List, [], ◌∷◌, length, map, true, Option, Some, None}
use Rattle.std.specs.List.Sorted.{IsNonDecreasing}
use Rattle.storage_codec.specs.Digests.{HashFunction}
use Rattle.storage_merkle.specs.Shape.{Shape}
use Rattle.storage_merkle.specs.Nodes.{IsNode}
use Rattle.storage_merkle.specs.Calc.{Site, front, back, node}
use Rattle.storage_merkle.specs.Trees.{Peak}
use Rattle.storage_merkle.specs.RangeProofs.{apart, leading, trailing}
use Rattle.storage_merkle.specs.Hashers.{forward_of, folded_onto}
use Rattle.storage_merkle.specs.Rests.{EachPeak}
use Rattle.storage_merkle.specs.Walked.{Met, one, past}

-- the position p is one of these
abbrev pub IsAmong : List ℕ → ℕ → Type 0
IsAmong [] p = ⊥
IsAmong (q ∷ qs) p = (p ≡ q) ⊎ IsAmong qs p

abbrev pub AreAmong : List ℕ → List ℕ → Type 0
AreAmong qs [] = Unit {0}
AreAmong qs (p ∷ ps) = IsAmong qs p × AreAmong qs ps

-- positions in ascending order, and a digest for each
pub record AreInOrder {D : Type 0} (positions : List ℕ) (digests : List D) : Type 0 where
  pub rising : IsNonDecreasing positions
  pub all : length digests ≡ length positions

-- the positions of these peaks are among the planned ones, where they are apart from the range; and those of all of them
abbrev pub ArePlannedApart : Shape → ℕ → ℕ → List ℕ → List Peak → Type 0
ArePlannedApart S low high positions ps =
    EachPeak (λ a k. apart low high a k ≡ true → IsAmong positions (S.position a k)) ps

abbrev pub ArePlannedAll : Shape → List ℕ → List Peak → Type 0
ArePlannedAll S positions ps = EachPeak (λ a k. IsAmong positions (S.position a k)) ps

-- the position of a peak that a walk meets, or of each of the peaks past the range
abbrev pub IsPlannedMet : Shape → List ℕ → Met → Type 0
IsPlannedMet S positions (one p) = IsAmong positions (S.position p.first p.height)
IsPlannedMet S positions (past ps) = ArePlannedAll S positions ps

-- the digest d stands at the position p
abbrev pub StandsAt : {D : Type 0} → List ℕ → List D → ℕ → D → Type 0
StandsAt [] ds p d = ⊥
StandsAt (q ∷ qs) [] p d = ⊥
StandsAt (q ∷ qs) (e ∷ ds) p d = ((p ≡ q) × (d ≡ e)) ⊎ StandsAt qs ds p d

-- the digests at the positions are those that `digest_of` gives nodes, by first leaf and height
abbrev pub AreOf : {D : Type 0} → (D → List ℕ) → Shape → List ℕ → List D → (ℕ → ℕ → List ℕ) → Type 0
AreOf {D} bytes_of S positions digests digest_of =
    (p a k : ℕ) (d : D) → StandsAt positions digests p d → IsNode S p a k → bytes_of d ≡ digest_of a k

-- a digest, or another one where there is none
abbrev pub digest_or : List ℕ → Option (List ℕ) → List ℕ
digest_or none None = none
digest_or none (Some x) = x

-- the digests of peaks
abbrev pub peaks_by : (ℕ → ℕ → List ℕ) → List Peak → List (List ℕ)
peaks_by digest_of ps = map (λ p. digest_of p.first p.height) ps

-- the digest of what a walk meets
abbrev pub met_digest : HashFunction → (ℕ → ℕ → List ℕ) → Met → Option (List ℕ)
met_digest h digest_of (one p) = Some (digest_of p.first p.height)
met_digest h digest_of (past ps) = folded_onto h (peaks_by digest_of ps) None

module _ (low high : ℕ) (xs ys : List Peak) where
  -- the digest at each site of a range, where the peaks xs are folded from the left and the peaks ys from the right
  abbrev pub site_digest : HashFunction → (ℕ → ℕ → List ℕ) → Site → List ℕ
  site_digest h digest_of front = digest_or (h []) (forward_of h (peaks_by digest_of (leading low xs)))
  site_digest h digest_of back = digest_or (h []) (folded_onto h (peaks_by digest_of (trailing high ys)) None)
  site_digest h digest_of (node a k) = digest_of a k
