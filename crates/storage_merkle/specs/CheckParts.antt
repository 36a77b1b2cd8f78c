-- The steps of a check of a range proof.
use Rattle.std.specs.Prelude.{◌≡◌, ℕ, zero, suc, ◌+◌, ◌-◌, ◌%◌, ◌<◌, ◌≤◌, ◌^◌, List, [], ◌∷◌, ◌++◌, length, get_or, Contains, Bool, false, if◌then◌else◌, leb, Option, Some, None, option_map}
use Rattle.std.specs.List.Sorted.{IsNonDecreasing}
use Rattle.storage_codec.specs.Digests.{HashFunction}
use Rattle.storage_merkle.specs.Shape.{Shape, max_leaves}
use Rattle.storage_merkle.specs.Calc.{Site, front, back, node, Values}
use Rattle.storage_merkle.specs.Trees.{Layout, Peak, part, ungrafted}
use Rattle.storage_merkle.specs.Extracted.{digest_at, entries}
use Rattle.storage_merkle.specs.RangeProofs.{apart, sites_of, position_of}
use Rattle.storage_merkle.specs.Hashers.{appended, prepended}

-- the fold in front of the leaf a, where there is one
abbrev pub front_before : ℕ → List Site
front_before zero = []
front_before (suc a) = front ∷ []

-- of some peaks of which f are folded from the left: those apart from the range, but one fold for those of the others that begin
-- past it
abbrev pub top_sites : ℕ → ℕ → List Peak → ℕ → List Site
top_sites low high [] f = []
top_sites low high (p ∷ ps) zero =
    if leb high p.first then back ∷ []
    else (if apart low high p.first p.height then node p.first p.height ∷ top_sites low high ps zero
    else top_sites low high ps zero)
top_sites low high (p ∷ ps) (suc f) =
    if apart low high p.first p.height then node p.first p.height ∷ top_sites low high ps f else top_sites low high ps f

-- what stands at the names of a calculation: digests, the elements from the leaf low on, and chunks
abbrev pub given_values : (Site → List ℕ) → ℕ → List (List ℕ) → (ℕ → List ℕ) → Values
given_values digest low elements chunk = record {
  digest = digest;
  element = λ j. get_or elements (j - low) [];
  chunk = chunk;
}

-- a range from low to high - 1 of as many elements, in a tree over n leaves, and positions that ascend with a digest for each
pub record IsGiven (n low high : ℕ) {E D : Type 0} (elements : List E) (positions : List ℕ)
    (digests : List D) : Type 0 where
  pub few : n ≤ max_leaves
  pub range : high ≡ low + length elements
  pub rising : IsNonDecreasing positions
  pub enough : length positions ≤ length digests

-- the digests are those of the nodes at the positions
pub record Serves (S : Shape) (digest : Site → List ℕ) (positions : List ℕ) (digests : List (List ℕ)) : Type 0 where
  pub each : (a k i : ℕ) → a % 2 ^ k ≡ 0 → i < length positions → get_or positions i 0 ≡ S.position a k
      → get_or digests i [] ≡ digest (node a k)

-- the position of each of some sites stands in a list
abbrev pub Present : Shape → List ℕ → List Site → Type 0
Present S positions [] = Unit {0}
Present S positions (s ∷ ss) = Contains positions (position_of (ungrafted S) s) × Present S positions ss

-- the same of the sites in each of some peaks that is not apart from the range
abbrev pub PresentIn : Shape → ℕ → ℕ → List ℕ → List Peak → Type 0
PresentIn S low high positions [] = Unit {0}
PresentIn S low high positions (p ∷ ps) =
    (apart low high p.first p.height ≡ false → Present S positions (sites_of (part (ungrafted S) (apart low high) p)))
    × PresentIn S low high positions ps

-- the digests of peaks folded from the right, with one fold for those that begin at high or past it; none for no peaks
abbrev pub right_of : HashFunction → (Peak → List ℕ) → List ℕ → ℕ → List Peak → Option (List ℕ)
right_of h digest fold high [] = None
right_of h digest fold high (p ∷ ps) = if leb high p.first then Some fold
    else Some (prepended h (digest p) (right_of h digest fold high ps))

-- what is folded from the left, if anything, and then what is folded from the right
abbrev pub both_folds : HashFunction → Option (List ℕ) → Option (List ℕ) → Option (List ℕ)
both_folds h None onto = onto
both_folds h (Some x) onto = Some (prepended h x onto)

-- the digests of peaks, of which f are folded from the left onto what is folded before them
abbrev pub bag_onto : HashFunction → (Peak → List ℕ) → List ℕ → ℕ → Option (List ℕ) → List Peak → ℕ → Option (List ℕ)
bag_onto h digest fold high before [] f = both_folds h before None
bag_onto h digest fold high before (p ∷ ps) zero = both_folds h before (right_of h digest fold high (p ∷ ps))
bag_onto h digest fold high before (p ∷ ps) (suc f) = bag_onto h digest fold high
    (Some (appended h before (digest p))) ps f

-- the fold in front of the leaf a
abbrev pub folded_before : List ℕ → ℕ → Option (List ℕ)
folded_before fold zero = None
folded_before fold (suc a) = Some fold

-- what is kept, if anything is, is what was kept before with some more behind it
abbrev pub Adds : {V X : Type 0} → (V → List X) → Option V → Option V → List X → Type 0
Adds g old new xs = option_map g new ≡ option_map (λ v. g v ++ xs) old

-- the digests that a calculation has at some nodes, with their positions
abbrev pub found_at : HashFunction → Layout → (ℕ → ℕ → Bool) → Values → List Site → List (ℕ × List ℕ)
found_at h T cut v ss = entries T (digest_at h v T cut) ss
