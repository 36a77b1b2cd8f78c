-- The peaks of a tree from some leaf on.
use Rattle.std.specs.Prelude.{◌≡◌, ℕ, ◌<◌, List, [], ◌∷◌, ◌++◌, take, drop}
use Rattle.storage_merkle.specs.Shape.{Shape}
use Rattle.storage_merkle.specs.declared.merkle.bagging.Bagging.{Bagging}
use Rattle.storage_merkle.specs.Trees.{Peak, places, folded, unfolded}
use Rattle.storage_merkle.specs.RangeProofs.{leading, not_leading}

-- the peaks over r leaves from the leaf a on
abbrev pub peaks_from : Shape → ℕ → ℕ → List Peak
peaks_from S a r = places a (S.peaks r)

-- each of some peaks, by first leaf and height
abbrev pub EachPeak : (ℕ → ℕ → Type 0) → List Peak → Type 0
EachPeak P [] = Unit {0}
EachPeak P (p ∷ ps) = P p.first p.height × EachPeak P ps

-- past some peaks from the leaf a on stands the leaf b
abbrev pub IsPast : ℕ → ℕ → List Peak → Type 0
IsPast a b [] = b ≡ a
IsPast a b (p ∷ ps) = a < b

-- of the peaks over n leaves, of which i are inactive, the first f are folded from the left and the others from the right
pub record AreFolded (S : Shape) (b : Bagging) (i n f : ℕ) : Type 0 where
  pub folded_are : take f (peaks_from S 0 n) ≡ folded b i (peaks_from S 0 n)
  pub unfolded_are : drop f (peaks_from S 0 n) ≡ unfolded b i (peaks_from S 0 n)

-- of the peaks over r leaves from the leaf a on, of which f are folded from the left, the peaks over s leaves from the leaf b on,
-- of which g are folded from the left, come after those of the f that end at or before low
pub record AreAfterLeading (S : Shape) (low a r f b s g : ℕ) : Type 0 where
  pub all : peaks_from S a r ≡ leading low (take f (peaks_from S a r)) ++ peaks_from S b s
  pub folded_are : take g (peaks_from S b s) ≡ not_leading low (take f (peaks_from S a r))
  pub unfolded_are : drop g (peaks_from S b s) ≡ drop f (peaks_from S a r)
  pub past : IsPast a b (leading low (take f (peaks_from S a r)))
