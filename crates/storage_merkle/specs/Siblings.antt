-- The siblings of a range of leaves.
use Rattle.std.specs.Prelude.{ℕ, List}
use Rattle.storage_merkle.specs.Calc.{Site}
use Rattle.storage_merkle.specs.Trees.{Layout, peaks_of}
use Rattle.storage_merkle.specs.RangeProofs.{apart, not_leading, up_to, sites_in, by_position}

-- the siblings of the leaves from low to high - 1, in the peaks over n leaves that share a leaf with them, ascending by position
abbrev pub sibling_sites : Layout → ℕ → ℕ → ℕ → List Site
sibling_sites T n low high = by_position T (sites_in T (apart low high) (up_to high (not_leading low (peaks_of T n))))
