use Rattle.std.proofs.Common.{◌≡◌, ℕ, length, Option, None}
use Rattle.std.specs.List.{All}
use Rattle.storage_current.specs.Combined.{IsOfOperations, joined}
use Rattle.storage_current.specs.GraftedTrees.{regrafted}
use Rattle.storage_current.specs.Splits.{IsSplit}
use Rattle.storage_current.proofs.qmdb.current.grafting.storage.find_all.Given as goal

abbrev pub invariant-loop-position : goal.invariant-loop-position
invariant-loop-position g l = record {
  split : (operations : ℕ → Option g.row.H-Digest.Denot) → IsSplit (joined g.F.Family.shape l.height l.size
      (regrafted g.H.Hasher.digest_of g.H.Digest.Digest.text g.F.Family.shape l.height (g.R.Readable.node l.grafted_tree))
      operations) operations l.left l.nodes.items l.positions l.below.items;
  none : l.missing ≡ None;
  below : All (IsOfOperations g.F.Family.shape l.height l.size) l.below.items;
}

abbrev pub decreases-loop-position : goal.decreases-loop-position
decreases-loop-position g l = length l.left
