use Rattle.std.proofs.Common.{◌≡◌}
use Rattle.storage_merkle.specs.Shape.{size}
use Rattle.storage_current.specs.Combined.{joined}
use Rattle.storage_current.specs.GraftedTrees.{regrafted}
use Rattle.storage_current.proofs.PinReads.{AreTaken}
use Rattle.storage_current.proofs.qmdb.current.grafting.root.had_peaks.Given as goal

abbrev pub invariant-loop-position : goal.invariant-loop-position
invariant-loop-position g l =
    let S = g.F.Family.shape in
    AreTaken g.H.Digest.Digest.text S l.leaves (joined S l.height (size S l.leaves)
    (regrafted g.H.Hasher.digest_of g.H.Digest.Digest.text S l.height (g.R.Readable.node l.grafted_tree))
    (g.S.Readable.node l.ops_tree)) l.peaks.items l.position-iterator
