use Rattle.std.proofs.Common.{◌≡◌, ◌++◌}
use Rattle.storage_merkle.specs.Trees.{peaks_of, ungrafted}
use Rattle.storage_merkle.proofs.Siblings.{entered_positions}
use Rattle.storage_merkle.proofs.merkle.plan.positions_apart.Given as goal

abbrev pub invariant-loop-first : goal.invariant-loop-first
invariant-loop-first g l =
    let T = ungrafted g.F.Family.shape in
    l.positions.items ++ entered_positions T l.whole_peaks l.start l.end l.first-iterator
    ≡ entered_positions T l.whole_peaks l.start l.end (peaks_of T l.leaves)
