use Rattle.std.proofs.Common.{◌≡◌, ◌++◌, map}
use Rattle.storage_merkle.specs.Multi.{Ascend}
use Rattle.storage_merkle.specs.Trees.{peaks_of, ungrafted}
use Rattle.storage_merkle.proofs.Multi.Needed.{in_peaks}
use Rattle.storage_merkle.proofs.Peaks.{Walk}
use Rattle.storage_merkle.proofs.merkle.multi.needed.needed.Given as goal

abbrev pub invariant-loop-first : goal.invariant-loop-first
invariant-loop-first g l =
    let T = ungrafted g.F.Family.shape in
    let place = g.L.Located.place in
    record {
      walk : Walk l.leaves l.first-iterator;
      rising : Ascend walk.first l.leaves (map place l.rest);
      sites : l.positions.items ++ in_peaks T place l.rest l.first-iterator ≡ in_peaks T place l.items (peaks_of T l.leaves);
    }
