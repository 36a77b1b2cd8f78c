use Rattle.std.proofs.Common.{◌≡◌, ◌++◌, List, ℕ, map}
use Rattle.storage_merkle.specs.Kept.{NodesOver, StandsFor, at_peaks}
use Rattle.storage_merkle.specs.Rests.{EachPeak}
use Rattle.storage_merkle.proofs.MemNodes.{IsPeak}
use Rattle.storage_current.proofs.Pruning.{digests_of}
use Rattle.storage_current.proofs.qmdb.current.snapshot.opening.peaks_over.Given as goal

abbrev pub invariant-loop-first : goal.invariant-loop-first
invariant-loop-first g l = record {
  each : EachPeak (IsPeak (g.F.Family.shape.peaks l.count) 0) l.first-iterator;
  digests : (nodes : NodesOver) (list : List (List ℕ)) → StandsFor g.H.Digest.Digest.text g.F.Family.shape nodes l.tree list
      → map g.H.Digest.Digest.text l.pins.items ++ digests_of (nodes list) l.first-iterator
      ≡ at_peaks (nodes list) 0 (g.F.Family.shape.peaks l.count);
}
