use Rattle.std.proofs.Common.{◌≡◌, ◌+◌, ◌++◌, List, ℕ, length, map}
use Rattle.storage_merkle.specs.Hashing.{node_over}
use Rattle.storage_merkle.specs.Kept.{at_peaks}
use Rattle.storage_merkle.specs.Rests.{EachPeak}
use Rattle.storage_current.specs.GraftedTrees.{IsPeak, Keeps}
use Rattle.storage_current.proofs.Pruning.{digests_of}
use Rattle.storage_current.proofs.qmdb.current.grafting.tree.peaks_over.Given as goal

abbrev pub invariant-loop-first : goal.invariant-loop-first
invariant-loop-first g l =
    let N = node_over g.H.Hasher.hash_of (g.H.Hasher.layout l.hasher) (g.H.Hasher.chunk l.hasher) in
    record {
      each : EachPeak (IsPeak (g.F.Family.shape.peaks l.chunks) 0) l.first-iterator;
      count : length l.peaks.items + length l.first-iterator ≡ length (g.F.Family.shape.peaks l.chunks);
      digests : (list : List (List ℕ)) → Keeps g.D.Digest.text g.F.Family.shape N l.tree list
          → map g.D.Digest.text l.peaks.items ++ digests_of (N list) l.first-iterator
          ≡ at_peaks (N list) 0 (g.F.Family.shape.peaks l.chunks);
    }
