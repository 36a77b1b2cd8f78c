use Rattle.std.proofs.Common.{◌≡◌, ◌+◌, ◌++◌, [], List, ℕ, length, map, take}
use Rattle.storage_merkle.specs.Shape.{size}
use Rattle.storage_merkle.specs.Kept.{HoldsDigests, at_peaks}
use Rattle.storage_merkle.specs.Rests.{EachPeak}
use Rattle.storage_merkle.proofs.MemNodes.{IsPeak}
use Rattle.storage_merkle.proofs.Topmost.{digests_of}
use Rattle.storage_merkle.proofs.merkle.mem.nodes.peaks_over.Given as goal

abbrev pub invariant-loop-first : goal.invariant-loop-first
invariant-loop-first g l = record {
  peaks : EachPeak (IsPeak (g.F.Family.shape.peaks l.leaves) 0) l.first-iterator;
  room : length l.digests ≡ 64;
  count : l.count + length l.first-iterator ≡ length (g.F.Family.shape.peaks l.leaves);
  digests : (node : ℕ → ℕ → List ℕ) → HoldsDigests g.F.Family.shape node [] l.boundary
      (length l.nodes + size g.F.Family.shape l.boundary) (map g.D.Digest.text l.pinned) (map g.D.Digest.text l.nodes)
      → map g.D.Digest.text (take l.count l.digests) ++ digests_of node l.first-iterator
      ≡ at_peaks node 0 (g.F.Family.shape.peaks l.leaves);
}
