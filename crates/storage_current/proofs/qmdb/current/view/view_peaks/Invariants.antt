use Rattle.std.proofs.Common.{◌≡◌, length, take}
use Rattle.storage_current.specs.NodeLists.{seen_in}
use Rattle.storage_current.proofs.NodeLists.{AreRead}
use Rattle.storage_current.proofs.qmdb.current.view.view_peaks.Given as goal

abbrev pub invariant-loop-position : goal.invariant-loop-position
invariant-loop-position g l = record {
  room : length l.peaks ≡ 64;
  count : length (take l.count l.peaks) ≡ l.count;
  read : AreRead g.H.Digest.Digest.text g.F.Family.shape l.operations.leaves
      (seen_in g.F.Family.shape l.height l.operations l.chunks) (take l.count l.peaks)
      l.position-iterator;
}
