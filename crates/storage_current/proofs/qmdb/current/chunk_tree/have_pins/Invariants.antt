use Rattle.storage_merkle.specs.Rests.{EachPeak}
use Rattle.storage_current.specs.GraftedTrees.{IsPeak}
use Rattle.storage_current.specs.Pins.{HavePins}
use Rattle.storage_current.specs.Snapshots.{Grafting}
use Rattle.storage_current.proofs.Beginnings.{IsRaisedIn}
use Rattle.storage_current.proofs.qmdb.current.chunk_tree.have_pins.Given as goal

abbrev pub invariant-loop-first : goal.invariant-loop-first
invariant-loop-first g l =
    let G : Grafting = record { shape = g.F.Family.shape; bytes = g.row.N } in
    record {
      each : EachPeak (IsPeak (G.shape.peaks l.chunks) 0) l.first-iterator;
      had : EachPeak (IsRaisedIn G l.leaves) l.first-iterator → HavePins G l.leaves l.chunks;
    }
