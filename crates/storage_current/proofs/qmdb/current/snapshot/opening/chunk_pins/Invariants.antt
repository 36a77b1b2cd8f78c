use Rattle.std.proofs.Common.{map}
use Rattle.storage_merkle.specs.Rests.{EachPeak}
use Rattle.storage_current.specs.GraftedTrees.{IsPeak}
use Rattle.storage_current.specs.KeptSnapshots.{StandsForSnapshot}
use Rattle.storage_current.specs.Snapshots.{Grafting, Snapshot}
use Rattle.storage_current.proofs.Beginnings.{AreSeen}
use Rattle.storage_current.proofs.qmdb.current.snapshot.opening.chunk_pins.Given as goal

abbrev pub invariant-loop-first : goal.invariant-loop-first
invariant-loop-first g l =
    let G : Grafting = record { shape = g.F.Family.shape; bytes = g.row.N } in
    record {
      each : EachPeak (IsPeak (G.shape.peaks l.chunks) 0) l.first-iterator;
      seen : (s : Snapshot) → StandsForSnapshot g.H.Hasher.hash_of G l.snapshot s
          → AreSeen g.H.Hasher.hash_of G s l.chunks (map g.H.Digest.Digest.text l.pins.items) l.first-iterator;
    }
