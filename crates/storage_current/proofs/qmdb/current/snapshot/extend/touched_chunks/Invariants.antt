use Rattle.storage_current.proofs.Growing.{TouchedSoFar}
use Rattle.storage_current.proofs.qmdb.current.snapshot.extend.touched_chunks.Given as goal

abbrev pub invariant-loop-location : goal.invariant-loop-location
invariant-loop-location g l = TouchedSoFar l.height l.count l.location-index l.locations l.touched.items
