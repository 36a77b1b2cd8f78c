use Rattle.storage_merkle.specs.Laws.Inactive.{unaligned}
use Rattle.storage_current.proofs.qmdb.current.grafting.positions.exact_inactive.Goals as goal

pub returns : goal.returns
returns g c =
    unaligned g.F.Family.shape c.args.leaves c.args.floor c.chunk_aligned_inactive_peaks.result c.chunk_aligned_inactive_peaks.ensures
