use Rattle.storage_sync.specs.Laws.Openings.{openings_again}
use Rattle.storage_sync.proofs.laws.openings_are_read_again.Goals as goal

pub returns : goal.returns
returns g c = openings_again g.D.Digest.text g.F.Graftable.has_pending g.D.Digest.size g.met.D.Digest.sized
