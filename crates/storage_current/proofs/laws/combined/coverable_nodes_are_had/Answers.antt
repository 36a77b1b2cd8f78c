use Rattle.storage_current.proofs.PrunedViews.{coverable_had}
use Rattle.storage_current.proofs.laws.combined.coverable_nodes_are_had.Goals as goal

pub returns : goal.returns
returns g c n = coverable_had g.F.Family.shape g.met.F.Family.laws g.H.Hasher.digest_of g.H.Digest.Digest.text n
