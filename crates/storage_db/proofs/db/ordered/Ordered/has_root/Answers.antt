use Rattle.storage_current.specs.Snapshots.{grafting_of}
use Rattle.storage_db.proofs.Trusted.{root_found, root_missing}
use Rattle.storage_db.proofs.db.ordered.Ordered.has_root.Goals as goal

pub returns-in-Some : goal.returns-in-Some
returns-in-Some g c = λ d keeps.
    root_found g.H.Hasher.hash_of (grafting_of g.F.Family.shape g.row.N) g.H.Digest.Digest.text d c.in-Some.found c.args.root.now
    (c.in-Some.ensures d keeps) c.eq.result _ c.eq.ensures (g.met.H.Digest.Digest.same c.in-Some.found c.args.root.now)

pub returns-in-None : goal.returns-in-None
returns-in-None g c = λ d keeps.
    root_missing g.H.Hasher.hash_of (grafting_of g.F.Family.shape g.row.N) d _ (c.in-None.ensures d keeps)
