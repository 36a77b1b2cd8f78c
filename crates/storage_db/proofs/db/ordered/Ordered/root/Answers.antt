use Rattle.storage_current.specs.Snapshots.{grafting_of}
use Rattle.storage_db.proofs.Recalled.{root_at_last, root_before}
use Rattle.storage_db.proofs.db.ordered.Ordered.root.Goals as goal

pub returns-in-Some : goal.returns-in-Some
returns-in-Some g c = λ d keeps.
    root_at_last g.H.Hasher.hash_of (grafting_of g.F.Family.shape g.row.N) _ c.snapshot.result d.last
    (c.snapshot.ensures d keeps) c.in-Some.snapshot c.in-Some.is (g.H.Digest.Digest.text c.root.result) c.root.ensures.stands

pub returns-in-None : goal.returns-in-None
returns-in-None g c = λ d keeps.
    root_before g.H.Hasher.hash_of (grafting_of g.F.Family.shape g.row.N) _ c.snapshot.result d.last
    (c.snapshot.ensures d keeps) c.in-None.is
