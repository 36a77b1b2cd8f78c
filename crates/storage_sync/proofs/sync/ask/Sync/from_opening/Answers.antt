use Rattle.std.proofs.Common.{◌≡◌}
use Rattle.storage_current.specs.Snapshots.{grafting_of}
use Rattle.storage_sync.specs.Held.{opening_of}
use Rattle.storage_sync.specs.Openings.{IsAcceptedOpening}
use Rattle.storage_sync.specs.Syncs.{CanStart, Taken, nothing_yet}
use Rattle.storage_sync.proofs.States.{begun_accepted, where_some}
use Rattle.storage_sync.proofs.sync.ask.Sync.from_opening.Goals as goal

pub returns-clause-begun : goal.returns-clause-begun
returns-clause-begun g c =
    let text = g.H.Digest.Digest.text in
    let o = opening_of text c.args.opening.now in
    let Q : Taken → Type 0 = λ s. s ≡ nothing_yet (text c.args.root) c.args.limits o.begin in
    begun_accepted c.starting_at.result
    (IsAcceptedOpening g.H.Hasher.hash_of (grafting_of g.F.Family.shape g.row.N) o (text c.args.root))
    (CanStart g.row.N c.args.limits o.begin) Q (c.in_ok-accepted.ensures.exact.0 c.if-not-accepted.false)
    c.starting_at.ensures.begun

pub returns-clause-meaning : goal.returns-clause-meaning
returns-clause-meaning g c = λ some.
    where_some c.starting_at.result _ (c.in_ok-accepted.ensures.meaning some c.if-not-accepted.false)
