use Rattle.std.proofs.Common.{◌∙◌, ap}
use Rattle.storage_current.specs.Snapshots.{grafting_of}
use Rattle.storage_sync.specs.Syncs.{Taken, place}
use Rattle.storage_sync.proofs.Kept.{promised}
use Rattle.storage_sync.proofs.States.{known_whole}
use Rattle.storage_sync.proofs.sync.ask.Sync.done.Goals as goal

pub unwrap-requires : goal.unwrap-requires
unwrap-requires g c =
    let whole = c.is_whole.ensures.0 c.if-not-is_whole.false in
    known_whole c.self.inside.ops_root c.self.inside.leaves (place c.args.self) c.self.invariant.root
    (ap (λ (t : Taken). t.leaves) c.self.view_is ∙ whole)

pub returns-clause-promise : goal.returns-clause-promise
returns-clause-promise g c = λ width pages kept.
    promised g.H.Hasher.hash_of (grafting_of g.F.Family.shape g.row.N) g.H.Digest.Digest.size c.pages_are_tails.ensures width
    g.met.H.Hasher.sized g.met.F.Family.laws c.args.self (c.is_whole.ensures.0 c.if-not-is_whole.false) pages kept
