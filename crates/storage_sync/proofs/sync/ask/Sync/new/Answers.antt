use Rattle.std.proofs.Common.{◌≡◌, ℕ}
use Rattle.storage_sync.specs.Syncs.{Taken, nothing_yet}
use Rattle.storage_sync.proofs.States.{from_first}
use Rattle.storage_sync.proofs.sync.ask.Sync.new.Goals as goal

pub returns-clause-begun : goal.returns-clause-begun
returns-clause-begun g c =
    let P : ℕ → Taken → Type 0 = λ k s. s ≡ nothing_yet (g.H.Digest.Digest.text c.args.root) c.args.limits k in
    from_first c.starting_at.result g.row.N c.args.limits c.new.result P c.new.ensures c.starting_at.ensures.begun
