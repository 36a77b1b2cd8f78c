use Rattle.std.proofs.Common.{ℕ, Option}
use Rattle.storage_current.specs.Snapshots.{grafting_of}
use Rattle.storage_sync.proofs.Serving.{built}
use Rattle.storage_sync.proofs.sync.serve.proof.proof_by.Goals as goal

pub returns-in_default-clause-why : goal.returns-in_default-clause-why
returns-in_default-clause-why g c = λ never bits.
    let answers : ℕ → Option g.row.D.Denot → Type 0 = λ q a. g.G.Fn.post c.args.get_node (q, tt) a in
    absurd (c.in_default.not-Memory (built answers (grafting_of g.F.Family.shape g.row.N) c.args.plan c.args.status.now c.in-Err.error
    never bits c.in-Err.ensures.why))
