use Rattle.std.proofs.Common.{◌*◌, ◌<◌, ◌%◌, ◌≡◌, arith}
use Rattle.std.proofs.lemmas.Bool.{false≢true}
use Rattle.storage_sync.proofs.Bits.{some_bytes}
use Rattle.storage_sync.proofs.Tails.{behind_chunks, no_rest}
use Rattle.storage_sync.proofs.sync.replica.tail.begins_at.Goals as goal

pub returns-then-begin-bits-ne0-clause-exact : goal.returns-then-begin-bits-ne0-clause-exact
returns-then-begin-bits-ne0-clause-exact g c =
    let some : 0 < 8 * g.row.N = omega (arith, some_bytes g.row.N c.pruned_chunks-pruned.ensures.size) in (
      λ yes. absurd (false≢true yes),
      λ same. absurd (omega (arith, c.if-begin-bits-ne0.true, no_rest c.args.status.now.pruned (8 * g.row.N) c.args.begin some same)),
    )

pub returns-clause-exact : goal.returns-clause-exact
returns-clause-exact g c =
    let some : 0 < 8 * g.row.N = omega (arith, some_bytes g.row.N c.pruned_chunks-pruned.ensures.size) in
    let whole : c.args.begin % (8 * g.row.N) ≡ 0 = omega (arith, c.if-begin-bits-ne0.false) in
    rw c.pruned_chunks-pruned.ensures.value (behind_chunks c.args.status.now.pruned (8 * g.row.N) c.args.begin some whole)
