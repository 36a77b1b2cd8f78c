use Rattle.storage_bitmap.proofs.Standing.{pushed}
use Rattle.std.proofs.Common.{arith, rules}
use Rattle.std.proofs.lemmas.Grind.{common_steps}
use Rattle.storage_bitmap.proofs.bitmap.authenticated.unmerkleized.BitMap+D+N+Unmerkleized.push.Goals as goal

pub returns-clause-stands : goal.returns-clause-stands
returns-clause-stands g c h bits s =
    let i = c.self.invariant in
    rw c.in_ok-push.ensures.ok (pushed g.D.Digest.text h g.row.N c.self.inside.tree c.self.inside.bits i.order i.leaves
    i.boundary c.self.inside.state c.self.inside.state.dirty.keys bits c.args.bit c.self.inside.state
    (rw (← c.self.view_is) at s))

pub invariant_of-self-2 : goal.invariant_of-self-2
invariant_of-self-2 g c = grind (arith, common_steps)

pub returns-clause-value : goal.returns-clause-value
returns-clause-value g c = search rules
