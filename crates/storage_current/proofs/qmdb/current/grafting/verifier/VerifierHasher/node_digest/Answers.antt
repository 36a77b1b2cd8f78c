use Rattle.std.proofs.Common.{arith}
use Rattle.storage_merkle.specs.Laws.Shape.{same_node}
use Rattle.storage_current.proofs.qmdb.current.grafting.verifier.VerifierHasher.node_digest.Goals as goal

pub node_digest_over-requires-clause-aligned : goal.node_digest_over-requires-clause-aligned
node_digest_over-requires-clause-aligned g c = c.node_at-first.ensures.node.aligned

pub node_digest_over-requires-clause-fits : goal.node_digest_over-requires-clause-fits
node_digest_over-requires-clause-fits g c =
    let at = rw c.as_u64.ensures at c.node_at-first.ensures.node.at in omega (arith, at)

pub node_digest_over-requires-clause-takes : goal.node_digest_over-requires-clause-takes
node_digest_over-requires-clause-takes g c =
    let at = rw c.as_u64.ensures at c.node_at-first.ensures.node.at in omega (arith, at)

pub returns : goal.returns
returns g c = λ a k node.
    let e = same_node g.F.Family.shape g.met.F.Family.laws c.args.position a k _ _ node
    (rw c.as_u64.ensures at c.node_at-first.ensures.node) in
    rw (e.0, e.1) c.node_digest_over.ensures
