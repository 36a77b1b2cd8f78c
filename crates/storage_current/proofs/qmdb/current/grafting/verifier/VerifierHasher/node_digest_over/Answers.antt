use Rattle.std.proofs.Common.{rules}
use Rattle.storage_merkle.specs.Calc.{be8}
use Rattle.storage_merkle.specs.Laws.Shape.{valid_height}
use Rattle.storage_current.proofs.qmdb.current.grafting.verifier.VerifierHasher.node_digest_over.Goals as goal

pub chunk_over-requires-clause-small : goal.chunk_over-requires-clause-small
chunk_over-requires-clause-small g c = valid_height g.F.Family.shape g.met.F.Family.laws c.args.first c.args.height
    c.requires.aligned c.requires.takes

pub returns-in-Some : goal.returns-in-Some
unfolding be8
returns-in-Some g c = search rules

pub returns-in-None : goal.returns-in-None
unfolding be8
returns-in-None g c = search rules
