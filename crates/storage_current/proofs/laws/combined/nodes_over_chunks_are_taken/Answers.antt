use Rattle.storage_current.proofs.Raised.{few_raised, prompt_raised}
use Rattle.storage_current.proofs.laws.combined.nodes_over_chunks_are_taken.Goals as goal

pub returns-clause-half : goal.returns-clause-half
returns-clause-half g c hasher chunks height position =
    few_raised g.F.Family.shape g.met.F.Family.laws (g.H.Hasher.takes hasher) chunks height position

pub returns-clause-all : goal.returns-clause-all
returns-clause-all g c absent hasher chunks height position =
    prompt_raised g.F.Family.shape g.met.F.Family.laws (g.met.F.Graftable.prompt absent) (g.H.Hasher.takes hasher) chunks
    height position
