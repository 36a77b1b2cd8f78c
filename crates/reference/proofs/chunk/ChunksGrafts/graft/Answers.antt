use Rattle.std.proofs.Common.{rules, arith}
use Rattle.std.proofs.lemmas.Grind.{common_steps}
use Rattle.reference.proofs.chunk.ChunksGrafts.graft.Goals as goal

pub chunk-requires-clause-start : goal.chunk-requires-clause-start
chunk-requires-clause-start g c = grind (arith, common_steps)

pub returns : goal.returns
returns g c = search rules
