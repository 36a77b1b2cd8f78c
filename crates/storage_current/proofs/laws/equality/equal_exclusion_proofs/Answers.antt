use Rattle.std.proofs.Common.{rules}
use Rattle.storage_current.proofs.Exclusions.{exclusions_seen}
use Rattle.storage_current.proofs.laws.equality.equal_exclusion_proofs.Goals as goal

pub returns-clause-parts : goal.returns-clause-parts
returns-clause-parts g c = search rules

pub returns-clause-seen : goal.returns-clause-seen
returns-clause-seen g c chunks keys values =
    exclusions_seen g.D.Digest.text g.C.Chunk.text g.K.Read.view g.V.Value.Read.view
    (c.equal_operation_proofs.ensures.seen chunks) (c.equal_ordered_updates.ensures.seen keys values) values _
    (returns-clause-parts g c)
