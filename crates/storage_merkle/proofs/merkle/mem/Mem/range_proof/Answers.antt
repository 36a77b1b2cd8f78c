use Rattle.storage_merkle.proofs.merkle.mem.Mem.range_proof.Goals as goal

pub returns-clause-own : goal.returns-clause-own
returns-clause-own g c = c.proof_by.ensures.own

pub returns-clause-why : goal.returns-clause-why
returns-clause-why g c = c.proof_by.ensures.why

pub returns-clause-kept : goal.returns-clause-kept
returns-clause-kept g c = c.proof_by.ensures.kept
