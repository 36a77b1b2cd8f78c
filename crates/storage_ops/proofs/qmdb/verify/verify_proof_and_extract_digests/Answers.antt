use Rattle.storage_ops.proofs.qmdb.verify.verify_proof_and_extract_digests.Goals as goal

pub returns-clause-handed : goal.returns-clause-handed
returns-clause-handed g c = rw (c.deref.ensures.value, c.in_ok-elements.ensures.all, c.hasher-hasher.ensures) at
    c.verify_range_inclusion_and_extract_digests.ensures.handed

pub returns-clause-why : goal.returns-clause-why
returns-clause-why g c = rw (c.deref.ensures.value, c.in_ok-elements.ensures.all, c.hasher-hasher.ensures) at
    c.verify_range_inclusion_and_extract_digests.ensures.why
