use Rattle.std.proofs.Common.{refl}
use Rattle.storage_merkle.specs.Laws.Equality.{equal_options, equal_on, equal_both, equal_seen}
use Rattle.storage_current.proofs.laws.equality.equal_range_proofs.Goals as goal

pub returns-clause-seen : goal.returns-clause-seen
returns-clause-seen g c =
    let digests = equal_options g.met.D.Digest.same in
    equal_seen
    (equal_both (equal_on c.equal_proofs.ensures.seen (λ p. p.proof)) (equal_both
    (equal_on digests (λ p. p.pending_chunk_digest)) (equal_both (equal_on digests (λ p. p.partial_chunk_digest))
    (equal_on g.met.D.Digest.same (λ p. p.ops_root)))))
    (λ p. record { range = p.0; pending = p.1.0; partial = p.1.1.0; ops_root = p.1.1.1 })
    (λ r. (r.range, (r.pending, (r.partial, r.ops_root))))
    (λ x. refl)
