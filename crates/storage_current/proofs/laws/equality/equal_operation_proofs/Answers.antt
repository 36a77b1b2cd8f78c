use Rattle.std.proofs.Common.{refl}
use Rattle.storage_merkle.specs.Laws.Equality.{equal_numbers, equal_on, equal_both, equal_seen}
use Rattle.storage_current.proofs.laws.equality.equal_operation_proofs.Goals as goal

pub returns-clause-seen : goal.returns-clause-seen
returns-clause-seen g c chunks =
    equal_seen
    (equal_both (equal_on equal_numbers (λ p. p.loc)) (equal_both (equal_on chunks (λ p. p.chunk))
    (equal_on c.equal_range_proofs.ensures.seen (λ p. p.range_proof))))
    (λ p. record { location = p.0; chunk = p.1.0; range = p.1.1 })
    (λ r. (r.location, (r.chunk, r.range)))
    (λ x. refl)
