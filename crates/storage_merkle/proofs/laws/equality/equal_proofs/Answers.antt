use Rattle.std.proofs.Common.{refl}
use Rattle.storage_merkle.specs.Laws.Equality.{equal_numbers, equal_lists, equal_on, equal_both, equal_seen}
use Rattle.storage_merkle.proofs.laws.equality.equal_proofs.Goals as goal

pub returns-clause-seen : goal.returns-clause-seen
returns-clause-seen g c =
    equal_seen
    (equal_both (equal_on equal_numbers (λ p. p.leaves)) (equal_both (equal_on equal_numbers (λ p. p.inactive_peaks))
    (equal_on (equal_lists g.met.D.Digest.same) (λ p. p.digests.items))))
    (λ p. record { leaves = p.0; inactive = p.1.0; digests = p.1.1 })
    (λ r. (r.leaves, (r.inactive, r.digests)))
    (λ x. refl)
