use Rattle.std.proofs.Common.{refl}
use Rattle.storage_merkle.specs.Laws.Equality.{equal_on, equal_both}
use Rattle.storage_current.proofs.laws.equality.equal_key_value_proofs.Goals as goal

pub returns-clause-parts : goal.returns-clause-parts
returns-clause-parts g c x y = refl

pub returns-clause-seen : goal.returns-clause-seen
returns-clause-seen g c chunks keys =
    equal_both (equal_on (c.equal_operation_proofs.ensures.seen chunks) (λ p. p.proof)) (equal_on keys (λ p. p.next_key))
