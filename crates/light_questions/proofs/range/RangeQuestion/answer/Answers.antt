use Rattle.std.proofs.Common.{rules}
use Rattle.std.proofs.Common.{refl}
use Rattle.std.proofs.lemmas.Bool.{eq-eqb}
use Rattle.light_questions.proofs.Answered.{no_chunk}
use Rattle.light_questions.proofs.range.RangeQuestion.answer.Goals as goal

pub invariant_of-operations : goal.invariant_of-operations
invariant_of-operations g c = record { whole = c.if-not-adds_up.ensures.0 refl }

pub invariant_of-chunks : goal.invariant_of-chunks
invariant_of-chunks g c = record { whole = c.if-not-adds_up-2.ensures.0 refl }

pub returns-then-is_none : goal.returns-then-is_none
returns-then-is_none g c =
    rw (eq-eqb _ _ (c.if-not-adds_up.ensures.0 refl), eq-eqb _ _ (c.if-not-adds_up-2.ensures.0 refl))
    (no_chunk (search rules) (λ a. a.accepted.size))

pub returns : goal.returns
returns g c =
    rw (eq-eqb _ _ (c.if-not-adds_up.ensures.0 refl), eq-eqb _ _ (c.if-not-adds_up-2.ensures.0 refl), c.checked.ensures, ← c.new-start.ensures)
    c.cut_range.ensures
