use Rattle.std.proofs.lemmas.Bool.{ne_eqb}
use Rattle.light_questions.proofs.question.of_family.Goals as goal

pub returns-then-family-eq-MMR : goal.returns-then-family-eq-MMR
returns-then-family-eq-MMR g c = rw c.if-family-eq-MMR.true c.answer.ensures

pub returns-else-family-eq-MMR : goal.returns-else-family-eq-MMR
returns-else-family-eq-MMR g c =
    rw (ne_eqb c.args.family 0 c.if-family-eq-MMR.false) c.answer-else-family-eq-MMR.ensures
