use Rattle.light_questions.specs.KeyParts.{sized_keys}
use Rattle.light_questions.proofs.Answered.{refused_as, sized_answer}
use Rattle.light_questions.proofs.claim.SizedKeyQuestion.answer.Goals as goal

pub returns-in_default : goal.returns-in_default
returns-in_default g c = rw (c.in_default.ensures, g.met.C.Claim.first) (refused_as _)

pub returns-in-Of4 : goal.returns-in-Of4
returns-in-Of4 g c =
    rw (c.in-Some.ensures.0, ← c.in-Some.ensures.1, c.in-Of4.is)
    (sized_answer (λ i. g.C.Claim.asked c.args.self.now.claim _ _ (sized_keys i) i) 4 c.in-Of4.key c.of.ensures)

pub returns-in-Of8 : goal.returns-in-Of8
returns-in-Of8 g c =
    rw (c.in-Some.ensures.0, ← c.in-Some.ensures.1, c.in-Of8.is)
    (sized_answer (λ i. g.C.Claim.asked c.args.self.now.claim _ _ (sized_keys i) i) 8 c.in-Of8.key c.of-in-Of8.ensures)

pub returns-in-Of20 : goal.returns-in-Of20
returns-in-Of20 g c =
    rw (c.in-Some.ensures.0, ← c.in-Some.ensures.1, c.in-Of20.is)
    (sized_answer (λ i. g.C.Claim.asked c.args.self.now.claim _ _ (sized_keys i) i) 20 c.in-Of20.key c.of-in-Of20.ensures)

pub returns-in-Of32 : goal.returns-in-Of32
returns-in-Of32 g c =
    rw (c.in-Some.ensures.0, ← c.in-Some.ensures.1, c.in-Of32.is)
    (sized_answer (λ i. g.C.Claim.asked c.args.self.now.claim _ _ (sized_keys i) i) 32 c.in-Of32.key c.of-in-Of32.ensures)
