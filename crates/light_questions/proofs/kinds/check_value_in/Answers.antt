use Rattle.std.proofs.Common.{ℕ, List, length}
use Rattle.light_questions.specs.Agreed.{agreed_refusal}
use Rattle.light_questions.specs.Agreement.{size_refusal}
use Rattle.light_questions.specs.Answers.{or_then}
use Rattle.light_questions.specs.KeyParts.{value_in}
use Rattle.light_questions.specs.SizedStrings.{key_refusal, value_refusal}
use Rattle.light_questions.specs.declared.agreement.Kind.TheVariants.{Fixed, Sized, StringSized}
use Rattle.light_questions.proofs.Answered.{of_agreed}
use Rattle.light_questions.proofs.kinds.check_value_in.Goals as goal

pub returns-in-Variable : goal.returns-in-Variable
returns-in-Variable c =
    rw (c.in-Variable.is) c.ask_in.ensures

pub returns-in-Sized : goal.returns-in-Sized
returns-in-Sized c =
    rw (c.in-Sized.is)
    (of_agreed (or_then (agreed_refusal c.args.agreed.now.family c.args.agreed.now.hash c.args.root.now) (key_refusal c.args.key.now))
    (size_refusal c.args.agreed.now (length c.args.value.now)) (value_refusal (length c.of_agreed_size-sized.result.now))
    (λ (v : List ℕ). value_in Sized c.args.agreed.now c.args.key.now v) c.args.value.now c.of_agreed_size-sized.result.now
    c.of_agreed_size-sized.ensures.refusal c.of_agreed_size-sized.ensures.same c.ask_in-in-Sized.ensures)

pub returns-in-Fixed : goal.returns-in-Fixed
returns-in-Fixed c =
    rw (c.in-Fixed.is)
    (of_agreed (or_then (agreed_refusal c.args.agreed.now.family c.args.agreed.now.hash c.args.root.now) (key_refusal c.args.key.now))
    (size_refusal c.args.agreed.now (length c.args.value.now)) (value_refusal (length c.of_agreed_size-sized.result.now))
    (λ (v : List ℕ). value_in Fixed c.args.agreed.now c.args.key.now v) c.args.value.now c.of_agreed_size-sized.result.now
    c.of_agreed_size-sized.ensures.refusal c.of_agreed_size-sized.ensures.same c.ask_in-in-Fixed.ensures)

pub returns-in-StringVariable : goal.returns-in-StringVariable
returns-in-StringVariable c =
    rw (c.in-StringVariable.is) c.ask_in-in-StringVariable.ensures

pub returns-in-StringSized : goal.returns-in-StringSized
returns-in-StringSized c =
    rw (c.in-StringSized.is)
    (of_agreed (agreed_refusal c.args.agreed.now.family c.args.agreed.now.hash c.args.root.now)
    (size_refusal c.args.agreed.now (length c.args.value.now)) (value_refusal (length c.of_agreed_size-sized.result.now))
    (λ (v : List ℕ). value_in StringSized c.args.agreed.now c.args.key.now v) c.args.value.now c.of_agreed_size-sized.result.now
    c.of_agreed_size-sized.ensures.refusal c.of_agreed_size-sized.ensures.same c.ask_in-in-StringSized.ensures)
