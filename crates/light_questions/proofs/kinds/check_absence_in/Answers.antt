use Rattle.std.proofs.Common.{ℕ}
use Rattle.light_questions.specs.Agreed.{agreed_refusal}
use Rattle.light_questions.specs.Agreement.{size_refusal}
use Rattle.light_questions.specs.Answers.{or_then}
use Rattle.light_questions.specs.KeyParts.{as_long, filled, lacks_sized, of_sized, of_vector, sized_keys, string_keys}
use Rattle.light_questions.specs.SizedStrings.{key_refusal, value_refusal}
use Rattle.light_questions.proofs.Answered.{of_agreed}
use Rattle.light_questions.proofs.kinds.check_absence_in.Goals as goal

pub returns-in-Variable : goal.returns-in-Variable
returns-in-Variable c =
    rw (c.in-Variable.is) c.ask_in.ensures

pub returns-in-Sized : goal.returns-in-Sized
returns-in-Sized c =
    rw (c.in-Sized.is)
    (of_agreed (or_then (agreed_refusal c.args.agreed.now.family c.args.agreed.now.hash c.args.root.now) (key_refusal c.args.key.now))
    (size_refusal c.args.agreed.now c.args.agreed.now.min_value_length) (value_refusal c.agreed_size-value_size.result)
    (λ (m : ℕ). of_sized (λ n. lacks_sized (sized_keys n) as_long m) c.args.key.now)
    c.args.agreed.now.min_value_length c.agreed_size-value_size.result
    c.agreed_size-value_size.ensures.refusal c.agreed_size-value_size.ensures.same c.ask_in-in-Sized.ensures)

pub returns-in-Fixed : goal.returns-in-Fixed
returns-in-Fixed c =
    rw (c.in-Fixed.is)
    (of_agreed (or_then (agreed_refusal c.args.agreed.now.family c.args.agreed.now.hash c.args.root.now) (key_refusal c.args.key.now))
    (size_refusal c.args.agreed.now c.args.agreed.now.min_value_length) (value_refusal c.agreed_size-value_size.result)
    (λ (m : ℕ). of_sized (λ n. lacks_sized (sized_keys n) (filled n) m) c.args.key.now)
    c.args.agreed.now.min_value_length c.agreed_size-value_size.result
    c.agreed_size-value_size.ensures.refusal c.agreed_size-value_size.ensures.same c.ask_in-in-Fixed.ensures)

pub returns-in-StringVariable : goal.returns-in-StringVariable
returns-in-StringVariable c =
    rw (c.in-StringVariable.is) c.ask_in-in-StringVariable.ensures

pub returns-in-StringSized : goal.returns-in-StringSized
returns-in-StringSized c =
    rw (c.in-StringSized.is)
    (of_agreed (agreed_refusal c.args.agreed.now.family c.args.agreed.now.hash c.args.root.now)
    (size_refusal c.args.agreed.now c.args.agreed.now.min_value_length) (value_refusal c.agreed_size-value_size.result)
    (λ (m : ℕ). of_vector (lacks_sized (string_keys c.args.agreed.now.min_key_length c.args.agreed.now.max_key_length) as_long m) c.args.key.now)
    c.args.agreed.now.min_value_length c.agreed_size-value_size.result
    c.agreed_size-value_size.ensures.refusal c.agreed_size-value_size.ensures.same c.ask_in-in-StringSized.ensures)
