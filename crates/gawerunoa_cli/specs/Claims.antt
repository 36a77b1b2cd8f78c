-- What is asked where something is claimed of a snapshot, and what is refused first.
use Rattle.std.specs.Prelude.{ℤ, List, ℕ, Option}
use Rattle.light_questions.specs.Agreed.{agreed_refusal}
use Rattle.light_questions.specs.Agreement.{absence_refused, value_refused}
use Rattle.light_questions.specs.Answers.{lengths_refusal, or_then}
use Rattle.light_questions.specs.ByteStrings.{cut}
use Rattle.light_questions.specs.KeyParts.{Setting, Statement, absent_in, operation_of, range_of, value_in}
use Rattle.light_questions.specs.declared.agreement.Agreed.{Agreed}
use Rattle.light_questions.specs.declared.agreement.Kind.{Kind}
use Rattle.gawerunoa_cli.specs.declared.claim.Claim.{Claim}
use Rattle.gawerunoa_cli.specs.declared.claim.Claim.TheVariants.{Absence, Operation, Range, Value}

-- where the check of a claim accepts, and what its yes means
abbrev pub asked_of : Kind → Agreed → Claim → Setting → Statement
asked_of kind it (Operation location operation) = operation_of location operation.items
asked_of kind it (Range start operations chunks) =
    range_of it.max_digests start (cut operations.lengths.items operations.bytes.items)
    (cut chunks.lengths.items chunks.bytes.items)
asked_of kind it (Value key value) = value_in kind it key.items value.items
asked_of kind it (Absence key) = absent_in kind it key.items

-- what is refused of it: the first of what is agreed, the root, and the claim's own
abbrev pub refusal_of : Kind → Agreed → List ℕ → Claim → Option ℤ
refusal_of kind it root (Operation location operation) = agreed_refusal it.family it.hash root
refusal_of kind it root (Range start operations chunks) =
    or_then (agreed_refusal it.family it.hash root) (lengths_refusal operations.bytes.items operations.lengths.items
    chunks.bytes.items chunks.lengths.items)
refusal_of kind it root (Value key value) =
    value_refused kind it (agreed_refusal it.family it.hash root) key.items value.items
refusal_of kind it root (Absence key) = absence_refused kind it (agreed_refusal it.family it.hash root) key.items
