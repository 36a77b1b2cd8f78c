use Rattle.std.proofs.Common.{◌≡◌, ◌↔◌, drop, sum}
use Rattle.light_questions.proofs.byte_strings.adds_up.Given as goal

abbrev pub invariant-loop-length : goal.invariant-loop-length
invariant-loop-length l = (sum l.lengths ≡ l.total) ↔ (sum (drop l.length-index l.lengths) ≡ l.rest)
