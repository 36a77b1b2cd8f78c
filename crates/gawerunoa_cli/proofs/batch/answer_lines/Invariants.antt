use Rattle.std.proofs.Common.{◌≤◌}
use Rattle.gawerunoa_cli.proofs.batch.answer_lines.Given as goal

abbrev pub invariant-loop-number : goal.invariant-loop-number
invariant-loop-number g l = l.status ≤ 3
