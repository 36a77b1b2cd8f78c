use Rattle.std.proofs.Common.{arith}
use Rattle.std.proofs.lemmas.Grind.{common_steps}
use Rattle.gawerunoa_cli.proofs.lines.parse_operation.Goals as goal

pub returns-then-not-is_empty : goal.returns-then-not-is_empty
returns-then-not-is_empty c = grind (arith, common_steps)

pub returns-else-branch : goal.returns-else-branch
returns-else-branch c = grind (arith, common_steps)
