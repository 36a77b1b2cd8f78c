-- The exit statuses.
use Rattle.std.specs.Prelude.{ℕ}
use Rattle.gawerunoa_cli.specs.declared.fault.Blame.{Blame}
use Rattle.gawerunoa_cli.specs.declared.fault.Blame.TheVariants.{Question, File, Memory}

-- 2 where the question is at fault, 3 where a file is, 4 for want of memory
abbrev pub status_of : Blame → ℕ
status_of Question = 2
status_of File = 3
status_of Memory = 4
