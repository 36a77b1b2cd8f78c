use Rattle.std.proofs.Common.{◌≡◌, take, map}
use Rattle.storage_file.specs.Given.{commit_of}
use Rattle.storage_file.specs.Tables.{commit_cells, shown_from}
use Rattle.storage_file.proofs.rows.commits_from.Given as goal

abbrev pub invariant-loop-row : goal.invariant-loop-row
invariant-loop-row l = take l.row-index l.rows ≡ shown_from commit_cells 0 (map commit_of l.commits.items)
