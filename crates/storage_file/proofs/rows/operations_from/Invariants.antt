use Rattle.std.proofs.Common.{◌≡◌, take, map}
use Rattle.storage_file.specs.Tables.{operation_cells, shown_from}
use Rattle.storage_file.proofs.rows.operations_from.Given as goal

abbrev pub invariant-loop-row : goal.invariant-loop-row
invariant-loop-row l = take l.row-index l.rows ≡ shown_from operation_cells 0 (map (λ b. b.items) l.operations.items)
