use Rattle.std.proofs.Common.{map, ◌∙◌}
use Rattle.storage_file.specs.Given.{commit_of}
use Rattle.storage_file.specs.Tables.{operation_cells}
use Rattle.storage_file.proofs.RowLemmas.{if_told, operation_back}
use Rattle.storage_file.proofs.contents.read_operations.Goals as goal

pub returns-clause-read : goal.returns-clause-read
returns-clause-read g c clean kept is =
    if_told operation_cells operation_back (λ v. map (λ b. b.items) v.items) c.operations_from.result c.deref.result.now kept.operations (c.deref.ensures.value ∙ c.in_ok-rows.ensures.shown clean kept is.now) c.operations_from.ensures.gives
