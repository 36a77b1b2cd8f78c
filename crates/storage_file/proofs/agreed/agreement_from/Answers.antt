use Rattle.std.proofs.Common.{◌≡◌, length, pos, rules}
use Rattle.sqlite.specs.Order.{column}
use Rattle.sqlite.specs.declared.types.Value.TheVariants.{Int}
use Rattle.storage_file.specs.Tables.{layout_version}
use Rattle.storage_file.proofs.AgreedLemmas.{row_of_seven}
use Rattle.storage_file.proofs.agreed.agreement_from.Goals as goal

pub returns-clause-gives : goal.returns-clause-gives
returns-clause-gives c =
    let row = c.args.row.now in
    let count : length row ≡ 7 = search rules in
    let number : column row 0 ≡ Int (pos 0) = search rules in
    let version : column row 1 ≡ Int (pos layout_version) = search rules in
    row_of_seven row count _ _ _ _ _ _ _ number version c.in_ok-text.ensures.ok c.in_ok-text-2.ensures.ok c.in_ok-cell.ensures.ok
    c.in_ok-text-3.ensures.ok c.in_ok-text-4.ensures.ok
