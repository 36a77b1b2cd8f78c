use Rattle.std.proofs.Common.{rules, length, ◌≡◌, ◌∷◌, [], ◌++◌, map, take, inl, inr, subst, ap, sym, ◌∙◌, refl}
use Rattle.std.proofs.lemmas.Result.{err_from_is_err_and}
use Rattle.storage_file.specs.Given.{commit_of}
use Rattle.storage_file.specs.Tables.{operation_cells, shown, shown_from}
use Rattle.storage_file.proofs.RowLemmas.{next_row, stuck}
use Rattle.storage_file.proofs.rows.operations_from.Goals as goal

pub returns-in_err-bytes-clause-why : goal.returns-in_err-bytes-clause-why
returns-in_err-bytes-clause-why c =
    let many : c.len.result ≡ length c.loop-row.operations.items = search rules in
    let p = err_from_is_err_and c.from_residual.result c.from_residual.ensures.1 in
    rw (p.1, p.2) (elim c.in_err-bytes.ensures.why [
      | inl memory ↦ inl memory
      | inr bad ↦ inr (
        bad.0,
        stuck operation_cells (λ b. b.items) c.args.rows.now c.loop-row.row-index c.row-item.result c.loop-row.operations.items c.loop-row-test.true c.row-item.is c.loop-row.invariant
            (λ x is. bad.1 x (is ∙ ap (λ n. shown operation_cells n x) (sym many))),
      )
    ])

pub loop-row-preserved : goal.loop-row-preserved
loop-row-preserved c =
    let many : c.len.result ≡ length c.loop-row.operations.items = search rules in
    let here : c.row-item.result ≡ shown operation_cells (length c.loop-row.operations.items) c.in_ok-bytes.bytes.items = c.in_ok-bytes.ensures.gives ∙ ap (λ n. shown operation_cells n c.in_ok-bytes.bytes.items) many in
    next_row operation_cells (λ b. b.items) c.args.rows.now c.loop-row.row-index c.row-item.result c.loop-row.operations.items c.loop-row-test.true c.row-item.is c.loop-row.invariant c.in_ok-bytes.bytes here
    ∙ ap (λ items. shown_from operation_cells 0 (map (λ b. b.items) items)) (sym c.in_ok-push.ensures.items)
