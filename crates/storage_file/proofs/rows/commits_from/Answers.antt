use Rattle.std.proofs.Common.{rules, length, ◌≡◌, ◌∷◌, [], ◌++◌, map, take, inl, inr, subst, ap, sym, ◌∙◌, refl}
use Rattle.std.proofs.lemmas.Result.{err_from_is_err_and}
use Rattle.storage_file.specs.Given.{commit_of}
use Rattle.storage_file.specs.Tables.{commit_cells, shown, shown_from}
use Rattle.storage_file.proofs.RowLemmas.{next_row, stuck}
use Rattle.storage_file.proofs.rows.commits_from.Goals as goal

pub returns-in_err-commit-clause-why : goal.returns-in_err-commit-clause-why
returns-in_err-commit-clause-why c =
    let many : c.len.result ≡ length c.loop-row.commits.items = search rules in
    let p = err_from_is_err_and c.from_residual.result c.from_residual.ensures.1 in
    rw (p.1, p.2) (elim c.in_err-commit.ensures.why [
      | inl memory ↦ inl memory
      | inr bad ↦ inr (
        bad.0,
        stuck commit_cells commit_of c.args.rows.now c.loop-row.row-index c.row-item.result c.loop-row.commits.items c.loop-row-test.true c.row-item.is c.loop-row.invariant
            (λ x is. bad.1 x (is ∙ ap (λ n. shown commit_cells n x) (sym many))),
      )
    ])

pub loop-row-preserved : goal.loop-row-preserved
loop-row-preserved c =
    let many : c.len.result ≡ length c.loop-row.commits.items = search rules in
    let here : c.row-item.result ≡ shown commit_cells (length c.loop-row.commits.items) (commit_of c.in_ok-commit.commit) = c.in_ok-commit.ensures.gives ∙ ap (λ n. shown commit_cells n (commit_of c.in_ok-commit.commit)) many in
    next_row commit_cells commit_of c.args.rows.now c.loop-row.row-index c.row-item.result c.loop-row.commits.items c.loop-row-test.true c.row-item.is c.loop-row.invariant c.in_ok-commit.commit here
    ∙ ap (λ items. shown_from commit_cells 0 (map commit_of items)) (sym c.in_ok-push.ensures.items)
