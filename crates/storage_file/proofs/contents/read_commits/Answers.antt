use Rattle.std.proofs.Common.{map, ◌∙◌}
use Rattle.storage_file.specs.Given.{commit_of}
use Rattle.storage_file.specs.Tables.{commit_cells}
use Rattle.storage_file.proofs.RowLemmas.{if_told, commit_back}
use Rattle.storage_file.proofs.contents.read_commits.Goals as goal

pub returns-clause-read : goal.returns-clause-read
returns-clause-read g c clean kept is =
    if_told commit_cells commit_back (λ v. map commit_of v.items) c.commits_from.result c.deref.result.now kept.commits (c.deref.ensures.value ∙ c.in_ok-rows.ensures.shown clean kept is.now) c.commits_from.ensures.gives
