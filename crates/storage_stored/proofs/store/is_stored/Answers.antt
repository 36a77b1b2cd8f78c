use Rattle.std.proofs.Common.{subst}
use Rattle.std.specs.Prelude.{◌↔◌, IsTrue}
use Rattle.storage_current.specs.Snapshots.{Grafting, grafting_of}
use Rattle.storage_file.specs.Given.{commit_of}
use Rattle.storage_stored.specs.Stored.{IsLastRow}
use Rattle.storage_stored.proofs.LastRows.{last_is}
use Rattle.storage_stored.proofs.Lists.{lists_told}
use Rattle.storage_stored.proofs.store.is_stored.Goals as goal

pub returns : goal.returns
returns g c =
    let h = g.H.Hasher.hash_of in
    let gr : Grafting = grafting_of g.F.Family.shape g.row.N in
    λ d keeps all lists operations commits.
    let same = last_is commit_of c.args.commits.now lists.commits c.last.result c.last.ensures.value commits in
    lists_told h gr lists d c.is_last_row.result all operations (subst (λ r. IsTrue c.is_last_row.result ↔ IsLastRow h gr r d.last) same (c.is_last_row.ensures d keeps all))
