use Rattle.std.proofs.Common.{ap, Some, ◌∙◌}
use Rattle.storage_current.specs.Snapshots.{Grafting, grafting_of}
use Rattle.storage_file.specs.Given.{commit_of}
use Rattle.storage_stored.proofs.LastRows.{none_told, floor_told, root_told, row_told}
use Rattle.storage_stored.proofs.rows.is_last_row.Goals as goal

pub returns-in_default : goal.returns-in_default
returns-in_default g c =
    let h = g.H.Hasher.hash_of in
    let gr : Grafting = grafting_of g.F.Family.shape g.row.N in
    λ d keeps all. rw c.in_default.is (none_told h gr c.floor.result c.is_none.result d.last (c.floor.ensures d keeps) c.is_none.ensures)

pub returns-in_default-floor : goal.returns-in_default-floor
returns-in_default-floor g c =
    let h = g.H.Hasher.hash_of in
    let gr : Grafting = grafting_of g.F.Family.shape g.row.N in
    λ d keeps all. rw c.in-Some.is (floor_told h gr d.last (commit_of c.in-Some.row.now) (c.in_default-floor.ensures d keeps))

pub returns-in_default-root : goal.returns-in_default-root
returns-in_default-root g c =
    let h = g.H.Hasher.hash_of in
    let gr : Grafting = grafting_of g.F.Family.shape g.row.N in
    λ d keeps all. rw c.in-Some.is (root_told h gr d.last (commit_of c.in-Some.row.now) (c.in_default-root.ensures d keeps))

pub returns : goal.returns
returns g c =
    let h = g.H.Hasher.hash_of in
    let gr : Grafting = grafting_of g.F.Family.shape g.row.N in
    λ d keeps all. rw c.in-Some.is (row_told h gr d.last d.operations (commit_of c.in-Some.row.now) c.says.result _ _ _ all (c.location_of.ensures d keeps)
    (ap Some c.as_u64.ensures ∙ c.in-Some-floor.ensures d keeps) (ap Some c.bytes.ensures ∙ c.in-Some-root.ensures d keeps) (c.says.ensures.yes, c.says.ensures.no))
