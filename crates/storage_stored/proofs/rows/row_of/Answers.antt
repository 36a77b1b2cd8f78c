use Rattle.std.proofs.Common.{ap, Some, ◌∙◌}
use Rattle.storage_current.specs.Snapshots.{Grafting, grafting_of}
use Rattle.storage_stored.proofs.LastRows.{row_is}
use Rattle.storage_stored.proofs.rows.row_of.Goals as goal

pub returns : goal.returns
returns g c =
    let h = g.H.Hasher.hash_of in
    let gr : Grafting = grafting_of g.F.Family.shape g.row.N in
    λ d keeps all. row_is h gr d.last d.operations _ all (c.location_of.ensures d keeps) (ap Some c.as_u64.ensures ∙ c.in-Some.ensures d keeps)
    (ap Some (c.in_ok-from_slice.ensures.items ∙ c.bytes.ensures) ∙ c.in-Some-root.ensures d keeps)
