use Rattle.std.proofs.Common.{◌∙◌}
use Rattle.storage_current.proofs.Fetching.{got, missed}
use Rattle.storage_current.proofs.Roots.{get_copied}
use Rattle.storage_current.proofs.qmdb.current.proof.planned_digests.Fetched.get.Goals as goal

pub returns-in-Ok : goal.returns-in-Ok
returns-in-Ok g c = λ node up same has.
    let copied = c.copied.ensures ∙ get_copied c.deref-in-Ok.result.now c.in-Ok.index c.get.result
    c.get.ensures.lookup.0 c.get.ensures.lookup.1 in
    got node c.deref.result.now c.deref-in-Ok.result.now c.args.position c.in-Ok.index c.binary_search.result
    c.copied.result c.binary_search.ensures.position c.in-Ok.is copied
    (rw c.deref.ensures.value up) (rw (c.deref-in-Ok.ensures.value, c.deref.ensures.value) same)

pub returns-in-Err : goal.returns-in-Err
returns-in-Err g c =
    λ node up same has. absurd (missed c.deref.result.now c.args.position c.in-Err.field-0 c.binary_search.result
    c.binary_search.ensures.position c.in-Err.is (rw c.deref.ensures.value up) (rw c.deref.ensures.value has))
