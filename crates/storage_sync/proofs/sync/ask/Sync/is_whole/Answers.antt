use Rattle.std.proofs.Common.{◌≡◌, ◌↔◌, ◌==◌, ◌+◌, ◌*◌, ℕ, IsTrue, map, length, subst, arith}
use Rattle.std.proofs.lemmas.List.{length-map}
use Rattle.storage_sync.specs.Syncs.{Taken, IsWhole}
use Rattle.storage_sync.proofs.States.{whole_here}
use Rattle.storage_sync.proofs.sync.ask.Sync.is_whole.Goals as goal

pub returns-in-Some : goal.returns-in-Some
returns-in-Some g c =
    let i = c.self.inside in
    let next : ℕ = i.status.pruned * (8 * g.row.N) + length (map (λ o. o.items) i.operations.items) in
    let count : c.len.result ≡ next =
    omega (arith, c.len.ensures.value, c.self.invariant.bit_each, length-map i.operations.items (λ o. o.items)) in
    subst (λ (t : Taken). IsTrue (c.as_u64.result == c.len.result) ↔ IsWhole t) c.self.view_is
    (whole_here i.leaves c.in-Some.leaves c.as_u64.result c.len.result next c.in-Some.is c.as_u64.ensures count)
