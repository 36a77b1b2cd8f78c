use Rattle.std.proofs.Common.{◌≡◌, ap, sym, arith, ◌∙◌}
use Rattle.std.specs.Option.{option_map}
use Rattle.storage_current.specs.Laws.Grafting.{height_of_power}
use Rattle.storage_current.specs.Snapshots.{Grafting, height}
use Rattle.storage_current.proofs.NodeLists.{list_told}
use Rattle.storage_current.proofs.Roots.{none_there}
use Rattle.storage_current.proofs.Retaining.{boundary_is}
use Rattle.storage_current.proofs.qmdb.current.snapshot.Snapshot.get_node.Goals as goal

pub height-requires : goal.height-requires
height-requires g c = c.self.invariant.sized

pub returns-clause-value : goal.returns-clause-value
returns-clause-value g c =
    let S = g.F.Family.shape in
    let text = g.H.Digest.Digest.text in
    let G : Grafting = record { shape = S; bytes = g.row.N } in
    let level : height G ≡ c.height.result = height_of_power S g.row.N _ c.height.ensures.power in
    rw (← c.self.view_is) (ap (option_map text) (rw (← level) at c.view_digest.ensures)
    ∙ sym (list_told text S g.met.F.Family.laws (height G) c.self.inside.operations c.self.inside.chunks c.args.position))

pub returns-clause-there : goal.returns-clause-there
returns-clause-there g c s stands below first own node retained =
    returns-clause-value g c ∙ stands.nodes.are c.args.position first own node below retained

pub returns-clause-forgotten : goal.returns-clause-forgotten
returns-clause-forgotten g c s stands below first own node gone =
    none_there g.H.Digest.Digest.text c.view_digest.result
    (returns-clause-value g c ∙ stands.nodes.forgotten c.args.position first own node below gone)

pub returns-clause-past : goal.returns-clause-past
returns-clause-past g c s stands past =
    none_there g.H.Digest.Digest.text c.view_digest.result (returns-clause-value g c ∙ stands.nodes.past c.args.position past)

pub pruned_bits-pruned-requires : goal.pruned_bits-pruned-requires
pruned_bits-pruned-requires g c =
    let kept = c.self.invariant in
    (omega (arith, kept.sized.1), (kept.sized, omega (arith, kept.pruned.all, kept.grown.few)))

pub view_digest-requires-clause-boundary : goal.view_digest-requires-clause-boundary
view_digest-requires-clause-boundary g c =
    let G : Grafting = record { shape = g.F.Family.shape; bytes = g.row.N } in
    let kept = c.self.invariant in
    boundary_is G c.self.inside.operations c.self.inside.status kept.sized kept.pruned ∙ sym c.pruned_bits-pruned.ensures

pub view_digest-requires-clause-few : goal.view_digest-requires-clause-few
view_digest-requires-clause-few g c =
    omega (arith, c.pruned_bits-pruned.ensures, c.self.invariant.pruned.all, c.self.invariant.grown.few)
