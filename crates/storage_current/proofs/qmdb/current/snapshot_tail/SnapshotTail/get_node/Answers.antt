use Rattle.std.proofs.Common.{◌≡◌, ◌<◌, ap, sym, arith, ◌∙◌}
use Rattle.std.specs.Option.{option_map}
use Rattle.storage_merkle.specs.Shape.{size}
use Rattle.storage_current.specs.Laws.Grafting.{height_of_power}
use Rattle.storage_current.specs.SnapshotTails.{AreOfSnapshot}
use Rattle.storage_current.specs.Snapshots.{Grafting, IsGrafting, height}
use Rattle.storage_current.proofs.Retaining.{boundary_is}
use Rattle.storage_current.proofs.Roots.{none_there}
use Rattle.storage_current.proofs.SnapshotTails.{left_told, seen_told, tail_past, tail_told}
use Rattle.storage_current.specs.WitnessWire.{witness_of}
use Rattle.storage_current.proofs.qmdb.current.snapshot_tail.SnapshotTail.get_node.Goals as goal

pub pruned_bits-pruned-requires : goal.pruned_bits-pruned-requires
pruned_bits-pruned-requires g c =
    let kept = c.self.invariant in
    (omega (arith, kept.sized.1), (kept.sized, omega (arith, kept.pruned.all, kept.few)))

pub height-height-requires : goal.height-height-requires
height-height-requires g c = c.self.invariant.sized

pub view_digest-requires-clause-boundary : goal.view_digest-requires-clause-boundary
view_digest-requires-clause-boundary g c =
    let G : Grafting = record { shape = g.F.Family.shape; bytes = g.row.N } in
    let kept = c.self.invariant in
    boundary_is G c.self.inside.operations c.self.inside.status kept.sized kept.pruned ∙ sym c.pruned_bits-pruned.ensures

pub view_digest-requires-clause-few : goal.view_digest-requires-clause-few
view_digest-requires-clause-few g c =
    omega (arith, c.pruned_bits-pruned.ensures, c.self.invariant.pruned.all, c.self.invariant.few)

pub returns-clause-value : goal.returns-clause-value
returns-clause-value g c =
    let S = g.F.Family.shape in
    let text = g.H.Digest.Digest.text in
    let G : Grafting = record { shape = S; bytes = g.row.N } in
    let it = c.self.inside in
    let level : height G ≡ c.height-height.result = height_of_power S g.row.N _ c.height-height.ensures.power in
    rw (← c.self.view_is) (ap (option_map text) (rw (← level) at c.view_digest.ensures)
    ∙ seen_told text S (height G) it.operations it.chunks it.status it.floor (text it.ops_root) (text it.root)
    (witness_of text it.witness) c.args.position)

pub returns-clause-there : goal.returns-clause-there
returns-clause-there g c = λ s snapshot stands below first own node left.
    let S = g.F.Family.shape in
    let L = g.met.F.Family.laws in
    let text = g.H.Digest.Digest.text in
    let h = g.H.Hasher.hash_of in
    let G : Grafting = record { shape = S; bytes = g.row.N } in
    let it = c.self.inside in
    let trees = c.self.invariant in
    let grafting : IsGrafting G = record { laws = L; size = trees.sized } in
    let level : height G ≡ c.height-height.result = height_of_power S g.row.N _ c.height-height.ensures.power in
    let before = rw (← c.self.view_is) at stands in
    let here = rw (← c.self.view_is) at left in
    let of : AreOfSnapshot text h G it.operations it.chunks it.status s =
    tail_told text h G L it.operations it.chunks it.status trees s it.floor (text it.ops_root) (text it.root)
    (witness_of text it.witness) before in
    let within : c.args.position < size S it.operations.leaves = rw before.operations.leaves below in
    ap (option_map text) (rw (← level) at c.view_digest.ensures)
    ∙ left_told G L it.operations it.chunks it.status trees (g.met.F.Graftable.keeps_pace (height G))
    c.trees_keep_each_node_behind_their_boundary.ensures c.trees_keep_each_node_behind_their_boundary-2.ensures text h grafting
    c.trees_keep_the_nodes_of_their_list.ensures c.trees_keep_the_nodes_of_their_list-2.ensures s snapshot of c.args.position first own
    node within here

pub returns-clause-past : goal.returns-clause-past
returns-clause-past g c = λ s stands past.
    let S = g.F.Family.shape in
    let G : Grafting = record { shape = S; bytes = g.row.N } in
    none_there g.H.Digest.Digest.text c.view_digest.result
    (returns-clause-value g c ∙ tail_past S g.met.F.Family.laws (height G) c.args.self.now c.args.position
    (rw stands.operations.leaves past))
