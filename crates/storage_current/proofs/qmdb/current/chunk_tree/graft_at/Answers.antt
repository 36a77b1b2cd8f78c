use Rattle.std.proofs.Common.{◌≡◌, ◌<◌, ◌≤◌, ◌*◌, ◌^◌, ℕ, length, arith, ◌∙◌, refl, pow_pos}
use Rattle.storage_merkle.specs.Laws.Hashing.{length-leaf_digests}
use Rattle.storage_merkle.specs.Kept.{kept_at}
use Rattle.storage_merkle.specs.Trees.{ungrafted, listed, tree_node}
use Rattle.storage_bitmap.specs.Chunks.{bit_count}
use Rattle.storage_current.specs.Laws.Grafting.{height_of_power}
use Rattle.storage_current.specs.Laws.Retained.{behind}
use Rattle.storage_current.specs.Snapshots.{Grafting, graftable}
use Rattle.storage_current.proofs.MemViews.{chunk_grafted, chunk_site, kept_is, told_bytes}
use Rattle.storage_current.proofs.Retaining.{pruned_behind}
use Rattle.storage_current.proofs.Roots.{kept_chunk}
use Rattle.storage_current.proofs.qmdb.current.chunk_tree.graft_at.Goals as goal

pub overflow_mul-index : goal.overflow_mul-index
overflow_mul-index g c =
    let S = g.F.Family.shape in
    let G : Grafting = record { shape = S; bytes = g.row.N } in
    let r = c.height-height.result in
    let level = height_of_power S g.row.N _ c.height-height.ensures.power in
    let s = chunk_site G g.met.F.Family.laws c.args.operations.now.leaves c.args.index
    (graftable G c.args.operations.now.leaves) r level refl c.requires.within in
    rw c.power.ensures (omega (arith, s.ends, c.requires.few))

pub position-requires-clause-aligned : goal.position-requires-clause-aligned
position-requires-clause-aligned g c =
    let S = g.F.Family.shape in
    let G : Grafting = record { shape = S; bytes = g.row.N } in
    let r = c.height-height.result in
    let level = height_of_power S g.row.N _ c.height-height.ensures.power in
    let s = chunk_site G g.met.F.Family.laws c.args.operations.now.leaves c.args.index
    (graftable G c.args.operations.now.leaves) r level refl c.requires.within in
    rw c.power.ensures s.aligned

pub position-requires-clause-fits : goal.position-requires-clause-fits
position-requires-clause-fits g c =
    let S = g.F.Family.shape in
    let G : Grafting = record { shape = S; bytes = g.row.N } in
    let r = c.height-height.result in
    let level = height_of_power S g.row.N _ c.height-height.ensures.power in
    let s = chunk_site G g.met.F.Family.laws c.args.operations.now.leaves c.args.index
    (graftable G c.args.operations.now.leaves) r level refl c.requires.within in
    rw c.power.ensures (omega (arith, s.before, c.requires.few))

pub unwrap-inner-requires : goal.unwrap-inner-requires
unwrap-inner-requires g c =
    let S = g.F.Family.shape in
    let G : Grafting = record { shape = S; bytes = g.row.N } in
    let r = c.height-height.result in
    let level = height_of_power S g.row.N _ c.height-height.ensures.power in
    let s = chunk_site G g.met.F.Family.laws c.args.operations.now.leaves c.args.index
    (graftable G c.args.operations.now.leaves) r level refl c.requires.within in
    let m = c.args.operations.now in
    let a : ℕ = c.args.index * 2 ^ r in
    let start : m.boundary ≤ a = pruned_behind G m c.args.status.now c.args.index r level c.requires.bits c.requires.kept in
    rw (c.get_node.ensures, c.new-position.ensures, c.position.ensures, c.power.ensures)
    (c.trees_keep_each_node_behind_their_boundary.ensures (S.position a r)
    (behind S g.met.F.Family.laws m.boundary a r s.aligned start) s.before)

pub get_chunk-requires : goal.get_chunk-requires
get_chunk-requires g c =
    let S = g.F.Family.shape in
    let G : Grafting = record { shape = S; bytes = g.row.N } in
    let r = c.height-height.result in
    let level = height_of_power S g.row.N _ c.height-height.ensures.power in
    let s = chunk_site G g.met.F.Family.laws c.args.operations.now.leaves c.args.index
    (graftable G c.args.operations.now.leaves) r level refl c.requires.within in
    let from : c.args.status.now.pruned ≤ c.args.index = c.requires.kept in
    let fits : c.args.index * (8 * g.row.N) < c.args.operations.now.leaves =
    rw c.height-height.ensures.power (omega (arith, s.ends, pow_pos r)) in
    let within : c.args.index * (8 * g.row.N) < bit_count g.row.N c.args.status.now =
    omega (arith, fits, c.requires.bits.all) in
    (omega arith, (omega (arith, c.requires.chunks.1), (from, within)))

pub returns : goal.returns
returns g c s rest over =
    let S = g.F.Family.shape in
    let L = g.met.F.Family.laws in
    let h = g.H.Hasher.hash_of in
    let text = g.H.Digest.Digest.text in
    let G : Grafting = record { shape = S; bytes = g.row.N } in
    let m = c.args.operations.now in
    let r = c.height-height.result in
    let i = c.args.index in
    let level = height_of_power S g.row.N _ c.height-height.ensures.power in
    let at = chunk_site G L m.leaves i (graftable G m.leaves) r level refl c.requires.within in
    let p : ℕ = S.position (i * 2 ^ r) r in
    let start : m.boundary ≤ i * 2 ^ r = pruned_behind G m c.args.status.now i r level c.requires.bits c.requires.kept in
    let read = rw (c.new-position.ensures, c.position.ensures, c.power.ensures) at c.get_node.ensures in
    let n : m.leaves ≡ length s.operations = over.count ∙ length-leaf_digests h (ungrafted S) 0 s.operations in
    let below : i < graftable G (length s.operations) = rw (← n) c.requires.within in
    let inner = told_bytes text c.get_node.result (kept_at S m.boundary m.pinned m.nodes p) c.unwrap-inner.result
    (tree_node h (ungrafted S) (listed s.operations) (i * 2 ^ r) r) read c.unwrap-inner.ensures
    (kept_is text h S L m c.trees_keep_the_nodes_of_their_list.ensures (record { few = c.requires.few; list = _; stands = over }) s.operations over p
    (i * 2 ^ r) r (record { aligned = at.aligned; at = refl }) (behind S L m.boundary (i * 2 ^ r) r at.aligned start)
    (rw (← n) at.before)) in
    chunk_grafted h G L s i i r c.get_chunk.result (text c.graft.result)
    (text c.unwrap-inner.result) level (omega (arith, c.height-height.ensures.low)) below c.graft.ensures
    (c.get_chunk.ensures ∙ kept_chunk g.row.N c.args.status.now s.bits rest i c.requires.kept) refl inner
