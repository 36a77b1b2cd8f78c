use Rattle.std.proofs.Common.{◌≡◌, ℕ, ◌≤◌, arith, length, ap, ap₂, ◌∙◌, sym}
use Rattle.std.specs.Option.{option_map}
use Rattle.storage_merkle.specs.Laws.Hashing.{length-leaf_digests}
use Rattle.storage_merkle.specs.Hashing.{leaf_digests}
use Rattle.storage_merkle.specs.Trees.{listed, tree_root, ungrafted}
use Rattle.storage_merkle.specs.declared.merkle.bagging.Bagging.TheVariants.{BackwardFold}
use Rattle.storage_current.specs.Grafted.{grafted_over}
use Rattle.storage_current.specs.Laws.Grafting.{height_of_power}
use Rattle.storage_current.specs.Snapshots.{Grafting, height, graftable, graftable_at, view, content, exact_of, aligned_of, ops_root_of, grafted_root_of, pending_of, partial_of}
use Rattle.storage_current.proofs.Heights.{whole_within, rest_within}
use Rattle.storage_current.proofs.Retaining.{boundary_is}
use Rattle.storage_current.proofs.Roots.{AreCounts, counts_at, exact_count, aligned_count, pending_kept, partial_kept, canonical_from, root_kept}
use Rattle.storage_current.proofs.SnapshotTails.{trees_had}
use Rattle.storage_current.proofs.WitnessWritten.{witness_from}
use Rattle.storage_current.proofs.qmdb.current.roots.Roots.over_trees.Goals as goal

pub pending-requires : goal.pending-requires
pending-requires g c =
    let S = g.F.Family.shape in
    let G : Grafting = record { shape = S; bytes = g.row.N } in
    let level : height G ≡ c.height-height.result = height_of_power S g.row.N _ c.height-height.ensures.power in
    let same : c.len-leaves.result ≡ c.args.operations.now.leaves = c.len-leaves.ensures.value ∙ c.requires.trees.pruned.all in
    let all : c.over-counts.result.graftable ≡ graftable G c.args.operations.now.leaves =
    c.over-counts.ensures.graftable ∙ ap₂ (graftable_at S) (sym level) same in
    let few : c.args.status.now.pruned ≤ c.over-counts.result.graftable = omega (arith, all, c.requires.trees.pruned.few) in (
      omega (arith, c.requires.trees.sized.1),
      (
        c.requires.trees.sized,
        (
          few,
          whole_within g.row.N c.height-height.result c.len-leaves.result c.over-counts.result.complete _
              c.height-height.ensures.power c.over-counts.ensures.complete c.len-leaves.ensures.value,
        ),
      ),
    )

pub partial-requires : goal.partial-requires
partial-requires g c =
    let S = g.F.Family.shape in
    let G : Grafting = record { shape = S; bytes = g.row.N } in
    let level : height G ≡ c.height-height.result = height_of_power S g.row.N _ c.height-height.ensures.power in
    let same : c.len-leaves.result ≡ c.args.operations.now.leaves = c.len-leaves.ensures.value ∙ c.requires.trees.pruned.all in
    let all : c.over-counts.result.graftable ≡ graftable G c.args.operations.now.leaves =
    c.over-counts.ensures.graftable ∙ ap₂ (graftable_at S) (sym level) same in
    let few : c.args.status.now.pruned ≤ c.over-counts.result.complete =
    omega (arith, all, c.requires.trees.pruned.few, c.over-counts.ensures.within) in (
      omega (arith, c.requires.trees.sized.1),
      (
        few,
        rest_within g.row.N c.height-height.result c.len-leaves.result c.over-counts.result.complete
            c.over-counts.result.next_bit _ c.height-height.ensures.power c.over-counts.ensures.complete
            c.over-counts.ensures.next_bit c.len-leaves.ensures.value,
      ),
    )

pub pruned_bits-requires : goal.pruned_bits-requires
pruned_bits-requires g c = (
  omega (arith, c.requires.trees.sized.1),
  (c.requires.trees.sized, omega (arith, c.requires.trees.pruned.all, c.requires.trees.few)),
)

pub view_root-grafted_root-requires-clause-boundary : goal.view_root-grafted_root-requires-clause-boundary
view_root-grafted_root-requires-clause-boundary g c =
    let G : Grafting = record { shape = g.F.Family.shape; bytes = g.row.N } in
    boundary_is G c.args.operations.now c.args.status.now c.requires.trees.sized c.requires.trees.pruned
    ∙ sym c.pruned_bits.ensures

pub view_root-grafted_root-requires-clause-within : goal.view_root-grafted_root-requires-clause-within
view_root-grafted_root-requires-clause-within g c =
    omega (arith, c.pruned_bits.ensures, c.requires.trees.pruned.all)

pub view_root-grafted_root-requires-clause-had : goal.view_root-grafted_root-requires-clause-had
view_root-grafted_root-requires-clause-had g c =
    let S = g.F.Family.shape in
    let G : Grafting = record { shape = S; bytes = g.row.N } in
    let level = height_of_power S g.row.N c.height-height.result c.height-height.ensures.power in
    rw (← level) (trees_had G g.met.F.Family.laws c.args.operations.now c.args.chunks.now c.args.status.now c.requires.trees
    (g.met.F.Graftable.keeps_pace (height G)) c.trees_keep_each_node_behind_their_boundary.ensures
    c.trees_keep_each_node_behind_their_boundary-2.ensures)

pub returns : goal.returns
returns g c s rest floor over nodes =
    let S = g.F.Family.shape in
    let h = g.H.Hasher.hash_of in
    let text = g.D.Digest.text in
    let G : Grafting = record { shape = S; bytes = g.row.N } in
    let m = c.args.operations.now in
    let status = c.args.status.now in
    let r = c.height-height.result in
    let leaves : ℕ = c.len-leaves.result in
    let level : height G ≡ r = height_of_power S g.row.N r c.height-height.ensures.power in
    let n : m.leaves ≡ length s.operations = over.count ∙ length-leaf_digests h (ungrafted S) 0 s.operations in
    let same : leaves ≡ m.leaves = c.len-leaves.ensures.value ∙ c.requires.trees.pruned.all in
    let count : length s.operations ≡ leaves = sym (same ∙ n) in
    let counts : AreCounts G
    (length s.operations) c.over-counts.result.complete c.over-counts.result.graftable c.over-counts.result.next_bit =
    rw count (counts_at G r leaves _ _ _ level c.over-counts.ensures.complete
    c.over-counts.ensures.graftable c.over-counts.ensures.next_bit) in
    let few : status.pruned ≤ c.over-counts.result.graftable =
    omega (arith, c.over-counts.ensures.graftable ∙ ap₂ (graftable_at S) (sym level) same, c.requires.trees.pruned.few) in
    let exact : c.exact_inactive-exact.result ≡ exact_of h G s =
    exact_count h G s _ (rw (count, floor, ← c.as_u64.ensures) c.exact_inactive-exact.ensures) in
    let aligned : c.chunk_aligned_inactive_peaks-aligned.result ≡ aligned_of h G s = aligned_count h G s r _
    level (rw (count, floor, ← c.as_u64-2.ensures) c.chunk_aligned_inactive_peaks-aligned.ensures) in
    let read = rw c.unwrap-ops_root.ensures at c.root.ensures.root in
    let ops_root : text c.unwrap-ops_root.result ≡ ops_root_of h G s =
    root_kept h S g.met.F.Family.laws s.operations c.exact_inactive-exact.result c.hasher.result.bagging _ c.hasher.ensures
    (read (leaf_digests h (ungrafted S) 0 s.operations) over)
    ∙ ap (tree_root h (ungrafted S) BackwardFold (listed s.operations)) exact in
    let bagged = rw (← level) at c.view_root-grafted_root.ensures in
    let grafted_root : text c.view_root-grafted_root.result ≡ grafted_root_of h G s =
    bagged (grafted_over (height G) (graftable G (length s.operations))) (content h G s) (sym n) nodes
    ∙ ap (tree_root h (view G (length s.operations)) BackwardFold (content h G s)) aligned in
    let pending : option_map text c.chunk_digest-pending.result ≡ option_map h (pending_of h G s) =
    c.chunk_digest-pending.ensures ∙ ap (option_map h) (pending_kept h G s status rest _ _ _ counts
    c.pending.result few c.pending.ensures) in
    let partial : option_map text c.chunk_digest-partial.result ≡ option_map h (partial_of h G s) =
    c.chunk_digest-partial.ensures ∙ ap (option_map h) (partial_kept h G s status rest _ _ _ counts
    c.partial.result (omega (arith, few, c.over-counts.ensures.within)) c.partial.ensures) in
    record {
      ops_root = ops_root;
      root = canonical_from h G s _ _ _ _ _ _ ops_root grafted_root pending counts.next_is partial
          c.canonical_root-canonical.ensures;
      witness = witness_from h G s _ _ _ _ _ c.of.ensures grafted_root pending counts.next_is partial;
    }
