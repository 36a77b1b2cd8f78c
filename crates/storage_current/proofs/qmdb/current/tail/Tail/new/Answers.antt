use Rattle.std.proofs.Common.{◌≤◌, ◌^◌, map, arith, rules}
use Rattle.storage_bitmap.specs.Chunks.{IsChunkSize}
use Rattle.storage_current.specs.KeptTrees.{ArePruned}
use Rattle.storage_current.specs.Snapshots.{Grafting}
use Rattle.storage_current.proofs.Tails.{own_trees, trees_pinned, trees_pruned}
use Rattle.storage_current.proofs.qmdb.current.tail.Tail.new.Goals as goal

pub grafts_behind-requires : goal.grafts_behind-requires
grafts_behind-requires g c =
    let G : Grafting = record { shape = g.F.Family.shape; bytes = g.row.N } in
    let status = c.args.status.now in
    let fit = c.do_fit.ensures.exact.0 c.if-not-do_fit.false in
    let place = c.in_ok-tree.ensures.place in
    let size : IsChunkSize g.row.N = c.do_fit.ensures.size in
    let bits : ArePruned G c.in_ok-tree.tree status = trees_pruned G size _ _ _ status fit c.in_ok-tree.tree
    (rw c.pruned_bits.ensures at place.0) (rw c.pruned_bits.ensures at place.1) in
    let few : c.in_ok-tree.tree.leaves ≤ 2 ^ 62 = omega (arith, bits.all, fit.few) in
    search rules

pub returns-in-Ok-clause-exact : goal.returns-in-Ok-clause-exact
returns-in-Ok-clause-exact g c =
    let G : Grafting = record { shape = g.F.Family.shape; bytes = g.row.N } in
    let status = c.args.status.now in
    let fit = c.do_fit.ensures.exact.0 c.if-not-do_fit.false in
    let place = c.in_ok-tree.ensures.place in
    let size : IsChunkSize g.row.N = c.do_fit.ensures.size in
    let bits : ArePruned G c.in_ok-tree.tree status = trees_pruned G size _ _ _ status fit c.in_ok-tree.tree
    (rw c.pruned_bits.ensures at place.0) (rw c.pruned_bits.ensures at place.1) in (
      fit,
      trees_pinned G c.args.pins.now c.args.over_chunks.now c.in_ok-grafts.grafts.items status c.in_ok-tree.tree c.in-Ok.chunks bits
          place.2 fit.chunk_pin_each c.in_ok-grafts.ensures.count (rw c.pruned_chunks-pruned.ensures.value at c.in-Ok.ensures.kept),
    )

pub returns-in-Ok-clause-own : goal.returns-in-Ok-clause-own
returns-in-Ok-clause-own g c s snapshot parts =
    let text = g.H.Digest.Digest.text in
    let G : Grafting = record { shape = g.F.Family.shape; bytes = g.row.N } in
    let status = c.args.status.now in
    let fit = c.do_fit.ensures.exact.0 c.if-not-do_fit.false in
    let place = c.in_ok-tree.ensures.place in
    let size : IsChunkSize g.row.N = c.do_fit.ensures.size in
    let bits : ArePruned G c.in_ok-tree.tree status = trees_pruned G size _ _ _ status fit c.in_ok-tree.tree
    (rw c.pruned_bits.ensures at place.0) (rw c.pruned_bits.ensures at place.1) in
    own_trees text g.H.Hasher.hash_of G g.met.F.Family.laws s snapshot c.args.pins.now c.args.over_chunks.now
    c.in_ok-grafts.grafts.items (map g.E.AsSlice.items c.args.operations.now) status parts c.in_ok-tree.tree c.in-Ok.chunks bits
    (rw c.pruned_bits.ensures at c.in_ok-tree.ensures.over) fit.chunk_pin_each c.in_ok-grafts.ensures.count
    (λ rest over. c.in_ok-grafts.ensures.own s rest over) (rw c.pruned_chunks-pruned.ensures.value at c.in-Ok.ensures.stands)
