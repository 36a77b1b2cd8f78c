use Rattle.std.proofs.Common.{◌≡◌, ◌≤◌, ◌∙◌, ℕ, List, length, ap, subst, sym, arith}
use Rattle.storage_merkle.specs.Kept.{kept_at}
use Rattle.storage_merkle.specs.Laws.Hashing.{length-leaf_digests}
use Rattle.storage_merkle.specs.Shape.{size}
use Rattle.storage_merkle.specs.Trees.{ungrafted}
use Rattle.storage_current.specs.NodeLists.{ArePeaksHad}
use Rattle.storage_current.specs.Pins.{HavePins, IsRootOfTrue, had_of_view}
use Rattle.storage_current.specs.Snapshots.{Grafting, IsGrafting, graftable, grafted_root_of, height}
use Rattle.storage_current.proofs.Tails.{had_true, peaks_had, root_had}
use Rattle.storage_current.proofs.qmdb.current.tail.Tail.grafted_root.Goals as goal

pub returns-clause-own : goal.returns-clause-own
returns-clause-own g c s snapshot of place have floor =
    let S = g.F.Family.shape in
    let h = g.H.Hasher.hash_of in
    let text = g.H.Digest.Digest.text in
    let digest = g.H.Hasher.digest_of in
    let G : Grafting = record { shape = S; bytes = g.row.N } in
    let grafting : IsGrafting G = record { laws = g.met.F.Family.laws; size = c.requires.size } in
    let pace = g.met.F.Graftable.keeps_pace (height G) in
    let m = c.args.self.now.operations in
    let t = c.args.self.now.chunks in
    let below = kept_at S m.boundary m.pinned m.nodes in
    let count : m.leaves ≡ length s.operations = of.over.count ∙ length-leaf_digests h (ungrafted S) 0 s.operations in
    let total : graftable G m.leaves ≡ graftable G (length s.operations) = ap (graftable G) count in
    let had = had_of_view digest text G m.leaves t below in
    let peaks : ArePeaksHad S m.leaves had = peaks_had digest text G grafting pace t below m.leaves c.requires.few
    c.is_whole.ensures.pins (omega (arith, of.keeps.count, of.grafted.count, total))
    (subst (λ (n : ℕ). HavePins G n t.pruned) (sym count) have)
    (λ p from within. c.trees_keep_each_node_behind_their_boundary.ensures p
    (subst (λ (b : ℕ). size S b ≤ p) (sym place) from) within) in
    root_had text c.grafted_root.result (ArePeaksHad S m.leaves had)
    (λ (root : List ℕ). IsRootOfTrue h text G m.leaves c.args.floor had root) (grafted_root_of h G s) peaks
    (λ root is. is s snapshot count floor (had_true digest text G grafting pace t below h g.met.H.Hasher.told s snapshot m
    c.trees_keep_the_nodes_of_their_list.ensures of m.leaves count))
    (rw c.leaves-leaves.ensures at c.grafted_root.ensures.had) (rw c.leaves-leaves.ensures at c.grafted_root.ensures.own)

pub returns-clause-bound : goal.returns-clause-bound
returns-clause-bound g c = rw c.leaves-leaves.ensures at c.grafted_root.ensures.bound
