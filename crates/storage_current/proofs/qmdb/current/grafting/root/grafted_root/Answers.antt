use Rattle.std.proofs.Common.{◌≡◌, ◌≤◌, ℕ, length, map, sym, ap, ◌∙◌, arith}
use Rattle.storage_merkle.specs.Hashing.{root_of}
use Rattle.storage_merkle.specs.Inactive.{IsAligned}
use Rattle.storage_merkle.specs.Trees.{ungrafted}
use Rattle.storage_current.specs.Laws.Grafting.{aligned_is, height_of_power}
use Rattle.storage_current.specs.Pins.{had_of_view}
use Rattle.storage_current.specs.Snapshots.{Grafting, IsGrafting, aligned, height}
use Rattle.storage_current.proofs.PinMeanings.{bound_root, own_root}
use Rattle.storage_current.proofs.qmdb.current.grafting.root.grafted_root.Goals as goal

pub returns-in_default-clause-had : goal.returns-in_default-clause-had
returns-in_default-clause-had g c =
    let G : Grafting = record { shape = g.F.Family.shape; bytes = g.row.N } in
    let level : height G ≡ c.height-height.result =
    height_of_power g.F.Family.shape g.row.N c.height-height.result c.height-height.ensures.power in
    let e = rw (c.in_default.is, c.as_u64-count.ensures, ← level) at c.in_ok-peaks.ensures in
    e

pub returns-clause-had : goal.returns-clause-had
returns-clause-had g c =
    let G : Grafting = record { shape = g.F.Family.shape; bytes = g.row.N } in
    let level : height G ≡ c.height-height.result =
    height_of_power g.F.Family.shape g.row.N c.height-height.result c.height-height.ensures.power in
    let e = rw (c.in-Some.is, c.as_u64-count.ensures, ← level) at c.in_ok-peaks.ensures in
    e.0

pub returns-clause-own : goal.returns-clause-own
returns-clause-own g c =
    let S = g.F.Family.shape in
    let h = g.H.Hasher.hash_of in
    let text = g.H.Digest.Digest.text in
    let G : Grafting = record { shape = S; bytes = g.row.N } in
    let n : ℕ = c.args.leaves in
    let i : ℕ = c.chunk_aligned_inactive_peaks-inactive.result in
    let level : height G ≡ c.height-height.result =
    height_of_power S g.row.N c.height-height.result c.height-height.ensures.power in
    let e = rw (c.in-Some.is, c.as_u64-count.ensures, ← level) at c.in_ok-peaks.ensures in
    let counted : IsAligned S n c.args.floor (height G) i =
    rw (c.as_u64-count.ensures, c.as_u64.ensures, ← level) at c.chunk_aligned_inactive_peaks-inactive.ensures in
    let is : text c.root.result ≡ root_of h (ungrafted S) c.hasher.result.bagging n i (map text c.in-Some.peaks.items) =
    c.root.ensures ∙ ap (λ xs. root_of h (ungrafted S) c.hasher.result.bagging n i (map text xs)) c.deref.ensures.value in
    own_root text h G g.met.F.Family.laws n c.args.floor i (aligned_is S n c.args.floor (height G) i counted)
    c.hasher.result.bagging c.hasher.ensures (map text c.in-Some.peaks.items) (text c.root.result) is
    (had_of_view g.H.Hasher.digest_of text G n c.args.grafted_tree.now (g.S.Readable.node c.args.ops_tree.now)) e.0 e.2

pub returns-clause-bound : goal.returns-clause-bound
returns-clause-bound g c width within =
    let S = g.F.Family.shape in
    let h = g.H.Hasher.hash_of in
    let text = g.H.Digest.Digest.text in
    let G : Grafting = record { shape = S; bytes = g.row.N } in
    let n : ℕ = c.args.leaves in
    let i : ℕ = c.chunk_aligned_inactive_peaks-inactive.result in
    let level : height G ≡ c.height-height.result =
    height_of_power S g.row.N c.height-height.result c.height-height.ensures.power in
    let e = rw (c.in-Some.is, c.as_u64-count.ensures, ← level) at c.in_ok-peaks.ensures in
    let counted : IsAligned S n c.args.floor (height G) i =
    rw (c.as_u64-count.ensures, c.as_u64.ensures, ← level) at c.chunk_aligned_inactive_peaks-inactive.ensures in
    let is : text c.root.result ≡ root_of h (ungrafted S) c.hasher.result.bagging n i (map text c.in-Some.peaks.items) =
    c.root.ensures ∙ ap (λ xs. root_of h (ungrafted S) c.hasher.result.bagging n i (map text xs)) c.deref.ensures.value in
    let grafting : IsGrafting G = record { laws = g.met.F.Family.laws; size = c.requires.size } in
    bound_root text h G g.met.F.Family.laws n c.args.floor i (aligned_is S n c.args.floor (height G) i counted)
    c.hasher.result.bagging c.hasher.ensures (map text c.in-Some.peaks.items) (text c.root.result) is
    c.pins_are_bound.ensures g.H.Digest.Digest.size width g.met.H.Hasher.sized g.met.H.Digest.Digest.sized grafting c.requires.few
    counted.within g.H.Hasher.digest_of g.met.H.Hasher.told c.args.grafted_tree.now (g.S.Readable.node c.args.ops_tree.now)
    c.is_whole.ensures.pins within e.0 e.2
