use Rattle.std.proofs.Common.{◌≡◌, ◌+◌, ◌*◌, ◌^◌, ◌≤◌, ◌∙◌, ℕ, length, map, ap, sym, subst, arith, refl, rules}
use Rattle.std.proofs.lemmas.Bool.{false≢true}
use Rattle.storage_bitmap.specs.Chunks.{IsChunkSize}
use Rattle.storage_current.specs.KeptTrees.{ArePruned}
use Rattle.storage_current.specs.Pins.{HavePins, chunk_pins}
use Rattle.storage_current.specs.SnapshotTails.{AreOfSnapshot, AreTrees}
use Rattle.storage_current.specs.Snapshots.{Grafting, graftable, height}
use Rattle.storage_current.proofs.Forgetting.{graftable_there}
use Rattle.storage_current.proofs.SnapshotTails.{pins_of_trees}
use Rattle.storage_current.proofs.qmdb.current.snapshot_tail.SnapshotTail.new.Goals as goal

pub have_pins-requires : goal.have_pins-requires
have_pins-requires g c =
    let G : Grafting = record { shape = g.F.Family.shape; bytes = g.row.N } in
    let n = c.args.tail.operations.leaves in
    let leaves : c.as_u64-leaves.result ≡ n = c.as_u64-leaves.ensures ∙ c.leaves.ensures in
    let size : IsChunkSize g.row.N = c.pruned_chunks.ensures.size in
    let few : c.as_u64-leaves.result ≤ 2 ^ 62 = omega (arith, leaves, c.requires.few) in
    let there = graftable_there G g.met.F.Family.laws n c.args.status.pruned c.requires.pinned.pruned.few in
    let same : c.pruned_chunks.result * 2 ^ height G ≡ c.args.status.pruned * 2 ^ height G =
    ap (λ (x : ℕ). x * 2 ^ height G) c.pruned_chunks.ensures.value in
    let within : c.pruned_chunks.result * 2 ^ height G ≤ c.as_u64-leaves.result = omega (arith, leaves, there, same) in
    search rules

pub returns-then-as_u64-leaves-clause-exact : goal.returns-then-as_u64-leaves-clause-exact
returns-then-as_u64-leaves-clause-exact g c = λ fit.
    omega (arith, fit.1, c.as_u64-leaves.ensures, c.leaves.ensures, c.as_u64.ensures, c.if-as_u64-leaves.true)

pub returns-then-not-have_pins-clause-exact : goal.returns-then-not-have_pins-clause-exact
returns-then-not-have_pins-clause-exact g c = λ fit.
    let G : Grafting = record { shape = g.F.Family.shape; bytes = g.row.N } in
    let no = rw (c.as_u64-leaves.ensures, c.leaves.ensures, c.pruned_chunks.ensures.value, ← c.requires.pinned.place) at c.have_pins.ensures in
    absurd (let yes = no.1 fit.0 in cc)

pub chunks_behind-requires : goal.chunks_behind-requires
chunks_behind-requires g c =
    let S = g.F.Family.shape in
    let size : IsChunkSize g.row.N = c.pruned_chunks.ensures.size in
    let each : length c.pinned_nodes-pins.result.now ≡ length (S.peaks c.args.status.pruned) =
    ap length c.pinned_nodes-pins.ensures ∙ c.is_whole.ensures.pins ∙ ap (λ (n : ℕ). length (S.peaks n)) c.requires.pinned.place in
    search rules

pub of_trees-kept-requires : goal.of_trees-kept-requires
of_trees-kept-requires g c =
    let S = g.F.Family.shape in
    let G : Grafting = record { shape = S; bytes = g.row.N } in
    let m = c.args.tail.operations in
    let status = c.args.status in
    let place = c.in_ok-chunks.ensures.place in
    let each : length c.pinned_nodes-pins.result.now ≡ length (S.peaks status.pruned) =
    ap length c.pinned_nodes-pins.ensures ∙ c.is_whole.ensures.pins ∙ ap (λ (n : ℕ). length (S.peaks n)) c.requires.pinned.place in
    let yes = rw (c.as_u64-leaves.ensures, c.leaves.ensures, c.pruned_chunks.ensures.value) at c.have_pins.ensures in
    let have : HavePins G m.leaves status.pruned = yes.0 c.if-not-have_pins.false in
    let trees : AreTrees G m c.in_ok-chunks.chunks status = record {
      sized = c.pruned_chunks.ensures.size;
      few = c.requires.few;
      pruned = c.requires.pinned.pruned;
      behind = omega (arith, place.1);
      pins = ap length place.2 ∙ each ∙ sym (ap (λ (n : ℕ). length (S.peaks n)) place.1);
      have = subst (λ (n : ℕ). HavePins G m.leaves n) (sym place.1) have;
      count = place.0;
    } in
    let floor : c.args.floor ≤ m.leaves =
    omega (arith, c.as_u64-leaves.ensures, c.leaves.ensures, c.as_u64.ensures, c.if-as_u64-leaves.false) in
    search rules

pub returns-clause-exact : goal.returns-clause-exact
returns-clause-exact g c =
    let G : Grafting = record { shape = g.F.Family.shape; bytes = g.row.N } in
    let m = c.args.tail.operations in
    let yes = rw (c.as_u64-leaves.ensures, c.leaves.ensures, c.pruned_chunks.ensures.value) at c.have_pins.ensures in
    let have : HavePins G m.leaves c.args.tail.chunks.pruned = subst (λ (n : ℕ). HavePins G m.leaves n)
    (sym c.requires.pinned.place) (yes.0 c.if-not-have_pins.false) in (
      (have, omega (arith, c.as_u64-leaves.ensures, c.leaves.ensures, c.as_u64.ensures, c.if-as_u64-leaves.false)),
      c.of_trees-kept.ensures.status,
      c.of_trees-kept.ensures.floor,
      c.of_trees-kept.ensures.operations,
    )

pub returns-clause-stands : goal.returns-clause-stands
returns-clause-stands g c = λ s snapshot rest of floor.
    let S = g.F.Family.shape in
    let h = g.H.Hasher.hash_of in
    let text = g.H.Digest.Digest.text in
    let G : Grafting = record { shape = S; bytes = g.row.N } in
    let m = c.args.tail.operations in
    let t = c.args.tail.chunks in
    let pins_are : map text c.pinned_nodes-pins.result.now ≡ chunk_pins h G s c.args.status.pruned =
    ap (map text) c.pinned_nodes-pins.ensures ∙ pins_of_trees text h G g.met.F.Family.laws s m t of
    ∙ ap (chunk_pins h G s) c.requires.pinned.place in
    let all : AreOfSnapshot text h G m c.in_ok-chunks.chunks c.args.status s = record {
      bits = rest;
      over = of.over;
      chunks_are = c.in_ok-chunks.ensures.own s rest of.over pins_are;
    } in
    c.of_trees-kept.ensures.stands s snapshot all floor
