use Rattle.std.proofs.Common.{◌≡◌, ◌≤◌, ◌*◌, ◌^◌, [], length, ap, sym, refl, ◌∙◌, arith, rules}
use Rattle.std.proofs.Math.Nat.{zero-mul}
use Rattle.storage_merkle.specs.Laws.Hashing.{length-leaf_digests}
use Rattle.storage_merkle.specs.Trees.{ungrafted}
use Rattle.storage_bitmap.specs.Chunks.{IsRest}
use Rattle.storage_current.specs.CombinedViews.{AreGraftedLeaves, chunk_node}
use Rattle.storage_current.specs.KeptTrees.{AreKept, HasMoreGrafts}
use Rattle.storage_current.specs.Snapshots.{Grafting, IsGrafting, Snapshot, IsSnapshot, graftable, height}
use Rattle.storage_current.proofs.MemViews.{all_grafts, kept_stands}
use Rattle.storage_current.proofs.Retaining.{all_unpruned}
use Rattle.storage_current.proofs.Roots.{unpruned_rest}
use Rattle.storage_current.proofs.qmdb.current.snapshot.Snapshot.over.Goals as goal

pub invariant_of-result : goal.invariant_of-result
invariant_of-result g c =
    let S = g.F.Family.shape in
    let h = g.H.Hasher.hash_of in
    let text = g.H.Digest.Digest.text in
    let G : Grafting = record { shape = S; bytes = g.row.N } in
    let m = c.args.operations in
    let k = c.append_grafts.new.chunks in
    let place = c.in_ok-append_grafts.ensures.place in
    let has : HasMoreGrafts text h G m k c.args.bits [] =
    c.in_ok-append_grafts.ensures.grafted [] (c.new-chunks.ensures.stands (λ list j a. chunk_node h G list a j)) in
    let kept : AreKept text h G m k c.args.bits = record {
      sized = c.requires.chunks;
      grown = c.requires.grown;
      pruned = all_unpruned G m c.args.bits c.requires.bits c.requires.all.unpruned;
      unpruned = place.0 ∙ ap (λ t. t.boundary) c.new-chunks.ensures.kept;
      unpinned = place.1 ∙ ap (λ t. t.pinned) c.new-chunks.ensures.kept;
      count = c.in_ok-append_grafts.ensures.count;
      list = has.more;
      stands = has.stands;
    } in
    kept

pub over-roots-requires : goal.over-roots-requires
over-roots-requires g c =
    let S = g.F.Family.shape in
    let h = g.H.Hasher.hash_of in
    let text = g.H.Digest.Digest.text in
    let G : Grafting = record { shape = S; bytes = g.row.N } in
    let m = c.args.operations in
    let k = c.append_grafts.new.chunks in
    let place = c.in_ok-append_grafts.ensures.place in
    let has : HasMoreGrafts text h G m k c.args.bits [] =
    c.in_ok-append_grafts.ensures.grafted [] (c.new-chunks.ensures.stands (λ list j a. chunk_node h G list a j)) in
    let kept : AreKept text h G m k c.args.bits = record {
      sized = c.requires.chunks;
      grown = c.requires.grown;
      pruned = all_unpruned G m c.args.bits c.requires.bits c.requires.all.unpruned;
      unpruned = place.0 ∙ ap (λ t. t.boundary) c.new-chunks.ensures.kept;
      unpinned = place.1 ∙ ap (λ t. t.pinned) c.new-chunks.ensures.kept;
      count = c.in_ok-append_grafts.ensures.count;
      list = has.more;
      stands = has.stands;
    } in
    search rules

pub returns-clause-stands : goal.returns-clause-stands
returns-clause-stands g c elements over =
    let S = g.F.Family.shape in
    let h = g.H.Hasher.hash_of in
    let text = g.H.Digest.Digest.text in
    let G : Grafting = record { shape = S; bytes = g.row.N } in
    let m = c.args.operations in
    let k = c.append_grafts.new.chunks in
    let place = c.in_ok-append_grafts.ensures.place in
    let has : HasMoreGrafts text h G m k c.args.bits [] =
    c.in_ok-append_grafts.ensures.grafted [] (c.new-chunks.ensures.stands (λ list j a. chunk_node h G list a j)) in
    let kept : AreKept text h G m k c.args.bits = record {
      sized = c.requires.chunks;
      grown = c.requires.grown;
      pruned = all_unpruned G m c.args.bits c.requires.bits c.requires.all.unpruned;
      unpruned = place.0 ∙ ap (λ t. t.boundary) c.new-chunks.ensures.kept;
      unpinned = place.1 ∙ ap (λ t. t.pinned) c.new-chunks.ensures.kept;
      count = c.in_ok-append_grafts.ensures.count;
      list = has.more;
      stands = has.stands;
    } in
    let s : Snapshot = record { operations = elements; bits = c.args.bits.bits; floor = c.args.floor } in
    let n : m.leaves ≡ length elements = over.count ∙ length-leaf_digests h (ungrafted S) 0 elements in
    let rest : IsRest g.row.N c.args.bits c.args.bits.bits =
    unpruned_rest g.row.N c.args.bits c.requires.bits.unpruned in
    let none : c.args.bits.pruned * (8 * g.row.N) ≡ 0 =
    ap (λ p. p * (8 * g.row.N)) c.requires.bits.unpruned ∙ zero-mul (8 * g.row.N) in
    let snapshot : IsSnapshot s = record {
      bit_each = omega (arith, n, c.requires.bits.all, none);
      floor_within = omega (arith, n, c.requires.floor);
      few = omega (arith, n, c.requires.grown.few);
    } in
    let grafting : IsGrafting G = record { laws = g.met.F.Family.laws; size = c.requires.chunks } in
    let grafted : AreGraftedLeaves h G s has.more = all_grafts h G s has.more
    (sym has.stands.count ∙ c.in_ok-append_grafts.ensures.count ∙ ap (graftable G) n) (has.are s rest over) in (
      snapshot,
      kept_stands text h G (g.met.F.Graftable.keeps_pace (height G)) grafting s snapshot m k c.args.bits
          c.trees_keep_the_nodes_of_their_list.ensures c.trees_keep_the_nodes_of_their_list-2.ensures kept over grafted
          rest c.args.floor _ _ _ refl (c.over-roots.ensures s rest refl over),
    )

pub append_grafts-requires : goal.append_grafts-requires
append_grafts-requires g c =
    let G : Grafting = record { shape = g.F.Family.shape; bytes = g.row.N } in
    let m = c.args.operations in
    let pruned = all_unpruned G m c.args.bits c.requires.bits c.requires.all.unpruned in
    let kept : c.args.bits.pruned ≤ c.new-chunks.result.leaves = omega (arith, c.requires.bits.unpruned) in
    let within : c.new-chunks.result.leaves ≤ graftable G m.leaves =
    omega (arith, ap (λ t. t.leaves) c.new-chunks.ensures.kept) in
    let few : m.leaves ≤ 2 ^ 62 = c.requires.grown.few in
    search rules
