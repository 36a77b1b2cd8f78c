use Rattle.std.proofs.Common.{◌≡◌, ◌≤◌, ◌<◌, ◌+◌, ◌-◌, ◌^◌, ℕ, [], append-nil, arith, ap, sym, refl, ◌∙◌, rules}
use Rattle.std.proofs.lemmas.Nat.{shr_le}
use Rattle.storage_merkle.specs.Kept.{HasRoomFor}
use Rattle.storage_merkle.specs.Shape.{size}
use Rattle.storage_merkle.specs.Laws.Shape.{grows_at_most}
use Rattle.storage_current.specs.Laws.Grafting.{graftable_is, height_of_power}
use Rattle.storage_current.specs.Snapshots.{Grafting, graftable, graftable_at, height}
use Rattle.storage_current.proofs.MemViews.{chunk_more, more_grafts, not_refused, succeeded}
use Rattle.storage_current.proofs.Raised.{graftable_raised}
use Rattle.storage_current.proofs.Windows.{graftable_within}
use Rattle.storage_current.proofs.qmdb.current.chunk_tree.append_grafts.Goals as goal

pub graft_at-digest-requires : goal.graft_at-digest-requires
graft_at-digest-requires g c =
    let S = g.F.Family.shape in
    let L = g.met.F.Family.laws in
    let G : Grafting = record { shape = S; bytes = g.row.N } in
    let r = c.height-height.result in
    let m = c.args.operations.now in
    let count : ℕ = c.graftable_chunks-count.result in
    let leaves : c.as_u64.result ≡ m.leaves = c.as_u64.ensures ∙ c.leaves.ensures in
    let level : height G ≡ r = height_of_power S g.row.N _ c.height-height.ensures.power in
    let total : count ≡ graftable G m.leaves =
    rw level (graftable_is S L r c.as_u64.result count c.graftable_chunks-count.ensures ∙ ap (graftable_at S r) leaves) in
    let within : c.loop-index.index < graftable G m.leaves = omega (arith, total, c.loop-index-test.true) in
    let from : c.args.status.now.pruned ≤ c.loop-index.index =
    omega (arith, c.requires.kept, c.loop-index.invariant.first) in
    search rules

pub add_leaf-requires : goal.add_leaf-requires
add_leaf-requires g c some p a k inner low high =
    let S = g.F.Family.shape in
    let L = g.met.F.Family.laws in
    let G : Grafting = record { shape = S; bytes = g.row.N } in
    let r = c.height-height.result in
    let m = c.args.operations.now in
    let count : ℕ = c.graftable_chunks-count.result in
    let leaves : c.as_u64.result ≡ m.leaves = c.as_u64.ensures ∙ c.leaves.ensures in
    let level : height G ≡ r = height_of_power S g.row.N _ c.height-height.ensures.power in
    let total : count ≡ graftable G m.leaves =
    rw level (graftable_is S L r c.as_u64.result count c.graftable_chunks-count.ensures ∙ ap (graftable_at S r) leaves) in
    let most : size S (c.loop-index.chunks.leaves + 1) ≤ size S count =
    grows_at_most (size S) L.grows (c.loop-index.chunks.leaves + 1) count
    (omega (arith, c.loop-index.invariant.count, c.loop-index-test.true)) in
    let three : 3 ≤ r = c.height-height.ensures.low in
    rw c.new-hasher.ensures.height (graftable_raised S L (λ q. Unit {0}) c.as_u64.result count r p
    (g.met.F.Graftable.stays_within r (omega arith) c.height-height.ensures.high) (omega arith)
    (omega (arith, leaves, c.requires.few)) c.graftable_chunks-count.ensures (omega arith) (λ q k. tt))

pub loop-index-init : goal.loop-index-init
loop-index-init g c = record {
  count = sym (c.as_u64-index.ensures ∙ c.leaves-2.ensures);
  first = omega (arith, c.as_u64-index.ensures, c.leaves-2.ensures);
  boundary = refl;
  pinned = refl;
  room = omega arith;
  grafts = λ list stands. record {
    more = [];
    stands = rw (append-nil list) stands;
    are = λ s same over i l. absurd (omega arith);
  };
}

pub loop-index-preserved : goal.loop-index-preserved
loop-index-preserved g c =
    let S = g.F.Family.shape in
    let h = g.H.Hasher.hash_of in
    let text = g.H.Digest.Digest.text in
    let G : Grafting = record { shape = S; bytes = g.row.N } in
    let level : height G ≡ c.height-height.result = height_of_power S g.row.N _ c.height-height.ensures.power in
    let before = c.loop-index.invariant in
    let is_ok = sym (c.if-is_err.ensures.value) in
    let place = succeeded c.add_leaf.result _ is_ok c.add_leaf.ensures.place in
    let grown = succeeded c.add_leaf.result _ is_ok c.add_leaf.ensures.grown in
    record {
      count = place.0 ∙ ap (λ (n : ℕ). n + 1) before.count;
      first = omega (arith, before.first);
      boundary = place.1 ∙ before.boundary;
      pinned = place.2 ∙ before.pinned;
      room = omega (arith, before.room, c.add_leaf.ensures.room);
      grafts = λ list stands. more_grafts text h G c.args.operations.now c.loop-index.chunks c.add_leaf.new.self
          c.args.status.now list (text c.graft_at-digest.result) (before.grafts list stands)
          (chunk_more text h G c.height-height.result c.loop-index.chunks c.add_leaf.new.self
          (text c.graft_at-digest.result) level (rw c.new-hasher.ensures.height at grown))
          (λ s same over. rw before.count (c.graft_at-digest.ensures s same over));
    }

pub returns-then-is_err-clause-succeeds : goal.returns-then-is_err-clause-succeeds
returns-then-is_err-clause-succeeds g c room =
    let S = g.F.Family.shape in
    let L = g.met.F.Family.laws in
    let G : Grafting = record { shape = S; bytes = g.row.N } in
    let r = c.height-height.result in
    let m = c.args.operations.now in
    let count : ℕ = c.graftable_chunks-count.result in
    let leaves : c.as_u64.result ≡ m.leaves = c.as_u64.ensures ∙ c.leaves.ensures in
    let level : height G ≡ r = height_of_power S g.row.N _ c.height-height.ensures.power in
    let total : count ≡ graftable G m.leaves =
    rw level (graftable_is S L r c.as_u64.result count c.graftable_chunks-count.ensures ∙ ap (graftable_at S r) leaves) in
    let before = c.loop-index.invariant in
    let k = c.loop-index.chunks in
    let old = c.args.chunks.now in
    let few : count ≤ m.leaves = omega (
      arith,
      leaves,
      graftable_is S L r c.as_u64.result count c.graftable_chunks-count.ensures,
      graftable_within S L r c.as_u64.result,
      shr_le c.as_u64.result r,
    ) in
    let most : size S (k.leaves + 1) ≤ size S (old.leaves + (graftable G m.leaves - old.leaves)) =
    grows_at_most (size S) L.grows (k.leaves + 1) (old.leaves + (graftable G m.leaves - old.leaves))
    (omega (arith, total, before.count, c.loop-index-test.true)) in
    let start : size S k.boundary ≡ size S old.boundary = ap (size S) before.boundary in
    let one : HasRoomFor S 1 k = omega (arith, most, room, before.room, start) in
    let less : k.leaves < 2 ^ 62 =
    omega (arith, before.count, c.loop-index-test.true, few, c.requires.few) in
    absurd (not_refused c.add_leaf.result (sym c.if-is_err.ensures.value) (c.add_leaf.ensures.succeeds less one))

pub returns-clause-count : goal.returns-clause-count
returns-clause-count g c =
    let S = g.F.Family.shape in
    let L = g.met.F.Family.laws in
    let G : Grafting = record { shape = S; bytes = g.row.N } in
    let r = c.height-height.result in
    let m = c.args.operations.now in
    let count : ℕ = c.graftable_chunks-count.result in
    let leaves : c.as_u64.result ≡ m.leaves = c.as_u64.ensures ∙ c.leaves.ensures in
    let level : height G ≡ r = height_of_power S g.row.N _ c.height-height.ensures.power in
    let total : count ≡ graftable G m.leaves =
    rw level (graftable_is S L r c.as_u64.result count c.graftable_chunks-count.ensures ∙ ap (graftable_at S r) leaves) in
    let start : c.as_u64-index.result ≤ count =
    omega (arith, c.as_u64-index.ensures, c.leaves-2.ensures, total, c.requires.within) in
    let end : c.loop-index.index ≡ count =
    omega (arith, c.loop-index-test.false, c.loop-index.auto.index-end start) in
    c.loop-index.invariant.count ∙ end ∙ total

pub returns-clause-grafted : goal.returns-clause-grafted
returns-clause-grafted g c list stands = c.loop-index.invariant.grafts list stands
