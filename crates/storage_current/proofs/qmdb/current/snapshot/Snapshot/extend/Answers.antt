use Rattle.std.proofs.Common.{◌≡◌, ◌≤◌, ◌<◌, ◌+◌, ◌-◌, ◌*◌, ◌^◌, ◌++◌, [], ℕ, List, Bool, All, length, map, ap, ap₂, sym, refl, ◌∙◌, arith, inr, length-append, rules}
use Rattle.std.proofs.lemmas.List.Elements.{All-weaker}
use Rattle.storage_merkle.specs.Hashing.{leaf_digests}
use Rattle.storage_merkle.specs.Kept.{HasRoomFor}
use Rattle.storage_merkle.specs.Laws.Hashing.{length-leaf_digests}
use Rattle.storage_merkle.specs.Shape.{size}
use Rattle.storage_merkle.specs.Trees.{ungrafted}
use Rattle.storage_bitmap.specs.Chunks.{IsChunkSize, IsRest, Retained, bit_count}
use Rattle.storage_current.specs.CombinedViews.{AreGraftedLeaves, chunk_node}
use Rattle.storage_current.specs.Extended.{AreTouched, HasRegrafted, cleared, cleared_from, extended}
use Rattle.storage_current.specs.KeptTrees.{AreKept, ArePruned, HasMoreGrafts}
use Rattle.storage_current.specs.NodeLists.{IsGrown, IsOver, plain_over}
use Rattle.storage_current.specs.Snapshots.{Grafting, IsGrafting, Snapshot, IsSnapshot, graftable, height}
use Rattle.storage_current.specs.WitnessWire.{witness_of}
use Rattle.storage_current.proofs.Extending.{graftable_grows, length-cleared}
use Rattle.storage_current.proofs.Growing.{all_grafted, cleared-append, extended_rest, length-cleared_from, room_grown, room_kept, room_snapshot, room_stands, still_pruned, touched_kept, trees_told}
use Rattle.storage_current.proofs.MemViews.{failed, kept_stands, seen_snapshot, succeeded}
use Rattle.storage_current.proofs.qmdb.current.snapshot.Snapshot.extend.Goals as goal

pub pruned_bits-pruned-requires : goal.pruned_bits-pruned-requires
pruned_bits-pruned-requires g c =
    let kept = c.self.invariant in
    (omega (arith, kept.sized.1), (kept.sized, omega (arith, kept.pruned.all, kept.grown.few)))

pub returns-in-Some-clause-why : goal.returns-in-Some-clause-why
returns-in-Some-clause-why g c =
    let S = g.F.Family.shape in
    let L = g.met.F.Family.laws in
    let h = g.H.Hasher.hash_of in
    let text = g.H.Digest.Digest.text in
    let G : Grafting = record { shape = S; bytes = g.row.N } in
    let m0 = c.self.inside.operations in
    let k0 = c.self.inside.chunks in
    let st0 = c.self.inside.status in
    let old = c.self.invariant in
    let n : c.as_u64-leaves.result ≡ m0.leaves = c.as_u64-leaves.ensures ∙ c.leaves.ensures in
    let seen : bit_count g.row.N c.args.self.now.status ≡ c.as_u64-leaves.result =
    ap (λ v. bit_count g.row.N v.status) (sym c.self.view_is) ∙ old.pruned.all ∙ sym n in
    let start : c.args.self.now.status.pruned * (8 * g.row.N) ≡ c.pruned_bits-pruned.result =
    ap (λ v. v.status.pruned * (8 * g.row.N)) (sym c.self.view_is) ∙ sym c.pruned_bits-pruned.ensures in
    rw (seen, start) c.in-Some.ensures

pub invariant_of-self : goal.invariant_of-self
invariant_of-self g c =
    let S = g.F.Family.shape in
    let L = g.met.F.Family.laws in
    let h = g.H.Hasher.hash_of in
    let text = g.H.Digest.Digest.text in
    let G : Grafting = record { shape = S; bytes = g.row.N } in
    let m0 = c.self.inside.operations in
    let k0 = c.self.inside.chunks in
    let st0 = c.self.inside.status in
    let old = c.self.invariant in
    let m1 = c.make_room.new.operations in
    let k1 = c.make_room.new.chunks in
    let em = c.make_room.ensures.operations in
    let ek = c.make_room.ensures.chunks in
    room_kept text h G m0 k0 m1 k1 st0 em ek old

pub returns-in_default-make_room-clause-why : goal.returns-in_default-make_room-clause-why
returns-in_default-make_room-clause-why g c =
    let S = g.F.Family.shape in
    let L = g.met.F.Family.laws in
    let h = g.H.Hasher.hash_of in
    let text = g.H.Digest.Digest.text in
    let G : Grafting = record { shape = S; bytes = g.row.N } in
    let m0 = c.self.inside.operations in
    let k0 = c.self.inside.chunks in
    let st0 = c.self.inside.status in
    let old = c.self.invariant in
    let n : c.as_u64-leaves.result ≡ m0.leaves = c.as_u64-leaves.ensures ∙ c.leaves.ensures in
    let seen : bit_count g.row.N c.args.self.now.status ≡ c.as_u64-leaves.result =
    ap (λ v. bit_count g.row.N v.status) (sym c.self.view_is) ∙ old.pruned.all ∙ sym n in
    let start : c.args.self.now.status.pruned * (8 * g.row.N) ≡ c.pruned_bits-pruned.result =
    ap (λ v. v.status.pruned * (8 * g.row.N)) (sym c.self.view_is) ∙ sym c.pruned_bits-pruned.ensures in
    rw (seen, start) (inr (inr (inr (inr (c.in_default.ensures.0, c.in_default.ensures.1, c.in_default.ensures.2, refl)))))

pub returns-in_default-make_room-clause-same : goal.returns-in_default-make_room-clause-same
returns-in_default-make_room-clause-same g c =
    let text = g.H.Digest.Digest.text in
    let G : Grafting = record { shape = g.F.Family.shape; bytes = g.row.N } in
    let it = c.self.inside in
    room_snapshot text G it.operations it.chunks c.make_room.new.operations c.make_room.new.chunks it.status it.floor
    (text it.ops_root) (text it.root) (witness_of text it.witness) c.make_room.ensures.operations
    c.make_room.ensures.chunks ∙ c.self.view_is

pub invariant_of-self-then-is_err : goal.invariant_of-self-then-is_err
invariant_of-self-then-is_err g c =
    let S = g.F.Family.shape in
    let L = g.met.F.Family.laws in
    let h = g.H.Hasher.hash_of in
    let text = g.H.Digest.Digest.text in
    let G : Grafting = record { shape = S; bytes = g.row.N } in
    let m0 = c.self.inside.operations in
    let k0 = c.self.inside.chunks in
    let st0 = c.self.inside.status in
    let old = c.self.invariant in
    let m1 = c.make_room.new.operations in
    let k1 = c.make_room.new.chunks in
    let em = c.make_room.ensures.operations in
    let ek = c.make_room.ensures.chunks in
    rw (failed c.append.result _ (sym c.if-is_err.ensures.value) c.append.ensures.err)
    (room_kept text h G m0 k0 m1 k1 st0 em ek old)

pub returns-then-is_err-clause-same : goal.returns-then-is_err-clause-same
returns-then-is_err-clause-same g c =
    let S = g.F.Family.shape in
    let L = g.met.F.Family.laws in
    let h = g.H.Hasher.hash_of in
    let text = g.H.Digest.Digest.text in
    let G : Grafting = record { shape = S; bytes = g.row.N } in
    let m0 = c.self.inside.operations in
    let k0 = c.self.inside.chunks in
    let st0 = c.self.inside.status in
    let old = c.self.invariant in
    let m1 = c.make_room.new.operations in
    let k1 = c.make_room.new.chunks in
    let em = c.make_room.ensures.operations in
    let ek = c.make_room.ensures.chunks in
    let same = failed c.append.result _ (sym c.if-is_err.ensures.value) c.append.ensures.err in
    let it = c.self.inside in
    ap (λ st. seen_snapshot text G m1 k1 st it.floor (text it.ops_root) (text it.root) (witness_of text it.witness)) same
    ∙ room_snapshot text G m0 k0 m1 k1 st0 it.floor (text it.ops_root) (text it.root) (witness_of text it.witness) em ek
    ∙ c.self.view_is

pub returns-then-is_err-clause-why : goal.returns-then-is_err-clause-why
returns-then-is_err-clause-why g c =
    let S = g.F.Family.shape in
    let L = g.met.F.Family.laws in
    let h = g.H.Hasher.hash_of in
    let text = g.H.Digest.Digest.text in
    let G : Grafting = record { shape = S; bytes = g.row.N } in
    let m0 = c.self.inside.operations in
    let k0 = c.self.inside.chunks in
    let st0 = c.self.inside.status in
    let old = c.self.invariant in
    let n : c.as_u64-leaves.result ≡ m0.leaves = c.as_u64-leaves.ensures ∙ c.leaves.ensures in
    let seen : bit_count g.row.N c.args.self.now.status ≡ c.as_u64-leaves.result =
    ap (λ v. bit_count g.row.N v.status) (sym c.self.view_is) ∙ old.pruned.all ∙ sym n in
    let start : c.args.self.now.status.pruned * (8 * g.row.N) ≡ c.pruned_bits-pruned.result =
    ap (λ v. v.status.pruned * (8 * g.row.N)) (sym c.self.view_is) ∙ sym c.pruned_bits-pruned.ensures in
    rw (seen, start) (inr (inr (inr (inr (c.in_default.ensures.0, c.in_default.ensures.1, c.in_default.ensures.2, refl)))))

pub clear_bits-requires : goal.clear_bits-requires
clear_bits-requires g c =
    let S = g.F.Family.shape in
    let L = g.met.F.Family.laws in
    let h = g.H.Hasher.hash_of in
    let text = g.H.Digest.Digest.text in
    let G : Grafting = record { shape = S; bytes = g.row.N } in
    let m0 = c.self.inside.operations in
    let k0 = c.self.inside.chunks in
    let st0 = c.self.inside.status in
    let old = c.self.invariant in
    let n : c.as_u64-leaves.result ≡ m0.leaves = c.as_u64-leaves.ensures ∙ c.leaves.ensures in
    let bits : List Bool = c.args.bits.now in
    let clear : List ℕ = c.args.clear.now in
    let count : ℕ = length c.args.operations.now in
    let within = c.in_default.ensures.1 in
    let earlier : All (λ l. (st0.pruned * (8 * g.row.N) ≤ l) × (l < bit_count g.row.N st0)) clear =
    All-weaker (λ l. (c.pruned_bits-pruned.result ≤ l) × (l < c.as_u64-leaves.result))
    (λ l. (st0.pruned * (8 * g.row.N) ≤ l) × (l < bit_count g.row.N st0))
    (λ l w. (omega (arith, w.0, c.pruned_bits-pruned.ensures), omega (arith, w.1, n, old.pruned.all))) clear
    within.earlier in
    let added = succeeded c.append.result _ (sym c.if-is_err.ensures.value) c.append.ensures.ok in
    let longer : length c.append.new.self.bits ≡ length st0.bits + length bits =
    ap (λ r. length r.bits) added ∙ length-append st0.bits bits in
    let all : All (λ l. (c.append.new.self.pruned * (8 * g.row.N) ≤ l) × (l < bit_count g.row.N c.append.new.self)) clear =
    All-weaker (λ l. (st0.pruned * (8 * g.row.N) ≤ l) × (l < bit_count g.row.N st0))
    (λ l. (c.append.new.self.pruned * (8 * g.row.N) ≤ l) × (l < bit_count g.row.N c.append.new.self))
    (λ l w. let e : c.append.new.self.pruned * (8 * g.row.N) ≡ st0.pruned * (8 * g.row.N) =
    ap (λ r. r.pruned * (8 * g.row.N)) added in
    (omega (arith, w.0, e), omega (arith, w.1, e, longer))) clear earlier in
    (omega arith, all)

pub add_all-requires-clause-grown : goal.add_all-requires-clause-grown
add_all-requires-clause-grown g c =
    let S = g.F.Family.shape in
    let L = g.met.F.Family.laws in
    let h = g.H.Hasher.hash_of in
    let text = g.H.Digest.Digest.text in
    let G : Grafting = record { shape = S; bytes = g.row.N } in
    let m0 = c.self.inside.operations in
    let k0 = c.self.inside.chunks in
    let st0 = c.self.inside.status in
    let old = c.self.invariant in
    let m1 = c.make_room.new.operations in
    let k1 = c.make_room.new.chunks in
    let em = c.make_room.ensures.operations in
    let ek = c.make_room.ensures.chunks in
    room_grown text m0 m1 em h S old.grown

pub regraft-requires : goal.regraft-requires
regraft-requires g c =
    let S = g.F.Family.shape in
    let L = g.met.F.Family.laws in
    let h = g.H.Hasher.hash_of in
    let text = g.H.Digest.Digest.text in
    let G : Grafting = record { shape = S; bytes = g.row.N } in
    let m0 = c.self.inside.operations in
    let k0 = c.self.inside.chunks in
    let st0 = c.self.inside.status in
    let old = c.self.invariant in
    let n : c.as_u64-leaves.result ≡ m0.leaves = c.as_u64-leaves.ensures ∙ c.leaves.ensures in
    let m1 = c.make_room.new.operations in
    let k1 = c.make_room.new.chunks in
    let em = c.make_room.ensures.operations in
    let ek = c.make_room.ensures.chunks in
    let bits : List Bool = c.args.bits.now in
    let clear : List ℕ = c.args.clear.now in
    let count : ℕ = length c.args.operations.now in
    let within = c.in_default.ensures.1 in
    let earlier : All (λ l. (st0.pruned * (8 * g.row.N) ≤ l) × (l < bit_count g.row.N st0)) clear =
    All-weaker (λ l. (c.pruned_bits-pruned.result ≤ l) × (l < c.as_u64-leaves.result))
    (λ l. (st0.pruned * (8 * g.row.N) ≤ l) × (l < bit_count g.row.N st0))
    (λ l w. (omega (arith, w.0, c.pruned_bits-pruned.ensures), omega (arith, w.1, n, old.pruned.all))) clear
    within.earlier in
    let added = succeeded c.append.result _ (sym c.if-is_err.ensures.value) c.append.ensures.ok in
    let longer : length c.append.new.self.bits ≡ length st0.bits + length bits =
    ap (λ r. length r.bits) added ∙ length-append st0.bits bits in
    let st2 = c.clear_bits.new.status in
    let m2 = c.add_all.new.tree in
    let cl = c.clear_bits.ensures in
    let pr : st2.pruned ≡ st0.pruned = ap (λ r. r.pruned) cl ∙ ap (λ r. r.pruned) added in
    let kept_len : length st2.bits ≡ length c.append.new.self.bits =
    ap (λ r. length r.bits) cl ∙ length-cleared_from (c.append.new.self.pruned * (8 * g.row.N)) clear
    c.append.new.self.bits in
    let em_leaves : m1.leaves ≡ m0.leaves = ap (λ t. t.leaves) em in
    let n2 : m2.leaves ≡ m0.leaves + count = omega (arith, c.add_all.ensures.count, em_leaves) in
    let each : ArePruned G m2 st2 = still_pruned G L m0 m2 st0 st2 count old.pruned n2
    (c.add_all.ensures.boundary ∙ ap (λ t. t.boundary) em) pr (omega (arith, kept_len, longer, c.in_default.ensures.0)) in
    let grows : graftable G m0.leaves ≤ graftable G m2.leaves =
    graftable_grows G L m0.leaves m2.leaves (omega (arith, n2)) in
    let l1 : k1.leaves ≡ k0.leaves = ap (λ t. t.leaves) ek in
    let b1 : k1.boundary ≡ 0 = ap (λ t. t.boundary) ek ∙ old.unpruned in
    let p1 : k1.pinned ≡ [] = ap (λ t. t.pinned) ek ∙ old.unpinned in
    let sized : IsChunkSize g.row.N = old.sized in
    let grown : IsGrown text h S m2 = c.add_all.ensures.grown in
    let touch = c.in-Ok.ensures.touched in
    let up : k1.leaves ≤ graftable G m2.leaves = omega (arith, l1, old.count, grows) in
    let from : All (λ l. st0.pruned * (8 * g.row.N) ≤ l) clear =
    All-weaker (λ l. (st0.pruned * (8 * g.row.N) ≤ l) × (l < bit_count g.row.N st0))
    (λ l. st0.pruned * (8 * g.row.N) ≤ l) (λ l w. w.0) clear earlier in
    let below : All (λ j. (st2.pruned ≤ j) × (j < k1.leaves)) c.deref.result.now = rw (c.deref.ensures.value, l1, pr)
    (touched_kept G sized st0.pruned k0.leaves clear c.in-Ok.touched.items touch from) in
    let empty = c.in-Ok.ensures.room.0 in
    let room = rw (← c.deref.ensures.value) at c.in-Ok.ensures.room.1 in
    search rules

pub append_grafts-requires : goal.append_grafts-requires
append_grafts-requires g c =
    let S = g.F.Family.shape in
    let L = g.met.F.Family.laws in
    let h = g.H.Hasher.hash_of in
    let text = g.H.Digest.Digest.text in
    let G : Grafting = record { shape = S; bytes = g.row.N } in
    let m0 = c.self.inside.operations in
    let k0 = c.self.inside.chunks in
    let st0 = c.self.inside.status in
    let old = c.self.invariant in
    let n : c.as_u64-leaves.result ≡ m0.leaves = c.as_u64-leaves.ensures ∙ c.leaves.ensures in
    let m1 = c.make_room.new.operations in
    let k1 = c.make_room.new.chunks in
    let em = c.make_room.ensures.operations in
    let ek = c.make_room.ensures.chunks in
    let bits : List Bool = c.args.bits.now in
    let clear : List ℕ = c.args.clear.now in
    let count : ℕ = length c.args.operations.now in
    let within = c.in_default.ensures.1 in
    let earlier : All (λ l. (st0.pruned * (8 * g.row.N) ≤ l) × (l < bit_count g.row.N st0)) clear =
    All-weaker (λ l. (c.pruned_bits-pruned.result ≤ l) × (l < c.as_u64-leaves.result))
    (λ l. (st0.pruned * (8 * g.row.N) ≤ l) × (l < bit_count g.row.N st0))
    (λ l w. (omega (arith, w.0, c.pruned_bits-pruned.ensures), omega (arith, w.1, n, old.pruned.all))) clear
    within.earlier in
    let added = succeeded c.append.result _ (sym c.if-is_err.ensures.value) c.append.ensures.ok in
    let longer : length c.append.new.self.bits ≡ length st0.bits + length bits =
    ap (λ r. length r.bits) added ∙ length-append st0.bits bits in
    let st2 = c.clear_bits.new.status in
    let m2 = c.add_all.new.tree in
    let cl = c.clear_bits.ensures in
    let pr : st2.pruned ≡ st0.pruned = ap (λ r. r.pruned) cl ∙ ap (λ r. r.pruned) added in
    let kept_len : length st2.bits ≡ length c.append.new.self.bits =
    ap (λ r. length r.bits) cl ∙ length-cleared_from (c.append.new.self.pruned * (8 * g.row.N)) clear
    c.append.new.self.bits in
    let em_leaves : m1.leaves ≡ m0.leaves = ap (λ t. t.leaves) em in
    let n2 : m2.leaves ≡ m0.leaves + count = omega (arith, c.add_all.ensures.count, em_leaves) in
    let each : ArePruned G m2 st2 = still_pruned G L m0 m2 st0 st2 count old.pruned n2
    (c.add_all.ensures.boundary ∙ ap (λ t. t.boundary) em) pr (omega (arith, kept_len, longer, c.in_default.ensures.0)) in
    let grows : graftable G m0.leaves ≤ graftable G m2.leaves =
    graftable_grows G L m0.leaves m2.leaves (omega (arith, n2)) in
    let l1 : k1.leaves ≡ k0.leaves = ap (λ t. t.leaves) ek in
    let b1 : k1.boundary ≡ 0 = ap (λ t. t.boundary) ek ∙ old.unpruned in
    let p1 : k1.pinned ≡ [] = ap (λ t. t.pinned) ek ∙ old.unpinned in
    let sized : IsChunkSize g.row.N = old.sized in
    let grown : IsGrown text h S m2 = c.add_all.ensures.grown in
    let k2 = c.regraft.new.chunks in
    let place = c.regraft.ensures.place in
    let up : k2.leaves ≤ graftable G m2.leaves = omega (arith, place.0, l1, old.count, grows) in
    let from : st2.pruned ≤ k2.leaves = omega (arith, place.0, l1, old.count, old.pruned.few, pr) in
    let few : m2.leaves ≤ 2 ^ 62 = grown.few in
    search rules

pub unwrap-requires : goal.unwrap-requires
unwrap-requires g c =
    let S = g.F.Family.shape in
    let L = g.met.F.Family.laws in
    let h = g.H.Hasher.hash_of in
    let text = g.H.Digest.Digest.text in
    let G : Grafting = record { shape = S; bytes = g.row.N } in
    let m0 = c.self.inside.operations in
    let k0 = c.self.inside.chunks in
    let st0 = c.self.inside.status in
    let old = c.self.invariant in
    let n : c.as_u64-leaves.result ≡ m0.leaves = c.as_u64-leaves.ensures ∙ c.leaves.ensures in
    let m1 = c.make_room.new.operations in
    let k1 = c.make_room.new.chunks in
    let em = c.make_room.ensures.operations in
    let ek = c.make_room.ensures.chunks in
    let bits : List Bool = c.args.bits.now in
    let clear : List ℕ = c.args.clear.now in
    let count : ℕ = length c.args.operations.now in
    let within = c.in_default.ensures.1 in
    let earlier : All (λ l. (st0.pruned * (8 * g.row.N) ≤ l) × (l < bit_count g.row.N st0)) clear =
    All-weaker (λ l. (c.pruned_bits-pruned.result ≤ l) × (l < c.as_u64-leaves.result))
    (λ l. (st0.pruned * (8 * g.row.N) ≤ l) × (l < bit_count g.row.N st0))
    (λ l w. (omega (arith, w.0, c.pruned_bits-pruned.ensures), omega (arith, w.1, n, old.pruned.all))) clear
    within.earlier in
    let added = succeeded c.append.result _ (sym c.if-is_err.ensures.value) c.append.ensures.ok in
    let longer : length c.append.new.self.bits ≡ length st0.bits + length bits =
    ap (λ r. length r.bits) added ∙ length-append st0.bits bits in
    let st2 = c.clear_bits.new.status in
    let m2 = c.add_all.new.tree in
    let cl = c.clear_bits.ensures in
    let pr : st2.pruned ≡ st0.pruned = ap (λ r. r.pruned) cl ∙ ap (λ r. r.pruned) added in
    let kept_len : length st2.bits ≡ length c.append.new.self.bits =
    ap (λ r. length r.bits) cl ∙ length-cleared_from (c.append.new.self.pruned * (8 * g.row.N)) clear
    c.append.new.self.bits in
    let em_leaves : m1.leaves ≡ m0.leaves = ap (λ t. t.leaves) em in
    let n2 : m2.leaves ≡ m0.leaves + count = omega (arith, c.add_all.ensures.count, em_leaves) in
    let each : ArePruned G m2 st2 = still_pruned G L m0 m2 st0 st2 count old.pruned n2
    (c.add_all.ensures.boundary ∙ ap (λ t. t.boundary) em) pr (omega (arith, kept_len, longer, c.in_default.ensures.0)) in
    let grows : graftable G m0.leaves ≤ graftable G m2.leaves =
    graftable_grows G L m0.leaves m2.leaves (omega (arith, n2)) in
    let l1 : k1.leaves ≡ k0.leaves = ap (λ t. t.leaves) ek in
    let b1 : k1.boundary ≡ 0 = ap (λ t. t.boundary) ek ∙ old.unpruned in
    let p1 : k1.pinned ≡ [] = ap (λ t. t.pinned) ek ∙ old.unpinned in
    let sized : IsChunkSize g.row.N = old.sized in
    let grown : IsGrown text h S m2 = c.add_all.ensures.grown in
    let k2 = c.regraft.new.chunks in
    let place = c.regraft.ensures.place in
    let total : graftable G m2.leaves ≡ graftable G (m0.leaves + count) = ap (graftable G) n2 in
    let e : k2.leaves + (graftable G m2.leaves - k2.leaves)
    ≡ k1.leaves + (graftable G (m0.leaves + count) - k0.leaves) = omega (arith, total, place.0, l1) in
    let sizes : size S (k2.leaves + (graftable G m2.leaves - k2.leaves))
    ≡ size S (k1.leaves + (graftable G (m0.leaves + count) - k0.leaves)) = ap (size S) e in
    let start : size S k2.boundary ≡ size S k1.boundary = ap (size S) place.1 in
    let room : HasRoomFor S (graftable G m2.leaves - k2.leaves) k2 =
    omega (arith, sizes, start, place.3, c.in-Ok.ensures.grafts) in
    c.append_grafts.ensures.succeeds room

pub over-roots-requires : goal.over-roots-requires
over-roots-requires g c =
    let S = g.F.Family.shape in
    let L = g.met.F.Family.laws in
    let h = g.H.Hasher.hash_of in
    let text = g.H.Digest.Digest.text in
    let G : Grafting = record { shape = S; bytes = g.row.N } in
    let m0 = c.self.inside.operations in
    let k0 = c.self.inside.chunks in
    let st0 = c.self.inside.status in
    let old = c.self.invariant in
    let n : c.as_u64-leaves.result ≡ m0.leaves = c.as_u64-leaves.ensures ∙ c.leaves.ensures in
    let m1 = c.make_room.new.operations in
    let k1 = c.make_room.new.chunks in
    let em = c.make_room.ensures.operations in
    let ek = c.make_room.ensures.chunks in
    let bits : List Bool = c.args.bits.now in
    let clear : List ℕ = c.args.clear.now in
    let count : ℕ = length c.args.operations.now in
    let within = c.in_default.ensures.1 in
    let earlier : All (λ l. (st0.pruned * (8 * g.row.N) ≤ l) × (l < bit_count g.row.N st0)) clear =
    All-weaker (λ l. (c.pruned_bits-pruned.result ≤ l) × (l < c.as_u64-leaves.result))
    (λ l. (st0.pruned * (8 * g.row.N) ≤ l) × (l < bit_count g.row.N st0))
    (λ l w. (omega (arith, w.0, c.pruned_bits-pruned.ensures), omega (arith, w.1, n, old.pruned.all))) clear
    within.earlier in
    let added = succeeded c.append.result _ (sym c.if-is_err.ensures.value) c.append.ensures.ok in
    let longer : length c.append.new.self.bits ≡ length st0.bits + length bits =
    ap (λ r. length r.bits) added ∙ length-append st0.bits bits in
    let st2 = c.clear_bits.new.status in
    let m2 = c.add_all.new.tree in
    let cl = c.clear_bits.ensures in
    let pr : st2.pruned ≡ st0.pruned = ap (λ r. r.pruned) cl ∙ ap (λ r. r.pruned) added in
    let kept_len : length st2.bits ≡ length c.append.new.self.bits =
    ap (λ r. length r.bits) cl ∙ length-cleared_from (c.append.new.self.pruned * (8 * g.row.N)) clear
    c.append.new.self.bits in
    let em_leaves : m1.leaves ≡ m0.leaves = ap (λ t. t.leaves) em in
    let n2 : m2.leaves ≡ m0.leaves + count = omega (arith, c.add_all.ensures.count, em_leaves) in
    let each : ArePruned G m2 st2 = still_pruned G L m0 m2 st0 st2 count old.pruned n2
    (c.add_all.ensures.boundary ∙ ap (λ t. t.boundary) em) pr (omega (arith, kept_len, longer, c.in_default.ensures.0)) in
    let grows : graftable G m0.leaves ≤ graftable G m2.leaves =
    graftable_grows G L m0.leaves m2.leaves (omega (arith, n2)) in
    let l1 : k1.leaves ≡ k0.leaves = ap (λ t. t.leaves) ek in
    let b1 : k1.boundary ≡ 0 = ap (λ t. t.boundary) ek ∙ old.unpruned in
    let p1 : k1.pinned ≡ [] = ap (λ t. t.pinned) ek ∙ old.unpinned in
    let sized : IsChunkSize g.row.N = old.sized in
    let grown : IsGrown text h S m2 = c.add_all.ensures.grown in
    let k2 = c.regraft.new.chunks in
    let place = c.regraft.ensures.place in
    let k3 = c.append_grafts.new.chunks in
    let acount = rw c.unwrap.ensures at c.append_grafts.ensures.count in
    let aplace = rw c.unwrap.ensures at c.append_grafts.ensures.place in
    let agrafts = rw c.unwrap.ensures at c.append_grafts.ensures.grafted in
    let r : HasRegrafted text h G m2 k2 st2 c.deref.result.now old.list =
    c.regraft.ensures.regrafted old.list
    (room_stands text k0 k1 ek S (λ list j a. chunk_node h G list a j) old.list old.stands) in
    let a : HasMoreGrafts text h G m2 k3 st2 r.now = agrafts r.now r.stands in
    let kept : AreKept text h G m2 k3 st2 = record {
      sized = sized;
      grown = grown;
      pruned = each;
      unpruned = aplace.0 ∙ place.1 ∙ b1;
      unpinned = aplace.1 ∙ place.2 ∙ p1;
      count = acount;
      list = r.now ++ a.more;
      stands = a.stands;
    } in
    let end : c.args.floor ≤ m2.leaves = omega (arith, n2, n, within.inside) in
    search rules

pub invariant_of-self-2 : goal.invariant_of-self-2
invariant_of-self-2 g c =
    let S = g.F.Family.shape in
    let L = g.met.F.Family.laws in
    let h = g.H.Hasher.hash_of in
    let text = g.H.Digest.Digest.text in
    let G : Grafting = record { shape = S; bytes = g.row.N } in
    let m0 = c.self.inside.operations in
    let k0 = c.self.inside.chunks in
    let st0 = c.self.inside.status in
    let old = c.self.invariant in
    let n : c.as_u64-leaves.result ≡ m0.leaves = c.as_u64-leaves.ensures ∙ c.leaves.ensures in
    let m1 = c.make_room.new.operations in
    let k1 = c.make_room.new.chunks in
    let em = c.make_room.ensures.operations in
    let ek = c.make_room.ensures.chunks in
    let bits : List Bool = c.args.bits.now in
    let clear : List ℕ = c.args.clear.now in
    let count : ℕ = length c.args.operations.now in
    let within = c.in_default.ensures.1 in
    let earlier : All (λ l. (st0.pruned * (8 * g.row.N) ≤ l) × (l < bit_count g.row.N st0)) clear =
    All-weaker (λ l. (c.pruned_bits-pruned.result ≤ l) × (l < c.as_u64-leaves.result))
    (λ l. (st0.pruned * (8 * g.row.N) ≤ l) × (l < bit_count g.row.N st0))
    (λ l w. (omega (arith, w.0, c.pruned_bits-pruned.ensures), omega (arith, w.1, n, old.pruned.all))) clear
    within.earlier in
    let added = succeeded c.append.result _ (sym c.if-is_err.ensures.value) c.append.ensures.ok in
    let longer : length c.append.new.self.bits ≡ length st0.bits + length bits =
    ap (λ r. length r.bits) added ∙ length-append st0.bits bits in
    let st2 = c.clear_bits.new.status in
    let m2 = c.add_all.new.tree in
    let cl = c.clear_bits.ensures in
    let pr : st2.pruned ≡ st0.pruned = ap (λ r. r.pruned) cl ∙ ap (λ r. r.pruned) added in
    let kept_len : length st2.bits ≡ length c.append.new.self.bits =
    ap (λ r. length r.bits) cl ∙ length-cleared_from (c.append.new.self.pruned * (8 * g.row.N)) clear
    c.append.new.self.bits in
    let em_leaves : m1.leaves ≡ m0.leaves = ap (λ t. t.leaves) em in
    let n2 : m2.leaves ≡ m0.leaves + count = omega (arith, c.add_all.ensures.count, em_leaves) in
    let each : ArePruned G m2 st2 = still_pruned G L m0 m2 st0 st2 count old.pruned n2
    (c.add_all.ensures.boundary ∙ ap (λ t. t.boundary) em) pr (omega (arith, kept_len, longer, c.in_default.ensures.0)) in
    let grows : graftable G m0.leaves ≤ graftable G m2.leaves =
    graftable_grows G L m0.leaves m2.leaves (omega (arith, n2)) in
    let l1 : k1.leaves ≡ k0.leaves = ap (λ t. t.leaves) ek in
    let b1 : k1.boundary ≡ 0 = ap (λ t. t.boundary) ek ∙ old.unpruned in
    let p1 : k1.pinned ≡ [] = ap (λ t. t.pinned) ek ∙ old.unpinned in
    let sized : IsChunkSize g.row.N = old.sized in
    let grown : IsGrown text h S m2 = c.add_all.ensures.grown in
    let k2 = c.regraft.new.chunks in
    let place = c.regraft.ensures.place in
    let k3 = c.append_grafts.new.chunks in
    let acount = rw c.unwrap.ensures at c.append_grafts.ensures.count in
    let aplace = rw c.unwrap.ensures at c.append_grafts.ensures.place in
    let agrafts = rw c.unwrap.ensures at c.append_grafts.ensures.grafted in
    let r : HasRegrafted text h G m2 k2 st2 c.deref.result.now old.list =
    c.regraft.ensures.regrafted old.list
    (room_stands text k0 k1 ek S (λ list j a. chunk_node h G list a j) old.list old.stands) in
    let a : HasMoreGrafts text h G m2 k3 st2 r.now = agrafts r.now r.stands in
    let kept : AreKept text h G m2 k3 st2 = record {
      sized = sized;
      grown = grown;
      pruned = each;
      unpruned = aplace.0 ∙ place.1 ∙ b1;
      unpinned = aplace.1 ∙ place.2 ∙ p1;
      count = acount;
      list = r.now ++ a.more;
      stands = a.stands;
    } in
    kept

pub returns-clause-status : goal.returns-clause-status
returns-clause-status g c =
    let S = g.F.Family.shape in
    let L = g.met.F.Family.laws in
    let h = g.H.Hasher.hash_of in
    let text = g.H.Digest.Digest.text in
    let G : Grafting = record { shape = S; bytes = g.row.N } in
    let m0 = c.self.inside.operations in
    let k0 = c.self.inside.chunks in
    let st0 = c.self.inside.status in
    let old = c.self.invariant in
    let n : c.as_u64-leaves.result ≡ m0.leaves = c.as_u64-leaves.ensures ∙ c.leaves.ensures in
    let m1 = c.make_room.new.operations in
    let k1 = c.make_room.new.chunks in
    let em = c.make_room.ensures.operations in
    let ek = c.make_room.ensures.chunks in
    let bits : List Bool = c.args.bits.now in
    let clear : List ℕ = c.args.clear.now in
    let count : ℕ = length c.args.operations.now in
    let within = c.in_default.ensures.1 in
    let earlier : All (λ l. (st0.pruned * (8 * g.row.N) ≤ l) × (l < bit_count g.row.N st0)) clear =
    All-weaker (λ l. (c.pruned_bits-pruned.result ≤ l) × (l < c.as_u64-leaves.result))
    (λ l. (st0.pruned * (8 * g.row.N) ≤ l) × (l < bit_count g.row.N st0))
    (λ l w. (omega (arith, w.0, c.pruned_bits-pruned.ensures), omega (arith, w.1, n, old.pruned.all))) clear
    within.earlier in
    let added = succeeded c.append.result _ (sym c.if-is_err.ensures.value) c.append.ensures.ok in
    let longer : length c.append.new.self.bits ≡ length st0.bits + length bits =
    ap (λ r. length r.bits) added ∙ length-append st0.bits bits in
    let st2 = c.clear_bits.new.status in
    let m2 = c.add_all.new.tree in
    let cl = c.clear_bits.ensures in
    let pr : st2.pruned ≡ st0.pruned = ap (λ r. r.pruned) cl ∙ ap (λ r. r.pruned) added in
    let kept_len : length st2.bits ≡ length c.append.new.self.bits =
    ap (λ r. length r.bits) cl ∙ length-cleared_from (c.append.new.self.pruned * (8 * g.row.N)) clear
    c.append.new.self.bits in
    let em_leaves : m1.leaves ≡ m0.leaves = ap (λ t. t.leaves) em in
    let n2 : m2.leaves ≡ m0.leaves + count = omega (arith, c.add_all.ensures.count, em_leaves) in
    let each : ArePruned G m2 st2 = still_pruned G L m0 m2 st0 st2 count old.pruned n2
    (c.add_all.ensures.boundary ∙ ap (λ t. t.boundary) em) pr (omega (arith, kept_len, longer, c.in_default.ensures.0)) in
    let grows : graftable G m0.leaves ≤ graftable G m2.leaves =
    graftable_grows G L m0.leaves m2.leaves (omega (arith, n2)) in
    let l1 : k1.leaves ≡ k0.leaves = ap (λ t. t.leaves) ek in
    let b1 : k1.boundary ≡ 0 = ap (λ t. t.boundary) ek ∙ old.unpruned in
    let p1 : k1.pinned ≡ [] = ap (λ t. t.pinned) ek ∙ old.unpinned in
    let sized : IsChunkSize g.row.N = old.sized in
    let grown : IsGrown text h S m2 = c.add_all.ensures.grown in
    let all : st2.bits ≡ cleared_from (st0.pruned * (8 * g.row.N)) clear st0.bits ++ bits =
    ap (λ r. r.bits) cl ∙ ap (λ r. cleared_from (r.pruned * (8 * g.row.N)) clear r.bits) added
    ∙ cleared-append (st0.pruned * (8 * g.row.N)) clear st0.bits bits earlier in
    let made : ℕ → List Bool → Retained = λ p b. record { pruned = p; bits = b } in
    rw (← c.self.view_is) (ap₂ made pr all)

pub returns-clause-stands : goal.returns-clause-stands
returns-clause-stands g c s snapshot stands =
    let S = g.F.Family.shape in
    let L = g.met.F.Family.laws in
    let h = g.H.Hasher.hash_of in
    let text = g.H.Digest.Digest.text in
    let G : Grafting = record { shape = S; bytes = g.row.N } in
    let m0 = c.self.inside.operations in
    let k0 = c.self.inside.chunks in
    let st0 = c.self.inside.status in
    let old = c.self.invariant in
    let n : c.as_u64-leaves.result ≡ m0.leaves = c.as_u64-leaves.ensures ∙ c.leaves.ensures in
    let m1 = c.make_room.new.operations in
    let k1 = c.make_room.new.chunks in
    let em = c.make_room.ensures.operations in
    let ek = c.make_room.ensures.chunks in
    let bits : List Bool = c.args.bits.now in
    let clear : List ℕ = c.args.clear.now in
    let count : ℕ = length c.args.operations.now in
    let within = c.in_default.ensures.1 in
    let earlier : All (λ l. (st0.pruned * (8 * g.row.N) ≤ l) × (l < bit_count g.row.N st0)) clear =
    All-weaker (λ l. (c.pruned_bits-pruned.result ≤ l) × (l < c.as_u64-leaves.result))
    (λ l. (st0.pruned * (8 * g.row.N) ≤ l) × (l < bit_count g.row.N st0))
    (λ l w. (omega (arith, w.0, c.pruned_bits-pruned.ensures), omega (arith, w.1, n, old.pruned.all))) clear
    within.earlier in
    let added = succeeded c.append.result _ (sym c.if-is_err.ensures.value) c.append.ensures.ok in
    let longer : length c.append.new.self.bits ≡ length st0.bits + length bits =
    ap (λ r. length r.bits) added ∙ length-append st0.bits bits in
    let st2 = c.clear_bits.new.status in
    let m2 = c.add_all.new.tree in
    let cl = c.clear_bits.ensures in
    let pr : st2.pruned ≡ st0.pruned = ap (λ r. r.pruned) cl ∙ ap (λ r. r.pruned) added in
    let kept_len : length st2.bits ≡ length c.append.new.self.bits =
    ap (λ r. length r.bits) cl ∙ length-cleared_from (c.append.new.self.pruned * (8 * g.row.N)) clear
    c.append.new.self.bits in
    let em_leaves : m1.leaves ≡ m0.leaves = ap (λ t. t.leaves) em in
    let n2 : m2.leaves ≡ m0.leaves + count = omega (arith, c.add_all.ensures.count, em_leaves) in
    let each : ArePruned G m2 st2 = still_pruned G L m0 m2 st0 st2 count old.pruned n2
    (c.add_all.ensures.boundary ∙ ap (λ t. t.boundary) em) pr (omega (arith, kept_len, longer, c.in_default.ensures.0)) in
    let grows : graftable G m0.leaves ≤ graftable G m2.leaves =
    graftable_grows G L m0.leaves m2.leaves (omega (arith, n2)) in
    let l1 : k1.leaves ≡ k0.leaves = ap (λ t. t.leaves) ek in
    let b1 : k1.boundary ≡ 0 = ap (λ t. t.boundary) ek ∙ old.unpruned in
    let p1 : k1.pinned ≡ [] = ap (λ t. t.pinned) ek ∙ old.unpinned in
    let sized : IsChunkSize g.row.N = old.sized in
    let grown : IsGrown text h S m2 = c.add_all.ensures.grown in
    let all : st2.bits ≡ cleared_from (st0.pruned * (8 * g.row.N)) clear st0.bits ++ bits =
    ap (λ r. r.bits) cl ∙ ap (λ r. cleared_from (r.pruned * (8 * g.row.N)) clear r.bits) added
    ∙ cleared-append (st0.pruned * (8 * g.row.N)) clear st0.bits bits earlier in
    let k2 = c.regraft.new.chunks in
    let place = c.regraft.ensures.place in
    let k3 = c.append_grafts.new.chunks in
    let acount = rw c.unwrap.ensures at c.append_grafts.ensures.count in
    let aplace = rw c.unwrap.ensures at c.append_grafts.ensures.place in
    let agrafts = rw c.unwrap.ensures at c.append_grafts.ensures.grafted in
    let r : HasRegrafted text h G m2 k2 st2 c.deref.result.now old.list =
    c.regraft.ensures.regrafted old.list
    (room_stands text k0 k1 ek S (λ list j a. chunk_node h G list a j) old.list old.stands) in
    let a : HasMoreGrafts text h G m2 k3 st2 r.now = agrafts r.now r.stands in
    let kept : AreKept text h G m2 k3 st2 = record {
      sized = sized;
      grown = grown;
      pruned = each;
      unpruned = aplace.0 ∙ place.1 ∙ b1;
      unpinned = aplace.1 ∙ place.2 ∙ p1;
      count = acount;
      list = r.now ++ a.more;
      stands = a.stands;
    } in
    let grafting : IsGrafting G = record { laws = L; size = sized } in
    let pace = g.met.F.Graftable.keeps_pace (height G) in
    let before = rw (← c.self.view_is) at stands in
    let total : m0.leaves ≡ length s.operations = before.leaves in
    let trees = trees_told text h G grafting m0 k0 st0 old c.trees_keep_the_nodes_of_their_list.ensures
    c.trees_keep_the_nodes_of_their_list-2.ensures s c.self.inside.floor _ _ _ before in
    let elements : List (List ℕ) = map g.E.AsSlice.items c.args.operations.now in
    let over1 : IsOver text h S m1 s.operations =
    room_stands text m0 m1 em S (plain_over h S) (leaf_digests h (ungrafted S) 0 s.operations) trees.0 in
    let over2 : IsOver text h S m2 (s.operations ++ elements) = c.add_all.ensures.over s.operations over1 in
    let t : Snapshot = extended s elements bits clear c.args.floor in
    let rest : IsRest g.row.N st2 t.bits = extended_rest g.row.N st0 st2 s elements bits clear c.args.floor before.status pr
    all (All-weaker (λ l. (st0.pruned * (8 * g.row.N) ≤ l) × (l < bit_count g.row.N st0))
    (λ l. st0.pruned * (8 * g.row.N) ≤ l) (λ l w. w.0) clear earlier) in
    let n3 : m2.leaves ≡ length (s.operations ++ elements) =
    over2.count ∙ length-leaf_digests h (ungrafted S) 0 (s.operations ++ elements) in
    let few = c.in_default.ensures.2 in
    let appended : length (cleared clear s.bits ++ bits) ≡ length (cleared clear s.bits) + length bits =
    length-append (cleared clear s.bits) bits in
    let grown_snapshot : IsSnapshot t = record {
      bit_each = omega (
        arith,
        appended,
        length-cleared clear s.bits,
        snapshot.bit_each,
        total,
        n2,
        n3,
        c.in_default.ensures.0,
      );
      floor_within = omega (arith, n, n2, n3, within.inside);
      few = omega (arith, n, n2, n3, few);
    } in
    let touch : AreTouched (height G) (length old.list) clear c.deref.result.now =
    rw (c.deref.ensures.value, ← old.stands.count) c.in-Ok.ensures.touched in
    let grafted : AreGraftedLeaves h G t (r.now ++ a.more) =
    all_grafted text h G grafting s snapshot elements bits clear c.args.floor m2 k2 k3 st2
    c.deref.result.now old.list rest trees.1 touch r a over2 (acount ∙ ap (graftable G) n3) in (
      grown_snapshot,
      kept_stands text h G pace grafting t grown_snapshot m2 k3 st2 c.trees_keep_the_nodes_of_their_list-3.ensures
          c.trees_keep_the_nodes_of_their_list-4.ensures kept over2 grafted rest c.args.floor _ _ _ refl
          (c.over-roots.ensures t rest refl over2),
    )
