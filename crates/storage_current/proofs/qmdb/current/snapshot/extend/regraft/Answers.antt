use Rattle.std.proofs.Common.{◌≡◌, ◌≤◌, ◌<◌, ◌+◌, ◌*◌, ◌^◌, ◌++◌, ◌∷◌, [], ℕ, List, All, length, map, take, get_or, ap, ap₂, sym, ◌∙◌, arith, add-one, is_ok, true, vec_len, rules, inl, inr, ⊎_elim}
use Rattle.std.proofs.Math.Seq.{take-suc}
use Rattle.std.proofs.lemmas.List.{map-append, take_all}
use Rattle.std.proofs.lemmas.List.Elements.{All-get_or, All-push, All-same, All-weaker}
use Rattle.storage_merkle.specs.Shape.{size}
use Rattle.storage_merkle.specs.Laws.Shape.{grows_at_most}
use Rattle.storage_current.specs.Laws.Grafting.{graftable_by_birth, height_of_power}
use Rattle.storage_current.specs.Snapshots.{Grafting, graftable, graftable_at, height, view_node}
use Rattle.storage_current.proofs.Growing.{in_place, none_away, regrafted}
use Rattle.storage_current.proofs.MemViews.{chunk_written, granted}
use Rattle.storage_current.proofs.Raised.{graftable_raised}
use Rattle.storage_current.proofs.qmdb.current.snapshot.extend.regraft.Goals as goal

pub graft_at-digest-requires : goal.graft_at-digest-requires
graft_at-digest-requires g c =
    let G : Grafting = record { shape = g.F.Family.shape; bytes = g.row.N } in
    let touched : List ℕ = c.args.touched.now in
    let i : ℕ = c.loop-index.index-index in
    let here = All-get_or (λ j. (c.args.status.now.pruned ≤ j) × (j < c.args.chunks.now.leaves)) touched i 0
    c.loop-index-test.true c.requires.below in
    let from : c.args.status.now.pruned ≤ get_or touched i 0 = here.0 in
    let within : get_or touched i 0 < graftable G c.args.operations.now.leaves =
    omega (arith, here.1, c.requires.within) in
    let few : c.args.operations.now.leaves ≤ 2 ^ 62 = c.requires.grown.few in
    search rules

pub loop-index-preserved : goal.loop-index-preserved
loop-index-preserved g c =
    let S = g.F.Family.shape in
    let h = g.H.Hasher.hash_of in
    let text = g.H.Digest.Digest.text in
    let G : Grafting = record { shape = S; bytes = g.row.N } in
    let touched : List ℕ = c.args.touched.now in
    let i : ℕ = c.loop-index.index-index in
    let before = c.loop-index.invariant in
    let us = c.loop-index.updates.items in
    let within : i < length touched = c.loop-index-test.true in
    let items = rw c.unwrap.ensures at c.push.ensures.items in
    let len : vec_len c.push.new.self ≡ vec_len c.loop-index.updates + 1 = rw c.unwrap.ensures at c.push.ensures.len in
    let step : take (i + 1) touched ≡ take i touched ++ get_or touched i 0 ∷ [] =
    ap (λ (n : ℕ). take n touched) (add-one i) ∙ take-suc touched i 0 within in
    rw items (record {
      room = omega (arith, before.room, c.push.ensures.capacity, len, within);
      keys = map-append (λ u. u.0) us _ ∙ ap₂ (λ (xs ys : List ℕ). xs ++ ys) before.keys
          (ap (λ (x : ℕ). x ∷ []) c.new.ensures) ∙ sym step;
      grafts = λ s same over. All-push (λ u. text u.1 ≡ view_node h G s (u.0 * 2 ^ height G) (height G)) us _
          (before.grafts s same over) (rw c.new.ensures (c.graft_at-digest.ensures s same over));
    })

pub update_leaves-requires : goal.update_leaves-requires
update_leaves-requires g c all p a k leaf inner below there from to =
    let S = g.F.Family.shape in
    let L = g.met.F.Family.laws in
    let G : Grafting = record { shape = S; bytes = g.row.N } in
    let r = c.height-height.result in
    let m = c.args.operations.now in
    let level : height G ≡ r = height_of_power S g.row.N _ c.height-height.ensures.power in
    let three : 3 ≤ r = c.height-height.ensures.low in
    let count : ℕ = graftable_at S r m.leaves in
    let within : c.args.chunks.now.leaves ≤ graftable_at S r m.leaves = rw level at c.requires.within in
    let most : size S c.args.chunks.now.leaves ≤ size S (graftable_at S r m.leaves) =
    grows_at_most (size S) L.grows c.args.chunks.now.leaves (graftable_at S r m.leaves) within in
    rw c.new-hasher.ensures.height (graftable_raised S L (λ q. Unit {0}) m.leaves (graftable_at S r m.leaves) r p
    (g.met.F.Graftable.stays_within r (omega arith) c.height-height.ensures.high) (omega arith) c.requires.grown.few
    (graftable_by_birth S L r m.leaves) (omega (arith, below, most)) (λ q k. tt))

pub returns-clause-regrafted : goal.returns-clause-regrafted
returns-clause-regrafted g c list stands =
    let S = g.F.Family.shape in
    let h = g.H.Hasher.hash_of in
    let text = g.H.Digest.Digest.text in
    let G : Grafting = record { shape = S; bytes = g.row.N } in
    let level : height G ≡ c.height-height.result = height_of_power S g.row.N _ c.height-height.ensures.power in
    let old = c.args.chunks.now in
    let us = c.loop-index.updates.items in
    let touched : List ℕ = c.args.touched.now in
    let all : take c.loop-index.index-index touched ≡ touched =
    take_all c.loop-index.index-index touched (omega (arith, c.loop-index-test.false)) in
    let keys : map (λ u. u.0) us ≡ touched = c.loop-index.invariant.keys ∙ all in
    let inside : All (λ j. j < old.leaves) (map (λ u. u.0) us) = All-same (λ j. j < old.leaves) _ touched keys
    (All-weaker (λ j. (c.args.status.now.pruned ≤ j) × (j < old.leaves)) (λ j. j < old.leaves) (λ j w. w.1) touched
    c.requires.below) in
    let why = rw c.deref.ensures.value at c.update_leaves.ensures.why in
    let ok : is_ok c.update_leaves.result ≡ true = in_place c.update_leaves.result _ why (λ e w.
    none_away old.leaves (map (λ u. u.0) us) inside old.boundary w.0 c.requires.unpruned w.1
    (⊎_elim (λ l. inl l.0) (λ r. inr r.0) w.2)) in
    let put = rw (c.new-hasher.ensures.height, c.deref.ensures.value) at c.update_leaves.ensures.stands in
    let written = granted c.update_leaves.result _ ok put in
    regrafted text h G c.args.operations.now old c.update_leaves.new.self c.args.status.now touched us keys
    c.loop-index.invariant.grafts (chunk_written text h G c.height-height.result old c.update_leaves.new.self
    (map (λ u. (u.0, text u.1)) us) level written) list stands

pub returns-clause-place : goal.returns-clause-place
returns-clause-place g c =
    let old = c.args.chunks.now in
    let us = c.loop-index.updates.items in
    let touched : List ℕ = c.args.touched.now in
    let all : take c.loop-index.index-index touched ≡ touched =
    take_all c.loop-index.index-index touched (omega (arith, c.loop-index-test.false)) in
    let keys : map (λ u. u.0) us ≡ touched = c.loop-index.invariant.keys ∙ all in
    let inside : All (λ j. j < old.leaves) (map (λ u. u.0) us) =
    All-same (λ j. j < old.leaves) _ touched keys
    (All-weaker (λ j. (c.args.status.now.pruned ≤ j) × (j < old.leaves)) (λ j. j < old.leaves) (λ j w. w.1) touched
    c.requires.below) in
    let why = rw c.deref.ensures.value at c.update_leaves.ensures.why in
    let ok : is_ok c.update_leaves.result ≡ true = in_place c.update_leaves.result _ why (λ e w.
    none_away old.leaves (map (λ u. u.0) us) inside old.boundary w.0 c.requires.unpruned w.1
    (⊎_elim (λ l. inl l.0) (λ r. inr r.0) w.2)) in
    let place = granted c.update_leaves.result _ ok c.update_leaves.ensures.place in
    (place.0, place.1, place.2, c.update_leaves.ensures.room)
