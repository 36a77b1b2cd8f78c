use Rattle.std.proofs.Common.{◌≡◌, ◌≤◌, ◌<◌, ◌+◌, [], ◌∷◌, ℕ, length, map, arith, ap, sym, subst, ◌∙◌, rules}
use Rattle.std.proofs.lemmas.List.{length-map, length_push, map-append}
use Rattle.storage_current.specs.KeptTrees.{AreGraftsFrom}
use Rattle.storage_current.specs.Laws.Grafting.{graftable_is, height_of_power}
use Rattle.storage_current.specs.Snapshots.{Grafting, graftable, graftable_at, height}
use Rattle.storage_current.proofs.MemViews.{grafts_more}
use Rattle.storage_current.proofs.qmdb.current.chunk_tree.grafts_behind.Goals as goal

pub graft_at-digest-requires : goal.graft_at-digest-requires
graft_at-digest-requires g c =
    let S = g.F.Family.shape in
    let L = g.met.F.Family.laws in
    let G : Grafting = record { shape = S; bytes = g.row.N } in
    let r = c.height.result in
    let m = c.args.operations.now in
    let count : ℕ = c.graftable_chunks-count.result in
    let leaves : c.as_u64.result ≡ m.leaves = c.as_u64.ensures ∙ c.leaves.ensures in
    let level : height G ≡ r = height_of_power S g.row.N _ c.height.ensures.power in
    let total : count ≡ graftable G m.leaves =
    rw level (graftable_is S L r c.as_u64.result count c.graftable_chunks-count.ensures ∙ ap (graftable_at S r) leaves) in
    let within : c.loop-index.index < graftable G m.leaves = omega (arith, total, c.loop-index-test.true) in
    let from : c.args.status.now.pruned ≤ c.loop-index.index = omega (arith, c.loop-index.invariant.place) in
    search rules

pub loop-index-preserved : goal.loop-index-preserved
loop-index-preserved g c =
    let h = g.H.Hasher.hash_of in
    let text = g.H.Digest.Digest.text in
    let G : Grafting = record { shape = g.F.Family.shape; bytes = g.row.N } in
    let before = c.loop-index.invariant in
    let grafts = c.loop-index.grafts.items in
    let d = c.graft_at-digest.result in
    rw c.in_ok-push.ensures.items (record {
      place = omega (arith, before.place, length_push grafts d);
      own = λ s same over.
          let place : c.args.status.now.pruned + length (map text grafts) ≡ c.loop-index.index =
          omega (arith, before.place, length-map grafts text) in
          subst (AreGraftsFrom h G s c.args.status.now.pruned) (sym (map-append text grafts (d ∷ [])))
          (grafts_more h G s c.args.status.now.pruned (map text grafts) (text d) (before.own s same over)
          (rw place (c.graft_at-digest.ensures s same over)));
    })

pub returns-clause-count : goal.returns-clause-count
returns-clause-count g c =
    let S = g.F.Family.shape in
    let L = g.met.F.Family.laws in
    let G : Grafting = record { shape = S; bytes = g.row.N } in
    let r = c.height.result in
    let m = c.args.operations.now in
    let count : ℕ = c.graftable_chunks-count.result in
    let leaves : c.as_u64.result ≡ m.leaves = c.as_u64.ensures ∙ c.leaves.ensures in
    let level : height G ≡ r = height_of_power S g.row.N _ c.height.ensures.power in
    let total : count ≡ graftable G m.leaves =
    rw level (graftable_is S L r c.as_u64.result count c.graftable_chunks-count.ensures ∙ ap (graftable_at S r) leaves) in
    omega (arith, total, c.requires.bits.few, c.loop-index.invariant.place, c.loop-index-test.false, c.loop-index.auto.index-end)
