use Rattle.std.proofs.Common.{arith, ◌≡◌, ◌+◌, ◌-◌, ◌<◌, ◌≤◌, ◌^◌, ap, sym, ◌∙◌, ⊎_elim}
use Rattle.std.proofs.lemmas.Bool.{cases_lt}
use Rattle.storage_merkle.specs.Shape.{size}
use Rattle.storage_merkle.specs.Laws.Shape.{grows_at_most}
use Rattle.storage_merkle.specs.Kept.{paired}
use Rattle.storage_current.specs.GraftedTrees.{leaf_places}
use Rattle.storage_current.proofs.Pinned.{leaf_found, no_leaf, no_size, tree_at_high, tree_at_low}
use Rattle.storage_current.proofs.Roots.{get_copied}
use Rattle.storage_current.proofs.qmdb.current.grafting.tree.look_up.Goals as goal

pub returns-then-not-is_valid : goal.returns-then-not-is_valid
returns-then-not-is_valid g c =
    let S = g.F.Family.shape in
    let L = g.met.F.Family.laws in
    let past : size S (2 ^ 62) < c.args.position = ⊎_elim (λ (l : size S (2 ^ 62) < c.args.position). l)
    (λ (m : c.args.position ≤ size S (2 ^ 62)). absurd (let yes = c.if-not-is_valid.ensures.1 m in cc))
    (cases_lt (size S (2 ^ 62)) c.args.position) in
    let high : size S c.args.pruned ≤ size S (2 ^ 62) =
    grows_at_most (size S) L.grows c.args.pruned (2 ^ 62) (omega (arith, c.requires.few)) in
    sym (tree_at_high S c.args.pruned c.args.pinned.now c.args.leaves.now c.args.position (omega arith)
    ∙ no_leaf S L c.args.position c.args.pruned c.args.leaves.now (λ j l e.
    let below : size S j ≤ size S (2 ^ 62) = grows_at_most (size S) L.grows j (2 ^ 62) (omega (arith, c.requires.few)) in
    absurd (omega (arith, e))))

pub returns-then-place-pruned : goal.returns-then-place-pruned
returns-then-place-pruned g c =
    let S = g.F.Family.shape in
    let L = g.met.F.Family.laws in
    let up : size S (c.leaves_within-place.result + 1) ≤ size S c.args.pruned =
    grows_at_most (size S) L.grows _ _ (omega (arith, c.if-place-pruned.true)) in
    c.pin_at.ensures
    ∙ sym (tree_at_low S c.args.pruned c.args.pinned.now c.args.leaves.now c.args.position
    (omega (arith, c.leaves_within-place.ensures.high, c.as_u64.ensures)))

pub returns-then-nodes_over-as_u64 : goal.returns-then-nodes_over-as_u64
returns-then-nodes_over-as_u64 g c =
    let S = g.F.Family.shape in
    let L = g.met.F.Family.laws in
    let from : size S c.args.pruned ≤ size S c.leaves_within-place.result =
    grows_at_most (size S) L.grows _ _ c.if-place-pruned.false in
    sym (tree_at_high S c.args.pruned c.args.pinned.now c.args.leaves.now c.args.position
    (omega (arith, c.leaves_within-place.ensures.low, c.as_u64.ensures))
    ∙ no_leaf S L c.args.position c.args.pruned c.args.leaves.now
    (λ j l. no_size S L c.leaves_within-place.result c.args.position
    (omega (arith, c.leaves_within-place.ensures.low, c.as_u64.ensures))
    (omega (arith, c.leaves_within-place.ensures.high, c.as_u64.ensures))
    (λ e. c.if-nodes_over-as_u64.true (c.nodes_over.ensures ∙ e ∙ sym c.as_u64-2.ensures)) j))

pub returns : goal.returns
returns g c =
    let S = g.F.Family.shape in
    let L = g.met.F.Family.laws in
    let b = c.args.pruned in
    let place = c.leaves_within-place.result in
    let at : size S place ≡ c.args.position = sym c.nodes_over.ensures ∙ c.if-nodes_over-as_u64.false ∙ c.as_u64-2.ensures in
    let from : size S b ≤ size S place = grows_at_most (size S) L.grows b place c.if-place-pruned.false in
    let e : b + (place - b) ≡ place = omega (arith, c.if-place-pruned.false) in
    c.copied.ensures
    ∙ get_copied c.args.leaves.now (place - b) c.get.result c.get.ensures.lookup.0 c.get.ensures.lookup.1
    ∙ sym (tree_at_high S b c.args.pinned.now c.args.leaves.now c.args.position (omega arith)
    ∙ ap (λ p. paired p (leaf_places S b c.args.leaves.now) c.args.leaves.now) (sym at ∙ ap (size S) (sym e))
    ∙ leaf_found S L b (place - b) c.args.leaves.now)
