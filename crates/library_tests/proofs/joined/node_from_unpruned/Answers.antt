use Rattle.std.proofs.Common.{◌≡◌, ℕ, length, arith}
use Rattle.std.proofs.lemmas.Result.{IfOk-weaker}
use Rattle.library_tests.proofs.joined.node_from_unpruned.Goals as goal

pub returns : goal.returns
returns g c =
    IfOk-weaker c.node_from.result _ _
    (λ node own s leaves grafted keeps whole snapshot count operations within.
    let t = c.args.chunks.now in
    let same : length t.leaves ≡ length leaves = omega (arith, keeps.count, whole) in
    own s
    (c.grafted_trees_keep_the_view.ensures s leaves (record { few = omega (arith, grafted.count); each = grafted.each }) keeps)
    (rw (same, grafted.count) at (c.nodes_inside_no_pin_are_coverable.ensures.whole whole))
    snapshot count operations within)
    c.node_from.ensures
