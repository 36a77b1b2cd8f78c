use Rattle.std.proofs.Common.{◌≡◌, ℕ, length, arith}
use Rattle.std.proofs.lemmas.Result.{IfOk-weaker}
use Rattle.library_tests.proofs.joined.node_from_memory.Goals as goal

pub returns : goal.returns
returns g c =
    IfOk-weaker c.node_from.result _ _
    (λ node own s leaves grafted stands whole snapshot count operations within. own s
    (rw grafted.count at (c.memory_trees_keep_the_view.ensures.truth s leaves (record { few = omega (arith, grafted.count); each = grafted.each }) stands))
    (rw grafted.count at (c.memory_trees_keep_the_view.ensures.whole _ leaves whole stands))
    snapshot count operations within)
    c.node_from.ensures
