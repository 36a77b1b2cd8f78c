use Rattle.std.proofs.Common.{◌≡◌, ℕ, length, arith}
use Rattle.library_tests.proofs.BothTrees.{some_weaker}
use Rattle.library_tests.proofs.joined.proof_from_pruned.Goals as goal

pub returns : goal.returns
returns g c =
    some_weaker c.proof_from.result _ _
    (λ answer own s leaves grafted keeps parts. own s (c.grafted_trees_keep_the_view.ensures s leaves grafted keeps) parts)
    c.proof_from.ensures
