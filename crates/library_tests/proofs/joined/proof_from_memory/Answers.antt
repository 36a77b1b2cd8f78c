use Rattle.std.proofs.Common.{◌≡◌, ℕ, length, arith}
use Rattle.library_tests.proofs.BothTrees.{some_weaker}
use Rattle.library_tests.proofs.joined.proof_from_memory.Goals as goal

pub returns : goal.returns
returns g c =
    some_weaker c.proof_from.result _ _
    (λ answer own s leaves grafted stands parts. own s
    (rw grafted.count at (c.memory_trees_keep_the_view.ensures.truth s leaves (record { few = omega (arith, grafted.count); each = grafted.each }) stands)) parts)
    c.proof_from.ensures
