use Rattle.std.proofs.Common.{arith, ◌+◌, ◌*◌, ◌^◌, ◌≤◌, length}
use Rattle.std.proofs.lemmas.Nat.{mul-le}
use Rattle.storage_merkle.specs.Laws.Multiples.{pow_le}
use Rattle.replay_trees.proofs.grafted_trees.pruned.Goals as goal

pub prune-requires : goal.prune-requires
prune-requires g c few p a k inner high below =
    let chunks = c.args.chunks in
    let power : 2 ^ c.args.height ≤ 2 ^ 8 = pow_le c.args.height 8 c.requires.high in
    let most : chunks ≤ 1000 = omega (arith, few, c.leaves.ensures) in
    let product : chunks * (2 * 2 ^ c.args.height) ≤ 1000 * 512 =
    mul-le chunks (2 * 2 ^ c.args.height) 1000 512 most (omega arith) in
    let room : chunks * (2 * 2 ^ c.args.height) ≤ 2 ^ 62 = omega arith in
    rw c.new-hasher.ensures.height (c.nodes_over_chunks_are_taken.ensures.half c.new-hasher.result.inner chunks
    c.args.height p c.requires.low room below (λ q covers. tt))
