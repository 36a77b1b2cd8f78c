use Rattle.std.proofs.Common.{arith, ℕ, ◌+◌, ◌*◌, ◌^◌, ◌≤◌}
use Rattle.std.proofs.lemmas.Nat.{mul-le}
use Rattle.storage_merkle.specs.Laws.Multiples.{pow_le}
use Rattle.library_tests.proofs.grafted.append.Goals as goal

-- so few chunks have all their operations within the limit
room : (chunks height : ℕ) → chunks ≤ 1000 → height ≤ 8 → chunks * (2 * 2 ^ height) ≤ 2 ^ 62
room chunks height few high =
    let power : 2 ^ height ≤ 2 ^ 8 = pow_le height 8 high in
    let product : chunks * (2 * 2 ^ height) ≤ 1000 * 512 =
    mul-le chunks (2 * 2 ^ height) 1000 512 few (omega arith) in
    omega arith

pub add_leaf-requires : goal.add_leaf-requires
add_leaf-requires g c few p a k inner high below =
    let chunks = c.args.tree.now.leaves + 1 in
    rw c.new-hasher.ensures.height (c.nodes_over_chunks_are_taken.ensures.half c.new-hasher.result.inner chunks
    c.args.height p c.requires.low (room chunks c.args.height (omega (arith, c.requires.few)) c.requires.high) below
    (λ q covers. tt))

pub update_leaves-requires : goal.update_leaves-requires
update_leaves-requires g c fits p a k leaf inner below among low high =
    let chunks = c.add_leaf.new.self.leaves in
    rw c.new-hasher.ensures.height (c.nodes_over_chunks_are_taken.ensures.half c.new-hasher.result.inner chunks
    c.args.height p c.requires.low
    (room chunks c.args.height (omega (arith, c.in_default.ensures.place.0, c.requires.few)) c.requires.high) below
    (λ q covers. tt))
