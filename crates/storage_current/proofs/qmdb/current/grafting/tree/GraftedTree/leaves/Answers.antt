use Rattle.std.proofs.Common.{arith, ◌≡◌, ◌+◌, length, ap}
use Rattle.storage_current.proofs.qmdb.current.grafting.tree.GraftedTree.leaves.Goals as goal

pub returns : goal.returns
returns g c =
    let seen : c.self.inside.pruned + length c.self.inside.leaves.items
    ≡ c.args.self.now.pruned + length c.args.self.now.leaves = ap (λ t. t.pruned + length t.leaves) c.self.view_is in
    omega (arith, c.new.ensures, c.len.ensures, c.self.inside.leaves.ok, seen)
