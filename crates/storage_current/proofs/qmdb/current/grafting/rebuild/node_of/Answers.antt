use Rattle.std.proofs.Common.{ℕ, List, Option, option_map, sym, arith}
use Rattle.storage_merkle.specs.Hashing.{join_digest}
use Rattle.storage_current.specs.GraftedTrees.{rebuilt}
use Rattle.storage_current.proofs.Rebuilt.{none_or, seen_covered, some_covered}
use Rattle.std.proofs.lemmas.Grind.{common_steps}
use Rattle.storage_current.proofs.qmdb.current.grafting.rebuild.node_of.Goals as goal

pub returns-then-not-is_coverable : goal.returns-then-not-is_coverable
returns-then-not-is_coverable g c =
    let S = g.F.Family.shape in
    let text = g.R.Digest.Digest.text in
    let K : ℕ → Option (List ℕ) = λ p. option_map text (g.R.Readable.node c.args.tree.now p) in
    let J = join_digest g.H.Hasher.hash_of (g.H.Hasher.layout c.args.hasher.now) (g.H.Hasher.chunk c.args.hasher.now) in
    sym (none_or (rebuilt S J K c.args.height c.args.first)
    (λ e. let yes = c.is_coverable.ensures.1 (seen_covered S text (g.R.Readable.node c.args.tree.now) c.args.height
    c.args.first (some_covered S J K c.args.height c.args.first e)) in absurd (cc)))

pub returns-then-is_some : goal.returns-then-is_some
returns-then-is_some g c = grind (arith, common_steps)
