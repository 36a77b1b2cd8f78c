use Rattle.std.proofs.Common.{ap, ◌∙◌, sym}
use Rattle.std.specs.Option.{is_some}
use Rattle.storage_current.specs.GraftedTrees.{join_over}
use Rattle.storage_current.proofs.PrunedViews.{regrafted_is, regrafted_true}
use Rattle.storage_current.proofs.Rebuilt.{covered_some, rebuilt_kept, some_covered}
use Rattle.storage_current.proofs.laws.grafted_trees.rebuilt_nodes_are_true.Goals as goal

pub returns-clause-had : goal.returns-clause-had
returns-clause-had g c height position first own kept node =
    let S = g.F.Family.shape in
    let digest = g.H.Hasher.digest_of in
    let text = g.H.Digest.Digest.text in
    let is = ap is_some (regrafted_is S g.met.F.Family.laws digest text height kept position first own node) in (
      (λ some. some_covered S (join_over digest text S height) kept own first (sym is ∙ some)),
      (λ coverable. is ∙ covered_some S (join_over digest text S height) kept own first coverable),
    )

pub returns-clause-kept : goal.returns-clause-kept
returns-clause-kept g c height position first own kept digest node is =
    let S = g.F.Family.shape in
    let hashed = g.H.Hasher.digest_of in
    let text = g.H.Digest.Digest.text in
    regrafted_is S g.met.F.Family.laws hashed text height kept position first own node
    ∙ rebuilt_kept S (join_over hashed text S height) kept own first digest (ap kept node.at ∙ is)

pub returns-clause-truth : goal.returns-clause-truth
returns-clause-truth g c height leaves node kept halves true_of =
    regrafted_true g.H.Hasher.digest_of g.H.Digest.Digest.text g.H.Hasher.hash_of g.met.H.Hasher.told g.F.Family.shape
    g.met.F.Family.laws height leaves node halves kept true_of
