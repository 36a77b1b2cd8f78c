use Rattle.std.proofs.Common.{map, option_map, ◌∙◌}
use Rattle.storage_merkle.proofs.Folds.{bagged_none, bagged_some}
use Rattle.storage_merkle.proofs.merkle.hasher.bag_digests.Goals as goal

pub returns-in-None : goal.returns-in-None
returns-in-None g c =
    let T = g.H.Digest.Digest.text in
    bagged_none g.H.Hasher.hash_of (map T c.args.front.now) (map T c.args.rest.now)
    (option_map T c.fold_onto-folded.result) c.in-None.ensures c.fold_onto-folded.ensures

pub returns-in-Some : goal.returns-in-Some
returns-in-Some g c =
    let T = g.H.Digest.Digest.text in
    c.join.ensures ∙ bagged_some g.H.Hasher.hash_of (map T c.args.front.now) (map T c.args.rest.now) (T c.in-Some.item)
    (option_map T c.fold_onto-folded.result) c.in-Some.ensures c.fold_onto-folded.ensures
