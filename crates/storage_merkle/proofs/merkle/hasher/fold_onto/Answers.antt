use Rattle.std.proofs.Common.{◌≡◌, ◌∷◌, ◌++◌, [], Some, map, option_map, ap, sym, ◌∙◌}
use Rattle.std.proofs.lemmas.List.{map-append}
use Rattle.storage_merkle.specs.Hashers.{folded_onto}
use Rattle.storage_merkle.proofs.Folds.{onto_last}
use Rattle.storage_merkle.proofs.merkle.hasher.fold_onto.Goals as goal

pub loop-item-preserved : goal.loop-item-preserved
loop-item-preserved g c =
    let T = g.H.Digest.Digest.text in
    let h = g.H.Hasher.hash_of in
    let onto = option_map T c.loop-item.folded in
    let front = map T c.in-Some.front.now in
    let parts : map T c.loop-item.left.now ≡ front ++ T c.in-Some.item.now ∷ [] =
    ap (map T) c.in-Some.ensures.cases.0 ∙ map-append T c.in-Some.front.now (c.in-Some.item.now ∷ []) in
    ap (λ d. folded_onto h front (Some d)) c.join.ensures ∙ sym (onto_last h front (T c.in-Some.item.now) onto)
    ∙ ap (λ xs. folded_onto h xs onto) (sym parts) ∙ c.loop-item.invariant
