use Rattle.std.proofs.Common.{◌≡◌, ℕ, ◌+◌, ◌/◌, ◌^◌, List, map, length, sym, subst}
use Rattle.storage_merkle.specs.declared.merkle.bagging.Bagging.TheVariants.{BackwardFold}
use Rattle.storage_merkle.specs.Extracted.{extracted, tree_entries}
use Rattle.storage_merkle.specs.RangeProofs.{IsOwn, check_strings}
use Rattle.storage_merkle.specs.Stores.{IsStoreOf}
use Rattle.storage_merkle.specs.Trees.{Layout, Content, content_of}
use Rattle.storage_current.specs.Grafted.{grafted_over, supplied}
use Rattle.storage_current.specs.HeldOfViews.{HoldsOfViews}
use Rattle.storage_current.proofs.ChunkLengths.{of_views, of_multi_views}
use Rattle.storage_current.proofs.laws.chunk_lengths.checks_with_supplied_chunks_hold_of_views.Goals as goal

pub returns-clause-ranges : goal.returns-clause-ranges
returns-clause-ranges g c = λ size start proof elements root other all given proved.
    let v = c.args.hasher.now in
    let h = g.H.Hasher.hash_of in
    let S = g.F.Family.shape in
    let chunks : List (List ℕ) = map (λ x. x.now) v.chunks.items in
    let T : Layout = record { shape = S; position = S.position; grafted = grafted_over v.height v.graftable_chunks } in
    let claim : Content = content_of elements (λ a. supplied v.start_chunk_index chunks (a / 2 ^ v.height)) in
    of_views size v.height v.graftable_chunks v.start_chunk_index chunks S _ h other proof.leaves all
    (check_strings h T BackwardFold proof start claim) root
    (λ U content inactive. IsOwn h U BackwardFold proof start claim content inactive) start elements given proved

pub returns-clause-digests : goal.returns-clause-digests
returns-clause-digests g c = λ size start proof elements root other all given handed are.
    let v = c.args.hasher.now in
    let h = g.H.Hasher.hash_of in
    let S = g.F.Family.shape in
    let chunks : List (List ℕ) = map (λ x. x.now) v.chunks.items in
    let T : Layout = record { shape = S; position = S.position; grafted = grafted_over v.height v.graftable_chunks } in
    let claim : Content = content_of elements (λ a. supplied v.start_chunk_index chunks (a / 2 ^ v.height)) in
    subst (λ ds. HoldsOfViews size h S v.height (check_strings h T BackwardFold proof start claim) root
    (λ U content inactive. ds ≡ tree_entries h U content start (start + length elements))) (sym are.all)
    (of_views size v.height v.graftable_chunks v.start_chunk_index chunks S _ h other proof.leaves all
    (check_strings h T BackwardFold proof start claim) root
    (λ U content inactive. extracted h T BackwardFold proof start claim
    ≡ tree_entries h U content start (start + length elements)) start elements given are.are_true)

pub returns-clause-stores : goal.returns-clause-stores
returns-clause-stores g c = λ size start proof elements root other all given store made.
    let v = c.args.hasher.now in
    let h = g.H.Hasher.hash_of in
    let S = g.F.Family.shape in
    let chunks : List (List ℕ) = map (λ x. x.now) v.chunks.items in
    let T : Layout = record { shape = S; position = S.position; grafted = grafted_over v.height v.graftable_chunks } in
    let claim : Content = content_of elements (λ a. supplied v.start_chunk_index chunks (a / 2 ^ v.height)) in
    of_views size v.height v.graftable_chunks v.start_chunk_index chunks S _ h other proof.leaves all
    (check_strings h T BackwardFold proof start claim) root
    (λ U content inactive. IsStoreOf h U store content inactive) start elements given made.of_trees

pub returns-clause-locations : goal.returns-clause-locations
returns-clause-locations g c = λ size proof claims root other all given proved.
    let v = c.args.hasher.now in
    let chunks : List (List ℕ) = map (λ x. x.now) v.chunks.items in
    of_multi_views size v.height v.graftable_chunks v.start_chunk_index chunks g.F.Family.shape _ g.H.Hasher.hash_of other
    proof all claims root given proved
