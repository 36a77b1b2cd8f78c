-- What a store of a tree gives is accepted against the tree's root.
use Rattle.std.proofs.Common.{◌≡◌, ℕ, ◌+◌, ◌≤◌, ◌^◌, List, [], ◌∷◌, length, refl, sym, arith, subst, Option, Some, None}
use Rattle.storage_codec.specs.Digests.{HashFunction}
use Rattle.storage_merkle.specs.Shape.{Laws}
use Rattle.storage_merkle.specs.Trees.{Layout, Content, tree_root}
use Rattle.storage_merkle.specs.RangeProofs.{SameChunks, StandAt, IsAccepted, IsOwn}
use Rattle.storage_merkle.specs.Multi.{Claim, Ascend, IsMultiAccepted, Stand, locations}
use Rattle.storage_merkle.specs.Stores.{Store, IsStoreOf, AreTrueAt, first_of, multi_refusal, range_refusal, store_multi_proof, store_proof}
use Rattle.storage_merkle.proofs.Multi.Own.{own_multi_accepted}
use Rattle.storage_merkle.proofs.RangeOwn.{own_accepted}
use Rattle.storage_merkle.proofs.Store.Multi.{multi_own}
use Rattle.storage_merkle.proofs.Store.Own.{inside_range, stores_give_own}
use Rattle.storage_merkle.proofs.Store.Steps.{ascends}

first_none : {A : Type 0} (a b : Option A) → first_of a b ≡ None → a ≡ None
first_none None b e = refl
first_none (Some q) b e = cc

module _ (F : Type 0) (h : HashFunction) (T : Layout) (L : Laws T.shape) (store : Store) (content : Content)
    (inactive : ℕ) (few : length content.elements ≤ 2 ^ 62)
    (peaks_few : inactive ≤ length (T.shape.peaks (length content.elements)))
    (st : IsStoreOf h T store content inactive) where
  pub range_accepted : (low : ℕ) (claim : Content) → StandAt content.elements low claim.elements
      → SameChunks T (length content.elements) low (low + length claim.elements) claim content
      → range_refusal F T.shape store low (low + length claim.elements) ≡ None
      → IsAccepted h T store.bagging (store_proof h T store low (low + length claim.elements)) low claim
      (tree_root h T store.bagging content inactive)
  range_accepted low claim stand same none =
      let high = low + length claim.elements in
      let inside = inside_range F T.shape store low high none in
      let is : IsOwn h T store.bagging (store_proof h T store low high) low claim content inactive = record {
        proof_is = stores_give_own F h T L store content inactive st low high none;
        elements_are = stand;
        chunks_are = same;
      } in
      own_accepted h T L store.bagging low claim content inactive (store_proof h T store low high) few peaks_few
      (omega (arith, inside.1)) is

  pub multi_accepted : (peaks : List (ℕ × List ℕ)) → AreTrueAt h T content peaks
      → (claims : List Claim) → Stand content.elements claims
      → multi_refusal F T.shape store peaks (locations claims) ≡ None
      → IsMultiAccepted h T store.bagging (store_multi_proof T.shape store peaks (locations claims)) claims
      content.chunk (tree_root h T store.bagging content inactive)
  multi_accepted peaks trues [] stand none = absurd (cc)
  multi_accepted peaks trues (c ∷ cs) stand none =
      let ls = locations (c ∷ cs) in
      let up : Ascend 0 store.leaves ls = ascends F store.leaves 0 ls (first_none _ _ none) in
      subst (λ p. IsMultiAccepted h T store.bagging p (c ∷ cs) content.chunk
      (tree_root h T store.bagging content inactive))
      (sym (multi_own h T L store content inactive st peaks trues F ls none))
      (own_multi_accepted h T store.bagging (c ∷ cs) content inactive few peaks_few (omega arith)
      (subst (λ n. Ascend 0 n ls) st.leaves_are up) stand)
