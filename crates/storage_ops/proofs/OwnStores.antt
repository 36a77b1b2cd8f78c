-- What a store of a list's own proof gives is accepted.
use Rattle.std.proofs.Common.{◌≡◌, ℕ, ◌<◌, ◌⊎◌, inl, inr, List, length, refl, sym, ap, ◌∙◌, subst, arith}
use Rattle.storage_codec.specs.Digests.{HashFunction}
use Rattle.storage_merkle.specs.Shape.{Shape, Laws}
use Rattle.storage_merkle.specs.declared.merkle.bagging.Bagging.{Bagging}
use Rattle.storage_merkle.specs.declared.merkle.bagging.Bagging.TheVariants.{BackwardFold}
use Rattle.storage_merkle.specs.Soundness.{OwnRangeProofsAreAccepted}
use Rattle.storage_merkle.specs.Trees.{Layout, Content, listed, tree_root, ungrafted}
use Rattle.storage_merkle.specs.RangeProofs.{Proof, IsAccepted, IsOwn}
use Rattle.storage_merkle.specs.Stores.{GivesAccepted, IsMadeOf, Store, StoresOfOwnProofsGiveAccepted, store_of}
use Rattle.storage_ops.specs.OwnStores.{GivesAcceptedOf, IsOwnOfList}

-- one check of some elements accepts one root
one_root : (h : HashFunction) (T : Layout) (b : Bagging) (proof : Proof) (start : ℕ) (claim : Content)
    (r s : List ℕ) → 0 < length claim.elements → IsAccepted h T b proof start claim r
    → IsAccepted h T b proof start claim s → r ≡ s
one_root h T b proof start claim r s some (inl x) (inl y) = sym x.1 ∙ y.1
one_root h T b proof start claim r s some (inl x) (inr y) =
    absurd (let none = y.0.none in omega (arith, ap length none))
one_root h T b proof start claim r s some (inr x) y = absurd (let none = x.0.none in omega (arith, ap length none))

pub given_of_own : (F : Type 0) → StoresOfOwnProofsGiveAccepted F → OwnRangeProofsAreAccepted → (d : ℕ)
    (h : HashFunction) (S : Shape) → Laws S → (proof : Proof) (start : ℕ) (operations : List (List ℕ))
    (root : List ℕ) (store : Store) → IsMadeOf d h (ungrafted S) BackwardFold proof start (listed operations) root store
    → (list : List (List ℕ)) (inactive : ℕ) → IsOwnOfList h S proof start operations list inactive
    → GivesAcceptedOf F h S store list root
given_of_own F gives accepts d h S L proof start operations root store made list inactive own =
    let T = ungrafted S in
    let is : IsOwn h T BackwardFold proof start (listed operations) (listed list) inactive = record {
      proof_is = own.proof_is;
      elements_are = own.stand;
      chunks_are = λ a k one g multiple inside touches. refl;
    } in
    let accepted = accepts h T L BackwardFold proof start (listed operations) (listed list) inactive own.few own.peaks
    own.some is in
    let same : tree_root h T BackwardFold (listed list) inactive ≡ root =
    one_root h T BackwardFold proof start (listed operations) _ root own.some accepted made.accepted in
    let given = gives h T L BackwardFold proof start (listed operations) (listed list) inactive own.few own.peaks own.some
    is in
    let there : GivesAcceptedOf F h S (store_of h T BackwardFold proof start (listed operations)) list
    (tree_root h T BackwardFold (listed list) inactive) = record {
      ranges = λ low part stand none. given.ranges low (listed part) stand (λ a k one g multiple inside touches. refl)
          none;
      multi = λ peaks are claims stand none. given.multi peaks are claims stand none;
    } in
    subst (λ s. GivesAcceptedOf F h S s list root) (sym made.all)
    (subst (GivesAcceptedOf F h S (store_of h T BackwardFold proof start (listed operations)) list) same there)
