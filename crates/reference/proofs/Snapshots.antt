-- Roots of snapshots from their parts.
use Rattle.std.proofs.Common.{◌≡◌, ℕ, ◌/◌, ◌%◌, ◌^◌, List, length, Bool, Option, Some, None, option_map, ltb, eqb, if◌then◌else◌, false, ap, ap₂, ◌∙◌}
use Rattle.storage_codec.specs.Digests.{HashFunction}
use Rattle.storage_bitmap.specs.Chunks.{chunk}
use Rattle.storage_merkle.specs.declared.merkle.bagging.Bagging.TheVariants.{BackwardFold}
use Rattle.storage_merkle.specs.RangeProofs.{Proof, own_proof}
use Rattle.storage_merkle.specs.Shape.{Shape}
use Rattle.storage_merkle.specs.Trees.{listed, tree_root}
use Rattle.storage_current.specs.Grafted.{grafted_over}
use Rattle.storage_current.specs.Snapshots.{aligned, canonical_root, canonical_string, exact, graftable_at, grafted_root_of, height, ops_root_of, RangeProof, own_range_proof, grafting_of}
use Rattle.reference.specs.Layouts.{laid_out, snapshot}

module _ (h : HashFunction) (S : Shape) (n : ℕ) (ops : List (List ℕ)) (bits : List Bool) (floor : ℕ) where
  pub ops_from : (m i : ℕ) (r : List ℕ) → m ≡ length ops → i ≡ exact S m floor
      → r ≡ tree_root h (laid_out S (λ a k. false)) BackwardFold (listed ops) i
      → r ≡ ops_root_of h (grafting_of S n) (snapshot ops bits floor)
  ops_from m i r count inactive root = root ∙ ap (tree_root h (laid_out S (λ a k. false)) BackwardFold (listed ops))
      (inactive ∙ ap (λ q. exact S q floor) count)

  view_root : ℕ → ℕ → ℕ → List ℕ
  view_root k c i = tree_root h (laid_out S (grafted_over k c)) BackwardFold
      (record { elements = ops; chunk = λ a. chunk n bits (a / 2 ^ k) }) i

  pub grafted_from : (m k c i : ℕ) (r : List ℕ) → m ≡ length ops → k ≡ height (grafting_of S n) → c ≡ graftable_at S k m
      → i ≡ aligned S m floor k → r ≡ tree_root h (laid_out S (grafted_over k c)) BackwardFold (record {
        elements = ops;
        chunk = λ a. chunk n bits (a / 2 ^ k);
      }) i → r ≡ grafted_root_of h (grafting_of S n) (snapshot ops bits floor)
  unfolding view_root
  grafted_from m k c i r count high chunks inactive root =
      let counted : view_root k c i ≡ view_root k (graftable_at S k m) (aligned S m floor k) =
      ap₂ (view_root k) chunks inactive in
      root ∙ counted ∙ ap₂ (λ (q p : ℕ). view_root q (graftable_at S q p) (aligned S p floor q)) high count

  view_proof : ℕ → ℕ → ℕ → ℕ → ℕ → Proof
  view_proof low high k c i = own_proof h (laid_out S (grafted_over k c)) BackwardFold
      (record { elements = ops; chunk = λ a. chunk n bits (a / 2 ^ k) }) i low high

  pub range_from : (m k c i low high : ℕ) (p : Proof) → m ≡ length ops → k ≡ height (grafting_of S n)
      → c ≡ graftable_at S k m → i ≡ aligned S m floor k → p ≡ own_proof h (laid_out S (grafted_over k c)) BackwardFold
      (record { elements = ops; chunk = λ a. chunk n bits (a / 2 ^ k) }) i low high
      → p ≡ (own_range_proof h (grafting_of S n) (snapshot ops bits floor) low high).range
  unfolding view_proof
  range_from m k c i low high p count high_is chunks inactive own =
      let counted : view_proof low high k c i ≡ view_proof low high k (graftable_at S k m) (aligned S m floor k) =
      ap₂ (view_proof low high k) chunks inactive in
      own ∙ counted ∙ ap₂ (λ (q r : ℕ). view_proof low high q (graftable_at S q r) (aligned S r floor q)) high_is count

  pub canonical_from : (m k c w next : ℕ) (o g r : List ℕ) (p q : Option (List ℕ)) → m ≡ length ops
      → k ≡ height (grafting_of S n) → c ≡ graftable_at S k m → w ≡ m / 2 ^ k → next ≡ m % 2 ^ k
      → o ≡ ops_root_of h (grafting_of S n) (snapshot ops bits floor)
      → g ≡ grafted_root_of h (grafting_of S n) (snapshot ops bits floor)
      → p ≡ option_map h (if ltb c w then Some (chunk n bits c) else None)
      → q ≡ option_map h (if eqb next 0 then None else Some (chunk n bits w))
      → r ≡ h (canonical_string o g p next q) → r ≡ canonical_root h (grafting_of S n) (snapshot ops bits floor)
  canonical_from m k c w next o g r p q count high chunks whole left ops_is view_is pending partial root =
      let O = ops_root_of h (grafting_of S n) (snapshot ops bits floor) in
      let V = grafted_root_of h (grafting_of S n) (snapshot ops bits floor) in
      let made : List ℕ → List ℕ → ℕ → ℕ → ℕ → List ℕ =
      λ o g c w next. h (canonical_string o g (option_map h (if ltb c w then Some (chunk n bits c) else None)) next
      (option_map h (if eqb next 0 then None else Some (chunk n bits w)))) in
      root ∙ ap₂ (λ (x y : Option (List ℕ)). h (canonical_string o g x next y)) pending partial
      ∙ ap₂ (λ (x y : List ℕ). made x y c w next) ops_is view_is
      ∙ ap (λ (x : ℕ). made O V x w next) chunks ∙ ap₂ (λ (x y : ℕ). made O V (graftable_at S k m) x y) whole left
      ∙ ap₂ (λ (x y : ℕ). made O V (graftable_at S x y) (y / 2 ^ x) (y % 2 ^ x)) high count

  pub current_from : (m k c w next low high : ℕ) (r : Proof) (o : List ℕ) (p q : Option (List ℕ)) → m ≡ length ops
      → k ≡ height (grafting_of S n) → c ≡ graftable_at S k m → w ≡ m / 2 ^ k → next ≡ m % 2 ^ k
      → r ≡ (own_range_proof h (grafting_of S n) (snapshot ops bits floor) low high).range
      → o ≡ ops_root_of h (grafting_of S n) (snapshot ops bits floor)
      → p ≡ option_map h (if ltb c w then Some (chunk n bits c) else None)
      → q ≡ option_map h (if eqb next 0 then None else Some (chunk n bits w))
      → record { range = r; pending = p; partial = q; ops_root = o }
      ≡ own_range_proof h (grafting_of S n) (snapshot ops bits floor) low high
  current_from m k c w next low high r o p q count high_is chunks whole left range_is ops_is pending partial =
      let R = (own_range_proof h (grafting_of S n) (snapshot ops bits floor) low high).range in
      let O = ops_root_of h (grafting_of S n) (snapshot ops bits floor) in
      let parts : Proof → List ℕ → Option (List ℕ) → Option (List ℕ) → RangeProof =
      λ r o p q. record { range = r; pending = p; partial = q; ops_root = o } in
      let made : Proof → List ℕ → ℕ → ℕ → ℕ → RangeProof =
      λ r o c w next. parts r o (option_map h (if ltb c w then Some (chunk n bits c) else None))
      (option_map h (if eqb next 0 then None else Some (chunk n bits w))) in
      ap₂ (parts r o) pending partial ∙ ap₂ (λ (x : Proof) (y : List ℕ). made x y c w next) range_is ops_is
      ∙ ap (λ (x : ℕ). made R O x w next) chunks ∙ ap₂ (λ (x y : ℕ). made R O (graftable_at S k m) x y) whole left
      ∙ ap₂ (λ (x y : ℕ). made R O (graftable_at S x y) (y / 2 ^ x) (y % 2 ^ x)) high_is count
