-- What trees over chunks keep: which nodes, and that these cover.
use Rattle.std.proofs.Common.{◌≡◌, ℕ, zero, suc, ◌+◌, ◌-◌, ◌%◌, ◌^◌, ◌<◌, ◌≤◌, ◌⊎◌, inl, inr, List, [], ◌∷◌, length, length-drop, map, drop, get_or, get_or-drop, Bool, true, false, if◌then◌else◌, eqb, eqb-true, Option, Some, None, IsSome, option_map, refl, sym, ap, ap₂, ◌∙◌, arith, ⊎_elim, pow_pos}
use Rattle.std.specs.List.{slice_get}
use Rattle.std.specs.Option.{is_some}
use Rattle.std.proofs.lemmas.Bool.{cases_lt, lt-leb}
use Rattle.std.proofs.lemmas.List.{length-map}
use Rattle.std.proofs.lemmas.Option.{slice_get-get_or}
use Rattle.storage_merkle.specs.Kept.{Kept, NodesOver, StandsFor, at_peaks, kept_at, paired, pins}
use Rattle.storage_merkle.specs.Laws.Multiples.{pow_two, multiple_add, multiple_down, power_multiple}
use Rattle.storage_merkle.specs.Laws.Shape.{grows_at_most, inside_between}
use Rattle.storage_merkle.specs.Nodes.{IsNode, placed}
use Rattle.storage_merkle.specs.Shape.{Shape, Laws, size, AreAligned, Inside}
use Rattle.storage_current.specs.CombinedViews.{EachIsCoverable}
use Rattle.storage_current.specs.GraftedTrees.{IsCoverable, IsKeptIn, IsPeak, KeptChunks, Keeps, leaf_places, tree_at}
use Rattle.storage_current.proofs.Pinned.{covered, inside_under, kept_within, leaf_found, leaf_is, peak_inside, peak_topmost, paired-map, pin_some, pin_true, tree_at-map, tree_at_high, tree_at_low}
use Rattle.storage_current.proofs.Rebuilt.{covered_kept, map_some}

-- ---- options

there : {X : Type 0} (o : Option X) → IsSome o → (x : X) × (o ≡ Some x)
there None e = absurd (cc)
there (Some x) e = (x, refl)

only : {X : Type 0} (o : Option X) (x : X) → IsSome o → ((y : X) → o ≡ Some y → y ≡ x) → o ≡ Some x
only None x e each = absurd (cc)
only (Some y) x e each = ap Some (each y refl)

none : {X : Type 0} (o : Option X) → ((x : X) → o ≡ Some x → ⊥) → o ≡ None
none None gone = refl
none (Some x) gone = absurd (gone x refl)

length-at_peaks : (node : ℕ → ℕ → List ℕ) (s : ℕ) (hs : List ℕ) → length (at_peaks node s hs) ≡ length hs
length-at_peaks node s [] = refl
length-at_peaks node s (h ∷ hs) = ap suc (length-at_peaks node (s + 2 ^ h) hs)

module _ (S : Shape) (L : Laws S) where
  -- ---- pins and leaves

  -- what is found among the pins is a peak's
  pin_peak : {D : Type 0} (hs : List ℕ) (s a k : ℕ) (ds : List D) (d : D) → AreAligned hs s → a % 2 ^ k ≡ 0
      → paired (S.position a k) (map (λ p. p.0) (placed S s hs)) ds ≡ Some d → IsPeak hs s a k
  unfolding AreAligned
  pin_peak [] s a k ds d al aa e = cc
  pin_peak (h ∷ hs) s a k [] d al aa e = cc
  pin_peak (h ∷ hs) s a k (x ∷ ds) d al aa e =
      go (λ f. pin_peak hs (s + 2 ^ h) a k ds d al.1 aa f) (eqb (S.position s h) (S.position a k)) refl e
    where
      go : (paired (S.position a k) (map (λ p. p.0) (placed S (s + 2 ^ h) hs)) ds ≡ Some d → IsPeak hs (s + 2 ^ h) a k)
          → (b : Bool) → eqb (S.position s h) (S.position a k) ≡ b
          → (if b then Some x else paired (S.position a k) (map (λ p. p.0) (placed S (s + 2 ^ h) hs)) ds) ≡ Some d
          → ((s ≡ a) × (h ≡ k)) ⊎ IsPeak hs (s + 2 ^ h) a k
      go more true t f = inl (L.injective s h a k al.0 aa (eqb-true _ _ t))
      go more false t f = inr (more f)

  -- a node that is kept is a pin or a leaf
  kept_what : {D : Type 0} (b : ℕ) (ps ls : List D) (a k : ℕ) (d : D) → a % 2 ^ k ≡ 0
      → tree_at S b ps ls (S.position a k) ≡ Some d
      → IsPeak (S.peaks b) 0 a k ⊎ ((k ≡ 0) × (b ≤ a) × (a < b + length ls))
  kept_what b ps ls a k d al e =
      ⊎_elim
      (λ (l : S.position a k < size S b).
      inl (pin_peak (S.peaks b) 0 a k ps d (L.aligned b) al (sym (tree_at_low S b ps ls _ l) ∙ e)))
      (λ (m : size S b ≤ S.position a k). let i = leaf_is S L b ps ls a k d al m e in inr (i.level, i.place, i.within))
      (cases_lt (S.position a k) (size S b))

  pub keeps_none : {D : Type 0} (b : ℕ) (ps ls : List D) (p a k : ℕ) → IsNode S p a k → (IsPeak (S.peaks b) 0 a k → ⊥)
      → ((k ≡ 0) × (b ≤ a) × (a < b + length ls) → ⊥) → tree_at S b ps ls p ≡ None
  keeps_none b ps ls p a k node no_pin no_leaf =
      ap (tree_at S b ps ls) (sym node.at)
      ∙ none (tree_at S b ps ls (S.position a k)) (λ d e. ⊎_elim no_pin no_leaf (kept_what b ps ls a k d node.aligned e))

  module _ {D : Type 0} (text : D → List ℕ) (N : NodesOver) (t : KeptChunks D) (list : List (List ℕ))
      (keeps : Keeps text S N t list) where
    pub keeps_pins : (p a k : ℕ) → IsNode S p a k → IsPeak (S.peaks t.pruned) 0 a k
        → option_map text (tree_at S t.pruned t.pinned t.leaves p) ≡ Some (N list k a)
    keeps_pins p a k node peak =
        let b = t.pruned in
        let hs = S.peaks b in
        let q = S.position a k in
        let born : S.birth a k ≤ b = (L.inside b a k node.aligned).0 (peak_inside hs 0 a k peak) in
        let low : q < size S b = (L.born b a k node.aligned).1 born in
        ap (λ q. option_map text (tree_at S b t.pinned t.leaves q)) (sym node.at)
        ∙ tree_at-map text S b t.pinned t.leaves q
        ∙ tree_at_low S b (map text t.pinned) (map text t.leaves) q low
        ∙ ap (paired q (pins S b)) keeps.pins
        ∙ only (paired q (pins S b) (at_peaks (N list) 0 hs)) (N list k a)
        (pin_some S hs 0 a k peak (at_peaks (N list) 0 hs) (length-at_peaks (N list) 0 hs))
        (λ d e. pin_true S L (N list) hs 0 a k d (L.aligned b) node.aligned e)

    pub keeps_leaves : (j : ℕ) → t.pruned ≤ j → j < length list
        → option_map text (tree_at S t.pruned t.pinned t.leaves (size S j)) ≡ Some (get_or list j [])
    keeps_leaves j from to =
        let b = t.pruned in
        let high : size S b ≤ size S j = grows_at_most (size S) L.grows b j from in
        let same : b + (j - b) ≡ j = omega arith in
        tree_at-map text S b t.pinned t.leaves (size S j)
        ∙ tree_at_high S b (map text t.pinned) (map text t.leaves) (size S j) high
        ∙ ap (λ n. paired (size S n) (leaf_places S b (map text t.leaves)) (map text t.leaves)) (sym same)
        ∙ leaf_found S L b (j - b) (map text t.leaves)
        ∙ ap (λ xs. slice_get xs (j - b)) keeps.leaves
        ∙ slice_get-get_or (drop b list) (j - b) [] (omega (arith, length-drop b list))
        ∙ ap Some (get_or-drop b list (j - b) [] ∙ ap (λ n. get_or list n []) same)

  -- ---- coverable nodes

  module _ {D : Type 0} (b : ℕ) (ps ls : List D) where
    -- a coverable node is over leaves of the tree
    pub coverable_within : (k a : ℕ) → a % 2 ^ k ≡ 0 → IsCoverable (IsKeptIn S (tree_at S b ps ls)) 0 k a
        → a + 2 ^ k ≤ b + length ls
    coverable_within zero a al kept = let d = there (tree_at S b ps ls (S.position a zero)) kept in
        kept_within S L b ps ls a zero d.0 al d.1
    coverable_within (suc k) a al (inl kept) = let d = there (tree_at S b ps ls (S.position a (suc k))) kept in
        kept_within S L b ps ls a (suc k) d.0 al d.1
    coverable_within (suc k) a al (inr c) =
        let left : a % 2 ^ k ≡ 0 = multiple_down a k (suc k) (omega arith) al in
        let right : (a + 2 ^ k) % 2 ^ k ≡ 0 =
        multiple_add a (2 ^ k) (2 ^ k) (pow_pos k) left (power_multiple k k (omega arith)) in
        let end : a + 2 ^ k + 2 ^ k ≤ b + length ls = coverable_within k (a + 2 ^ k) right c.2 in
        omega (arith, end, pow_two k)

    -- inside a pin only the pin itself is kept
    inside_kept : (k a : ℕ) → a % 2 ^ k ≡ 0 → IsKeptIn S (tree_at S b ps ls) a k → Inside (S.peaks b) 0 a k
        → IsPeak (S.peaks b) 0 a k
    inside_kept k a al kept inside =
        let d = there (tree_at S b ps ls (S.position a k)) kept in
        elim (kept_what b ps ls a k d.0 al d.1) [
          | inl peak ↦ peak
          | inr leaf ↦
              let from : b ≤ a = leaf.1 in
              absurd (omega (arith, from, (inside_between (S.peaks b) 0 a k inside).1, L.sum b, pow_pos k))
        ]

    -- and only the pin itself is coverable
    pub coverable_top : (k a : ℕ) → a % 2 ^ k ≡ 0 → IsCoverable (IsKeptIn S (tree_at S b ps ls)) 0 k a
        → Inside (S.peaks b) 0 a k → IsPeak (S.peaks b) 0 a k
    coverable_top zero a al kept inside = inside_kept zero a al kept inside
    coverable_top (suc k) a al (inl kept) inside = inside_kept (suc k) a al kept inside
    coverable_top (suc k) a al (inr c) inside =
        let two = pow_two k in
        let left : a % 2 ^ k ≡ 0 = multiple_down a k (suc k) (omega arith) al in
        let under : Inside (S.peaks b) 0 a k = inside_under (S.peaks b) 0 a (suc k) a k inside (omega arith) (omega arith) in
        absurd (peak_topmost (S.peaks b) 0 a k a (coverable_top k a left c.1 under) (omega arith) (omega arith) inside)

    -- where nothing is pruned each is
    pub unpruned_each : length ps ≡ length (S.peaks b) → b ≡ 0 → EachIsCoverable S (length ls) (tree_at S b ps ls)
    unpruned_each few none p a k within node =
        let here : S.position a k < size S (length ls) = omega (arith, node.at) in
        let born : S.birth a k ≤ length ls = (L.born (length ls) a k node.aligned).0 here in
        covered S L b ps ls few k a node.aligned (omega (arith, born, L.late a k))
        (λ i. absurd (let early : S.birth a k ≤ b = (L.inside b a k node.aligned).0 i in
        omega (arith, early, L.late a k, pow_pos k)))

  -- ---- trees in memory

  module _ {D : Type 0} (text : D → List ℕ) (N : NodesOver) (m : Kept D) (list : List (List ℕ))
      (stands : StandsFor text S N m list)
      (keeps : (p a k : ℕ) → IsNode S p a k → size S m.boundary ≤ p → p < size S (length list)
      → option_map text (kept_at S m.boundary m.pinned m.nodes p) ≡ Some (N list k a)) where
    -- what is kept of a node is the list's
    pub memory_true : (p a k : ℕ) (d : D) → p < size S (length list) → IsNode S p a k
        → kept_at S m.boundary m.pinned m.nodes p ≡ Some d → text d ≡ N list k a
    memory_true p a k d within node is =
        let b = m.boundary in
        ⊎_elim
        (λ (l : p < size S b).
        let low : paired p (pins S b) m.pinned ≡ Some d =
        ap (λ c. if c then slice_get m.nodes (p - size S b) else paired p (pins S b) m.pinned) (sym (lt-leb _ _ l)) ∙ is in
        pin_true S L (N list) (S.peaks b) 0 a k (text d) (L.aligned b) node.aligned
        (ap (λ ds. paired (S.position a k) (pins S b) ds) (sym stands.holds.peaks)
        ∙ ap (λ q. paired q (pins S b) (map text m.pinned)) node.at
        ∙ sym (paired-map text p (pins S b) m.pinned) ∙ ap (option_map text) low))
        (λ (high : size S b ≤ p).
        let e : Some (text d) ≡ Some (N list k a) = ap (option_map text) (sym is) ∙ keeps p a k node high within in cc)
        (cases_lt p (size S b))

    -- where nothing is forgotten each is kept
    pub memory_each : m.boundary ≡ 0 → EachIsCoverable S (length list) (kept_at S m.boundary m.pinned m.nodes)
    memory_each whole p a k within node =
        let e : size S m.boundary ≡ size S 0 = ap (size S) whole in
        let some : IsSome (kept_at S m.boundary m.pinned m.nodes p) =
        sym (map_some text (kept_at S m.boundary m.pinned m.nodes p))
        ∙ ap is_some (keeps p a k node (omega (arith, e)) within) in
        covered_kept (IsKeptIn S (kept_at S m.boundary m.pinned m.nodes)) k a
        (ap (λ q. is_some (kept_at S m.boundary m.pinned m.nodes q)) node.at ∙ some)
