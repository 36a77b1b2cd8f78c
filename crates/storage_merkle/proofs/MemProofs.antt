-- Range proofs from the nodes that a tree in memory keeps.
use Rattle.std.proofs.Common.{◌≡◌, ◌≢◌, ℕ, suc, ◌+◌, ◌-◌, ◌%◌, ◌<◌, ◌≤◌, ◌^◌, List, [], ◌∷◌, length, map, get_or, Contains, Bool, true, false, if◌then◌else◌, eqb, leb, leb-true, eqb-true, ◌||◌, ◌⊎◌, inl, inr, refl, sym, ap, ap₂, ◌∙◌, arith, subst, Option, Some, None, MatchOption, Result, Ok, Err}
use Rattle.std.specs.List.{slice_get}
use Rattle.std.proofs.lemmas.Bool.{le-leb}
use Rattle.std.proofs.lemmas.Option.{slice_get-get_or}
use Rattle.std.proofs.lemmas.List.{length-map}
use Rattle.storage_codec.specs.Digests.{HashFunction}
use Rattle.storage_merkle.specs.declared.merkle.bagging.Bagging.{Bagging}
use Rattle.storage_merkle.specs.declared.merkle.error.Error.{Error}
use Rattle.storage_merkle.specs.declared.merkle.error.Error.TheVariants.{ElementPruned, InvalidProof, Memory}
use Rattle.storage_merkle.specs.Shape.{Shape, Laws, Inside, AreAligned, size}
use Rattle.storage_merkle.specs.Laws.Shape.{inside_between}
use Rattle.storage_merkle.specs.Nodes.{IsNode, placed}
use Rattle.storage_merkle.specs.Hashing.{leaf_digests, node_over}
use Rattle.storage_merkle.specs.Laws.Hashing.{node_over-tree, length-leaf_digests}
use Rattle.storage_merkle.specs.Kept.{Kept, IsWhole, HoldsDigests, StandsFor, at_peaks, kept_at, paired, pins}
use Rattle.storage_merkle.specs.Plans.{InTree, IsFirstAbsent, IsOwnOfEach, PlanOf, planned}
use Rattle.storage_merkle.specs.RangeProofs.{Proof, apart, own_proof}
use Rattle.storage_merkle.specs.Trees.{Layout, Content}
use Rattle.storage_merkle.proofs.Greatest.{greatest_nodes_are_planned}
use Rattle.storage_merkle.proofs.MemNodes.{IsKept, kept_some, clean_none, seen}
use Rattle.storage_merkle.proofs.Topmost.{Parent, kept_below}
use Rattle.storage_merkle.proofs.Walks.{in_tree_leaves}

at_head : (q : ℕ) (qs : List ℕ) → Contains (q ∷ qs) q
at_head q qs = (0, omega arith, refl)

past_head : (q : ℕ) (qs : List ℕ) (z : ℕ) → Contains qs z → Contains (q ∷ qs) z
past_head q qs z has = (suc has.0, omega (arith, has.1), has.2)

-- the node that stands at a place, and that it is kept
record KeptNode (S : Shape) (L : Laws S) (n b p : ℕ) : Type 0 where
  first : ℕ
  height : ℕ
  is : IsNode S p first height
  kept : IsKept S L b (size S n) first height

module _ (S : Shape) (L : Laws S) where
  planned_fits : (n low high p : ℕ) → n ≤ 2 ^ 62 → Contains (planned S n low high) p → p < 2 ^ 64
  planned_fits n low high p few has =
      let r = (greatest_nodes_are_planned S L n low high p).0 has in
      let inside = r.3.tree.inside in
      omega (arith, r.2.at)

  -- a planned node of a range at or past the boundary is kept
  planned_kept : (n b low high p : ℕ) → b ≤ n → b ≤ low → Contains (planned S n low high) p → KeptNode S L n b p
  planned_kept n b low high p order from has =
      let r = (greatest_nodes_are_planned S L n low high p).0 has in
      let a = r.0 in
      let k = r.1 in
      let none : (q : Parent a k) → Inside (S.peaks b) 0 q.first (suc k) → ⊥ = λ q i.
      let ends = inside_between (S.peaks b) 0 q.first (suc k) i in
      let reach : q.first + 2 ^ suc k ≤ low = omega (arith, ends.1, L.sum b) in
      let born : S.birth q.first (suc k) ≤ b = (L.inside b q.first (suc k) q.aligned).0 i in
      let tree : InTree S n q.first (suc k) =
      record { aligned = q.aligned; inside = (L.born n q.first (suc k) q.aligned).1 (omega arith) } in
      let same = r.3.greatest q.first (suc k) tree (before low high q.first (suc k) reach) q.low q.high in
      absurd (omega (arith, same.1)) in
      record {
        first = a;
        height = k;
        is = r.2;
        kept = kept_below S L b (size S n) a k r.2.aligned r.3.tree.inside none;
      }
    where
      before : (low high a k : ℕ) → a + 2 ^ k ≤ low → apart low high a k ≡ true
      before low high a k le = ap (λ t. t || leb high a) (le-leb _ _ le)

  -- what is found beside the position of a pinned node is its digest
  paired_is : (node : ℕ → ℕ → List ℕ) (hs : List ℕ) (s a k : ℕ) (d : List ℕ) → AreAligned hs s → a % 2 ^ k ≡ 0
      → paired (S.position a k) (map (λ p. p.0) (placed S s hs)) (at_peaks node s hs) ≡ Some d → d ≡ node k a
  unfolding AreAligned
  paired_is node [] s a k d al aa e = absurd cc
  paired_is node (h ∷ hs) s a k d al aa e =
      go (λ x. paired_is node hs (s + 2 ^ h) a k d al.1 aa x) (eqb (S.position s h) (S.position a k)) refl e
    where
      go : (paired (S.position a k) (map (λ p. p.0) (placed S (s + 2 ^ h) hs)) (at_peaks node (s + 2 ^ h) hs) ≡ Some d
          → d ≡ node k a) →
          (t : Bool) → eqb (S.position s h) (S.position a k) ≡ t → (if t then Some (node h s)
          else paired (S.position a k) (map (λ p. p.0) (placed S (s + 2 ^ h) hs)) (at_peaks node (s + 2 ^ h) hs))
          ≡ Some d → d ≡ node k a
      go rest true x e = let i = L.injective s h a k al.0 aa (eqb-true _ _ x) in let f : node h s ≡ d = cc in
          sym f ∙ ap₂ (λ y z. node z y) i.0 i.1
      go rest false x e = rest e

  -- a kept digest is the list's
  kept_is_node : (node : ℕ → ℕ → List ℕ) (b n a k : ℕ) (pinned nodes : List (List ℕ)) (d : List ℕ) → a % 2 ^ k ≡ 0
      → S.position a k < size S n → length nodes + size S b ≡ size S n → HoldsDigests S node [] b (size S n) pinned nodes
      → kept_at S b pinned nodes (S.position a k) ≡ Some d → d ≡ node k a
  kept_is_node node b n a k pinned nodes d aligned inside count holds e = go (leb (size S b) (S.position a k)) refl e
    where
      go : (t : Bool) → leb (size S b) (S.position a k) ≡ t → (if t then slice_get nodes (S.position a k - size S b)
          else paired (S.position a k) (pins S b) pinned) ≡ Some d → d ≡ node k a
      go true x e =
          let le : size S b ≤ S.position a k = leb-true _ _ x in
          let f : Some (get_or nodes (S.position a k - size S b) []) ≡ Some d =
          sym (slice_get-get_or nodes (S.position a k - size S b) [] (omega arith)) ∙ e in
          let g : get_or nodes (S.position a k - size S b) [] ≡ d = cc in
          sym g ∙ holds.from a k aligned le inside (clean_none a k)
      go false x e = paired_is node (S.peaks b) 0 a k d (L.aligned b) aligned
          (ap (paired (S.position a k) (pins S b)) (sym holds.peaks) ∙ e)

  module _ {D : Type 0} (text : D → List ℕ) (m : Kept D)
      (whole : IsWhole S m.leaves m.boundary (length m.pinned) (length m.nodes)) where
    -- what is kept at a place, by its bytes
    text_at : (p : ℕ) (d : D) → Some d ≡ kept_at S m.boundary m.pinned m.nodes p
        → kept_at S m.boundary (map text m.pinned) (map text m.nodes) p ≡ Some (text d)
    text_at p d e = seen text S m.boundary m.pinned m.nodes p (Some d) e

    -- a proof from what is kept is the own one of each tree for which the tree in memory stands
    pub range_own : (answers : ℕ → Option D → Type 0)
        → ((p : ℕ) (d : D) → p < 2 ^ 64 → answers p (Some d) → Some d ≡ kept_at S m.boundary m.pinned m.nodes p) →
        (h : HashFunction) (b : Bagging) (plan : PlanOf) (inactive low high : ℕ) (proof : Proof)
        → plan ≡ record { leaves = m.leaves; start = low; end = high }
        → IsOwnOfEach text answers h S b plan inactive proof →
        (T : Layout) (content : Content) → T.shape ≡ S → StandsFor text S (node_over h T content.chunk) m
        (leaf_digests h T 0 content.elements) → proof ≡ own_proof h T b content inactive low high
    range_own answers kept h b plan inactive low high proof same own T content shape stands =
        let n = m.leaves in
        let few = whole.few in
        let count : n ≡ length content.elements = stands.count ∙ length-leaf_digests h T 0 content.elements in
        let at : IsOwnOfEach text answers h S b (record { leaves = n; start = low; end = high }) inactive proof =
        subst (λ x. IsOwnOfEach text answers h S b x inactive proof) same own in
        at T content shape (sym count) (λ p a k d has node answer.
        let r = (greatest_nodes_are_planned S L n low high p).0 has in
        let node2 : IsNode S p a k = subst (λ x. IsNode x p a k) shape node in
        let once = L.injective r.0 r.1 a k r.2.aligned node2.aligned (r.2.at ∙ sym node2.at) in
        let inside : S.position a k < size S n = (let i = r.3.tree.inside in omega (arith, node2.at, r.2.at)) in
        let tree : InTree S n a k = record { aligned = node2.aligned; inside = inside } in
        let reach = in_tree_leaves S L n a k tree in
        let found = text_at p d (kept p d (planned_fits n low high p few has) answer) in
        let here : kept_at S m.boundary (map text m.pinned) (map text m.nodes) (S.position a k) ≡ Some (text d) =
        ap (kept_at S m.boundary (map text m.pinned) (map text m.nodes)) node2.at ∙ found in
        let sizes : length (map text m.nodes) + size S m.boundary ≡ size S n =
        ap (λ x. x + size S m.boundary) (length-map m.nodes text) ∙ whole.count in
        kept_is_node (node_over h T content.chunk (leaf_digests h T 0 content.elements)) m.boundary n a k
        (map text m.pinned) (map text m.nodes) (text d) node2.aligned inside sizes stands.holds here
        ∙ node_over-tree h T content k a (omega arith))

    -- each planned node of a range at or past the boundary is kept
    pub none_absent : (low high p : ℕ) → m.boundary ≤ low
        → IsFirstAbsent (λ q a. a ≡ kept_at S m.boundary m.pinned m.nodes q) (planned S m.leaves low high) p → ⊥
    none_absent low high p from absent = go (planned S m.leaves low high) (λ q has. has) absent
      where
        go : (qs : List ℕ) → ((q : ℕ) → Contains qs q → Contains (planned S m.leaves low high) q)
            → IsFirstAbsent (λ q a. a ≡ kept_at S m.boundary m.pinned m.nodes q) qs p → ⊥
        go [] all x = x
        go (q ∷ qs) all (inl x) =
            let r = planned_kept m.leaves m.boundary low high q whole.order from (all q (at_head q qs)) in
            let some = kept_some S L m.boundary (size S m.leaves) r.first r.height (map text m.pinned)
            (map text m.nodes) r.kept (ap (λ z. z + size S m.boundary) (length-map m.nodes text)
            ∙ whole.count) (length-map m.pinned text ∙ whole.pins) in
            let none : kept_at S m.boundary (map text m.pinned) (map text m.nodes) q ≡ None =
            seen text S m.boundary m.pinned m.nodes q None x.0 in
            let both : None ≡ Some some.0 =
            sym none ∙ (ap (kept_at S m.boundary (map text m.pinned) (map text m.nodes)) (sym r.is.at) ∙ some.1) in
            absurd cc
        go (q ∷ qs) all (inr x) = go qs (λ z has. all z (past_head q qs z has)) x.2

-- the first absent one, where the answers are those of what is kept
pub absent_of : {D : Type 0} (answers kept : ℕ → Option D → Type 0) (qs : List ℕ) (p : ℕ) → ((q : ℕ) (a : Option D)
    → Contains qs q → answers q a → kept q a) → IsFirstAbsent answers qs p → IsFirstAbsent kept qs p
absent_of answers kept [] p to x = x
absent_of answers kept (q ∷ qs) p to (inl x) = inl (to q None (at_head q qs) x.0, x.1)
absent_of answers kept (q ∷ qs) p to (inr x) = inr (
  x.0,
  to q (Some x.0) (at_head q qs) x.1,
  absent_of answers kept qs p (λ z a has. to z a (past_head q qs z has)) x.2,
)

-- ---- what a call answers

-- a plan that was made is the one that was asked for
pub plan_is : {P E : Type 0} (o : Option E) (p x : P)
    → MatchOption o (p ≡ x) (λ e. ◌≡◌ {A = Result P E} (Ok p) (Err e)) → p ≡ x
plan_is None p x m = m
plan_is (Some e) p x m = absurd cc

pub planned_then : {P E : Type 0} (o : Option E) (p x : P) (A : Type 0) (B : E → Type 0)
    → MatchOption o (p ≡ x) (λ e. ◌≡◌ {A = Result P E} (Ok p) (Err e)) → A → MatchOption o A B
planned_then None p x A B m a = a
planned_then (Some e) p x A B m a = absurd cc

-- a plan that was not made was refused, or there was no memory
pub refused_then : (P Q : Type 0) {E : Type 0} (o : Option E) (e memory : E) (A : Type 0)
    → MatchOption o (e ≡ memory) (λ x. ◌≡◌ {A = Result P E} (Err e) (Err x)) → (e ≡ memory → A)
    → MatchOption o A (λ x. ◌≡◌ {A = Result Q E} (Err e) (Err x))
refused_then P Q None e memory A m to = to m
refused_then P Q (Some x) e memory A m to = let same : e ≡ x = cc in ap Err same

-- why a proof is not built
abbrev IsBuiltRefusal : {F D : Type 0} → Shape → (ℕ → Option D → Type 0) → PlanOf → ℕ → Error F → Type 0
IsBuiltRefusal S answers plan inactive e =
    ((length (S.peaks plan.leaves) < inactive) × (e ≡ InvalidProof))
    ⊎ ((inactive ≤ length (S.peaks plan.leaves)) × (((p : ℕ) × (e ≡ ElementPruned p)
    × IsFirstAbsent answers (planned S plan.leaves plan.start plan.end) p) ⊎ (e ≡ Memory)))

abbrev IsProofRefusal : {F D : Type 0} → Shape → (ℕ → Option D → Type 0) → PlanOf → ℕ → Error F → Type 0
IsProofRefusal S answers plan inactive e =
    ((length (S.peaks plan.leaves) < inactive) × (e ≡ InvalidProof))
    ⊎ (((inactive ≤ length (S.peaks plan.leaves)) × ((p : ℕ) × (e ≡ ElementPruned p)
    × IsFirstAbsent answers (planned S plan.leaves plan.start plan.end) p)) ⊎ (e ≡ Memory))

module _ (S : Shape) (L : Laws S) {D : Type 0} (text : D → List ℕ) (m : Kept D)
    (whole : IsWhole S m.leaves m.boundary (length m.pinned) (length m.nodes)) (answers : ℕ → Option D → Type 0)
    (kept : (p : ℕ) (d : Option D) → p < 2 ^ 64 → answers p d → d ≡ kept_at S m.boundary m.pinned m.nodes p)
    (plan : PlanOf) (inactive low high : ℕ)
    (same : plan ≡ record { leaves = m.leaves; start = low; end = high }) where
  abbrev over : PlanOf
  over = record { leaves = m.leaves; start = low; end = high }

  pub why_refused : {F : Type 0} (e : Error F) → IsBuiltRefusal S answers plan inactive e
      → IsProofRefusal S (λ q a. a ≡ kept_at S m.boundary m.pinned m.nodes q) over inactive e
  why_refused e x = go (subst (λ p. IsBuiltRefusal S answers p inactive e) same x)
    where
      go : IsBuiltRefusal S answers over inactive e
          → IsProofRefusal S (λ q a. a ≡ kept_at S m.boundary m.pinned m.nodes q) over inactive e
      go (inl x) = inl x
      go (inr x) = elim x.1 [
        | inl y ↦ inr (inl (
          x.0,
          (
            y.0,
            y.1,
            absent_of answers (λ q a. a ≡ kept_at S m.boundary m.pinned m.nodes q) (planned S m.leaves low high) y.0
                (λ q a has is. kept q a (planned_fits S L m.leaves low high q whole.few has) is) y.2,
          ),
        ))
        | inr y ↦ inr (inr y)
      ]

  pub not_pruned : {F : Type 0} (e : Error F) → m.boundary ≤ low → IsBuiltRefusal S answers plan inactive e → (p : ℕ)
      → e ≢ ElementPruned p
  not_pruned e from x p is = go (why_refused e x)
    where
      go : IsProofRefusal S (λ q a. a ≡ kept_at S m.boundary m.pinned m.nodes q) over inactive e → ⊥
      go (inl y) = absurd (let f = sym y.1 ∙ is in cc)
      go (inr (inl y)) = none_absent S L text m whole low high y.1.0 from y.1.2
      go (inr (inr y)) = absurd (let f = sym y ∙ is in cc)
