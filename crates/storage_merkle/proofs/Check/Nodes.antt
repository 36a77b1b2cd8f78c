-- The nodes of a check: their digests from the elements and the siblings.
use Rattle.std.proofs.Common.{◌≡◌, ◌≢◌, ℕ, zero, suc, ◌+◌, ◌-◌, ◌<◌, ◌≤◌, ◌^◌, List, [], ◌∷◌, ◌++◌, length, map, get_or, Contains, true, false, Result, Ok, Err, MatchResult, IsOk, inl, inr, refl, sym, ap, ap₂, ◌∙◌, arith, subst, leb, leb-false}
use Rattle.std.specs.List.Sorted.{IsNonDecreasing, IsBinarySearchResult}
use Rattle.std.specs.Ordering.{nat_cmp}
use Rattle.std.proofs.lemmas.Bool.{cases_lt}
use Rattle.std.proofs.lemmas.List.{get_or-map, get_or_default}
use Rattle.std.proofs.lemmas.List.Sorted.{searched}
use Rattle.storage_codec.specs.Digests.{HashFunction}
use Rattle.storage_merkle.specs.Shape.{Shape}
use Rattle.storage_merkle.specs.Nodes.{IsNode}
use Rattle.storage_merkle.specs.Calc.{Site, node, be8, Values, eval}
use Rattle.storage_merkle.specs.Trees.{Layout, node_calc, ungrafted}
use Rattle.storage_merkle.specs.RangeProofs.{apart, sites_of}
use Rattle.storage_merkle.specs.Hashing.{join_digest}
use Rattle.storage_merkle.specs.Laws.Hashing.{eval-join}
use Rattle.storage_merkle.specs.CheckParts.{Serves, Present}
use Rattle.storage_merkle.proofs.RangeSound.{or-false}
use Rattle.storage_merkle.proofs.Siblings.{sites-cut, sites-halves}

-- a search among ascending numbers
abbrev Searched : List ℕ → ℕ → Result ℕ ℕ → Type 0
Searched xs x r = MatchResult r (λ i. (i < length xs) × (get_or xs i 0 ≡ x)) (λ i. (i ≤ length xs)
    × ((k : ℕ) → k < i → get_or xs k 0 < x) × ((k : ℕ) → i ≤ k → k < length xs → x < get_or xs k 0))

pub search_finds : (xs : List ℕ) (x : ℕ) (r : Result ℕ ℕ) → IsNonDecreasing xs → Contains xs x
    → IsBinarySearchResult (λ y. nat_cmp y x) xs r → IsOk r
search_finds xs x r up c b = go r (searched xs x r b (λ i j u l. up i j 0 u l))
  where
    go : (q : Result ℕ ℕ) → Searched xs x q → IsOk q
    go (Ok i) m = refl
    go (Err i) m =
        let k : ℕ = c.0 in
        let at : get_or xs k 0 ≡ x = get_or_default xs k 0 x c.1 ∙ c.2 in
        elim (cases_lt k i) [
          | inl l ↦ absurd (let below : get_or xs k 0 < x = m.1 k l in omega arith)
          | inr l ↦ absurd (let above : x < get_or xs k 0 = m.2 k l c.1 in omega arith)
        ]

pub search_at : (xs : List ℕ) (x : ℕ) (r : Result ℕ ℕ) (i : ℕ) → IsNonDecreasing xs
    → IsBinarySearchResult (λ y. nat_cmp y x) xs r → r ≡ Ok i → (i < length xs) × (get_or xs i 0 ≡ x)
search_at xs x r i up b e = subst (Searched xs x) e (searched xs x r b (λ j k u l. up j k 0 u l))

pub sibling_is : {D : Type 0} (S : Shape) (f : D → List ℕ) (digest : Site → List ℕ) (positions : List ℕ) (ds : List D)
    (p a k i : ℕ) (d : D) → Serves S digest positions (map f ds) → IsNode S p a k → (i < length positions)
    × (get_or positions i 0 ≡ p) → length positions ≤ length ds → f (get_or ds i d) ≡ digest (node a k)
sibling_is S f digest positions ds p a k i d s n at enough =
    sym (get_or-map f ds i d [] (omega (arith, at))) ∙ s.each a k i n.aligned at.0 (at.1 ∙ sym n.at)

-- the siblings under a node
module _ (S : Shape) (positions : List ℕ) where
  pub present_append : (ss ts : List Site) → Present S positions (ss ++ ts)
      → Present S positions ss × Present S positions ts
  present_append [] ts p = (tt, p)
  present_append (s ∷ ss) ts p = let r = present_append ss ts p.1 in ((p.0, r.0), r.1)

  module _ (low high : ℕ) where
    abbrev pub under : ℕ → ℕ → List Site
    under k a = sites_of (node_calc (ungrafted S) (apart low high) k a)

    pub present_itself : (k a p : ℕ) → true ≡ apart low high a k → p ≡ S.position a k → Present S positions (under k a)
        → Contains positions p
    present_itself k a p e at present =
        let here : Present S positions (node a k ∷ []) =
        subst (Present S positions) (sites-cut (ungrafted S) (apart low high) k a (sym e)) present in
        subst (Contains positions) (sym at) here.0

    pub present_halves : (k a : ℕ) → false ≡ apart low high a k → k ≢ 0 → Present S positions (under k a)
        → Present S positions (under (k - 1) a) × Present S positions (under (k - 1) (a + 2 ^ (k - 1)))
    present_halves zero a e ne present = absurd (ne refl)
    present_halves (suc k) a e ne present =
        let less : suc k - 1 ≡ k = omega arith in
        rw less (present_append (under k a) (under k (a + 2 ^ k))
        (subst (Present S positions) (sites-halves (ungrafted S) (apart low high) k a (sym e)) present))

-- the digest of a node
module _ (h : HashFunction) (T : Layout) (low high : ℕ) (v : Values) where
  abbrev pub digest_of : ℕ → ℕ → List ℕ
  digest_of k a = eval h v (node_calc T (apart low high) k a)

  eval-cut : (k a : ℕ) → apart low high a k ≡ true → digest_of k a ≡ v.digest (node a k)
  eval-cut zero a e = rw e refl
  eval-cut (suc k) a e = rw e refl

  eval-leaf : (a : ℕ) → apart low high a 0 ≡ false → digest_of 0 a ≡ h (be8 (T.shape.position a 0) ++ v.element a)
  eval-leaf a e = rw e refl

  eval-inner : (k a : ℕ) → apart low high a (suc k) ≡ false
      → digest_of (suc k) a ≡ join_digest h T v.chunk a (suc k) (digest_of k a) (digest_of k (a + 2 ^ k))
  eval-inner k a e =
      rw e (eval-join h v T a (suc k) (node_calc T (apart low high) k a) (node_calc T (apart low high) k (a + 2 ^ k)))

  pub node_sibling : (k a : ℕ) (x : List ℕ) → true ≡ apart low high a k → x ≡ v.digest (node a k) → x ≡ digest_of k a
  node_sibling k a x e f = f ∙ sym (eval-cut k a (sym e))

  pub node_leaf : (S : Shape) (k a p : ℕ) (x e : List ℕ) → T.shape ≡ S → false ≡ apart low high a k → k ≡ 0
      → p ≡ S.position a k → x ≡ h (be8 p ++ e) → e ≡ v.element a → x ≡ digest_of k a
  node_leaf S zero a p x e same out z at f g =
      f ∙ ap₂ (λ q y. h (be8 q ++ y)) (at ∙ ap (λ (U : Shape). U.position a 0) (sym same)) g
      ∙ sym (eval-leaf a (sym out))
  node_leaf S (suc k) a p x e same out z at f g = absurd (omega arith)

  pub node_halves : (k a : ℕ) (x l r : List ℕ) → false ≡ apart low high a k → k ≢ 0 → l ≡ digest_of (k - 1) a
      → r ≡ digest_of (k - 1) (a + 2 ^ (k - 1)) → x ≡ join_digest h T v.chunk a k l r → x ≡ digest_of k a
  node_halves zero a x l r out ne e f g = absurd (ne refl)
  node_halves (suc k) a x l r out ne e f g =
      let less : suc k - 1 ≡ k = omega arith in
      let e' : l ≡ digest_of k a = e ∙ ap (λ j. digest_of j a) less in
      let f' : r ≡ digest_of k (a + 2 ^ k) = f ∙ ap (λ j. digest_of j (a + 2 ^ j)) less in
      g ∙ ap₂ (join_digest h T v.chunk a (suc k)) e' f' ∙ sym (eval-inner k a (sym out))

pub apart_not : (low high a k : ℕ) → false ≡ apart low high a k → (low < a + 2 ^ k) × (a < high)
apart_not low high a k e =
    let r = or-false (leb (a + 2 ^ k) low) (leb high a) (sym e) in
    (leb-false (a + 2 ^ k) low r.0, leb-false high a r.1)

-- the element at a leaf of the range
pub element_at : {E : Type 0} (items : E → List ℕ) (es : List E) (low high a k : ℕ) (d : E) → false ≡ apart low high a k
    → k ≡ 0 → high ≡ low + length es → items (get_or es (a - low) d) ≡ get_or (map items es) (a - low) []
element_at items es low high a zero d e z r =
    let o = apart_not low high a 0 e in
    sym (get_or-map items es (a - low) d [] (omega arith))
element_at items es low high a (suc k) d e z r = absurd (omega arith)

-- the first of some digests
pub first_of : {D : Type 0} (f : D → List ℕ) (ds : List D) (d : D) (x : List ℕ) (xs : List (List ℕ)) → d ≡ get_or ds 0 d
    → map f ds ≡ x ∷ xs → f d ≡ x
first_of f [] d x xs e m = cc
first_of f (b ∷ bs) d x xs e m = let one : f b ≡ x = cc in ap f e ∙ one
