-- What is kept of a tree, and how it grows.
use Rattle.std.proofs.Common.{◌≡◌, ◌≢◌, ℕ, zero, suc, ◌+◌, ◌-◌, ◌%◌, ◌^◌, ◌<◌, ◌≤◌, ◌⊎◌, List, [], ◌∷◌, ◌++◌, length, map, get_or, Contains, Option, Some, None, option_map, Bool, true, false, if◌then◌else◌, leb, le-leb, eqb, eq-eqb, eqb-true, MatchOption, IsSome, rules, refl, sym, ap, ap₂, drop, drop-cons, get_or-drop, take, length-drop, ◌∙◌, inl, inr, ⊎_elim, arith, add-one}
use Rattle.std.proofs.lemmas.Bool.{cases_lt, lt-leb}
use Rattle.std.proofs.lemmas.Bool.Decides.{eqb_tells}
use Rattle.std.proofs.lemmas.Nat.{pow_pos}
use Rattle.std.specs.List.{slice_get}
use Rattle.std.proofs.lemmas.Option.{slice_get-get_or, slice_get-map}
use Rattle.std.proofs.lemmas.List.{get_or_append_left, length-map}
use Rattle.std.proofs.Math.Seq.{get_or-append_seam, take-append_seam}
use Rattle.storage_codec.specs.Digests.{HashFunction}
use Rattle.storage_merkle.specs.Shape.{Shape, Laws, size, Inside, AreAligned}
use Rattle.storage_merkle.specs.Nodes.{IsNode, placed, Children}
use Rattle.storage_merkle.specs.Trees.{Layout}
use Rattle.storage_merkle.specs.Hashing.{join_digest, node_over}
use Rattle.storage_merkle.specs.Laws.Shape.{leaves_of_size, same_node, grows_at_most, children}
use Rattle.storage_merkle.specs.Laws.Multiples.{pow_two, pow_order, next, multiple_add, multiple_down, power_multiple}
use Rattle.storage_merkle.specs.Kept.{pins, paired, kept_at, IsClean, HoldsDigests, at_peaks}
use Rattle.storage_merkle.specs.Laws.Kept.{node_same, peaks_same}

-- the node is one of the peaks, which begin at the leaf s
abbrev pub IsPeak : List ℕ → ℕ → ℕ → ℕ → Type 0
IsPeak [] s a k = ⊥
IsPeak (h ∷ hs) s a k = ((s ≡ a) × (h ≡ k)) ⊎ IsPeak hs (s + 2 ^ h) a k

-- a node of a tree whose parent is not in it is a peak
pub inside_peak : (hs : List ℕ) (s a k p : ℕ) → AreAligned hs s → Inside hs s a k → p % 2 ^ suc k ≡ 0 → p ≤ a
    → a + 2 ^ k ≤ p + 2 ^ suc k → (Inside hs s p (suc k) → ⊥) → IsPeak hs s a k
unfolding Inside AreAligned
inside_peak [] s a k p al i pa lo hi out = absurd i
inside_peak (h ∷ hs) s a k p al (inl q) pa lo hi out =
    let q0 : s ≤ a = q.0 in
    let q1 : a + 2 ^ k ≤ s + 2 ^ h = q.1 in
    let one : 0 < 2 ^ k = pow_pos k in
    let kh : k ≤ h = pow_order k h (omega arith) in
    ⊎_elim
    (λ (l : k < h).
    let sm : s % 2 ^ suc k ≡ 0 = multiple_down s (suc k) h (omega arith) al.0 in
    let lower : s ≤ p =
    ⊎_elim (λ (u : p < s). absurd (let m : p + 2 ^ suc k ≤ s = next p s (2 ^ suc k) pa sm u in omega arith))
    (λ (w : s ≤ p). w) (cases_lt p s) in
    let upper : p + 2 ^ suc k ≤ s + 2 ^ h = next p (s + 2 ^ h) (2 ^ suc k) pa (multiple_add s (2 ^ h) (2 ^ suc k)
    (pow_pos (suc k)) sm (power_multiple h (suc k) (omega arith))) (omega arith) in
    absurd (out (inl (lower, upper))))
    (λ (g : h ≤ k).
    let e : h ≡ k = omega arith in
    let f : 2 ^ h ≡ 2 ^ k = ap (λ x. 2 ^ x) e in
    inl ((omega arith), e))
    (cases_lt k h)
inside_peak (h ∷ hs) s a k p al (inr r) pa lo hi out =
    inr (inside_peak hs (s + 2 ^ h) a k p al.1 r pa lo hi (λ i. out (inr i)))

neq-eqb : (a b : ℕ) → a ≢ b → eqb a b ≡ false
neq-eqb a b ne = ⊎_elim (λ (x : (eqb a b ≡ true) × (a ≡ b)). absurd (ne x.1)) (λ (y : (eqb a b ≡ false) × (a ≢ b)). y.0)
    (eqb_tells a b)

-- what a search that is told by an option says
pub found : {A : Type 0} (f : A → List ℕ) (r : Option A) (x : Option (List ℕ)) (d : List ℕ)
    → MatchOption r (x ≡ None) (λ y. x ≡ Some (f y)) → x ≡ Some d → IsSome r
found f None x d m e = cc
found f (Some y) x d m e = search rules

pub value_of : {A : Type 0} (f : A → List ℕ) (r : Option A) (x : Option (List ℕ)) (d : List ℕ) (y : A)
    → MatchOption r (x ≡ None) (λ z. x ≡ Some (f z)) → r ≡ Some y → x ≡ Some d → f y ≡ d
value_of f None x d y m e h = cc
value_of f (Some z) x d y m e h = cc

-- what a digest that is lent says of the digest itself
pub lent_some : {A B : Type 0} (now : A → B) (r : Option A) → IsSome (option_map now r) → IsSome r
lent_some now None m = m
lent_some now (Some y) m = cc

-- the search for a pinned digest
pub paired_on : {D : Type 0} (p q : ℕ) (qs : List ℕ) (ds : List D) (i : ℕ) → i < length ds → q ≢ p
    → paired p (q ∷ qs) (drop i ds) ≡ paired p qs (drop (i + 1) ds)
paired_on p q qs [] i l ne = absurd (omega arith)
paired_on p q qs (x ∷ ds) i l ne =
    ap (paired p (q ∷ qs)) (drop-cons (x ∷ ds) i x l)
    ∙ ap (λ b. if b then Some (get_or (x ∷ ds) i x) else paired p qs (drop (suc i) (x ∷ ds))) (neq-eqb q p ne)
    ∙ ap (λ m. paired p qs (drop m (x ∷ ds))) (sym (add-one i))

pub paired_hit : {D : Type 0} (p q : ℕ) (qs : List ℕ) (ds : List D) (i : ℕ) (r : D) → i < length ds → q ≡ p
    → paired p (q ∷ qs) (drop i ds) ≡ Some (get_or ds i r)
paired_hit p q qs ds i r l e =
    ap (paired p (q ∷ qs)) (drop-cons ds i r l)
    ∙ ap (λ b. if b then Some (get_or ds i r) else paired p qs (drop (suc i) ds)) (eq-eqb q p e)

-- what is kept, by its bytes
paired-map : {D : Type 0} (f : D → List ℕ) (p : ℕ) (qs : List ℕ) (ds : List D)
    → option_map f (paired p qs ds) ≡ paired p qs (map f ds)
paired-map f p [] ds = refl
paired-map f p (q ∷ qs) [] = refl
paired-map f p (q ∷ qs) (d ∷ ds) =
    let rest = paired-map f p qs ds in
    elim (eqb q p) as (λ b. option_map f (if b then Some d else paired p qs ds)
    ≡ (if b then Some (f d) else paired p qs (map f ds))) [ true ↦ refl | false ↦ rest ]

kept_at-map : {D : Type 0} (f : D → List ℕ) (S : Shape) (b : ℕ) (ps ns : List D) (q : ℕ)
    → option_map f (kept_at S b ps ns q) ≡ kept_at S b (map f ps) (map f ns) q
kept_at-map f S b ps ns q =
    let x = sym (slice_get-map f ns (q - size S b)) in
    let y = paired-map f q (pins S b) ps in
    elim (leb (size S b) q) as (λ c. option_map f (if c then slice_get ns (q - size S b) else paired q (pins S b) ps)
    ≡ (if c then slice_get (map f ns) (q - size S b) else paired q (pins S b) (map f ps))) [ true ↦ x | false ↦ y ]

told : {A : Type 0} (f : A → List ℕ) (r : Option A) (x : Option (List ℕ)) → option_map f r ≡ x
    → MatchOption r (x ≡ None) (λ y. x ≡ Some (f y))
told f None x e = sym e
told f (Some y) x e = sym e

pub seen : {D : Type 0} (f : D → List ℕ) (S : Shape) (b : ℕ) (ps ns : List D) (q : ℕ) (r : Option D)
    → r ≡ kept_at S b ps ns q
    → MatchOption r (kept_at S b (map f ps) (map f ns) q ≡ None) (λ y. kept_at S b (map f ps) (map f ns) q ≡ Some (f y))
seen f S b ps ns q r e = told f r _ (ap (option_map f) e ∙ kept_at-map f S b ps ns q)

contains_none : (j : ℕ) → Contains [] j → ⊥
contains_none j m = absurd (omega (arith, m.1))

-- nodes below a clean node are clean
pub clean_down : (dirty : List ℕ) (a k c j : ℕ) → IsClean dirty a k → a ≤ c → c + 2 ^ j ≤ a + 2 ^ k → IsClean dirty c j
clean_down dirty a k c j clean lo hi i m u v = clean i m (omega arith) (omega arith)

pub clean_children : (dirty : List ℕ) (a k : ℕ) → 1 ≤ k → IsClean dirty a k
    → IsClean dirty a (k - 1) × IsClean dirty (a + 2 ^ (k - 1)) (k - 1)
clean_children dirty a zero one clean = absurd (omega arith)
clean_children dirty a (suc k) one clean = let e : suc k - 1 ≡ k = omega arith in let two = pow_two k in
    rw e (
      clean_down dirty a (suc k) a k clean (omega arith) (omega arith),
      clean_down dirty a (suc k) (a + 2 ^ k) k clean (omega arith) (omega arith),
    )

pub clean_none : (a k : ℕ) → IsClean [] a k
clean_none a k j m u v = contains_none j m

pub some_height : (h : ℕ) → h ≢ 0 → 1 ≤ h
some_height zero ne = absurd (ne refl)
some_height (suc h) ne = omega arith

module _ (S : Shape) where
  length_placed : (hs : List ℕ) (s : ℕ) → length (placed S s hs) ≡ length hs
  length_placed [] s = refl
  length_placed (h ∷ hs) s = ap suc (length_placed hs (s + 2 ^ h))

  pub length_pins : (b : ℕ) → length (pins S b) ≡ length (S.peaks b)
  length_pins b = length-map (placed S 0 (S.peaks b)) (λ p. p.0) ∙ length_placed (S.peaks b) 0

  pub look_hit : {D : Type 0} (xs nodes : List D) (b p q i : ℕ) (left rest : List ℕ) (r : D) → p < size S b
      → paired p (pins S b) xs ≡ paired p left (drop i xs) → left ≡ q ∷ rest → q ≡ p → i < length xs → r ≡ get_or xs i r
      → Some r ≡ kept_at S b xs nodes p
  look_hit xs nodes b p q i left rest r low same is hit l e =
      sym (ap (λ c. if c then slice_get nodes (p - size S b) else paired p (pins S b) xs) (lt-leb _ _ low)
      ∙ same ∙ ap (λ qs. paired p qs (drop i xs)) is
      ∙ paired_hit p q rest xs i r l hit
      ∙ ap Some (sym e))

  pub look_on : {D : Type 0} (xs : List D) (b p q i : ℕ) (left rest : List ℕ) → paired p (pins S b) xs ≡ paired p left
      (drop i xs) → left ≡ q ∷ rest → q ≢ p → i < length xs → paired p (pins S b) xs ≡ paired p rest (drop (i + 1) xs)
  look_on xs b p q i left rest same is miss l =
      same ∙ ap (λ qs. paired p qs (drop i xs)) is ∙ paired_on p q rest xs i l miss

  -- a pinned node is found
  pub pinned_some : (hs : List ℕ) (s a k : ℕ) → IsPeak hs s a k → (ds : List (List ℕ)) → length ds ≡ length hs
      → (d : List ℕ) × (paired (S.position a k) (map (λ p. p.0) (placed S s hs)) ds ≡ Some d)
  pinned_some [] s a k i ds e = absurd i
  pinned_some (h ∷ hs) s a k i [] e = absurd (omega arith)
  pinned_some (h ∷ hs) s a k (inl q) (d ∷ ds) e =
      let t : eqb (S.position s h) (S.position a k) ≡ true = eq-eqb _ _ (ap₂ S.position q.0 q.1) in
      (d, ap (λ b. if b then Some d else paired (S.position a k) (map (λ p. p.0) (placed S (s + 2 ^ h) hs)) ds) t)
  pinned_some (h ∷ hs) s a k (inr r) (d ∷ ds) e =
      let rest = pinned_some hs (s + 2 ^ h) a k r ds (omega arith) in
      elim (eqb (S.position s h) (S.position a k)) as (λ b. (x : List ℕ) × ((if b then Some d else paired
      (S.position a k) (map (λ p. p.0) (placed S (s + 2 ^ h) hs)) ds) ≡ Some x)) [ true ↦ (d, refl) | false ↦ rest ]

  module _ (L : Laws S) where
    -- a pinned node is found, and it is the list's
    pub pinned_is : (node : ℕ → ℕ → List ℕ) (hs : List ℕ) (s a k : ℕ) → AreAligned hs s → a % 2 ^ k ≡ 0
        → IsPeak hs s a k
        → paired (S.position a k) (map (λ p. p.0) (placed S s hs)) (at_peaks node s hs) ≡ Some (node k a)
    unfolding AreAligned
    pinned_is node [] s a k al aa i = absurd i
    pinned_is node (h ∷ hs) s a k al aa (inl q) =
        let t : eqb (S.position s h) (S.position a k) ≡ true = eq-eqb _ _ (ap₂ S.position q.0 q.1) in
        ap (λ b. if b then Some (node h s)
        else paired (S.position a k) (map (λ p. p.0) (placed S (s + 2 ^ h) hs)) (at_peaks node (s + 2 ^ h) hs)) t
        ∙ ap₂ (λ x y. Some (node y x)) q.0 q.1
    pinned_is node (h ∷ hs) s a k al aa (inr r) =
        go (pinned_is node hs (s + 2 ^ h) a k al.1 aa r) (eqb (S.position s h) (S.position a k)) refl
      where
        go : paired (S.position a k) (map (λ p. p.0) (placed S (s + 2 ^ h) hs)) (at_peaks node (s + 2 ^ h) hs)
            ≡ Some (node k a) → (b : Bool) → eqb (S.position s h) (S.position a k) ≡ b → (if b then Some (node h s)
            else paired (S.position a k) (map (λ p. p.0) (placed S (s + 2 ^ h) hs)) (at_peaks node (s + 2 ^ h) hs))
            ≡ Some (node k a)
        go rest true e = let i = L.injective s h a k al.0 aa (eqb-true _ _ e) in ap₂ (λ x y. Some (node y x)) i.0 i.1
        go rest false e = rest

    -- a node below a place of a tree is kept
    pub record IsKept (b p a k : ℕ) : Type 0 where
      pub aligned : a % 2 ^ k ≡ 0
      pub below : S.position a k < p
      pub there : (size S b ≤ S.position a k) ⊎ ((S.position a k < size S b) × IsPeak (S.peaks b) 0 a k)

    pub kept_some : (b p a k : ℕ) (pinned nodes : List (List ℕ)) → IsKept b p a k → length nodes + size S b ≡ p
        → length pinned ≡ length (S.peaks b) → (d : List ℕ) × (kept_at S b pinned nodes (S.position a k) ≡ Some d)
    kept_some b p a k pinned nodes i count few =
        let u : S.position a k < p = i.below in
        ⊎_elim
        (λ (l : size S b ≤ S.position a k). (
          get_or nodes (S.position a k - size S b) [],
          ap
              (λ c. if c then slice_get nodes (S.position a k - size S b) else paired (S.position a k) (pins S b) pinned)
              (le-leb _ _ l) ∙ slice_get-get_or nodes (S.position a k - size S b) [] (omega arith),
        ))
        (λ (g : (S.position a k < size S b) × IsPeak (S.peaks b) 0 a k).
        let r = pinned_some (S.peaks b) 0 a k g.1 pinned few in (
          r.0,
          ap (λ c. if c then slice_get nodes (S.position a k - size S b)
              else paired (S.position a k) (pins S b) pinned) (lt-leb _ _ g.0) ∙ r.1,
        ))
        i.there

    -- a kept digest that is the list's where it is no pinned one
    pub kept_value : (node : ℕ → ℕ → List ℕ) (b p a k : ℕ) (pinned nodes : List (List ℕ)) → IsKept b p a k
        → length nodes + size S b ≡ p → pinned ≡ at_peaks node 0 (S.peaks b)
        → (size S b ≤ S.position a k → get_or nodes (S.position a k - size S b) [] ≡ node k a)
        → kept_at S b pinned nodes (S.position a k) ≡ Some (node k a)
    kept_value node b p a k pinned nodes i count peaks value =
        let u : S.position a k < p = i.below in
        ⊎_elim
        (λ (l : size S b ≤ S.position a k). ap (λ c. if c then slice_get nodes (S.position a k - size S b)
        else paired (S.position a k) (pins S b) pinned) (le-leb _ _ l)
        ∙ slice_get-get_or nodes (S.position a k - size S b) [] (omega arith) ∙ ap Some (value l))
        (λ (g : (S.position a k < size S b) × IsPeak (S.peaks b) 0 a k).
        ap (λ c. if c then slice_get nodes (S.position a k - size S b) else paired (S.position a k) (pins S b) pinned)
        (lt-leb _ _ g.0)
        ∙ ap (paired (S.position a k) (pins S b)) peaks ∙ pinned_is node (S.peaks b) 0 a k (L.aligned b) i.aligned g.1)
        i.there

    pub kept_is : (node : ℕ → ℕ → List ℕ) (dirty : List ℕ) (b p a k : ℕ) (pinned nodes : List (List ℕ)) → IsKept b p a k
        → length nodes + size S b ≡ p → HoldsDigests S node dirty b p pinned nodes → IsClean dirty a k
        → kept_at S b pinned nodes (S.position a k) ≡ Some (node k a)
    kept_is node dirty b p a k pinned nodes i count holds clean =
        kept_value node b p a k pinned nodes i count holds.peaks (λ l. holds.from a k i.aligned l i.below clean)

    -- the child of a node that the tree over b leaves has not
    pub child : (b p a k c : ℕ) → a % 2 ^ suc k ≡ 0 → b < S.birth a (suc k) → c % 2 ^ k ≡ 0 → a ≤ c
        → c + 2 ^ k ≤ a + 2 ^ suc k → S.position c k < p → IsKept b p c k
    child b p a k c aa late ca lo hi below =
        let none : Inside (S.peaks b) 0 a (suc k) → ⊥ =
        λ i. absurd (let x : S.birth a (suc k) ≤ b = (L.inside b a (suc k) aa).0 i in omega arith) in
        record {
          aligned = ca;
          below = below;
          there = ⊎_elim
              (λ (l : S.position c k < size S b).
              let i : Inside (S.peaks b) 0 c k = (L.inside b c k ca).1 ((L.born b c k ca).0 l) in
              inr (l, inside_peak (S.peaks b) 0 c k a (L.aligned b) i aa lo hi none))
              (λ (g : size S b ≤ S.position c k). inl g)
              (cases_lt (S.position c k) (size S b));
        }

    pub same_clean : (dirty : List ℕ) (p a k b j : ℕ) → IsNode S p a k → IsNode S p b j → IsClean dirty a k
        → IsClean dirty b j
    same_clean dirty p a k b j m n clean = let s = same_node S L p a k b j m n in rw (← s.0, ← s.1) clean

    -- the children of a node that comes with a leaf
    pub children_kept : (b n o a h : ℕ) → b ≤ n → h ≢ 0 → IsNode S (size S n + o) a h
        → IsKept b (size S n + o) a (h - 1) × IsKept b (size S n + o) (a + 2 ^ (h - 1)) (h - 1)
    children_kept b n o a zero le ne i = absurd (ne refl)
    children_kept b n o a (suc k) le ne i =
        let km : suc k - 1 ≡ k = omega arith in
        let two = pow_two k in
        let at : S.position a (suc k) ≡ size S n + o = i.at in
        let late : b < S.birth a (suc k) = ⊎_elim (λ (l : b < S.birth a (suc k)). l) (λ (g : S.birth a (suc k) ≤ b).
        absurd (let x : S.position a (suc k) < size S n = (L.born n a (suc k) i.aligned).1 (omega arith) in omega arith))
        (cases_lt b (S.birth a (suc k))) in
        let c = L.children a k i.aligned in
        let l : a % 2 ^ k ≡ 0 = multiple_down a k (suc k) (omega arith) i.aligned in
        let r : (a + 2 ^ k) % 2 ^ k ≡ 0 =
        multiple_add a (2 ^ k) (2 ^ k) (pow_pos k) l (power_multiple k k (omega arith)) in
        rw km (
          child b (size S n + o) a k a i.aligned late l (omega arith) (omega arith) (omega (arith, c.0)),
          child b (size S n + o) a k (a + 2 ^ k) i.aligned late r (omega arith) (omega arith) (omega (arith, c.1)),
        )

    pub kept_some_at : (b p a k q : ℕ) (pinned nodes : List (List ℕ)) → q ≡ S.position a k → IsKept b p a k
        → length nodes + size S b ≡ p → length pinned ≡ length (S.peaks b)
        → (d : List ℕ) × (kept_at S b pinned nodes q ≡ Some d)
    kept_some_at b p a k q pinned nodes e i count few = let r = kept_some b p a k pinned nodes i count few in
        (r.0, ap (kept_at S b pinned nodes) e ∙ r.1)

    pub near : (n o : ℕ) → n < 2 ^ 62 → size S n + o < size S (n + 1) → size S n + o ≤ size S (2 ^ 62)
    near n o l m = omega (arith, grows_at_most (size S) L.grows (n + 1) (2 ^ 62) (omega arith))

    pub children_of : (n o a h : ℕ) → n < 2 ^ 62 → size S n + o < size S (n + 1) → IsNode S (size S n + o) a h → h ≢ 0
        → Children S a h
    children_of n o a h l m i ne = children S L a h (size S n + o) i (omega arith) (near n o l m)

    pub leaf_place : (n o a h : ℕ) → h ≡ 0 → size S n + o < size S (n + 1) → IsNode S (size S n + o) a h → o ≡ 0
    leaf_place n o a zero z l i =
        let f : size S a ≡ size S n + o = sym (L.leaf a).0 ∙ i.at in
        let e : n ≡ a = leaves_of_size S L n a (size S n + o) f (omega arith) l in
        let g : size S n ≡ size S a = ap (size S) e in
        omega arith
    leaf_place n o a (suc h) z l i = absurd (omega arith)

    pub holds_more : (node : ℕ → ℕ → List ℕ) (dirty : List ℕ) (b p a k : ℕ) (pinned nodes : List (List ℕ)) (d : List ℕ)
        → HoldsDigests S node dirty b p pinned nodes → length nodes + size S b ≡ p → IsNode S p a k
        → (IsClean dirty a k → d ≡ node k a) → HoldsDigests S node dirty b (p + 1) pinned (nodes ++ d ∷ [])
    holds_more node dirty b p a k pinned nodes d h count i e = record {
      peaks = h.peaks;
      from = λ c j al lo hi clean.
          ⊎_elim
          (λ (l : S.position c j < p). get_or_append_left nodes (d ∷ []) [] (S.position c j - size S b) (omega arith)
          ∙ h.from c j al lo l clean)
          (λ (g : p ≤ S.position c j).
          let at : S.position c j ≡ p = omega arith in
          let s = same_node S L p a k c j i (record { aligned = al; at = at }) in
          let ix : S.position c j - size S b ≡ length nodes = omega arith in
          ap (λ m. get_or (nodes ++ d ∷ []) m []) ix ∙ get_or-append_seam nodes d [] []
          ∙ e (λ m u v w. clean m u (let f : a ≡ c = s.0 in omega arith)
          (let f : a ≡ c = s.0 in let f2 : 2 ^ k ≡ 2 ^ j = ap (λ y. 2 ^ y) s.1 in omega arith))
          ∙ ap₂ (λ u w. node w u) s.0 s.1)
          (cases_lt (S.position c j) p);
    }

    -- ---- pruning
    pub holds_pruned : (node : ℕ → ℕ → List ℕ) (dirty : List ℕ) (b m n : ℕ)
        (pinned pinned' nodes nodes' : List (List ℕ)) → b ≤ m → m ≤ n → HoldsDigests S node dirty b (size S n) pinned nodes
        → pinned' ≡ at_peaks node 0 (S.peaks m) → nodes' ≡ drop (size S m - size S b) nodes
        → HoldsDigests S node dirty m (size S n) pinned' nodes'
    holds_pruned node dirty b m n pinned pinned' nodes nodes' lo hi h peaks rest =
        let low : size S b ≤ size S m = grows_at_most (size S) L.grows b m lo in
        record {
          peaks = peaks;
          from = λ a k al from below clean.
              let i : size S m - size S b + (S.position a k - size S m) ≡ S.position a k - size S b = omega arith in
              ap (λ ns. get_or ns (S.position a k - size S m) []) rest
              ∙ get_or-drop (size S m - size S b) nodes (S.position a k - size S m) []
              ∙ ap (λ j. get_or nodes j []) i ∙ h.from a k al (omega arith) below clean;
        }

    pub holds_at : (node : ℕ → ℕ → List ℕ) (dirty : List ℕ) (b p q : ℕ) (pinned nodes : List (List ℕ)) → p ≡ q
        → HoldsDigests S node dirty b p pinned nodes → HoldsDigests S node dirty b q pinned nodes
    holds_at node dirty b p q pinned nodes e h =
        record { peaks = h.peaks; from = λ a k al lo hi clean. h.from a k al lo (omega arith) clean }

    -- ---- growing
    module _ (h : HashFunction) (T : Layout) (chunk : ℕ → List ℕ) where
      pub inner_born : (list : List (List ℕ)) (p a k : ℕ) (x y z : List ℕ) → k ≢ 0 → IsNode S p a k
          → x ≡ node_over h T chunk list (k - 1) a → y ≡ node_over h T chunk list (k - 1) (a + 2 ^ (k - 1))
          → z ≡ join_digest h T chunk a k x y → (b j : ℕ) → IsNode S p b j → z ≡ node_over h T chunk list j b
      inner_born list p a zero x y z ne i l r e b j n = absurd (ne refl)
      inner_born list p a (suc k) x y z ne i l r e b j n =
          let km : suc k - 1 ≡ k = omega arith in
          let s = same_node S L p a (suc k) b j i n in
          let l' : x ≡ node_over h T chunk list k a = l ∙ ap (λ m. node_over h T chunk list m a) km in
          let r' : y ≡ node_over h T chunk list k (a + 2 ^ k) =
          r ∙ ap (λ m. node_over h T chunk list m (a + 2 ^ m)) km in
          e ∙ ap₂ (join_digest h T chunk a (suc k)) l' r' ∙ ap₂ (λ u w. node_over h T chunk list w u) s.0 s.1

      module _ (list : List (List ℕ)) (x : List ℕ) (n : ℕ) (len : length list ≡ n) where
        -- what was held is held for the longer list
        pub holds_old : (dirty : List ℕ) (b : ℕ) (pinned nodes : List (List ℕ)) → b ≤ n
            → HoldsDigests S (node_over h T chunk list) dirty b (size S n) pinned nodes
            → HoldsDigests S (node_over h T chunk (list ++ x ∷ [])) dirty b (size S n) pinned nodes
        holds_old dirty b pinned nodes le held = record {
          peaks = held.peaks ∙ peaks_same h T chunk list (list ++ x ∷ []) (S.peaks b) 0
              (λ j u w. sym (get_or_append_left list (x ∷ []) [] j (omega (arith, L.sum b))));
          from = λ a k al lo hi clean. held.from a k al lo hi clean
              ∙ node_same h T chunk list (list ++ x ∷ []) k a (λ j u w.
              sym (get_or_append_left list (x ∷ []) [] j (omega (arith, L.late a k, (L.born n a k al).0 hi))));
        }

        pub leaf_born : (o a k : ℕ) → k ≡ 0 → size S n + o < size S (n + 1) → IsNode S (size S n + o) a k → (b j : ℕ)
            → IsNode S (size S n + o) b j → x ≡ node_over h T chunk (list ++ x ∷ []) j b
        leaf_born o a zero z l i b j m =
            let e : n ≡ a = leaves_of_size S L n a (size S n + o) (sym (L.leaf a).0 ∙ i.at) (omega arith) l in
            let s = same_node S L (size S n + o) a zero b j i m in
            sym (get_or-append_seam list x [] []) ∙ ap (λ q. get_or (list ++ x ∷ []) q []) (len ∙ e)
            ∙ ap₂ (λ u w. node_over h T chunk (list ++ x ∷ []) w u) s.0 s.1
        leaf_born o a (suc k) z l i b j m = absurd (omega arith)

pub rotated : {A : Type 0} (xs : List A) (gone rest : ℕ) → rest + gone ≡ length xs
    → take rest (drop gone xs ++ take gone xs) ≡ drop gone xs
rotated xs gone rest e =
    let l : length (drop gone xs) ≡ rest = omega (arith, length-drop gone xs) in
    ap (λ n. take n (drop gone xs ++ take gone xs)) (sym l) ∙ take-append_seam (drop gone xs) (take gone xs)
