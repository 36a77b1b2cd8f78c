-- What a pinned check compares: the digests of leaves before the start, one after another.
use Rattle.std.proofs.Common.{◌≡◌, ℕ, zero, suc, ◌+◌, ◌-◌, ◌<◌, ◌≤◌, ◌^◌, ◌↔◌, List, [], ◌∷◌, ◌++◌, length, map, Bool, true, false, if◌then◌else◌, not, ◌⊎◌, inl, inr, refl, sym, ap, ap₂, ◌∙◌, arith, subst, leb, le-leb, pow_pos, IsTrue}
use Rattle.std.proofs.lemmas.Bool.{lt-leb, cases_lt}
use Rattle.storage_merkle.specs.Shape.{Shape, Laws}
use Rattle.storage_merkle.specs.Laws.Shape.{same_node}
use Rattle.storage_merkle.specs.Nodes.{IsNode}
use Rattle.storage_merkle.specs.Calc.{Site, front, back, node}
use Rattle.storage_merkle.specs.Trees.{places}
use Rattle.storage_merkle.specs.RangeProofs.{apart}
use Rattle.storage_merkle.specs.CheckParts.{top_sites}
use Rattle.storage_merkle.specs.Pinned.{Match, is_earlier}
use Rattle.storage_merkle.specs.PinnedParts.{AreNodesAt}
use Rattle.storage_merkle.proofs.Check.Tops.{tops, tops_step, tops_end}
use Rattle.storage_merkle.proofs.Plan.Folds.{opened}

pub match_append : (start : ℕ) (f r : Site → List ℕ) (ss ts : List Site)
    → Match start f r (ss ++ ts) ↔ (Match start f r ss × Match start f r ts)
match_append start f r [] ts = (λ m. (tt, m), λ m. m.1)
match_append start f r (s ∷ ss) ts =
    let i = match_append start f r ss ts in
    (λ m. let t = i.0 m.1 in ((m.0, t.0), t.1), λ m. (m.0.0, i.1 (m.0.1, m.1)))

-- digests, as a test tells them apart
module _ {D : Type 0} (eq : D → D → Bool) (text : D → List ℕ) (same : (x y : D) → (eq x y ≡ true) ↔ (text x ≡ text y))
    (x y : D) where
  pub differs : true ≡ not (eq x y) → text x ≡ text y → ⊥
  differs n e = let both : true ≡ not true = n ∙ ap not ((same x y).1 e) in cc

  pub agrees : false ≡ not (eq x y) → text x ≡ text y
  agrees n = (same x y).0 (go (eq x y) n)
    where
      go : (b : Bool) → false ≡ not b → b ≡ true
      go true e = refl
      go false e = cc

module _ (start high : ℕ) (f r : Site → List ℕ) where
  -- no peak from one that ends past the start on is before it
  after_one : (s k : ℕ) (ss : List Site) → start < s + 2 ^ k → Match start f r ss
      → Match start f r (if apart start high s k then node s k ∷ ss else ss)
  after_one s k ss l m =
      elim (apart start high s k) as (λ b. Match start f r (if b then node s k ∷ ss else ss)) [
        | true ↦ (λ e. absurd (let no = lt-leb (s + 2 ^ k) start l in let both : true ≡ false = sym e ∙ no in cc), m)
        | false ↦ m
      ]

  past_high : (s : ℕ) (ss : List Site) → Match start f r ss → Match start f r (if leb high s then back ∷ [] else ss)
  past_high s ss m =
      elim (leb high s) as (λ b. Match start f r (if b then back ∷ [] else ss)) [ true ↦ (λ e. cc, tt) | false ↦ m ]

  late : (s k : ℕ) (ks : List ℕ) (g : ℕ) → start < s + 2 ^ k
      → Match start f r (top_sites start high (places s (k ∷ ks)) g)
  late s k [] zero l = past_high s _ (after_one s k [] l tt)
  late s k [] (suc g) l = after_one s k [] l tt
  late s k (j ∷ ks) zero l = past_high s _ (after_one s k (top_sites start high (places (s + 2 ^ k) (j ∷ ks)) zero) l
      (late (s + 2 ^ k) j ks zero (omega arith)))
  late s k (j ∷ ks) (suc g) l =
      after_one s k (top_sites start high (places (s + 2 ^ k) (j ∷ ks)) g) l (late (s + 2 ^ k) j ks g (omega arith))

  module _ (S : Shape) (a n k : ℕ) (first : S.peaks n ≡ k ∷ S.peaks (n - 2 ^ k)) (g : ℕ) where
    -- the first of some peaks is not before the start
    pub match_past : start < a + 2 ^ k → Match start f r (tops S start high a n g)
    match_past l = subst (λ ps. Match start f r (top_sites start high ps g)) (sym (opened S a n k first))
        (late a k (S.peaks (n - 2 ^ k)) g l)

    -- it is
    module _ (some : start < high) (ends : a + 2 ^ k ≤ start) (b m j : ℕ) (eb : b ≡ a + 2 ^ k) (em : m ≡ n - 2 ^ k)
        (ej : j ≡ g - 1) where
      tops_are : tops S start high a n g ≡ node a k ∷ tops S start high b m j
      tops_are =
          let out : apart start high a k ≡ true = rw (le-leb (a + 2 ^ k) start ends) refl in
          let before : (0 < g) ⊎ ((g ≤ 0) × (a < high)) =
          elim (cases_lt 0 g) [ inl l ↦ inl l | inr l ↦ inr (l, omega (arith, pow_pos k)) ] in
          subst (λ c. tops S start high a n g ≡ (if c then node a k ∷ tops S start high b m j
          else tops S start high b m j)) out (tops_step S start high a n g k b m j first eb em ej before)

      match_first : Match start f r (tops S start high a n g)
          ↔ ((f (node a k) ≡ r (node a k)) × Match start f r (tops S start high b m j))
      match_first =
          subst (λ ss. Match start f r ss ↔ ((f (node a k) ≡ r (node a k)) × Match start f r (tops S start high b m j)))
          (sym tops_are)
          (λ x. (x.0 (le-leb (a + 2 ^ k) start ends), x.1), λ x. (λ e. x.0, x.1))

      module _ {D : Type 0} (text : D → List ℕ) where
        pub none_missing : (ds : List D) → length ds ≡ 0 → map text ds ≡ map f (tops S start high a n g) → ⊥
        none_missing [] z e = let both : [] ≡ f (node a k) ∷ map f (tops S start high b m j) =
            e ∙ ap (map f) tops_are in cc
        none_missing (d ∷ ds) z e = absurd (omega arith)

        first_text : (d : D) (ds es : List D) → ds ≡ d ∷ es → map text ds ≡ map f (tops S start high a n g)
            → (text d ≡ f (node a k)) × (map text es ≡ map f (tops S start high b m j))
        first_text d ds es e t =
            let both : text d ∷ map text es ≡ f (node a k) ∷ map f (tops S start high b m j) =
            sym (ap (map text) e) ∙ t ∙ ap (map f) tops_are in
            (cc, cc)

        pub later_text : (d : D) (ds es : List D) → ds ≡ d ∷ es → map text ds ≡ map f (tops S start high a n g)
            → map text es ≡ map f (tops S start high b m j)
        later_text d ds es e t = (first_text d ds es e t).1

        -- the node's digest is as it should be, or another
        pub match_goes_on : (d : D) (ds es : List D) → ds ≡ d ∷ es → map text ds ≡ map f (tops S start high a n g)
            → (x : List ℕ) → r (node a k) ≡ x → x ≡ text d → (c : Bool)
            → (IsTrue c ↔ Match start f r (tops S start high b m j))
            → IsTrue c ↔ Match start f r (tops S start high a n g)
        match_goes_on d ds es e t x ex ed c i = (
          λ y. match_first.1 (sym (first_text d ds es e t).0 ∙ sym ed ∙ sym ex, i.0 y),
          λ y. i.1 (match_first.0 y).1,
        )

        pub match_stops : (d : D) (ds es : List D) → ds ≡ d ∷ es → map text ds ≡ map f (tops S start high a n g)
            → (x : List ℕ) → r (node a k) ≡ x → (x ≡ text d → ⊥) → Match start f r (tops S start high a n g) → ⊥
        match_stops d ds es e t x ex ne y = ne (sym ex ∙ sym (match_first.0 y).0 ∙ sym (first_text d ds es e t).0)

pub match_none : (start high : ℕ) (f r : Site → List ℕ) (S : Shape) → Laws S → (a n g : ℕ) → n ≤ 0
    → Match start f r (tops S start high a n g)
match_none start high f r S L a n g z = subst (Match start f r) (sym (tops_end S start high L a n g z)) tt

-- ---- digests of nodes at positions

module _ (S : Shape) (L : Laws S) (n start : ℕ) {D : Type 0} (text : D → List ℕ) (f r : Site → List ℕ)
    (ss : List Site) where
  -- of the nodes at positions, those that are still to be compared
  abbrev pub Left : List ℕ → List D → Type 0
  Left ps ds = (rest : List Site) × AreNodesAt S n ps rest × (map text ds ≡ map f rest)
      × (Match start f r ss ↔ Match start f r rest)

  pub left_all : (ps : List ℕ) (ds : List D) → AreNodesAt S n ps ss → map text ds ≡ map f ss → Left ps ds
  left_all ps ds are e = (ss, are, e, (λ m. m, λ m. m))

  -- the first of them
  record First (a k : ℕ) (ps : List ℕ) (d : D) (ds : List D) : Type 0 where
    rest : List Site
    nodes : AreNodesAt S n ps rest
    texts : map text ds ≡ map f rest
    here : text d ≡ f (node a k)
    match : Match start f r ss ↔ Match start f r (node a k ∷ rest)

  first_left : (p a k : ℕ) (ps : List ℕ) (d : D) (ds : List D) → IsNode S p a k → Left (p ∷ ps) (d ∷ ds)
      → First a k ps d ds
  first_left p a k ps d ds is left = go left.0 left.1 left.2 left.3
    where
      go : (rest : List Site) → AreNodesAt S n (p ∷ ps) rest → map text (d ∷ ds) ≡ map f rest
          → (Match start f r ss ↔ Match start f r rest) → First a k ps d ds
      go [] are e m = absurd are
      go (front ∷ rest) are e m = absurd are
      go (back ∷ rest) are e m = absurd are
      go (node b j ∷ rest) are e m =
          let one = same_node S L p b j a k are.0 is in
          let same : node b j ≡ node a k = ap₂ (λ x y. node x y) one.0 one.1 in
          record {
            rest = rest;
            nodes = are.2;
            texts = cc;
            here = (let head : text d ≡ f (node b j) = cc in head ∙ ap f same);
            match = subst (λ s. Match start f r ss ↔ Match start f r (s ∷ rest)) same m;
          }

  -- it is not before the start, or as it should be
  pub passes : (p a k : ℕ) (ps : List ℕ) (d : D) (ds : List D) → IsNode S p a k
      → (start < a + 2 ^ k) ⊎ (text d ≡ r (node a k)) → Left (p ∷ ps) (d ∷ ds) → Left ps ds
  passes p a k ps d ds is o left =
      let x = first_left p a k ps d ds is left in
      let own : is_earlier start (node a k) ≡ true → f (node a k) ≡ r (node a k) = elim o [
        | inl l ↦ λ e. absurd (let no = lt-leb (a + 2 ^ k) start l in let both : true ≡ false = sym e ∙ no in cc)
        | inr e ↦ λ t. sym x.here ∙ e
      ] in
      (x.rest, x.nodes, x.texts, (λ m. (x.match.0 m).1, λ m. x.match.1 (own, m)))

  -- it is not
  pub fails : (p a k : ℕ) (ps : List ℕ) (d : D) (ds : List D) → IsNode S p a k → a + 2 ^ k ≤ start
      → (r (node a k) ≡ text d → ⊥) → Left (p ∷ ps) (d ∷ ds) → Match start f r ss → ⊥
  fails p a k ps d ds is l ne left m =
      let x = first_left p a k ps d ds is left in
      let own : f (node a k) ≡ r (node a k) = (x.match.0 m).0 (le-leb (a + 2 ^ k) start l) in
      ne (sym own ∙ sym x.here)

  -- there are none
  pub none_left : (ps : List ℕ) (ds : List D) → (length ps ≡ 0) ⊎ (length ds ≡ 0) → Left ps ds → Match start f r ss
  none_left ps ds o left = left.3.1 (go ps ds left.0 left.1 left.2 o)
    where
      go : (qs : List ℕ) (es : List D) (rest : List Site) → AreNodesAt S n qs rest → map text es ≡ map f rest
          → (length qs ≡ 0) ⊎ (length es ≡ 0) → Match start f r rest
      go qs es [] are e z = tt
      go [] es (s ∷ rest) are e z = absurd are
      go (q ∷ qs) es (s ∷ rest) are e (inl z) = absurd (omega arith)
      go (q ∷ qs) [] (s ∷ rest) are e (inr z) = absurd (let both : [] ≡ f s ∷ map f rest = e in cc)
      go (q ∷ qs) (x ∷ es) (s ∷ rest) are e (inr z) = absurd (omega arith)
