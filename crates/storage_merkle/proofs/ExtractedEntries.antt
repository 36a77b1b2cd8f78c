-- The digests that are handed out: those of a check, sorted by position.
use Rattle.std.proofs.Common.{◌≡◌, ℕ, suc, ◌<◌, ◌≤◌, List, [], ◌∷◌, ◌++◌, length, map, true, if◌then◌else◌, inl, inr, refl, sym, ap, ap₂, ◌∙◌, arith, subst, eqb, eq-eqb, eqb-true, All, Option, Some, option_map, MatchOption}
use Rattle.std.specs.List.Sorted.{IsPermutation, IsNonDecreasing, IsNonDecreasingBy}
use Rattle.std.proofs.lemmas.List.{get_or-map, length-map}
use Rattle.std.proofs.lemmas.List.Elements.{All-nil, All-cons}
use Rattle.std.proofs.lemmas.List.Sorted.{All-permutation, IsPermutation-map}
use Rattle.storage_merkle.specs.Shape.{Laws}
use Rattle.storage_merkle.specs.Calc.{Site}
use Rattle.storage_merkle.specs.Trees.{Layout}
use Rattle.storage_merkle.specs.RangeProofs.{Proof, position_of, by_position, same_site}
use Rattle.storage_merkle.specs.Extracted.{entries, by_bytes}
use Rattle.storage_merkle.proofs.Agreeing.{AgreeAt, agree_by_position}
use Rattle.storage_merkle.proofs.Distinct.{times, one_if, same_itself}
use Rattle.storage_merkle.proofs.Siblings.{positions, positions_sorted}
use Rattle.storage_merkle.proofs.Plan.Sites.{AllSites, IsAlignedNode, one_place}
use Rattle.storage_merkle.proofs.RangeOwn.{same_site-eq}
use Rattle.storage_merkle.proofs.Extracted.{tells, bare, entries_agree}

-- the digest at a position
abbrev pub read : Layout → (Site → List ℕ) → List Site → ℕ → List ℕ
read T f [] p = []
read T f (s ∷ ss) p = if eqb (position_of T s) p then f s else read T f ss p

abbrev pub paired : (ℕ → List ℕ) → List ℕ → List (ℕ × List ℕ)
paired r ps = map (λ p. (p, r p)) ps

abbrev Pair : ℕ × List ℕ → ℕ × List ℕ → Type 0
Pair x y = x ≡ y

module _ (T : Layout) (L : Laws T.shape) (f : Site → List ℕ) where
  read_at : (ss : List Site) → AllSites IsAlignedNode ss → (t : Site) → IsAlignedNode t → 1 ≤ times t ss
      → read T f ss (position_of T t) ≡ f t
  read_at [] al t a l = absurd (omega arith)
  read_at (s ∷ ss) al t a l =
      elim (tells (eqb (position_of T s) (position_of T t))) [
        | inl e ↦ rw e (ap f (one_place T L s t al.0 a (eqb-true _ _ e)))
        | inr e ↦ rw e (read_at ss al.1 t a (elim (tells (same_site s t)) [
          | inl q ↦
              absurd (let same : eqb (position_of T s) (position_of T t) ≡ true = eq-eqb _ _ (ap (position_of T) (same_site-eq s t q)) in cc)
          | inr q ↦ omega (arith, ap one_if q)
        ]))
      ]

  reads : (ss us : List Site) → AllSites IsAlignedNode ss → AllSites IsAlignedNode us
      → ((t : Site) → times t us ≤ times t ss) → AgreeAt (bare f) (bare (λ s. read T f ss (position_of T s))) us
  reads ss [] al a fewer = tt
  reads ss (u ∷ us) al a fewer = (
    sym (read_at ss al u a.0 (omega (arith, fewer u, ap one_if (same_itself u)))),
    reads ss us al a.1 (λ t. omega (arith, fewer t)),
  )

  paired-entries : (r : ℕ → List ℕ) (ss : List Site)
      → entries T (λ s. r (position_of T s)) ss ≡ paired r (positions T ss)
  paired-entries r [] = refl
  paired-entries r (s ∷ ss) = ap (λ es. (position_of T s, r (position_of T s)) ∷ es) (paired-entries r ss)

  module _ {D : Type 0} (text : D → List ℕ) where
    firsts : (r : ℕ → List ℕ) (xs : List (ℕ × D)) (ps : List ℕ) → by_bytes text xs ≡ paired r ps → map (λ e. e.0) xs ≡ ps
    firsts r [] [] e = refl
    firsts r [] (p ∷ ps) e = cc
    firsts r (x ∷ xs) [] e = cc
    firsts r (x ∷ xs) (p ∷ ps) e =
        let here : Pair (x.0, text x.1) (p, r p) = cc in
        let later : by_bytes text xs ≡ paired r ps = cc in
        ap₂ (λ y ys. y ∷ ys) (ap (λ z. z.0) here) (firsts r xs ps later)

    seconds : (r : ℕ → List ℕ) (xs : List (ℕ × D)) (ps : List ℕ) → by_bytes text xs ≡ paired r ps
        → All (λ e. text e.1 ≡ r e.0) xs
    seconds r [] ps e = All-nil (λ z. text z.1 ≡ r z.0)
    seconds r (x ∷ xs) [] e = cc
    seconds r (x ∷ xs) (p ∷ ps) e =
        let here : Pair (x.0, text x.1) (p, r p) = cc in
        let later : by_bytes text xs ≡ paired r ps = cc in
        All-cons (λ z. text z.1 ≡ r z.0) x xs (ap (λ z. z.1) here ∙ ap (λ z. r z.0) (sym here)) (seconds r xs ps later)

    again : (r : ℕ → List ℕ) (ys : List (ℕ × D)) → All (λ e. text e.1 ≡ r e.0) ys
        → by_bytes text ys ≡ paired r (map (λ e. e.0) ys)
    again r [] a = refl
    again r (y ∷ ys) a =
        ap₂ (λ d es. (y.0, d) ∷ es) (a 0 y (omega arith)) (again r ys (λ i d l. a (suc i) d (omega arith)))

    rising_firsts : (ys : List (ℕ × D)) → IsNonDecreasingBy (λ e. e.0) ys → IsNonDecreasing (map (λ e. e.0) ys)
    rising_firsts [] up = λ i j d l m. absurd (omega arith)
    rising_firsts (y ∷ ys) up = λ i j d l m.
        let n : j < length (y ∷ ys) = omega (arith, length-map (y ∷ ys) (λ e. e.0)) in
        let k : i < length (y ∷ ys) = omega arith in
        let le = up i j y l n in
        omega (arith, le, get_or-map (λ e. e.0) (y ∷ ys) i y d k, get_or-map (λ e. e.0) (y ∷ ys) j y d n)

    -- what is sorted by position is the list by position
    pub sorted_entries : (ss : List Site) → AllSites IsAlignedNode ss → (xs ys : List (ℕ × D))
        → by_bytes text xs ≡ entries T f ss → IsPermutation xs ys → IsNonDecreasingBy (λ e. e.0) ys
        → by_bytes text ys ≡ entries T f (by_position T ss)
    sorted_entries ss al xs ys e p up =
        let r = read T f ss in
        let here = reads ss ss al al (λ t. omega arith) in
        let xs_are : by_bytes text xs ≡ paired r (positions T ss) =
        e ∙ entries_agree T f (λ s. r (position_of T s)) ss here ∙ paired-entries r ss in
        let all = All-permutation (λ x. text x.1 ≡ r x.0) xs ys p (seconds r xs (positions T ss) xs_are) in
        let moved : IsPermutation (positions T ss) (map (λ x. x.0) ys) =
        subst (λ ps. IsPermutation ps (map (λ x. x.0) ys)) (firsts r xs (positions T ss) xs_are)
        (IsPermutation-map (λ x. x.0) xs ys p) in
        let order : map (λ x. x.0) ys ≡ positions T (by_position T ss) =
        positions_sorted T ss (map (λ x. x.0) ys) moved (rising_firsts ys up) in
        again r ys all ∙ ap (paired r) order ∙ sym (paired-entries r (by_position T ss))
        ∙ sym (entries_agree T f (λ s. r (position_of T s)) (by_position T ss)
        (agree_by_position (bare f) (bare (λ s. r (position_of T s))) T ss here))

-- what is kept behind nothing
pub taken : {V X R : Type 0} (g : V → List X) (o v : V) (m : Option V) (root : Option R) (r : R) (xs : List X)
    → root ≡ Some r → m ≡ Some v → g o ≡ []
    → MatchOption root (Unit {0}) (λ _. option_map g m ≡ option_map (λ w. g w ++ xs) (Some o)) → g v ≡ xs
taken g o v m root r xs er em eo a =
    let b : option_map g m ≡ Some (g o ++ xs) =
    subst (λ q. MatchOption q (Unit {0}) (λ _. option_map g m ≡ option_map (λ w. g w ++ xs) (Some o))) er a in
    let d : Some (g v) ≡ Some (g o ++ xs) = ap (option_map g) (sym em) ∙ b in
    let same : g v ≡ g o ++ xs = cc in
    same ∙ ap (λ ys. ys ++ xs) eo

-- a claim on a proof, part by part
pub on_proof : (P : Proof → Type 0) (n m i j : ℕ) (ds es : List (List ℕ)) → n ≡ m → i ≡ j → ds ≡ es
    → P (record { leaves = n; inactive = i; digests = ds }) → P (record { leaves = m; inactive = j; digests = es })
on_proof P n m i j ds es en ei ed x =
    subst (λ z. P (record { leaves = m; inactive = j; digests = z })) ed
    (subst (λ z. P (record { leaves = m; inactive = z; digests = ds })) ei
    (subst (λ z. P (record { leaves = z; inactive = i; digests = ds })) en x))
