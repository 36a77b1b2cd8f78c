-- Each site of a range proof stands there once.
use Rattle.std.proofs.Common.{◌≡◌, ℕ, zero, suc, ◌+◌, ◌*◌, ◌<◌, ◌≤◌, ◌^◌, List, [], ◌∷◌, ◌++◌, length, map, Bool, true, false, if◌then◌else◌, ◌⊎◌, inl, inr, refl, ap, ◌∙◌, arith, leb, subst, pow-suc, pow_pos, eq-eqb, ne_eqb, ◌≢◌}
use Rattle.std.proofs.lemmas.Bool.{cases_lt}
use Rattle.storage_merkle.specs.Calc.{Site, front, back, node, Calc, given, leaf, pair, graft, be8, Values}
use Rattle.storage_merkle.specs.Trees.{Layout, Peak, node_calc, part, join_calc, places}
use Rattle.storage_merkle.specs.RangeProofs.{apart, leading, not_leading, up_to, trailing, sites_of, position_of, place_in, by_position, one_for, sites_in, sites_over, same_site, look_up}
use Rattle.storage_merkle.proofs.Agreeing.{AgreeAt}
use Rattle.storage_merkle.proofs.Prune.{leading-all, up_to-all}

abbrev pub one_if : Bool → ℕ
one_if b = if b then 1 else 0

-- how often a site stands in a list
abbrev pub times : Site → List Site → ℕ
times s [] = 0
times s (t ∷ ts) = one_if (same_site t s) + times s ts

pub times-append : (s : Site) (ss ts : List Site) → times s (ss ++ ts) ≡ times s ss + times s ts
times-append s [] ts = omega arith
times-append s (t ∷ ss) ts = omega (arith, times-append s ss ts)

times-place_in : (T : Layout) (s t : Site) (ts : List Site)
    → times s (place_in T t ts) ≡ one_if (same_site t s) + times s ts
times-place_in T s t [] = refl
times-place_in T s t (u ∷ ts) =
    elim (leb (position_of T t) (position_of T u)) as (λ b. times s (if b then t ∷ u ∷ ts else u ∷ place_in T t ts)
    ≡ one_if (same_site t s) + (one_if (same_site u s) + times s ts)) [
      | true ↦ refl
      | false ↦ omega (arith, times-place_in T s t ts)
    ]

pub times-by_position : (T : Layout) (s : Site) (ts : List Site) → times s (by_position T ts) ≡ times s ts
times-by_position T s [] = refl
times-by_position T s (t ∷ ts) =
    times-place_in T s t (by_position T ts) ∙ ap (λ n. one_if (same_site t s) + n) (times-by_position T s ts)

pub one_if-le : (b : Bool) → one_if b ≤ 1
one_if-le true = omega arith
one_if-le false = omega arith

-- a node whose first leaf is another one
pub other_first : (a k b m : ℕ) → a ≢ b → same_site (node a k) (node b m) ≡ false
other_first a k b m ne = rw (ne_eqb a b ne) refl

pub times-join : (s : Site) (T : Layout) (a k : ℕ) (l r : Calc)
    → times s (sites_of (join_calc T a k l r)) ≡ times s (sites_of l) + times s (sites_of r)
times-join s T a k l r = elim (T.grafted a k) as (λ b. times s (sites_of (if b then graft a (T.position a k) l r
    else pair (be8 (T.position a k)) l r)) ≡ times s (sites_of l) + times s (sites_of r)) [
      | true ↦
          times-append s (sites_of l) (sites_of r)
      | false ↦ times-append s (sites_of l) (sites_of r)
    ]

module _ (T : Layout) (cut : ℕ → ℕ → Bool) (b m : ℕ) where
  outside : (k a : ℕ) → (b < a) ⊎ (a + 2 ^ k ≤ b) → times (node b m) (sites_of (node_calc T cut k a)) ≡ 0
  outside zero a o =
      let ne : a ≢ b = elim o [ inl l ↦ omega arith | inr g ↦ omega arith ] in
      elim (cut a zero) as (λ c.
      times (node b m) (sites_of (if c then given (node a zero) else leaf (be8 (T.shape.position a zero)) a)) ≡ 0) [
        | true ↦ rw (other_first a zero b m ne) refl
        | false ↦ refl
      ]
  outside (suc k) a o =
      let pos : 0 < 2 ^ k = pow_pos k in
      let twice : 2 ^ suc k ≡ 2 ^ k * 2 = pow-suc 2 k in
      let ne : a ≢ b = elim o [ inl l ↦ omega arith | inr g ↦ omega arith ] in
      let left : (b < a) ⊎ (a + 2 ^ k ≤ b) = elim o [ inl l ↦ inl l | inr g ↦ inr (omega arith) ] in
      let right : (b < a + 2 ^ k) ⊎ ((a + 2 ^ k) + 2 ^ k ≤ b) =
      elim o [ inl l ↦ inl (omega arith) | inr g ↦ inr (omega arith) ] in
      elim (cut a (suc k)) as (λ c. times (node b m) (sites_of (if c then given (node a (suc k))
      else join_calc T a (suc k) (node_calc T cut k a) (node_calc T cut k (a + 2 ^ k)))) ≡ 0) [
        | true ↦ rw (other_first a (suc k) b m ne) refl
        | false ↦ omega (
          arith,
          times-join (node b m) T a (suc k) (node_calc T cut k a) (node_calc T cut k (a + 2 ^ k)),
          outside k a left,
          outside k (a + 2 ^ k) right,
        )
      ]

  once : (k a : ℕ) → times (node b m) (sites_of (node_calc T cut k a)) ≤ 1
  once zero a =
      elim (cut a zero) as (λ c.
      times (node b m) (sites_of (if c then given (node a zero) else leaf (be8 (T.shape.position a zero)) a)) ≤ 1) [
        | true ↦ omega (arith, one_if-le (same_site (node a zero) (node b m)))
        | false ↦ omega arith
      ]
  once (suc k) a =
      elim (cut a (suc k)) as (λ c. times (node b m) (sites_of (if c then given (node a (suc k))
      else join_calc T a (suc k) (node_calc T cut k a) (node_calc T cut k (a + 2 ^ k)))) ≤ 1) [
        | true ↦ omega (arith, one_if-le (same_site (node a (suc k)) (node b m)))
        | false ↦
            let both = times-join (node b m) T a (suc k) (node_calc T cut k a) (node_calc T cut k (a + 2 ^ k)) in
            elim (cases_lt b (a + 2 ^ k)) [
              | inl l ↦ omega (arith, both, once k a, outside k (a + 2 ^ k) (inl l))
              | inr g ↦ omega (arith, both, outside k a (inr g), once k (a + 2 ^ k))
            ]
      ]

  before_all : (a : ℕ) (ks : List ℕ) → b < a → times (node b m) (sites_in T cut (places a ks)) ≡ 0
  before_all a [] l = refl
  before_all a (k ∷ ks) l = omega (
    arith,
    times-append (node b m) (sites_of (node_calc T cut k a))
        (sites_in T cut (places (a + 2 ^ k) ks)),
    outside k a (inl l),
    before_all (a + 2 ^ k) ks (omega arith),
  )

  pub once_all : (a : ℕ) (ks : List ℕ) → times (node b m) (sites_in T cut (places a ks)) ≤ 1
  once_all a [] = omega arith
  once_all a (k ∷ ks) =
      let both = times-append (node b m) (sites_of (node_calc T cut k a)) (sites_in T cut (places (a + 2 ^ k) ks)) in
      elim (cases_lt b (a + 2 ^ k)) [
        | inl l ↦ omega (arith, both, once k a, before_all (a + 2 ^ k) ks l)
        | inr g ↦ omega (arith, both, outside k a (inr g), once_all (a + 2 ^ k) ks)
      ]

pub no_fold : (s : Site) (T : Layout) (cut : ℕ → ℕ → Bool) → ((a k : ℕ) → same_site (node a k) s ≡ false) → (k a : ℕ)
    → times s (sites_of (node_calc T cut k a)) ≡ 0
no_fold s T cut f zero a =
    elim (cut a zero) as (λ c.
    times s (sites_of (if c then given (node a zero) else leaf (be8 (T.shape.position a zero)) a)) ≡ 0) [
      | true ↦ rw (f a zero) refl
      | false ↦ refl
    ]
no_fold s T cut f (suc k) a =
    elim (cut a (suc k)) as (λ c. times s (sites_of (if c then given (node a (suc k))
    else join_calc T a (suc k) (node_calc T cut k a) (node_calc T cut k (a + 2 ^ k)))) ≡ 0) [
      | true ↦ rw (f a (suc k)) refl
      | false ↦ omega (
        arith,
        times-join s T a (suc k) (node_calc T cut k a) (node_calc T cut k (a + 2 ^ k)),
        no_fold s T cut f k a,
        no_fold s T cut f k (a + 2 ^ k),
      )
    ]

module _ (T : Layout) (cut : ℕ → ℕ → Bool) where
  pub no_fold_in : (s : Site) → ((a k : ℕ) → same_site (node a k) s ≡ false) → (ps : List Peak)
      → times s (sites_in T cut ps) ≡ 0
  no_fold_in s f [] = refl
  no_fold_in s f (p ∷ ps) = omega (
    arith,
    times-append s (sites_of (part T cut p)) (sites_in T cut ps),
    no_fold s T cut f p.height p.first,
    no_fold_in s f ps,
  )

  pub times-in : (s : Site) (ps qs : List Peak)
      → times s (sites_in T cut (ps ++ qs)) ≡ times s (sites_in T cut ps) + times s (sites_in T cut qs)
  times-in s [] qs = omega arith
  times-in s (p ∷ ps) qs = omega (
    arith,
    times-append s (sites_of (part T cut p)) (sites_in T cut (ps ++ qs)),
    times-append s (sites_of (part T cut p)) (sites_in T cut ps),
    times-in s ps qs,
  )

  -- each given node of some peaks stands there once
  pub each_given_once : (ks : List ℕ) (s : Site) → times s (sites_in T cut (places 0 ks)) ≤ 1
  each_given_once ks front = omega (arith, no_fold_in front (λ a k. refl) (places 0 ks))
  each_given_once ks back = omega (arith, no_fold_in back (λ a k. refl) (places 0 ks))
  each_given_once ks (node b m) = once_all T cut b m 0 ks

one_for_times : (t : Site) (ps : List Peak) (s : Site) → times s (one_for t ps) ≤ one_if (same_site t s)
one_for_times t [] s = omega arith
one_for_times t (p ∷ ps) s = omega arith

module _ (T : Layout) (low high : ℕ) where
  -- the sites over some peaks are the folds and those in the peaks, but for some of the peaks
  pub all_times : (s : Site) (xs ys : List Peak) → times s (sites_over T low high xs ys)
      ≤ one_if (same_site front s) + one_if (same_site back s) + times s (sites_in T (apart low high) (xs ++ ys))
  all_times s xs ys =
      let ls = leading low xs in
      let ns = not_leading low xs in
      let ms = leading low ys in
      let os = not_leading low ys in
      let A = sites_in T (apart low high) ms in
      let B = sites_in T (apart low high) (trailing high ns) in
      let C = one_for back (trailing high ys) in
      let D = sites_in T (apart low high) (up_to high ns) in
      let E = sites_in T (apart low high) (up_to high os) in
      let x1 = times-append s (one_for front ls) (A ++ (B ++ (C ++ by_position T (D ++ E)))) in
      let x2 = times-append s A (B ++ (C ++ by_position T (D ++ E))) in
      let x3 = times-append s B (C ++ by_position T (D ++ E)) in
      let x4 = times-append s C (by_position T (D ++ E)) in
      let x5 = times-by_position T s (D ++ E) in
      let x6 = times-append s D E in
      let y1 = times-in T (apart low high) s xs ys in
      let y2 = times-in T (apart low high) s ls ns in
      let y3 = times-in T (apart low high) s ms os in
      let y4 = times-in T (apart low high) s (up_to high ns) (trailing high ns) in
      let y5 = times-in T (apart low high) s (up_to high os) (trailing high os) in
      let z1 = ap (λ ps. times s (sites_in T (apart low high) ps)) (leading-all low xs) in
      let z2 = ap (λ ps. times s (sites_in T (apart low high) ps)) (leading-all low ys) in
      let z3 = ap (λ ps. times s (sites_in T (apart low high) ps)) (up_to-all high ns) in
      let z4 = ap (λ ps. times s (sites_in T (apart low high) ps)) (up_to-all high os) in
      omega (arith, one_for_times front ls s, one_for_times back (trailing high ys) s)

  pub each_once : (xs ys : List Peak) (ks : List ℕ) → xs ++ ys ≡ places 0 ks → (s : Site)
      → times s (sites_over T low high xs ys) ≤ 1
  each_once xs ys ks e front =
      omega (arith, all_times front xs ys, no_fold_in T (apart low high) front (λ a k. refl) (xs ++ ys))
  each_once xs ys ks e back =
      omega (arith, all_times back xs ys, no_fold_in T (apart low high) back (λ a k. refl) (xs ++ ys))
  each_once xs ys ks e (node b m) =
      let z = ap (λ ps. times (node b m) (sites_in T (apart low high) ps)) e in
      omega (arith, all_times (node b m) xs ys, once_all T (apart low high) b m 0 ks)

pub same_itself : (s : Site) → same_site s s ≡ true
same_itself front = refl
same_itself back = refl
same_itself (node a k) = rw (eq-eqb a a refl, eq-eqb k k refl) refl

pub zero_if : (b : Bool) → one_if b ≡ 0 → b ≡ false
zero_if true z = absurd (omega arith)
zero_if false z = refl

-- what is read past the first site
tail_reads : (none : List ℕ) (s : Site) (ss us : List Site) (d : List ℕ) (ds : List (List ℕ)) (w : Values)
    (element chunk : ℕ → List ℕ) → times s us ≡ 0
    → AgreeAt (record { digest = look_up none (s ∷ ss) (d ∷ ds); element = element; chunk = chunk }) w us
    → AgreeAt (record { digest = look_up none ss ds; element = element; chunk = chunk }) w us
tail_reads none s ss [] d ds w element chunk e a = tt
tail_reads none s ss (u ∷ us) d ds w element chunk e a =
    let differ : same_site u s ≡ false = zero_if (same_site u s) (omega arith) in (
      subst (λ b. (if b then d else look_up none ss ds u) ≡ w.digest u) differ a.0,
      tail_reads none s ss us d ds w element chunk (omega arith) a.1,
    )

-- digests that are looked up at sites that differ are those
pub read_all : (none : List ℕ) (ss : List Site) (ds : List (List ℕ)) (w : Values) (element chunk : ℕ → List ℕ)
    → length ds ≡ length ss → ((s : Site) → times s ss ≤ 1)
    → AgreeAt (record { digest = look_up none ss ds; element = element; chunk = chunk }) w ss → ds ≡ map w.digest ss
read_all none [] [] w element chunk l o a = refl
read_all none [] (d ∷ ds) w element chunk l o a = absurd (omega arith)
read_all none (s ∷ ss) [] w element chunk l o a = absurd (omega arith)
read_all none (s ∷ ss) (d ∷ ds) w element chunk l o a =
    let itself : one_if (same_site s s) ≡ 1 = ap one_if (same_itself s) in
    let absent : times s ss ≡ 0 = omega (arith, o s) in
    let fewer : (t : Site) → times t ss ≤ 1 = λ t. omega (arith, o t) in
    let head : d ≡ w.digest s = subst (λ b. (if b then d else look_up none ss ds s) ≡ w.digest s) (same_itself s) a.0 in
    let tail : ds ≡ map w.digest ss = read_all none ss ds w element chunk (omega arith) fewer
    (tail_reads none s ss ss d ds w element chunk absent a.1) in
    cc
