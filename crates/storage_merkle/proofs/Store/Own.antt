-- The range proofs that a store of a tree gives are the tree's own.
use Rattle.std.proofs.Common.{◌≡◌, ℕ, zero, suc, ◌+◌, ◌-◌, ◌<◌, ◌≤◌, ◌^◌, List, [], ◌∷◌, ◌++◌, length, map, Bool, true, false, if◌then◌else◌, ◌&&◌, inl, inr, refl, sym, ap, ap₂, ◌∙◌, arith, subst, leb, ltb, leb-true, leb-false, le-leb, Some, None}
use Rattle.std.proofs.lemmas.Bool.{cases_lt, lt-leb}
use Rattle.std.proofs.lemmas.List.{map-append}
use Rattle.storage_codec.specs.Digests.{HashFunction}
use Rattle.storage_merkle.specs.declared.merkle.error.Error.{Error}
use Rattle.storage_merkle.specs.declared.merkle.error.Error.TheVariants.{Empty, RangeOutOfBounds, LocationOverflow, ElementPruned}
use Rattle.storage_merkle.specs.Shape.{Shape, Laws}
use Rattle.storage_merkle.specs.Calc.{Site, front, back, node, Calc, given, pair, Values, eval}
use Rattle.storage_merkle.specs.Trees.{Layout, Content, Peak, node_calc, whole_peak, part, fold_forward, fold_backward, bag, plain}
use Rattle.storage_merkle.specs.RangeProofs.{Proof, apart, leading, not_leading, up_to, trailing, one_for, sites_of, sites_in, sites_over, sites, by_position, same_site, fold_digest, own_digest, own_proof}
use Rattle.storage_merkle.specs.Multi.{tree_digest}
use Rattle.storage_merkle.specs.Extracted.{nodes_under, nodes_in}
use Rattle.storage_merkle.specs.Stores.{Store, entry_at, or_else, kept_sites, peak_given, store_values, fore, aft, store_digest, store_proof, first_of, range_refusal, IsStoreOf}
use Rattle.storage_merkle.proofs.Prune.{leading-all, up_to-all, fold_forward-append}
use Rattle.storage_merkle.proofs.Agreeing.{up_to-leading}
use Rattle.storage_merkle.proofs.Distinct.{times, one_if, same_itself, times-append, times-by_position, times-in}
use Rattle.storage_merkle.proofs.RangeSound.{or-false}
use Rattle.storage_merkle.proofs.RangeOwn.{and-true, same_site-eq}
use Rattle.storage_merkle.proofs.Siblings.{sites-cut, sites-leaf, sites-halves}
use Rattle.storage_merkle.proofs.Plan.Sites.{AllSites, IsAlignedNode}
use Rattle.storage_merkle.proofs.Extracted.{tells}
use Rattle.storage_merkle.proofs.Store.Entries.{kept_aligned, entry_there}

pub map_at : (f g : Site → List ℕ) (ss : List Site) → ((s : Site) → 1 ≤ times s ss → f s ≡ g s) → map f ss ≡ map g ss
map_at f g [] e = refl
map_at f g (s ∷ ss) e = let itself : one_if (same_site s s) ≡ 1 = ap one_if (same_itself s) in
    ap₂ (λ x xs. x ∷ xs) (e s (omega arith)) (map_at f g ss (λ t l. e t (omega arith)))

-- folds of items with equal digests
module _ (h : HashFunction) (v w : Values) where
  abbrev pub SameAll : List Calc → List Calc → Type 0
  SameAll [] [] = Unit {0}
  SameAll [] (u ∷ us) = ⊥
  SameAll (t ∷ ts) [] = ⊥
  SameAll (t ∷ ts) (u ∷ us) = (eval h v t ≡ eval h w u) × SameAll ts us

  same_forward : (t u : Calc) (ts us : List Calc) → eval h v t ≡ eval h w u → SameAll ts us
      → eval h v (fold_forward t ts) ≡ eval h w (fold_forward u us)
  same_forward t u [] [] e a = e
  same_forward t u [] (y ∷ us) e a = absurd a
  same_forward t u (x ∷ ts) [] e a = absurd a
  same_forward t u (x ∷ ts) (y ∷ us) e a =
      same_forward (pair [] t x) (pair [] u y) ts us (ap₂ (λ m n. h (m ++ n)) e a.0) a.1

-- a part of a range
module _ (T : Layout) (start past low high : ℕ) (from : start ≤ low) (until : high ≤ past) where
  abbrev small : ℕ → ℕ → Bool
  small = apart low high

  abbrev big : ℕ → ℕ → Bool
  big = apart start past

  -- a node that the smaller range reads is one that the greater one reads or computes
  reads_kept : (k a : ℕ) (s : Site) → 1 ≤ times s (sites_of (node_calc T small k a)) → 1 ≤ times s (nodes_under big k a)
  reads_kept zero a s l =
      elim (tells (small a 0)) [
        | inl c ↦ subst (λ ss. 1 ≤ times s ss) (sites-cut T small 0 a c) l
        | inr c ↦ absurd (let m : 1 ≤ 0 = subst (λ ss. 1 ≤ times s ss) (sites-leaf T small a c) l in omega arith)
      ]
  reads_kept (suc k) a s l =
      let xs = nodes_under big k a in
      let ys = nodes_under big k (a + 2 ^ k) in
      elim (tells (small a (suc k))) [
        | inl c ↦
            let m : 1 ≤ times s (node a (suc k) ∷ []) =
            subst (λ ss. 1 ≤ times s ss) (sites-cut T small (suc k) a c) l in
            omega (arith, times-append s (if big a (suc k) then [] else xs ++ ys) (node a (suc k) ∷ []))
        | inr c ↦
            let r = or-false (leb (a + 2 ^ suc k) low) (leb high a) c in
            let x : low < a + 2 ^ suc k = leb-false (a + 2 ^ suc k) low r.0 in
            let y : a < high = leb-false high a r.1 in
            let o : big a (suc k) ≡ false =
            rw (lt-leb (a + 2 ^ suc k) start (omega arith), lt-leb past a (omega arith)) refl in
            let ls = sites_of (node_calc T small k a) in
            let rs = sites_of (node_calc T small k (a + 2 ^ k)) in
            let m : 1 ≤ times s (ls ++ rs) = subst (λ ss. 1 ≤ times s ss) (sites-halves T small k a c) l in
            let q : 1 ≤ times s xs + times s ys = elim (cases_lt 0 (times s ls)) [
              | inl u ↦ omega (arith, reads_kept k a s u)
              | inr u ↦
                  omega (arith, times-append s ls rs, reads_kept k (a + 2 ^ k) s (omega (arith, times-append s ls rs)))
            ] in
            rw o (omega (arith, times-append s (xs ++ ys) (node a (suc k) ∷ []), times-append s xs ys))
      ]

  nodes_times : (s : Site) (ps qs : List Peak)
      → times s (nodes_in big (ps ++ qs)) ≡ times s (nodes_in big ps) + times s (nodes_in big qs)
  nodes_times s [] qs = omega arith
  nodes_times s (p ∷ ps) qs = omega (
    arith,
    times-append s (nodes_under big p.height p.first) (nodes_in big (ps ++ qs)),
    times-append s (nodes_under big p.height p.first) (nodes_in big ps),
    nodes_times s ps qs,
  )

  reads_in : (ps : List Peak) (s : Site) → 1 ≤ times s (sites_in T small ps) → 1 ≤ times s (nodes_in big ps)
  reads_in [] s l = l
  reads_in (p ∷ ps) s l =
      let split = times-append s (sites_of (part T small p)) (sites_in T small ps) in
      let both = times-append s (nodes_under big p.height p.first) (nodes_in big ps) in
      elim (cases_lt 0 (times s (sites_of (part T small p)))) [
        | inl u ↦ omega (arith, both, reads_kept p.height p.first s u)
        | inr u ↦ omega (arith, both, reads_in ps s (omega (arith, split)))
      ]

  later_in : (ps : List Peak) (s : Site)
      → times s (sites_in T small (not_leading low ps)) ≤ times s (sites_in T small ps)
  later_in ps s = omega (
    arith,
    times-in T small s (leading low ps) (not_leading low ps),
    ap (λ qs. times s (sites_in T small qs)) (leading-all low ps),
  )

  -- the peaks in front
  reads_front : (ps : List Peak) (s : Site) → 1 ≤ times s (sites_in T small (not_leading low ps))
      → 1 ≤ times s (nodes_in big (not_leading start ps))
  reads_front [] s l = l
  reads_front (p ∷ ps) s l =
      elim (tells (leb (p.first + 2 ^ p.height) start)) [
        | inr c ↦ rw c (reads_in (p ∷ ps) s (omega (arith, later_in (p ∷ ps) s)))
        | inl c ↦
            let x : p.first + 2 ^ p.height ≤ start = leb-true (p.first + 2 ^ p.height) start c in
            let d : leb (p.first + 2 ^ p.height) low ≡ true = le-leb (p.first + 2 ^ p.height) low (omega arith) in
            let m = subst (λ z. 1 ≤ times s (sites_in T small (if z then not_leading low ps else p ∷ ps))) d l in
            rw c (reads_front ps s m)
      ]

  -- those behind
  reads_back : (ps : List Peak) (s : Site) → 1 ≤ times s (sites_in T small (up_to high ps))
      → 1 ≤ times s (nodes_in big (up_to past ps))
  reads_back [] s l = l
  reads_back (p ∷ ps) s l =
      elim (tells (leb high p.first)) [
        | inl c ↦
            absurd (let m : 1 ≤ 0 = subst (λ z. 1 ≤ times s (sites_in T small (if z then [] else p ∷ up_to high ps))) c l in omega arith)
        | inr c ↦
            let x : p.first < high = leb-false high p.first c in
            let d : leb past p.first ≡ false = lt-leb past p.first (omega arith) in
            let m : 1 ≤ times s (sites_of (part T small p) ++ sites_in T small (up_to high ps)) =
            subst (λ z. 1 ≤ times s (sites_in T small (if z then [] else p ∷ up_to high ps))) c l in
            let split = times-append s (sites_of (part T small p)) (sites_in T small (up_to high ps)) in
            let both = times-append s (nodes_under big p.height p.first) (nodes_in big (up_to past ps)) in
            let q : 1 ≤ times s (nodes_under big p.height p.first ++ nodes_in big (up_to past ps)) =
            elim (cases_lt 0 (times s (sites_of (part T small p)))) [
              | inl u ↦ omega (arith, reads_kept p.height p.first s u)
              | inr u ↦ omega (arith, reads_back ps s (omega (arith, split)))
            ] in
            rw d q
      ]

  pub lead_split : (ps : List Peak) → leading low ps ≡ leading start ps ++ leading low (not_leading start ps)
  lead_split [] = refl
  lead_split (p ∷ ps) =
      elim (tells (leb (p.first + 2 ^ p.height) start)) [
        | inr c ↦ rw c refl
        | inl c ↦
            let x : p.first + 2 ^ p.height ≤ start = leb-true (p.first + 2 ^ p.height) start c in
            let d : leb (p.first + 2 ^ p.height) low ≡ true = le-leb (p.first + 2 ^ p.height) low (omega arith) in
            rw (c, d) (ap (λ qs. p ∷ qs) (lead_split ps))
      ]

  pub trail_trail : (ps : List Peak) → trailing past (trailing high ps) ≡ trailing past ps
  trail_trail [] = refl
  trail_trail (p ∷ ps) =
      elim (tells (leb high p.first)) [
        | inl c ↦ rw c refl
        | inr c ↦
            let x : p.first < high = leb-false high p.first c in
            let d : leb past p.first ≡ false = lt-leb past p.first (omega arith) in
            rw (c, d) (trail_trail ps)
      ]

  trail_in : (ps : List Peak) (s : Site)
      → times s (nodes_in big (up_to past (trailing high ps))) ≤ times s (nodes_in big (up_to past ps))
  trail_in [] s = omega arith
  trail_in (p ∷ ps) s =
      elim (tells (leb high p.first)) [
        | inl c ↦ rw c (omega arith)
        | inr c ↦
            let x : p.first < high = leb-false high p.first c in
            let d : leb past p.first ≡ false = lt-leb past p.first (omega arith) in
            let both = times-append s (nodes_under big p.height p.first) (nodes_in big (up_to past ps)) in
            rw (c, d) (omega (arith, both, trail_in ps s))
      ]

  lead_in : (ps : List Peak) (s : Site) → times s (nodes_in big (leading low ps)) ≤ times s (nodes_in big ps)
  lead_in ps s = omega (
    arith,
    nodes_times s (leading low ps) (not_leading low ps),
    ap (λ qs. times s (nodes_in big qs)) (leading-all low ps),
  )

head_under : (cut : ℕ → ℕ → Bool) (k a : ℕ) → 1 ≤ times (node a k) (nodes_under cut k a)
head_under cut zero a = let itself : one_if (same_site (node a zero) (node a zero)) ≡ 1 =
    ap one_if (same_itself (node a zero)) in omega arith
head_under cut (suc k) a =
    let itself : one_if (same_site (node a (suc k)) (node a (suc k))) ≡ 1 = ap one_if (same_itself (node a (suc k))) in
    omega (
      arith,
      times-append (node a (suc k))
          (if cut a (suc k) then [] else nodes_under cut k a ++ nodes_under cut k (a + 2 ^ k)) (node a (suc k) ∷ []),
    )

node_front : (a k : ℕ) (ps : List Peak) → times (node a k) (one_for front ps) ≡ 0
node_front a k [] = refl
node_front a k (p ∷ ps) = refl

node_back : (a k : ℕ) (ps : List Peak) → times (node a k) (one_for back ps) ≡ 0
node_back a k [] = refl
node_back a k (p ∷ ps) = refl

-- a site among aligned ones is aligned
aligned_at : (ss : List Site) → AllSites IsAlignedNode ss → (s : Site) → 1 ≤ times s ss → IsAlignedNode s
aligned_at [] al s l = absurd (omega arith)
aligned_at (t ∷ ts) al s l =
    elim (tells (same_site t s)) [
      | inl c ↦ subst IsAlignedNode (same_site-eq t s c) al.0
      | inr c ↦ let z : one_if (same_site t s) ≡ 0 = ap one_if c in aligned_at ts al.1 s (omega arith)
    ]

module _ (h : HashFunction) (T : Layout) (L : Laws T.shape) (store : Store) (content : Content) (inactive : ℕ)
    (st : IsStoreOf h T store content inactive) where
  abbrev kept : List Site
  kept = kept_sites T store.bagging store.leaves store.inactive store.start store.past

  abbrev big_cut : ℕ → ℕ → Bool
  big_cut = apart store.start store.past

  held : (a k : ℕ) → 1 ≤ times (node a k) kept
      → or_else (h []) (entry_at (T.shape.position a k) store.kept) ≡ tree_digest h T content (node a k)
  held a k l =
      let al = kept_aligned T L store.bagging store.leaves store.inactive store.start store.past in
      let e = entry_there T L (tree_digest h T content) kept al (node a k) (aligned_at kept al (node a k) l) l in
      ap (λ es. or_else (h []) (entry_at (T.shape.position a k) es)) st.kept_are ∙ ap (or_else (h [])) e

  peaks_same : (ps : List Peak) → ((s : Site) → 1 ≤ times s (nodes_in big_cut ps) → 1 ≤ times s kept)
      → SameAll h (store_values h T store) (plain h content) (map peak_given ps) (map (whole_peak T) ps)
  peaks_same [] f = tt
  peaks_same (p ∷ ps) f =
      let both : (s : Site) → times s (nodes_in big_cut (p ∷ ps)) ≡ times s (nodes_under big_cut p.height p.first)
      + times s (nodes_in big_cut ps) = λ s. times-append s _ _ in (
        held p.first p.height (f (node p.first p.height)
            (omega (arith, both (node p.first p.height), head_under big_cut p.height p.first))),
        peaks_same ps (λ s l. f s (omega (arith, both s))),
      )

  front_same : (ls ms : List Peak)
      → (0 < length ls → store.front_fold ≡ fold_digest h (plain h content) (bag (map (whole_peak T) ls) []))
      → SameAll h (store_values h T store) (plain h content) (map peak_given ms) (map (whole_peak T) ms)
      → fold_digest h (store_values h T store) (bag (one_for (given front) ls ++ map peak_given ms) [])
      ≡ fold_digest h (plain h content) (bag (map (whole_peak T) (ls ++ ms)) [])
  front_same [] [] f a = refl
  front_same [] (m ∷ ms) f a = same_forward h (store_values h T store) (plain h content) (peak_given m) (whole_peak T m)
      (map peak_given ms) (map (whole_peak T) ms) a.0 a.1
  front_same (l ∷ ls) ms f a =
      let split : fold_forward (whole_peak T l) (map (whole_peak T) (ls ++ ms))
      ≡ fold_forward (fold_forward (whole_peak T l) (map (whole_peak T) ls)) (map (whole_peak T) ms) =
      ap (fold_forward (whole_peak T l)) (map-append (whole_peak T) ls ms)
      ∙ fold_forward-append _ (map (whole_peak T) ls) (map (whole_peak T) ms) in
      same_forward h (store_values h T store) (plain h content) (given front)
      (fold_forward (whole_peak T l) (map (whole_peak T) ls)) (map peak_given ms) (map (whole_peak T) ms) (f (omega arith)) a
      ∙ ap (eval h (plain h content)) (sym split)

  back_after : (t u : Calc) (us ts : List Peak) → eval h (store_values h T store) t ≡ eval h (plain h content) u
      → (0 < length ts → store.back_fold ≡ fold_digest h (plain h content) (bag [] (map (whole_peak T) ts)))
      → SameAll h (store_values h T store) (plain h content) (map peak_given us) (map (whole_peak T) us)
      → eval h (store_values h T store) (fold_backward t (map peak_given us ++ one_for (given back) ts))
      ≡ eval h (plain h content) (fold_backward u (map (whole_peak T) (us ++ ts)))
  back_after t u [] [] e f a = e
  back_after t u [] (q ∷ ts) e f a = ap₂ (λ m n. h (m ++ n)) e (f (omega arith))
  back_after t u (p ∷ us) ts e f a = ap₂ (λ m n. h (m ++ n)) e (back_after (peak_given p) (whole_peak T p) us ts a.0 f a.1)

  back_same : (us ts : List Peak)
      → (0 < length ts → store.back_fold ≡ fold_digest h (plain h content) (bag [] (map (whole_peak T) ts)))
      → SameAll h (store_values h T store) (plain h content) (map peak_given us) (map (whole_peak T) us)
      → fold_digest h (store_values h T store) (bag [] (map peak_given us ++ one_for (given back) ts))
      ≡ fold_digest h (plain h content) (bag [] (map (whole_peak T) (us ++ ts)))
  back_same [] [] f a = refl
  back_same [] (q ∷ ts) f a = f (omega arith)
  back_same (p ∷ us) ts f a = back_after (peak_given p) (whole_peak T p) us ts a.0 f a.1

  module _ (low high : ℕ) (from : store.start ≤ low) (some : low < high) (until : high ≤ store.past) where
    abbrev xs : List Peak
    xs = fore h T store

    abbrev ys : List Peak
    ys = aft h T store

    kept_both : (s : Site) → times s kept
        ≡ times s (nodes_in big_cut (not_leading store.start xs)) + times s (nodes_in big_cut (up_to store.past ys))
    kept_both s = times-by_position T s _
        ∙ nodes_times T store.start store.past low high from until s (not_leading store.start xs) (up_to store.past ys)

    given_at : (s : Site) → 1 ≤ times s (sites T low high store.bagging store.leaves store.inactive)
        → store_digest h T store low high s
        ≡ own_digest h T store.bagging content store.leaves store.inactive low high s
    given_at front l =
        let ls = leading store.start xs in
        let ns = not_leading store.start xs in
        let ms = leading low ns in
        let all : (s : Site) → 1 ≤ times s (nodes_in big_cut ms) → 1 ≤ times s kept =
        λ s m. omega (arith, lead_in T store.start store.past low high from until ns s, kept_both s) in
        front_same ls ms st.front_is (peaks_same ms all) ∙ ap (λ ps. fold_digest h (plain h content)
        (bag (map (whole_peak T) ps) [])) (sym (lead_split T store.start store.past low high from until xs))
    given_at back l =
        let us = up_to store.past (trailing high ys) in
        let ts = trailing store.past ys in
        let all : (s : Site) → 1 ≤ times s (nodes_in big_cut us) → 1 ≤ times s kept =
        λ s m. omega (arith, trail_in T store.start store.past low high from until ys s, kept_both s) in
        let whole_again : us ++ ts ≡ trailing high ys =
        ap (λ qs. us ++ qs) (sym (trail_trail T store.start store.past low high from until ys))
        ∙ up_to-all store.past (trailing high ys) in
        back_same us ts st.back_is (peaks_same us all)
        ∙ ap (λ ps. fold_digest h (plain h content) (bag [] (map (whole_peak T) ps))) whole_again
    given_at (node a k) l =
        let s = node a k in
        let cut = apart low high in
        let ls = leading low xs in
        let ns = not_leading low xs in
        let ms = leading low ys in
        let os = not_leading low ys in
        let ts = trailing high ys in
        let F = one_for front ls in
        let A = sites_in T cut ms in
        let B = sites_in T cut (trailing high ns) in
        let C = one_for back ts in
        let D = sites_in T cut (up_to high ns) in
        let E = sites_in T cut (up_to high os) in
        let total : times s (sites_over T low high xs ys)
        ≡ times s F + (times s A + (times s B + (times s C + (times s D + times s E)))) =
        omega (
          arith,
          times-append s F (A ++ (B ++ (C ++ by_position T (D ++ E)))),
          times-append s A (B ++ (C ++ by_position T (D ++ E))),
          times-append s B (C ++ by_position T (D ++ E)),
          times-append s C (by_position T (D ++ E)),
          times-by_position T s (D ++ E),
          times-append s D E,
        ) in
        let x : times s (sites_in T cut ns) ≡ times s D + times s B = omega (
          arith,
          times-in T cut s (up_to high ns)
              (trailing high ns),
          ap (λ ps. times s (sites_in T cut ps)) (up_to-all high ns),
        ) in
        let y : times s (sites_in T cut (up_to high ys)) ≡ times s A + times s E = omega (
          arith,
          times-in T cut s ms
              (up_to high os),
          ap (λ ps. times s (sites_in T cut ps)) (up_to-leading low high some ys),
        ) in
        held a k (elim (cases_lt 0 (times s (sites_in T cut ns))) [
          | inl u ↦ omega (arith, kept_both s, reads_front T store.start store.past low high from until xs s u)
          | inr u ↦ omega (
            arith,
            kept_both s,
            reads_back T store.start store.past low high from until ys s
                (omega (arith, total, node_front a k ls, node_back a k ts)),
          )
        ])

    pub store_own : store_proof h T store low high ≡ own_proof h T store.bagging content inactive low high
    store_own =
        let b = store.bagging in
        let F : ℕ → ℕ → Proof = λ n i. record {
          leaves = n;
          inactive = i;
          digests = map (own_digest h T b content n i low high) (sites T low high b n i);
        } in
        let e = map_at (store_digest h T store low high) (own_digest h T b content store.leaves store.inactive low high)
        (sites T low high b store.leaves store.inactive) given_at in
        let one : store_proof h T store low high ≡ F store.leaves store.inactive =
        ap (λ ds. record { leaves = store.leaves; inactive = store.inactive; digests = ds }) e in
        one ∙ ap₂ F st.leaves_are st.inactive_are

-- no refusal: the range is one of the source's
none_of : {A : Type 0} (b1 b2 b3 b4 b5 b6 : Bool) (r1 r2 r3 r4 r5 r6 : A) → first_of
    (if b1 then Some r1 else (if b2 then Some r2 else (if b3 then Some r3 else (if b4 then Some r4 else None))))
    (if b5 then (if b6 then None else Some r5) else Some r6) ≡ None → (b2 ≡ false) × (b5 ≡ true) × (b6 ≡ true)
none_of true b2 b3 b4 b5 b6 r1 r2 r3 r4 r5 r6 e = cc
none_of false true b3 b4 b5 b6 r1 r2 r3 r4 r5 r6 e = cc
none_of false false true b4 b5 b6 r1 r2 r3 r4 r5 r6 e = cc
none_of false false false true b5 b6 r1 r2 r3 r4 r5 r6 e = cc
none_of false false false false true true r1 r2 r3 r4 r5 r6 e = (refl, refl, refl)
none_of false false false false true false r1 r2 r3 r4 r5 r6 e = cc
none_of false false false false false b6 r1 r2 r3 r4 r5 r6 e = cc

pub inside_range : (F : Type 0) (S : Shape) (store : Store) (low high : ℕ) → range_refusal F S store low high ≡ None
    → (store.start ≤ low) × (low < high) × (high ≤ store.past)
inside_range F S store low high e =
    let n = store.leaves in
    let r1 : Error F = LocationOverflow n in
    let r2 : Error F = Empty in
    let r3 : Error F = LocationOverflow (high - 1) in
    let r4 : Error F = RangeOutOfBounds (high - 1) in
    let r5 : Error F = ElementPruned (S.position store.past 0) in
    let r6 : Error F = ElementPruned (S.position low 0) in
    let r = none_of (ltb (2 ^ 62) n) (leb high low) (ltb (2 ^ 62) high) (ltb n high)
    (leb store.start low && ltb low store.past) (leb high store.past) r1 r2 r3 r4 r5 r6 e in
    let q = and-true (leb store.start low) (ltb low store.past) r.1 in
    (leb-true store.start low q.0, leb-false high low r.0, leb-true high store.past r.2)

pub stores_give_own : (F : Type 0) (h : HashFunction) (T : Layout) → Laws T.shape
    → (store : Store) (content : Content) (inactive : ℕ) → IsStoreOf h T store content inactive → (low high : ℕ)
    → range_refusal F T.shape store low high ≡ None
    → store_proof h T store low high ≡ own_proof h T store.bagging content inactive low high
stores_give_own F h T L store content inactive st low high e = let r = inside_range F T.shape store low high e in
    store_own h T L store content inactive st low high r.0 r.1 r.2
