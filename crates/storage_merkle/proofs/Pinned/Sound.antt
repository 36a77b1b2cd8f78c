-- Accepted pinned digests are those of the peaks over the start, or two strings cross.
use Rattle.std.proofs.Common.{◌≡◌, ◌≢◌, ℕ, zero, suc, ◌+◌, ◌-◌, ◌*◌, ◌<◌, ◌≤◌, ◌^◌, List, [], ◌∷◌, length, map, take, drop, Bool, true, false, if◌then◌else◌, ◌&&◌, ◌||◌, ◌⊎◌, Contains, inl, inr, refl, sym, ap, ◌∙◌, arith, subst, leb, eqb, eq-eqb, ne_eqb, eqb-true, pow_pos, pow-suc, pow-add, lt_of_mul-lt-mul_right}
use Rattle.std.proofs.lemmas.Bool.{cases_lt, lt-leb}
use Rattle.std.proofs.lemmas.List.Elements.{Contains-append_left, Contains-append_right}
use Rattle.storage_codec.specs.Digests.{HashFunction, IsSized, Cross}
use Rattle.storage_merkle.specs.Shape.{Shape, Laws, leaves_under}
use Rattle.storage_merkle.specs.Laws.Shape.{no_peaks}
use Rattle.storage_merkle.specs.Laws.Peaks.{inside_grows}
use Rattle.storage_merkle.specs.declared.merkle.bagging.Bagging.{Bagging}
use Rattle.storage_merkle.specs.declared.merkle.bagging.Bagging.TheVariants.{ForwardFold, BackwardFold}
use Rattle.storage_merkle.specs.Calc.{Site, front, back, node, Values, Agree}
use Rattle.storage_merkle.specs.Laws.Calc.{IsWide, cross_wider}
use Rattle.storage_merkle.specs.Trees.{Peak, listed, ungrafted, places, node_calc, whole_peak, part, peaks_of, folded, unfolded, bag, eval_bag, strings_bag, tree_bag, plain, tree_root, tree_string, tree_strings}
use Rattle.storage_merkle.specs.RangeProofs.{Proof, AreDigests, CountsFit, range_sites, check_string, check_strings, check_bag, up_to, trailing, same_site, fold_digest, IsOwn}
use Rattle.storage_merkle.specs.Multi.{tree_digest}
use Rattle.storage_merkle.specs.Pinned.{stands_in, peak_sites, Match, recomputed, pinned_sites, pinned_strings, match_strings, IsPinnedAccepted, IsPinnedOwn, PinnedDigestsAreSound}
use Rattle.storage_merkle.proofs.Prune.{PrunesBag, prunes_bag, up_to-all}
use Rattle.storage_merkle.proofs.Agreeing.{AllPeaks, AgreeAll, AgreeAt, agree_bag, agree_append, agree_join, holds_inside}
use Rattle.storage_merkle.proofs.Distinct.{times, one_if, one_if-le, other_first, read_all}
use Rattle.storage_merkle.proofs.Chunked.{always_bag}
use Rattle.storage_merkle.proofs.RangeSound.{own_values, law_bag, look_up-wide, own-wide, own-prunes, places-take, places-drop, leaves-split, all_take, all_drop, range_agrees, range_sound, some_own}
use Rattle.storage_merkle.proofs.RangeOwn.{and-true, bag_eval, peaks_under}
use Rattle.storage_merkle.proofs.Extracted.{tells, all_weaker}
use Rattle.storage_merkle.proofs.Expand.{cut_given, cut_join, bare, bag_same, bag_within}
use Rattle.storage_merkle.proofs.Pinned.Expand.{read, claimed_element, pinned_read, deep_read, deep_cut, deep_bag, deep_all, match_reads, match_holds, deep_cut-in, deep_read-in, or-last}

or-cases : (x y : Bool) → (x || y) ≡ true → (x ≡ true) ⊎ (y ≡ true)
or-cases true y e = inl refl
or-cases false y e = inr e

-- peaks of one list that share a leaf are one
stands_from : (c k : ℕ) (ks : List ℕ) (s : ℕ) → stands_in (places s ks) c k ≡ true → s ≤ c
stands_from c k [] s e = cc
stands_from c k (j ∷ ks) s e =
    elim (or-cases (eqb s c && eqb j k) (stands_in (places (s + 2 ^ j) ks) c k) e) [
      | inl h ↦ let r = and-true (eqb s c) (eqb j k) h in omega (arith, eqb-true s c r.0)
      | inr t ↦ omega (arith, stands_from c k ks (s + 2 ^ j) t)
    ]

one_peak : (c k a m : ℕ) (ks : List ℕ) (s : ℕ) → stands_in (places s ks) c k ≡ true → stands_in (places s ks) a m ≡ true
    → c ≤ a → a < c + 2 ^ k → k ≡ m
one_peak c k a m [] s e f l u = cc
one_peak c k a m (j ∷ ks) s e f l u =
    elim (or-cases (eqb s c && eqb j k) (stands_in (places (s + 2 ^ j) ks) c k) e) [
      | inl h ↦
          let r = and-true (eqb s c) (eqb j k) h in
          let sc : s ≡ c = eqb-true s c r.0 in
          let jk : j ≡ k = eqb-true j k r.1 in
          elim (or-cases (eqb s a && eqb j m) (stands_in (places (s + 2 ^ j) ks) a m) f) [
            | inl g ↦ let q = and-true (eqb s a) (eqb j m) g in sym jk ∙ eqb-true j m q.1
            | inr t ↦ let b = stands_from a m ks (s + 2 ^ j) t in let size : 2 ^ j ≡ 2 ^ k = ap (λ x. 2 ^ x) jk in
                absurd (omega arith)
          ]
      | inr h ↦
          let b = stands_from c k ks (s + 2 ^ j) h in
          let pos : 0 < 2 ^ j = pow_pos j in
          elim (or-cases (eqb s a && eqb j m) (stands_in (places (s + 2 ^ j) ks) a m) f) [
            | inl g ↦ let q = and-true (eqb s a) (eqb j m) g in let sa : s ≡ a = eqb-true s a q.0 in
                absurd (omega arith)
            | inr t ↦ one_peak c k a m ks (s + 2 ^ j) h t l u
          ]
    ]

sub_back : (k G : ℕ) → G ≤ k → k ≡ (k - G) + G
sub_back k G l = omega arith

-- a given node under one that agrees
module _ (v w : Values) (S : Shape) (cut : ℕ → ℕ → Bool) where
  at_given : (a m : ℕ) → cut a m ≡ true → Agree v w (node_calc (ungrafted S) cut m a)
      → v.digest (node a m) ≡ w.digest (node a m)
  at_given a m e g = subst (Agree v w) (cut_given S cut m a e) g

  descend : (a m : ℕ) → cut a m ≡ true → ((c k : ℕ) → c ≤ a → a < c + 2 ^ k → m < k → cut c k ≡ false) → (k c i : ℕ)
      → m ≤ k → a ≡ c + i * 2 ^ m → c ≤ a → a < c + 2 ^ k → Agree v w (node_calc (ungrafted S) cut k c)
      → v.digest (node a m) ≡ w.digest (node a m)
  descend a m own opens zero c i mk e l u g =
      let mz : zero ≡ m = omega arith in
      let ca : c ≡ a = omega arith in
      at_given a m own (subst (λ x. Agree v w (node_calc (ungrafted S) cut x a)) mz
      (subst (λ x. Agree v w (node_calc (ungrafted S) cut zero x)) ca g))
  descend a m own opens (suc k) c i mk e l u g =
      elim (cases_lt m (suc k)) [
        | inr same ↦
            let mz : suc k ≡ m = omega arith in
            let size : 2 ^ suc k ≡ 2 ^ m = ap (λ x. 2 ^ x) mz in
            let bound : i * 2 ^ m < 1 * 2 ^ m = omega arith in
            let none : i < 1 = lt_of_mul-lt-mul_right (2 ^ m) bound in
            let iz : i ≡ 0 = omega arith in
            let ca : c ≡ a = omega (arith, ap (λ n. n * 2 ^ m) iz) in
            at_given a m own (subst (λ x. Agree v w (node_calc (ungrafted S) cut x a)) mz
            (subst (λ x. Agree v w (node_calc (ungrafted S) cut (suc k) x)) ca g))
        | inl less ↦
            let f = agree_join v w (ungrafted S) c (suc k) _ _
            (subst (Agree v w) (cut_join S cut k c (opens c (suc k) l u less)) g) in
            let below' : m ≤ k = omega arith in
            elim (cases_lt a (c + 2 ^ k)) [
              | inl left ↦ descend a m own opens k c i below' e l left f.0
              | inr right ↦
                  let q : ℕ = 2 ^ (k - m) in
                  let half : 2 ^ k ≡ q * 2 ^ m = ap (λ n. 2 ^ n) (sub_back k m below') ∙ pow-add 2 (k - m) m in
                  let pos : 0 < 2 ^ m = pow_pos m in
                  let less' : q * 2 ^ m < suc i * 2 ^ m = omega arith in
                  let least : q < suc i = lt_of_mul-lt-mul_right (2 ^ m) less' in
                  let parts : i ≡ q + (i - q) = omega arith in
                  let scaled : i * 2 ^ m ≡ (q + (i - q)) * 2 ^ m = ap (λ n. n * 2 ^ m) parts in
                  descend a m own opens k (c + 2 ^ k) (i - q) below' (omega arith) right
                  (omega (arith, pow-suc 2 k)) f.1
            ]
      ]

  module _ (P : Type 0) (Q : Peak → Type 0) (j : ℕ)
      (found : (p : Peak) → Q p → p.first ≤ j → j < p.first + 2 ^ p.height → Agree v w (part (ungrafted S) cut p) → P) where
    over_peak : (a : ℕ) (ks : List ℕ) → AllPeaks Q (places a ks) → a ≤ j → j < a + leaves_under ks
        → AgreeAll v w (map (part (ungrafted S) cut) (places a ks)) → P
    unfolding leaves_under
    over_peak a [] q l u g = absurd (omega arith)
    over_peak a (k ∷ ks) q l u g =
        elim (cases_lt j (a + 2 ^ k)) [
          | inl here ↦ found (record { first = a; height = k }) q.0 l here g.0
          | inr later ↦ over_peak (a + 2 ^ k) ks q.1 later (omega arith) g.1
        ]

    over_up_to : (low high : ℕ) → j < high → (a : ℕ) (ks : List ℕ) → AllPeaks Q (places a ks) → a ≤ j
        → j < a + leaves_under ks → AgreeAll v w (map (part (ungrafted S) cut) (up_to high (places a ks))) → P
    unfolding leaves_under
    over_up_to low high below a [] q l u g = absurd (omega arith)
    over_up_to low high below a (k ∷ ks) q l u g =
        let p : Peak = record { first = a; height = k } in
        let rest : List Peak = places (a + 2 ^ k) ks in
        let F : Bool → Type 0 =
        λ b. AgreeAll v w (map (part (ungrafted S) cut) (if b then [] else p ∷ up_to high rest)) in
        let f = subst F (lt-leb high a (omega arith)) g in
        elim (cases_lt j (a + 2 ^ k)) [
          | inl here ↦ found p q.0 l here f.0
          | inr later ↦ over_up_to low high below (a + 2 ^ k) ks q.1 later (omega arith) f.1
        ]

    over_tree : (low high : ℕ) → j < high → (b : Bagging) (i : ℕ) (ks : List ℕ) → AllPeaks Q (places 0 ks)
        → j < leaves_under ks → AgreeAll v w (map (part (ungrafted S) cut) (folded b i (places 0 ks)))
        → AgreeAll v w (map (part (ungrafted S) cut) (up_to high (unfolded b i (places 0 ks)))) → P
    over_tree low high below ForwardFold i ks q u f g = over_peak 0 ks q (omega arith) (omega arith) f
    over_tree low high below BackwardFold i ks q u f g =
        let f' = subst (λ ps. AgreeAll v w (map (part (ungrafted S) cut) ps)) (places-take i 0 ks) f in
        let g' = subst (λ ps. AgreeAll v w (map (part (ungrafted S) cut) (up_to high ps))) (places-drop i 0 ks) g in
        elim (cases_lt j (leaves_under (take i ks))) [
          | inl here ↦ over_peak 0 (take i ks) (subst (AllPeaks Q) (places-take i 0 ks) (all_take Q i (places 0 ks) q))
              (omega arith) (omega arith) f'
          | inr later ↦ over_up_to low high below (0 + leaves_under (take i ks)) (drop i ks) (subst (AllPeaks Q)
              (places-drop i 0 ks) (all_drop Q i (places 0 ks) q)) (omega arith) (omega (arith, leaves-split i ks)) g'
        ]

-- each peak's site stands once
peak_before : (c m : ℕ) (ks : List ℕ) (s : ℕ) → c < s → times (node c m) (peak_sites (places s ks)) ≡ 0
peak_before c m [] s l = refl
peak_before c m (k ∷ ks) s l = let ne : s ≢ c = λ e. absurd (omega arith) in
    omega (arith, ap one_if (other_first s k c m ne), peak_before c m ks (s + 2 ^ k) (omega arith))

peak_once : (t : Site) (ks : List ℕ) (s : ℕ) → times t (peak_sites (places s ks)) ≤ 1
peak_once front [] s = omega arith
peak_once front (k ∷ ks) s = omega (arith, peak_once front ks (s + 2 ^ k))
peak_once back [] s = omega arith
peak_once back (k ∷ ks) s = omega (arith, peak_once back ks (s + 2 ^ k))
peak_once (node c m) [] s = omega arith
peak_once (node c m) (k ∷ ks) s =
    let pos : 0 < 2 ^ k = pow_pos k in
    elim (cases_lt s c) [
      | inl less ↦ let ne : s ≢ c = λ e. absurd (omega arith) in
          omega (arith, ap one_if (other_first s k c m ne), peak_once (node c m) ks (s + 2 ^ k))
      | inr least ↦
          omega (arith, one_if-le (same_site (node s k) (node c m)), peak_before c m ks (s + 2 ^ k) (omega arith))
    ]

-- the peaks over fewer leaves nest in those over more
abbrev Nests : Shape → ℕ → Peak → Type 0
Nests S n q = AllPeaks (λ p. p.first ≤ q.first → q.first < p.first + 2 ^ p.height
    → (q.height ≤ p.height) × ((i : ℕ) × (q.first ≡ p.first + i * 2 ^ q.height))) (peaks_of (ungrafted S) n)

nested : (S : Shape) → Laws S → (m n : ℕ) → m ≤ n → AllPeaks (Nests S n) (peaks_of (ungrafted S) m)
nested S L m n le =
    all_weaker _ (Nests S n) (λ q u. let pos : 0 < 2 ^ q.height = pow_pos q.height in
    holds_inside q.first q.height q.first (omega arith) (omega arith) u.0 (S.peaks n) 0 (L.aligned n)
    (inside_grows S L m n q.first q.height le u.0 u.1)) (peaks_of (ungrafted S) m)
    (peaks_under (S.peaks m) (S.peaks m) 0 (L.aligned m) (λ a k i. i))

no_digests : (ds : List (List ℕ)) → length ds ≡ 0 → ds ≡ []
no_digests [] e = refl
no_digests (x ∷ ds) e = absurd (omega arith)

no_chunk : (d : ℕ) → 0 ≢ 8 + d
no_chunk d = λ e. absurd (omega arith)

module _ (d : ℕ) (h : HashFunction) (sized : IsSized d h) (S : Shape) (L : Laws S) (b : Bagging) (proof : Proof)
    (start : ℕ) (elements pinned : List (List ℕ)) (list : List (List ℕ)) where
  -- the pinned digests, where the expanded calculation agrees with a tree's
  module _ (w : Values) (trees : (a k : ℕ) → w.digest (node a k) ≡ tree_digest h (ungrafted S) (listed list) (node a k))
      (some : 0 < length elements) (few : proof.leaves ≤ 2 ^ 62) (within : start + length elements ≤ proof.leaves)
      (f : AgreeAll (bare (deep_read h S b proof start elements pinned) (claimed_element h S b proof start elements pinned)) w (map (part (ungrafted S) (deep_cut h S b proof start elements pinned)) (folded b proof.inactive (peaks_of (ungrafted S) proof.leaves))))
      (g : AgreeAll (bare (deep_read h S b proof start elements pinned) (claimed_element h S b proof start elements pinned)) w (map (part (ungrafted S) (deep_cut h S b proof start elements pinned)) (up_to (start + length elements) (unfolded b proof.inactive (peaks_of (ungrafted S) proof.leaves))))) where
    each_pinned : (ks : List ℕ) (s : ℕ)
        → ((c k : ℕ) → stands_in (places s ks) c k ≡ true → stands_in (peaks_of (ungrafted S) start) c k ≡ true)
        → AllPeaks (λ q. AllPeaks (λ p. p.first ≤ q.first → q.first < p.first + 2 ^ p.height → (q.height ≤ p.height)
        × ((i : ℕ) × (q.first ≡ p.first + i * 2 ^ q.height))) (peaks_of (ungrafted S) proof.leaves)) (places s ks)
        → s + leaves_under ks ≡ start → AgreeAt (bare (pinned_read h S b proof start elements pinned) (λ j. []))
        (bare (tree_digest h (ungrafted S) (listed list)) (λ j. [])) (peak_sites (places s ks))
    unfolding leaves_under
    each_pinned [] s sub n e = tt
    each_pinned (k ∷ ks) s sub n e =
        let high = start + length elements in
        let v =
        bare (deep_read h S b proof start elements pinned) (claimed_element h S b proof start elements pinned) in
        let cut = deep_cut h S b proof start elements pinned in
        let pos : 0 < 2 ^ k = pow_pos k in
        let inside : s + 2 ^ k ≤ start = omega arith in
        let here : stands_in (peaks_of (ungrafted S) start) s k ≡ true =
        sub s k (rw (eq-eqb s s refl, eq-eqb k k refl) refl) in
        let own : cut s k ≡ true =
        deep_cut-in h S b proof start elements pinned s k inside ∙ or-last (eqb k 0) _ here in
        let opens : (c m : ℕ) → c ≤ s → s < c + 2 ^ m → k < m → cut c m ≡ false = λ c m l u less.
        (let ne : m ≢ 0 = λ z. absurd (omega arith) in
        elim (tells (leb (c + 2 ^ m) start)) [
          | inr z ↦ rw z (lt-leb high c (omega arith))
          | inl z ↦ rw (z, ne_eqb m 0 ne) (elim (tells (stands_in (peaks_of (ungrafted S) start) c m)) [
            | inr y ↦ y
            | inl y ↦ absurd (let q = one_peak c m s k (S.peaks start) 0 y here l u in omega arith)
          ])
        ]) in
        let at = over_tree v w S cut (v.digest (node s k) ≡ w.digest (node s k)) (λ p. p.first ≤ s
        → s < p.first + 2 ^ p.height → (k ≤ p.height) × ((i : ℕ) × (s ≡ p.first + i * 2 ^ k))) s
        (λ p q l u a. let r = q l u in descend v w S cut s k own opens p.height p.first r.1.0 r.0 r.1.1 l u a)
        start high (omega arith) b proof.inactive (S.peaks proof.leaves) n.0 (omega (arith, L.sum proof.leaves)) f g in (
          sym (deep_read-in h S b proof start elements pinned s k inside) ∙ at ∙ trees s k,
          each_pinned ks (s + 2 ^ k) (λ c m t. sub c m (or-last _ _ t)) n.1 (omega arith),
        )

  module _ (wide : AreDigests d proof.digests) (wide' : AreDigests d pinned) where
    deep-wide : IsWide d
        (bare (deep_read h S b proof start elements pinned) (claimed_element h S b proof start elements pinned))
    deep-wide front = look_up-wide d (h []) (sized [])
        (range_sites h (ungrafted S) b proof start (listed elements)) proof.digests wide front
    deep-wide back = look_up-wide d (h []) (sized [])
        (range_sites h (ungrafted S) b proof start (listed elements)) proof.digests wide back
    deep-wide (node a k) =
        elim (leb (a + 2 ^ k) start) as (λ c. length (if c then pinned_read h S b proof start elements pinned (node a k)
        else read h S b proof start elements pinned (node a k)) ≡ d) [
          | true ↦ look_up-wide d (h []) (sized [])
              (pinned_sites h (ungrafted S) b proof start (listed elements) pinned) pinned wide' (node a k)
          | false ↦ look_up-wide d (h []) (sized [])
              (range_sites h (ungrafted S) b proof start (listed elements)) proof.digests wide (node a k)
        ]

    some_sound : (inactive : ℕ) → length list ≤ 2 ^ 62 → inactive ≤ length (S.peaks (length list))
        → (acc : CountsFit h (ungrafted S) b proof start (listed elements))
        (root_is : h (check_string h (ungrafted S) b proof start (listed elements)) ≡ tree_root h (ungrafted S) b (listed list) inactive)
        → length pinned ≡ length (pinned_sites h (ungrafted S) b proof start (listed elements) pinned)
        → Match start (read h S b proof start elements pinned) (recomputed h (ungrafted S) b proof start
        (listed elements) pinned) (range_sites h (ungrafted S) b proof start (listed elements))
        → IsPinnedOwn h (ungrafted S) b proof start (listed elements) pinned (listed list) inactive
        ⊎ Cross h (pinned_strings h (ungrafted S) b proof start (listed elements) pinned)
        (tree_strings h (ungrafted S) b (listed list) inactive)
    some_sound inactive fl fi acc root_is counted same =
        let n = proof.leaves in
        let i = proof.inactive in
        let high = start + length elements in
        let ct = listed list in
        let sites = range_sites h (ungrafted S) b proof start (listed elements) in
        let X = match_strings h (ungrafted S) b proof start (listed elements) pinned sites in
        let xs = folded b i (peaks_of (ungrafted S) n) in
        let ys = unfolded b i (peaks_of (ungrafted S) n) in
        let us = up_to high ys in
        let ts = trailing high ys in
        let rd = read h S b proof start elements pinned in
        let dr = deep_read h S b proof start elements pinned in
        let el = claimed_element h S b proof start elements pinned in
        let cut = deep_cut h S b proof start elements pinned in
        let v = bare rd el in
        let v2 = bare dr el in
        let w = own_values h (ungrafted S) b ct n i start high in
        let t = check_bag (ungrafted S) start high b n i in
        let u = deep_bag h S b proof start elements pinned X in
        let cs = check_string h (ungrafted S) b proof start (listed elements) in
        let us' = tree_string h (ungrafted S) b ct inactive in
        let some = acc.some in
        elim (range_agrees d 0 h sized (no_chunk d) S L S.position (λ m a k. false) b proof start (listed elements) wide
        (λ a k o g m i c. refl) ct (λ a k o g m i c. refl) inactive fl fi acc root_is) [
          | inr c ↦ inr (cross_wider (λ x m. Contains-append_left (cs ∷ strings_bag h v t) X x m) (λ x m. m) c)
          | inl r ↦
              let x = deep_all h S b proof start elements pinned X some (λ s l e. (
                match_reads h S b proof start
                    elements pinned sites same s l e,
                match_holds h S b proof start elements pinned sites s l e,
              )) in
              let p = prunes_bag h w (plain h ct) (ungrafted S) cut (λ a. refl) (λ j. refl) (λ a k. refl) [] xs us ts
              (λ q rest e. cc)
              (λ q rest e. ap (λ ps. fold_digest h (plain h ct) (bag [] (map (whole_peak (ungrafted S)) ps))) e) in
              let p' : PrunesBag h w (plain h ct) u (tree_bag (ungrafted S) b n i) =
              subst (λ ps. PrunesBag h w (plain h ct) u
              (bag (map (whole_peak (ungrafted S)) xs) (map (whole_peak (ungrafted S)) ps))) (up_to-all high ys) p in
              let moved : tree_bag (ungrafted S) b n i ≡ tree_bag (ungrafted S) b (length list) inactive =
              ap (λ m. tree_bag (ungrafted S) b m i) r.leaves_are
              ∙ ap (λ k. tree_bag (ungrafted S) b (length list) k) r.inactive_are in
              let hp = own-prunes h (ungrafted S) b ct n i start high in
              let e : eval_bag h v2 u ≡ eval_bag h w u =
              sym (bag_same h rd dr el X t u x) ∙ bag_eval v w h t r.agree ∙ hp.same ∙ sym p'.same in
              elim (law_bag d 0 h v2 w sized (no_chunk d) (deep-wide)
              (own-wide d h (ungrafted S) b ct n i start high sized) u (always_bag 0 v2 (λ a. refl) u)
              (always_bag 0 w (λ a. refl) u) e) [
                | inr c ↦ inr (cross_wider
                    (λ z m. elim (bag_within h rd dr el X t u x z m) [
                      | inl y ↦ Contains-append_left (cs ∷ strings_bag h v t) X z
                          (Contains-append_right (cs ∷ []) (strings_bag h v t) z y)
                      | inr y ↦ Contains-append_right (cs ∷ strings_bag h v t) X z y
                    ])
                    (λ z m. Contains-append_right (us' ∷ []) _ z
                    (subst (λ y. Contains (strings_bag h (plain h ct) y) z) moved (p'.fewer z m))) c)
                | inl a ↦
                    let both = agree_bag v2 w _ _ a in
                    let aft = agree_append v2 w (map (part (ungrafted S) cut) us) _ both.1 in
                    let within = acc.within in
                    let at = each_pinned w (λ c k. refl) some acc.few within both.0 aft.0 (S.peaks start) 0 (λ c k s. s)
                    (nested S L start n (omega arith)) (omega (arith, L.sum start)) in
                    inl (record {
                      own = subst (λ (z : ℕ). IsOwn h (ungrafted S) b proof start (listed elements) ct inactive)
                          r.leaves_are (some_own d 0 h sized (no_chunk d) S L S.position (λ m a k. false) b proof start
                          (listed elements) wide (λ z m o g l s c. refl) ct (λ z m o g l s c. refl) inactive fl fi acc r);
                      pinned_are = read_all (h []) (pinned_sites h (ungrafted S) b proof start (listed elements) pinned)
                          pinned (bare (tree_digest h (ungrafted S) ct) (λ j. [])) (λ j. []) (λ c. []) counted
                          (λ s. peak_once s (S.peaks start) 0) at;
                    })
              ]
        ]

    -- for no elements too
    pub pinned_sound : (inactive : ℕ) → length list ≤ 2 ^ 62 → inactive ≤ length (S.peaks (length list))
        → IsPinnedAccepted h (ungrafted S) b proof start (listed elements) pinned
        (tree_root h (ungrafted S) b (listed list) inactive)
        → IsPinnedOwn h (ungrafted S) b proof start (listed elements) pinned (listed list) inactive
        ⊎ Cross h (pinned_strings h (ungrafted S) b proof start (listed elements) pinned)
        (tree_strings h (ungrafted S) b (listed list) inactive)
    pinned_sound inactive fl fi ok =
        elim ok.accepted [
          | inl fit ↦ some_sound inactive fl fi fit.0 fit.1 ok.count ok.same
          | inr none ↦ elim (range_sound d 0 h sized (no_chunk d) S L S.position (λ m a k. false) b proof start
              (listed elements) wide (λ a k o g m i c. refl) (listed list) (λ a k o g m i c. refl) inactive fl fi
              (inr none)) [
                | inr c ↦ inr (cross_wider (λ x m. Contains-append_left
                    (check_strings h (ungrafted S) b proof start (listed elements)) _ x m) (λ x m. m) c)
                | inl own ↦
                    let nothing : pinned_sites h (ungrafted S) b proof start (listed elements) pinned ≡ [] =
                    ap (λ n. peak_sites (places 0 (S.peaks n))) none.0.no_start
                    ∙ ap (λ ks. peak_sites (places 0 ks)) (no_peaks S L) in
                    let empty : length pinned ≡ 0 = ok.count ∙ ap length nothing in
                    inl (record {
                      own = own;
                      pinned_are = no_digests pinned empty
                          ∙ ap (map (tree_digest h (ungrafted S) (listed list))) (sym nothing);
                    })
              ]
        ]

pub pinned_digests_sound : PinnedDigestsAreSound
pinned_digests_sound d h sized S L b proof start elements pinned wide wide' list inactive few peaks ok =
    pinned_sound d h sized S L b proof start elements pinned list wide wide' inactive few peaks ok
