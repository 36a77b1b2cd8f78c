-- The range proofs that a store gives, digest by digest.
use Rattle.std.proofs.Common.{◌≡◌, ℕ, zero, suc, ◌+◌, ◌<◌, ◌≤◌, List, [], ◌∷◌, ◌++◌, length, map, get_or, take, drop, true, false, if◌then◌else◌, refl, sym, ap, ap₂, ◌∙◌, arith, subst, leb, append_assoc, append-nil, Option, Some, None}
use Rattle.std.proofs.lemmas.List.{map-append, drop_more, drop_all}
use Rattle.storage_codec.specs.Digests.{HashFunction}
use Rattle.storage_merkle.specs.Shape.{Shape}
use Rattle.storage_merkle.specs.Calc.{Site, front, back, node, Calc, given, Values, eval}
use Rattle.storage_merkle.specs.Trees.{Layout, Peak, peaks_of, ungrafted, fold_backward, bag}
use Rattle.storage_merkle.specs.RangeProofs.{Proof, apart, leading, not_leading, up_to, trailing, one_for, sites_in, position_of, same_site, sites, fold_digest}
use Rattle.storage_merkle.specs.Laws.Hashing.{eval-forward}
use Rattle.storage_merkle.specs.Hashers.{forward_of, folded_onto, prepended}
use Rattle.storage_merkle.specs.PlanParts.{peaks_by}
use Rattle.storage_merkle.specs.Rests.{peaks_from, IsPast, AreFolded, AreAfterLeading}
use Rattle.storage_merkle.specs.Siblings.{sibling_sites}
use Rattle.storage_merkle.specs.StoreParts.{kept_met}
use Rattle.storage_merkle.specs.Walked.{walked}
use Rattle.storage_merkle.specs.CheckParts.{front_before, top_sites, right_of, folded_before}
use Rattle.storage_merkle.specs.Stores.{Store, entry_at, or_else, peak_given, store_values, fore, aft, store_digest, store_proof, stored_at}
use Rattle.storage_merkle.proofs.Check.Roots.{plain_sites}
use Rattle.storage_merkle.proofs.Check.Bags.{fold_for, right_of-folded}
use Rattle.storage_merkle.proofs.Check.Sites.{all_added}
use Rattle.storage_merkle.proofs.Plan.Folds.{forward_from}
use Rattle.storage_merkle.proofs.Walked.{listed, all_listed, digests_met}
use Rattle.storage_merkle.proofs.Distinct.{times, times-by_position, no_fold_in}
use Rattle.storage_merkle.proofs.Store.Own.{map_at, lead_split, trail_trail}

-- ---- folds of calculations

module _ (h : HashFunction) (v : Values) where
  abbrev E : Calc → List ℕ
  E = eval h v

  forward_some : (c : Calc) (cs : List Calc) → forward_of h (map E (c ∷ cs)) ≡ Some (fold_digest h v (bag (c ∷ cs) []))
  forward_some c cs = ap (λ x. Some x) (sym (eval-forward h v c cs))

  onto_some : (c : Calc) (cs : List Calc) → folded_onto h (map E (c ∷ cs)) None ≡ Some (E (fold_backward c cs))
  onto_some c [] = refl
  onto_some c (d ∷ cs) = ap (λ o. Some (prepended h (E c) o)) (onto_some d cs)

-- ---- of one store

module _ (h : HashFunction) (S : Shape) (store : Store) where
  abbrev T : Layout
  T = ungrafted S

  abbrev values : Values
  values = store_values h T store

  abbrev xs : List Peak
  xs = fore h T store

  abbrev ys : List Peak
  ys = aft h T store

  -- the digest that is kept of a peak
  abbrev pub kept_of : ℕ → ℕ → List ℕ
  kept_of a k = stored_at h T store (node a k)

  -- the fold in front of the leaf low
  abbrev pub front_calcs : ℕ → List Calc
  front_calcs low = one_for (given front) (leading store.start xs) ++ map peak_given (leading low (not_leading store.start xs))

  abbrev pub front_fold_of : ℕ → Option (List ℕ)
  front_fold_of low = forward_of h (map (eval h values) (front_calcs low))

  peaks_given : (ps : List Peak) → map (eval h values) (map peak_given ps) ≡ peaks_by kept_of ps
  peaks_given [] = refl
  peaks_given (p ∷ ps) = ap (λ ds. kept_of p.first p.height ∷ ds) (peaks_given ps)

  from_source : (a : ℕ) (ls : List Peak) (ds : List (List ℕ)) → IsPast 0 a ls
      → forward_from h (folded_before store.front_fold a) ds ≡ forward_of h (map (eval h values) (one_for (given front) ls) ++ ds)
  from_source a [] ds e = ap (λ c. forward_from h (folded_before store.front_fold c) ds) e
  from_source zero (p ∷ ps) ds l = absurd (omega arith)
  from_source (suc a) (p ∷ ps) ds l = refl

  pub front_starts : (low f a r g : ℕ) (o : Option (List ℕ)) → AreFolded S store.bagging store.inactive store.leaves f
      → AreAfterLeading S store.start 0 store.leaves f a r g → o ≡ folded_before store.front_fold a
      → forward_from h o (peaks_by kept_of (leading low (take g (peaks_from S a r)))) ≡ front_fold_of low
  front_starts low f a r g o parts after eo =
      let lefts : take g (peaks_from S a r) ≡ not_leading store.start xs =
      after.folded_are ∙ ap (not_leading store.start) parts.folded_are in
      let past : IsPast 0 a (leading store.start xs) =
      subst (λ ps. IsPast 0 a (leading store.start ps)) parts.folded_are after.past in
      ap₂ (λ p ps. forward_from h p (peaks_by kept_of (leading low ps))) eo lefts
      ∙ from_source a (leading store.start xs) (peaks_by kept_of (leading low (not_leading store.start xs))) past
      ∙ ap (λ ds. forward_of h (map (eval h values) (one_for (given front) (leading store.start xs)) ++ ds))
      (sym (peaks_given (leading low (not_leading store.start xs))))
      ∙ ap (forward_of h) (sym (map-append (eval h values) (one_for (given front) (leading store.start xs))
      (map peak_given (leading low (not_leading store.start xs)))))

  -- the fold past a range, of the last peaks
  module _ (low high : ℕ) (from : store.start ≤ low) (until : high ≤ store.past) where
    abbrev site : Site → List ℕ
    site = store_digest h T store low high

    abbrev last_fold : List Peak → Option (List ℕ)
    last_fold ps = right_of h (λ p. kept_of p.first p.height) store.back_fold store.past ps

    abbrev back_calcs : List Peak → List Calc
    back_calcs ps = map peak_given (up_to store.past ps) ++ one_for (given back) (trailing store.past ps)

    back_values : (ps : List Peak)
        → fold_for h (λ p. kept_of p.first p.height) store.back_fold store.past ps ≡ map (eval h values) (one_for (given back) ps)
    back_values [] = refl
    back_values (p ∷ ps) = refl

    last_calcs : (ps : List Peak) → last_fold ps ≡ folded_onto h (map (eval h values) (back_calcs ps)) None
    last_calcs ps =
        right_of-folded h (λ p. kept_of p.first p.height) store.back_fold store.past ps
        ∙ ap (λ ds. folded_onto h ds None) (ap₂ (λ ds es. ds ++ es) (sym (peaks_given (up_to store.past ps)))
        (back_values (trailing store.past ps)) ∙ sym
        (map-append (eval h values) (map peak_given (up_to store.past ps)) (one_for (given back) (trailing store.past ps))))

    some_back : (p : Peak) (ps : List Peak)
        → last_fold (p ∷ ps) ≡ Some (fold_digest h values (bag [] (back_calcs (p ∷ ps))))
    some_back p ps = last_calcs (p ∷ ps) ∙ (elim (leb store.past p.first) as (λ c.
        folded_onto h (map (eval h values) (map peak_given (if c then [] else p ∷ up_to store.past ps) ++ one_for (given back)
        (if c then p ∷ ps else trailing store.past ps))) None ≡ Some (fold_digest h values (bag [] (map peak_given
        (if c then [] else p ∷ up_to store.past ps) ++ one_for (given back) (if c then p ∷ ps else trailing store.past ps))))) [
          | true ↦ refl
          | false ↦ onto_some h values (peak_given p)
              (map peak_given (up_to store.past ps) ++ one_for (given back) (trailing store.past ps))
        ])

    -- the peaks from high on are those past the range
    site_back : (ps : List Peak) → ps ≡ trailing high ys → site back ≡ fold_digest h values (bag [] (back_calcs ps))
    site_back ps e =
        ap (λ qs. fold_digest h values (bag [] (map peak_given (up_to store.past (trailing high ys)) ++ one_for (given back) qs)))
        (sym (trail_trail T store.start store.past low high from until ys))
        ∙ ap (λ qs. fold_digest h values (bag [] (back_calcs qs))) (sym e)

    -- the digests of what is met after the leading peaks
    pub kept_are : (ps : List Peak) (f : ℕ) → trailing high (drop f ps) ≡ trailing high ys
        → all_listed (map (kept_met h T store) (walked low high ps f)) ≡ map site (top_sites low high ps f)
    kept_are ps f late = digests_met low high site (kept_met h T store) (λ p. refl) ps f
        (λ q qs t. some_back q qs ∙ ap (λ x. Some x) (sym (site_back (q ∷ qs) (t ∙ late))))

    -- ---- the fold in front
    front_one : (ls ms : List Peak) (a : ℕ) → IsPast 0 a (ls ++ ms)
        → site front ≡ fold_digest h values (bag (one_for (given front) ls ++ map peak_given ms) [])
        → listed (forward_of h (map (eval h values) (one_for (given front) ls ++ map peak_given ms))) ≡ map site (front_before a)
    front_one [] [] a e f = ap (λ c. map site (front_before c)) (sym e)
    front_one [] (m ∷ ms) zero l f = absurd (omega arith)
    front_one [] (m ∷ ms) (suc a) l f =
        ap listed (forward_some h values (peak_given m) (map peak_given ms)) ∙ ap (λ x. x ∷ []) (sym f)
    front_one (p ∷ ls) ms zero l f = absurd (omega arith)
    front_one (p ∷ ls) ms (suc a) l f =
        ap listed (forward_some h values (given front) (map peak_given ms)) ∙ ap (λ x. x ∷ []) (sym f)

    front_listed : (f a r g : ℕ) → AreFolded S store.bagging store.inactive store.leaves f
        → AreAfterLeading S low 0 store.leaves f a r g → listed (front_fold_of low) ≡ map site (front_before a)
    front_listed f a r g parts after =
        let ls = leading store.start xs in
        let ms = leading low (not_leading store.start xs) in
        let past : IsPast 0 a (leading low xs) =
        subst (λ ps. IsPast 0 a (leading low ps)) parts.folded_are after.past in
        front_one ls ms a (subst (IsPast 0 a) (lead_split T store.start store.past low high from until xs) past) refl

    -- ---- the siblings
    abbrev pub kept_there : ℕ → List ℕ
    kept_there p = or_else (h []) (entry_at p store.kept)

    pub adds_sibling : {D : Type 0} (text : D → List ℕ) (ps : List ℕ) (j p : ℕ) (old new : List D) (d : D)
        (all : List (List ℕ)) → j < length ps → p ≡ get_or ps j p → text d ≡ kept_there p → new ≡ old ++ d ∷ []
        → map text old ++ map kept_there (drop j ps) ≡ all → map text new ++ map kept_there (drop (j + 1) ps) ≡ all
    adds_sibling text ps j p old new d all within at found pushed e =
        let opened : map kept_there (drop j ps) ≡ kept_there p ∷ map kept_there (drop (j + 1) ps) =
        ap (map kept_there) (drop_more ps j p within ∙ ap (λ x. x ∷ drop (j + 1) ps) (sym at)) in
        ap (λ us. map text us ++ map kept_there (drop (j + 1) ps)) pushed
        ∙ ap (λ us. us ++ map kept_there (drop (j + 1) ps)) (map-append text old (d ∷ []))
        ∙ append_assoc (map text old) (text d ∷ []) (map kept_there (drop (j + 1) ps))
        ∙ ap (λ x. map text old ++ x ∷ map kept_there (drop (j + 1) ps)) found
        ∙ ap (λ us. map text old ++ us) (sym opened) ∙ e

    pub siblings_end : (ps : List ℕ) (j : ℕ) (us all : List (List ℕ)) → length ps ≤ j
        → us ++ map kept_there (drop j ps) ≡ all → us ≡ all
    siblings_end ps j us all l e = sym (append-nil us) ∙ ap (λ qs. us ++ map kept_there qs) (sym (drop_all j ps l)) ∙ e

    map_map : (ss : List Site) → map kept_there (map (position_of T) ss) ≡ map (λ s. kept_there (position_of T s)) ss
    map_map [] = refl
    map_map (s ∷ ss) = ap (λ us. kept_there (position_of T s) ∷ us) (map_map ss)

    beside_are : map kept_there (map (position_of T) (sibling_sites T store.leaves low high))
        ≡ map site (sibling_sites T store.leaves low high)
    beside_are = map_map (sibling_sites T store.leaves low high)
        ∙ map_at (λ s. kept_there (position_of T s)) site (sibling_sites T store.leaves low high) at
      where
        none : (s : Site) → ((a k : ℕ) → same_site (node a k) s ≡ false)
            → times s (sibling_sites T store.leaves low high) ≡ 0
        none s f =
            let ps = up_to high (not_leading low (peaks_of T store.leaves)) in
            times-by_position T s (sites_in T (apart low high) ps) ∙ no_fold_in T (apart low high) s f ps

        at : (s : Site) → 1 ≤ times s (sibling_sites T store.leaves low high) → kept_there (position_of T s) ≡ site s
        at front l = absurd (omega (arith, none front (λ a k. refl)))
        at back l = absurd (omega (arith, none back (λ a k. refl)))
        at (node a k) l = refl

    -- ---- all of them
    pub digests_are : (f a r g : ℕ) → low < high → AreFolded S store.bagging store.inactive store.leaves f
        → AreAfterLeading S low 0 store.leaves f a r g
        → (one two all : List (List ℕ)) (o : Option (List ℕ)) (ps : List ℕ) → o ≡ front_fold_of low
        → one ≡ [] ++ listed o → two ≡ one ++ map site (top_sites low high (peaks_from S a r) g)
        → ps ≡ map (position_of T) (sibling_sites T store.leaves low high) → all ≡ two ++ map kept_there ps
        → all ≡ (store_proof h T store low high).digests
    digests_are f a r g some parts after one two all o ps eo e1 e2 ep e3 =
        let in_front : one ≡ map site (front_before a) = e1 ∙ ap listed eo ∙ front_listed f a r g parts after in
        all_added T low high store.bagging store.leaves store.inactive f a r g some parts after site one two all in_front e2
        (e3 ∙ ap (λ us. two ++ us) (ap (map kept_there) ep ∙ beside_are))

-- ---- grafting is no matter

plain_digest : (h : HashFunction) (U : Layout) (store : Store) (low high : ℕ) (s : Site)
    → store_digest h U store low high s ≡ store_digest h (ungrafted U.shape) store low high s
plain_digest h U store low high front = refl
plain_digest h U store low high back = refl
plain_digest h U store low high (node a k) = refl

pub plain_proof : (h : HashFunction) (S : Shape) (U : Layout) (store : Store) (low high : ℕ) → U.shape ≡ S
    → store_proof h (ungrafted S) store low high ≡ store_proof h U store low high
plain_proof h S U store low high same =
    let digests = map_at (store_digest h U store low high) (store_digest h (ungrafted U.shape) store low high)
    (sites U low high store.bagging store.leaves store.inactive) (λ s l. plain_digest h U store low high s)
    ∙ ap (map (store_digest h (ungrafted U.shape) store low high))
    (plain_sites U low high store.bagging store.leaves store.inactive) in
    let one : store_proof h U store low high ≡ store_proof h (ungrafted U.shape) store low high =
    ap (λ ds. record { leaves = store.leaves; inactive = store.inactive; digests = ds }) digests in
    sym (one ∙ ap (λ V. store_proof h (ungrafted V) store low high) same)

-- what is folded before the leaf a
pub before_some : (x : List ℕ) (a : ℕ) → 0 < a → Some x ≡ folded_before x a
before_some x zero l = absurd (omega arith)
before_some x (suc a) l = refl

pub before_none : (x : List ℕ) (a : ℕ) → a ≤ 0 → None ≡ folded_before x a
before_none x zero l = refl
before_none x (suc a) l = absurd (omega arith)

-- part by part
pub proof_is : (h : HashFunction) (S : Shape) (store : Store) (low high n i u w : ℕ) (ds : List (List ℕ))
    → n ≡ store.leaves → i ≡ store.inactive → u ≡ low → w ≡ high → ds ≡ (store_proof h (ungrafted S) store u w).digests
    → (U : Layout) → U.shape ≡ S → record { leaves = n; inactive = i; digests = ds } ≡ store_proof h U store low high
proof_is h S store low high n i u w ds en ei eu ew ed U same =
    let P : ℕ → ℕ → List (List ℕ) → Proof = λ m j es. record { leaves = m; inactive = j; digests = es } in
    ap₂ (λ m j. P m j ds) en ei ∙ ap (P store.leaves store.inactive) (ed
    ∙ ap₂ (λ x y. (store_proof h (ungrafted S) store x y).digests) eu ew) ∙ plain_proof h S U store low high same
