-- The steps of a multi proof from a store.
use Rattle.std.proofs.Common.{◌≡◌, ◌≢◌, ℕ, zero, suc, ◌+◌, ◌-◌, ◌<◌, ◌≤◌, List, [], ◌∷◌, ◌++◌, length, map, get_or, drop, Bool, true, false, if◌then◌else◌, inl, inr, refl, sym, ap, ap₂, ◌∙◌, arith, subst, leb, ltb, eqb, le-leb, eq-eqb, ne_eqb, eqb-true, leb-false, append-nil, append_assoc, Option, Some, None, not, ◌==◌}
use Rattle.std.specs.List.Sorted.{IsPermutation, IsNonDecreasing, IsNonDecreasingBy, IsPartitionPoint}
use Rattle.std.proofs.lemmas.Bool.{le-ltb, lt-ltb, lt-leb, ltb-true, ltb-false, cases_lt}
use Rattle.std.proofs.lemmas.List.{drop_more, drop_all, map-append, length-map, get_or-map, get_or_default}
use Rattle.storage_merkle.specs.declared.merkle.error.Error.{Error}
use Rattle.storage_merkle.specs.declared.merkle.error.Error.TheVariants.{RangeOutOfBounds, ElementPruned, DuplicateLocation, UnsortedLocation, CompressedDigest}
use Rattle.storage_merkle.specs.Shape.{Shape}
use Rattle.storage_merkle.specs.Calc.{node}
use Rattle.storage_merkle.specs.declared.merkle.bagging.Bagging.{Bagging}
use Rattle.storage_merkle.specs.declared.merkle.bagging.Bagging.TheVariants.{ForwardFold, BackwardFold}
use Rattle.storage_merkle.specs.Trees.{Peak, places, peaks_of, ungrafted, unfolded}
use Rattle.storage_merkle.specs.RangeProofs.{trailing, position_of}
use Rattle.storage_merkle.specs.Rests.{peaks_from}
use Rattle.storage_merkle.specs.Multi.{Ascend, needed_sites}
use Rattle.storage_merkle.specs.Extracted.{by_bytes}
use Rattle.storage_merkle.specs.Stores.{Store, entry_at, or_else, first_of, location_refusal, found_at, unless_there, needed_refusal, multi_refusal, needed_positions, suffix_positions, is_among}
use Rattle.storage_merkle.proofs.Peaks.{Walk}
use Rattle.storage_merkle.proofs.Siblings.{positions_sorted}

-- ---- locations

module _ (F : Type 0) (n : ℕ) (ls : List ℕ) where
  abbrev pub Refused : ℕ → ℕ → Option (Error F)
  Refused first i = location_refusal F first n (drop i ls)

  module _ (first i l : ℕ) (within : i < length ls) (at : l ≡ get_or ls i l) where
    opened : Refused first i ≡ location_refusal F first n (l ∷ drop (i + 1) ls)
    opened = ap (location_refusal F first n) (drop_more ls i l within ∙ ap (λ x. x ∷ drop (i + 1) ls) (sym at))

    pub refused_unsorted : l + 1 < first → Refused first i ≡ Some (UnsortedLocation l)
    refused_unsorted u = opened ∙ rw (lt-ltb (l + 1) first u) refl

    pub refused_twice : l < first → first ≤ l + 1 → Refused first i ≡ Some (DuplicateLocation l)
    refused_twice u v =
        let e : l + 1 ≡ first = omega arith in
        opened ∙ rw (le-ltb (l + 1) first v, eq-eqb (l + 1) first e) refl

    past_first : first ≤ l → (rest : Option (Error F)) → (if ltb (l + 1) first then Some (UnsortedLocation l)
        else (if eqb (l + 1) first then Some (DuplicateLocation l) else rest)) ≡ rest
    past_first u rest =
        let ne : l + 1 ≢ first = omega arith in
        rw (le-ltb (l + 1) first (omega arith), ne_eqb (l + 1) first ne) refl

    pub refused_past : first ≤ l → n ≤ l → Refused first i ≡ Some (RangeOutOfBounds l)
    refused_past u v = opened ∙ past_first u _ ∙ rw (le-leb n l v) refl

    pub refused_later : first ≤ l → l < n → Refused first i ≡ Refused (l + 1) (i + 1)
    refused_later u v = opened ∙ past_first u _ ∙ rw (lt-leb n l v) refl

  pub refused_end : (first i : ℕ) → length ls ≤ i → Refused first i ≡ None
  refused_end first i l = ap (location_refusal F first n) (drop_all i ls l)

pub ascends : (F : Type 0) (n first : ℕ) (ls : List ℕ) → location_refusal F first n ls ≡ None → Ascend first n ls
ascends F n first [] e = tt
ascends F n first (l ∷ ls) e =
    go (ltb (l + 1) first) (eqb (l + 1) first) (leb n l) refl refl refl e (λ d. ascends F n (l + 1) ls d)
  where
    go : (a b c : Bool) → ltb (l + 1) first ≡ a → eqb (l + 1) first ≡ b → leb n l ≡ c
        → (if a then Some (UnsortedLocation l) else (if b then Some (DuplicateLocation l)
        else (if c then Some (RangeOutOfBounds l) else location_refusal F (l + 1) n ls))) ≡ None
        → (location_refusal F (l + 1) n ls ≡ None → Ascend (l + 1) n ls) → Ascend first n (l ∷ ls)
    go true b c x y z d rest = cc
    go false true c x y z d rest = cc
    go false false true x y z d rest = cc
    go false false false x y z d rest =
        let low : first ≤ l + 1 = ltb-false (l + 1) first x in
        let ne : l + 1 ≢ first = λ same. (let t : eqb (l + 1) first ≡ true = eq-eqb (l + 1) first same in cc) in
        let high : l < n = leb-false n l z in
        (omega arith, high, rest d)

-- ---- entries

module _ {D : Type 0} (text : D → List ℕ) (p : ℕ) where
  pub entry_hit : (es : List (ℕ × D)) (i : ℕ) (e : ℕ × D) → i < length es → e ≡ get_or es i e → e.0 ≡ p
      → entry_at p (by_bytes text (drop i es)) ≡ Some (text e.1)
  entry_hit es i e within at same =
      ap (λ xs. entry_at p (by_bytes text xs)) (drop_more es i e within ∙ ap (λ x. x ∷ drop (i + 1) es) (sym at))
      ∙ rw (eq-eqb e.0 p same) refl

  pub entry_later : (es : List (ℕ × D)) (i : ℕ) (e : ℕ × D) → i < length es → e ≡ get_or es i e → e.0 ≢ p
      → entry_at p (by_bytes text (drop i es)) ≡ entry_at p (by_bytes text (drop (i + 1) es))
  entry_later es i e within at other =
      ap (λ xs. entry_at p (by_bytes text xs)) (drop_more es i e within ∙ ap (λ x. x ∷ drop (i + 1) es) (sym at))
      ∙ rw (ne_eqb e.0 p other) refl

  pub entry_end : (es : List (ℕ × D)) (i : ℕ) → length es ≤ i → entry_at p (by_bytes text (drop i es)) ≡ None
  entry_end es i l = ap (λ xs. entry_at p (by_bytes text xs)) (drop_all i es l)

  -- past those below p
  pub entry_found : (es : List (ℕ × D)) (i : ℕ) (e : ℕ × D) → ((k : ℕ) (d : ℕ × D) → k < i → (get_or es k d).0 < p)
      → i < length es → e ≡ get_or es i e → e.0 ≡ p → entry_at p (by_bytes text es) ≡ Some (text e.1)
  entry_found [] i e below within at same = absurd (omega arith)
  entry_found (x ∷ es) zero e below within at same = let same' : x.0 ≡ p = sym (ap (λ y. y.0) at) ∙ same in
      rw (eq-eqb x.0 p same') (ap (λ y. Some (text y.1)) (sym at))
  entry_found (x ∷ es) (suc i) e below within at same =
      let less : x.0 < p = below 0 x (omega arith) in
      let ne : x.0 ≢ p = omega arith in
      rw (ne_eqb x.0 p ne) (entry_found es i e (λ k d l. below (suc k) d (omega arith)) (omega arith) at same)

  pub entry_none : (es : List (ℕ × D)) → ((k : ℕ) (d : ℕ × D) → k < length es → (get_or es k d).0 ≢ p)
      → entry_at p (by_bytes text es) ≡ None
  entry_none [] f = refl
  entry_none (x ∷ es) f = rw (ne_eqb x.0 p (f 0 x (omega arith))) (entry_none es (λ k d l. f (suc k) d (omega arith)))

-- ---- peaks past a range

module _ (S : Shape) (past : ℕ) where
  -- the positions of those of some peaks past the range, but of the first f none
  abbrev pub past_positions : ℕ → List Peak → List ℕ
  past_positions f ps = map (λ p. S.position p.first p.height) (trailing past (drop f ps))

  trailing_all : (s : ℕ) (ks : List ℕ) → past ≤ s → trailing past (places s ks) ≡ places s ks
  trailing_all s [] l = refl
  trailing_all s (k ∷ ks) l = rw (le-leb past s l) refl

  pub past_none : (f : ℕ) → past_positions f [] ≡ []
  past_none zero = refl
  past_none (suc f) = refl

  -- past the first of them
  module _ (p : Peak) (ps qs : List Peak) (first : ps ≡ p ∷ qs) (old all : List ℕ) where
    pub past_folded : (f g : ℕ) → 0 < f → g ≡ f - 1 → old ++ past_positions f ps ≡ all → old ++ past_positions g qs ≡ all
    past_folded zero g some less e = absurd (omega arith)
    past_folded (suc f) g some less e =
        let same : g ≡ f = omega arith in
        ap (λ k. old ++ past_positions k qs) same ∙ ap (λ rs. old ++ past_positions (suc f) rs) (sym first) ∙ e

    pub past_not_yet : (f : ℕ) → f ≤ 0 → p.first < past → old ++ past_positions f ps ≡ all
        → old ++ past_positions f qs ≡ all
    past_not_yet zero none l e =
        let same : past_positions 0 (p ∷ qs) ≡ past_positions 0 qs = rw (lt-leb past p.first l) refl in
        ap (λ vs. old ++ vs) (sym same) ∙ ap (λ rs. old ++ past_positions 0 rs) (sym first) ∙ e
    past_not_yet (suc f) none l e = absurd (omega arith)

    pub past_pushed : (n f : ℕ) (new : List ℕ) (rest : Walk n qs) → f ≤ 0 → past ≤ p.first → p.first ≤ rest.first
        → new ≡ old ++ S.position p.first p.height ∷ [] → old ++ past_positions f ps ≡ all
        → new ++ past_positions f qs ≡ all
    past_pushed n zero new rest none l after d e =
        let others : trailing past qs ≡ qs = ap (trailing past) rest.are
        ∙ trailing_all rest.first rest.heights (omega arith) ∙ sym rest.are in
        let same : past_positions 0 (p ∷ qs) ≡ S.position p.first p.height ∷ past_positions 0 qs =
        rw (le-leb past p.first l) (ap (λ rs. S.position p.first p.height ∷ map (λ q. S.position q.first q.height) rs)
        (sym others)) in
        ap (λ vs. vs ++ past_positions 0 qs) d ∙ append_assoc old (S.position p.first p.height ∷ []) _
        ∙ ap (λ vs. old ++ vs) (sym same) ∙ ap (λ rs. old ++ past_positions 0 rs) (sym first) ∙ e
    past_pushed n (suc f) new rest none l after d e = absurd (omega arith)

-- ---- needed positions

module _ (F : Type 0) (store : Store) (peaks : List (ℕ × List ℕ)) (suffix : List ℕ) where
  abbrev pub digest_of : ℕ → List ℕ
  digest_of p = or_else [] (found_at store peaks p)

  pub needed_there : (ps : List ℕ) (i p : ℕ) (d : List ℕ) → i < length ps → p ≡ get_or ps i p → found_at store peaks p
      ≡ Some d → needed_refusal F store peaks suffix (drop i ps) ≡ needed_refusal F store peaks suffix (drop (i + 1) ps)
  needed_there ps i p d within at found =
      ap (needed_refusal F store peaks suffix) (drop_more ps i p within ∙ ap (λ x. x ∷ drop (i + 1) ps) (sym at))
      ∙ ap (λ o. unless_there o (if is_among p suffix then CompressedDigest p else ElementPruned p)
      (needed_refusal F store peaks suffix (drop (i + 1) ps))) found

  pub needed_missing : (ps : List ℕ) (i p : ℕ) → i < length ps → p ≡ get_or ps i p → found_at store peaks p ≡ None
      → needed_refusal F store peaks suffix (drop i ps)
      ≡ Some (if is_among p suffix then CompressedDigest p else ElementPruned p)
  needed_missing ps i p within at found =
      ap (needed_refusal F store peaks suffix) (drop_more ps i p within ∙ ap (λ x. x ∷ drop (i + 1) ps) (sym at))
      ∙ ap (λ o. unless_there o (if is_among p suffix then CompressedDigest p else ElementPruned p)
      (needed_refusal F store peaks suffix (drop (i + 1) ps))) found

  pub needed_all : (ps : List ℕ) (i : ℕ) → length ps ≤ i → needed_refusal F store peaks suffix (drop i ps) ≡ None
  needed_all ps i l = ap (needed_refusal F store peaks suffix) (drop_all i ps l)

  pub digests_more : {D : Type 0} (text : D → List ℕ) (ps : List ℕ) (i p : ℕ) (d : D) (old new : List D) → i < length ps
      → p ≡ get_or ps i p → found_at store peaks p ≡ Some (text d) → new ≡ old ++ d ∷ [] → map text old ++ map digest_of
      (drop i ps) ≡ map digest_of ps → map text new ++ map digest_of (drop (i + 1) ps) ≡ map digest_of ps
  digests_more text ps i p d old new within at found pushed e =
      let here : text d ≡ digest_of p = sym (ap (or_else []) found) in
      let opened : map digest_of (drop i ps) ≡ digest_of p ∷ map digest_of (drop (i + 1) ps) =
      ap (map digest_of) (drop_more ps i p within ∙ ap (λ x. x ∷ drop (i + 1) ps) (sym at)) in
      ap (λ xs. map text xs ++ map digest_of (drop (i + 1) ps)) pushed
      ∙ ap (λ xs. xs ++ map digest_of (drop (i + 1) ps)) (map-append text old (d ∷ []))
      ∙ append_assoc (map text old) (text d ∷ []) (map digest_of (drop (i + 1) ps))
      ∙ ap (λ x. map text old ++ x ∷ map digest_of (drop (i + 1) ps)) here
      ∙ ap (λ xs. map text old ++ xs) (sym opened) ∙ e

  pub digests_end : (ps : List ℕ) (i : ℕ) (xs : List (List ℕ)) → length ps ≤ i
      → xs ++ map digest_of (drop i ps) ≡ map digest_of ps → xs ≡ map digest_of ps
  digests_end ps i xs l e = sym (append-nil xs) ∙ ap (λ qs. xs ++ map digest_of qs) (sym (drop_all i ps l)) ∙ e

-- ---- at their positions

-- positions of nodes, sorted, and the peaks past a range
peak_nodes : (S : Shape) (ps : List Peak)
    → map (λ p. S.position p.first p.height) ps ≡ map (position_of (ungrafted S)) (map (λ p. node p.first p.height) ps)
peak_nodes S [] = refl
peak_nodes S (p ∷ ps) = ap (λ qs. S.position p.first p.height ∷ qs) (peak_nodes S ps)

pub suffix_sorted : (S : Shape) (store : Store) (found ps : List ℕ) → found ≡ map (λ p. S.position p.first p.height)
    (trailing store.past (unfolded store.bagging store.inactive (peaks_of (ungrafted S) store.leaves)))
    → IsPermutation found ps → IsNonDecreasing ps → ps ≡ suffix_positions S store
suffix_sorted S store found ps e p up =
    let peaks = trailing store.past (unfolded store.bagging store.inactive (peaks_of (ungrafted S) store.leaves)) in
    positions_sorted (ungrafted S) (map (λ p. node p.first p.height) peaks) ps
    (subst (λ xs. IsPermutation xs ps) (e ∙ peak_nodes S peaks) p) up

-- kept at a position: the entry at the place that a search gives, or none
module _ {D : Type 0} (text : D → List ℕ) (p : ℕ) (es : List (ℕ × D)) (i : ℕ)
    (parts : IsPartitionPoint (λ (e : ℕ × D). ltb e.0 p ≡ true) (λ e. ltb e.0 p ≡ false) es i) where
  pub kept_found : (e : ℕ × D) → i < length es → e ≡ get_or es i e → e.0 ≡ p
      → entry_at p (by_bytes text es) ≡ Some (text e.1)
  kept_found e within at same =
      entry_found text p es i e (λ k d l. ltb-true (get_or es k d).0 p (parts.0 k d (omega arith) l)) within at same

  -- the entries from i on are not below p, and ascend
  pub kept_none : IsNonDecreasing (map (λ e. e.0) es) → (i < length es → (d : ℕ × D) → (get_or es i d).0 ≢ p)
      → entry_at p (by_bytes text es) ≡ None
  kept_none up other = entry_none text p es (λ k d l. elim (cases_lt k i) [
    | inl before ↦ let less : (get_or es k d).0 < p =
        ltb-true (get_or es k d).0 p (parts.0 k d (omega arith) before) in omega arith
    | inr later ↦
        let ge : p ≤ (get_or es i d).0 = ltb-false (get_or es i d).0 p (parts.1 i d (omega arith) (omega arith)) in
        let ne : (get_or es i d).0 ≢ p = other (omega arith) d in
        let rises : (get_or es i d).0 ≤ (get_or es k d).0 =
        omega (
          arith,
          up i k 0 later (omega (arith, length-map es (λ (e : ℕ × D). e.0))),
          get_or-map (λ (e : ℕ × D). e.0) es i d 0 (omega arith),
          get_or-map (λ (e : ℕ × D). e.0) es k d 0 l,
        ) in
        omega arith
  ])

pub chosen_first : {A : Type 0} (b c : Bool) (x y : A) → b ≡ true → b ≡ c → x ≡ (if c then x else y)
chosen_first true true x y e f = refl
chosen_first true false x y e f = cc
chosen_first false c x y e f = cc

pub chosen_second : {A : Type 0} (b c : Bool) (x y : A) → b ≡ false → b ≡ c → y ≡ (if c then x else y)
chosen_second false false x y e f = refl
chosen_second false true x y e f = cc
chosen_second true c x y e f = cc

-- the peaks inside the fold past the range, as they are found
abbrev pub suffix_found : Shape → Store → List ℕ
suffix_found S store = map (λ p. S.position p.first p.height)
    (trailing store.past (unfolded store.bagging store.inactive (peaks_of (ungrafted S) store.leaves)))

pub suffix_forward : (S : Shape) (store : Store) (b : Bagging) (found : List ℕ) → b ≡ store.bagging → b ≡ ForwardFold
    → found ≡ [] → found ≡ suffix_found S store
suffix_forward S store b found e f none = none ∙ ap (λ c. map (λ p. S.position p.first p.height)
    (trailing store.past (unfolded c store.inactive (peaks_of (ungrafted S) store.leaves)))) (sym f ∙ e)

pub suffix_backward : (S : Shape) (store : Store) (b : Bagging) (past inactive leaves : ℕ) (old new found : List ℕ)
    → b ≡ store.bagging → b ≡ BackwardFold → past ≡ store.past → inactive ≡ store.inactive → leaves ≡ store.leaves
    → old ≡ [] → new ≡ old ++ past_positions S past inactive (peaks_from S 0 leaves) → found ≡ new → found ≡ suffix_found S store
suffix_backward S store b past inactive leaves old new found e f ep ei en none added same =
    same ∙ added ∙ ap (λ xs. xs ++ past_positions S past inactive (peaks_from S 0 leaves)) none
    ∙ ap₂ (λ z i. past_positions S z i (peaks_from S 0 leaves)) ep ei
    ∙ ap (λ n. past_positions S store.past store.inactive (peaks_from S 0 n)) en
    ∙ ap (λ c. map (λ p. S.position p.first p.height)
    (trailing store.past (unfolded c store.inactive (peaks_of (ungrafted S) store.leaves)))) (sym f ∙ e)

pub entries_rise : {D : Type 0} (es : List (ℕ × D)) → IsNonDecreasing (map (λ e. e.0) es)
    → IsNonDecreasingBy (λ (e : ℕ × D). e.0) es
entries_rise es up = λ i j d le l. omega (
  arith,
  up i j 0 le (omega (arith, length-map es (λ (e : _ × _). e.0))),
  get_or-map (λ (e : _ × _). e.0) es i d 0 (omega arith),
  get_or-map (λ (e : _ × _). e.0) es j d 0 l,
)

pub positions_rise : {D : Type 0} (es : List (ℕ × D)) → IsNonDecreasingBy (λ (e : ℕ × D). e.0) es
    → IsNonDecreasing (map (λ e. e.0) es)
positions_rise [] up = λ i j d l m. absurd (omega arith)
positions_rise (e ∷ es) up = λ i j d l m.
    let n : j < length (e ∷ es) = omega (arith, length-map (e ∷ es) (λ (x : _ × _). x.0)) in
    let k : i < length (e ∷ es) = omega arith in
    let le = up i j e l n in
    omega (
      arith,
      le,
      get_or-map (λ (x : _ × _). x.0) (e ∷ es) i e d k,
      get_or-map (λ (x : _ × _). x.0) (e ∷ es) j e d n,
    )

-- an entry that stands elsewhere
pub stands_elsewhere : {D : Type 0} (es : List (ℕ × D)) (i p : ℕ) (e : ℕ × D) → e ≡ get_or es i e
    → true ≡ not (eqb e.0 p) → i < length es → (d : ℕ × D) → (get_or es i d).0 ≢ p
stands_elsewhere es i p e at ne within d =
    let same : get_or es i d ≡ e = get_or_default es i d e within ∙ sym at in
    λ f.
    (let t : eqb e.0 p ≡ true = eq-eqb e.0 p (sym (ap (λ x. x.0) same) ∙ f) in let g : true ≡ not true = ne ∙ ap not t in cc)

pub stands_there : (m p : ℕ) → false ≡ not (eqb m p) → m ≡ p
stands_there m p e = go (eqb m p) refl e
  where
    go : (b : Bool) → eqb m p ≡ b → false ≡ not b → m ≡ p
    go true f g = eqb-true m p f
    go false f g = cc

pub map_itself : (xs : List ℕ) → map (λ x. x) xs ≡ xs
map_itself [] = refl
map_itself (x ∷ xs) = ap (λ ys. x ∷ ys) (map_itself xs)

-- of some locations, none of which is refused, and of the positions that they need
module _ (F : Type 0) (S : Shape) (store : Store) (peaks : List (ℕ × List ℕ)) (ls ps : List ℕ)
    (some : false ≡ (length ls == 0)) (n : ℕ) (leaves : n ≡ store.leaves) (located : location_refusal F 0 n ls ≡ None)
    (found : ps ≡ map (position_of (ungrafted S)) (needed_sites (ungrafted S) (map (λ l. l) ls) n)) where
  abbrev refusal_of : List ℕ → Option (Error F)
  refusal_of qs = needed_refusal F store peaks (suffix_positions S store) qs

  found_are : ps ≡ needed_positions S ls store.leaves
  found_are = found ∙ ap₂ (λ ks m. needed_positions S ks m) (map_itself ls) leaves

  pub multi_is : multi_refusal F S store peaks ls ≡ refusal_of ps
  multi_is = go ls some (ap (λ m. location_refusal F 0 m ls) (sym leaves) ∙ located) ∙ ap refusal_of (sym found_are)
    where
      go : (ks : List ℕ) → false ≡ (length ks == 0) → location_refusal F 0 store.leaves ks ≡ None
          → multi_refusal F S store peaks ks ≡ refusal_of (needed_positions S ks store.leaves)
      go [] e f = cc
      go (k ∷ ks) e f = ap (λ o. first_of o (refusal_of (needed_positions S (k ∷ ks) store.leaves))) f

  pub multi_digests : {D : Type 0} (text : D → List ℕ) (ds : List D)
      → map text ds ≡ map (λ p. or_else [] (found_at store peaks p)) ps
      → map text ds ≡ map (λ p. or_else [] (found_at store peaks p)) (needed_positions S ls store.leaves)
  multi_digests text ds e = e ∙ ap (map (λ p. or_else [] (found_at store peaks p))) found_are
