-- The root that a check of a multi proof gives is the recomputed one, and it gives one exactly where the counts fit.
use Rattle.std.proofs.Common.{◌≡◌, ℕ, ◌+◌, ◌<◌, ◌≤◌, ◌^◌, List, [], ◌∷◌, ◌++◌, length, map, sym, ap, ap₂, ◌∙◌, arith, subst}
use Rattle.std.specs.List.Sorted.{IsNonDecreasing}
use Rattle.std.proofs.lemmas.List.{length-map}
use Rattle.storage_codec.specs.Digests.{HashFunction}
use Rattle.storage_merkle.specs.Shape.{Shape, Laws, AreAligned}
use Rattle.storage_merkle.specs.Calc.{Site, Values}
use Rattle.storage_merkle.specs.declared.merkle.bagging.Bagging.{Bagging}
use Rattle.storage_merkle.specs.Trees.{Layout, places, peaks_of, part, node_calc, ungrafted, root_head}
use Rattle.storage_merkle.specs.RangeProofs.{Proof, sites_of, sites_in, by_position}
use Rattle.storage_merkle.specs.Hashing.{root_of}
use Rattle.storage_merkle.specs.Laws.Hashing.{eval-peaks}
use Rattle.storage_merkle.specs.CheckParts.{Serves, Present}
use Rattle.storage_merkle.specs.Rests.{peaks_from}
use Rattle.storage_merkle.specs.Multi.{Claim, locations, claims_of, untouched, Ascend, needed_sites, multi_values, multi_string, ClaimsFit}
use Rattle.storage_merkle.specs.MultiParts.{AreGiven}
use Rattle.storage_merkle.proofs.Distinct.{times, times-by_position, each_given_once, read_all}
use Rattle.storage_merkle.proofs.Siblings.{positions, sort-count, sort_rises}
use Rattle.storage_merkle.proofs.Check.Roots.{plain_in, plain_sorted, agree_itself}
use Rattle.storage_merkle.proofs.Check.Siblings.{rising_list, ArePlaces, places_append, places_sorted, node_places, serve_each, present_all}
use Rattle.storage_merkle.proofs.AscendingNumbers.{count}
use Rattle.storage_merkle.proofs.Multi.Claims.{locations-claims}
use Rattle.storage_merkle.proofs.Multi.Nodes.{values_in}

pub all_places : (T : Layout) (cut : _) (s : ℕ) (ks : List ℕ) → AreAligned ks s
    → ArePlaces (sites_in T cut (places s ks))
unfolding AreAligned
all_places T cut s [] al = tt
all_places T cut s (k ∷ ks) al =
    places_append (sites_of (node_calc T cut k s)) _ (node_places T cut k s al.0) (all_places T cut (s + 2 ^ k) ks al.1)

-- needed sites do not depend on grafting
pub plain_needed : (T : Layout) (ls : List ℕ) (n : ℕ) → needed_sites T ls n ≡ needed_sites (ungrafted T.shape) ls n
plain_needed T ls n = plain_sorted T (sites_in T (untouched ls) (peaks_of T n))
    ∙ ap (by_position (ungrafted T.shape)) (plain_in T (untouched ls) (peaks_of T n))

module _ (S : Shape) (L : Laws S) (ls : List ℕ) (n : ℕ) (ps : List ℕ)
    (found : ps ≡ positions (ungrafted S) (needed_sites (ungrafted S) ls n)) where
  abbrev inside : List Site
  inside = sites_in (ungrafted S) (untouched ls) (peaks_of (ungrafted S) n)

  pub needed_rise : IsNonDecreasing ps
  needed_rise = subst IsNonDecreasing (sym found)
      (rising_list (positions (ungrafted S) (by_position (ungrafted S) inside)) (sort_rises (ungrafted S) inside))

  pub needed_present : Present S ps (sites_in (ungrafted S) (untouched ls) (peaks_from S 0 n))
  needed_present = present_all S inside ps (λ m. omega (arith, ap (count m) found, sort-count (ungrafted S) m inside))

  pub needed_serve : (digest : Site → List ℕ) (ds : List (List ℕ)) → ds ≡ map digest (needed_sites (ungrafted S) ls n)
      → Serves S digest ps ds
  needed_serve digest ds e =
      let U = ungrafted S in
      let ss = by_position U inside in
      let all : ArePlaces ss = places_sorted U inside (all_places U (untouched ls) 0 (S.peaks n) (L.aligned n)) in
      let served : Serves S digest (positions U ss) (map digest ss) =
      record { each = λ a k i h l e. serve_each S L digest ss all a k i h l e } in
      subst (λ xs. Serves S digest xs ds) (sym found) (subst (Serves S digest (positions U ss)) (sym e) served)

module _ (S : Shape) (L : Laws S) (h : HashFunction) (T : Layout) (same : T.shape ≡ S) (b : Bagging)
    (n i : ℕ) {E : Type 0} (items : E → List ℕ) (cs : List (E × ℕ)) (chunk : ℕ → List ℕ) {D : Type 0}
    (text : D → List ℕ) (ds : List D) where
  abbrev proof : Proof
  proof = record { leaves = n; inactive = i; digests = map text ds }

  abbrev claims : List Claim
  claims = claims_of items cs

  abbrev Fit : Type 0
  Fit = ClaimsFit h T b proof claims chunk

  pub too_many_leaves : 2 ^ 62 < n → Fit → ⊥
  too_many_leaves l fit = let few = fit.few in omega arith

  pub not_ascending : (Ascend 0 n (map (λ c. c.1) cs) → ⊥) → Fit → ⊥
  not_ascending f fit = f (subst (Ascend 0 n) (locations-claims items cs) fit.ascending)

  pub too_inactive : length (S.peaks n) < i → Fit → ⊥
  too_inactive l fit = let few : i ≤ length (S.peaks n) =
      subst (λ (U : Shape). i ≤ length (U.peaks n)) same fit.peaks in omega arith

  -- the needed sites, by position
  module _ (ps : List ℕ) (found : ps ≡ positions (ungrafted S) (needed_sites (ungrafted S) (map (λ c. c.1) cs) n)) where
    abbrev sites : List Site
    sites = needed_sites T (locations claims) n

    sites_are : sites ≡ needed_sites (ungrafted S) (map (λ c. c.1) cs) n
    sites_are = plain_needed T (locations claims) n
        ∙ ap₂ (λ U ls. needed_sites (ungrafted U) ls n) same (locations-claims items cs)

    counted : length ps ≡ length sites
    counted = ap length found ∙ length-map _ _ ∙ sym (ap length sites_are)

    pub other_count : (length ps ≡ length ds → ⊥) → Fit → ⊥
    other_count f fit = let as_many : length (map text ds) ≡ length sites = fit.count in
        f (omega (arith, counted, length-map ds text))

    pub found_here : ps ≡ positions (ungrafted S) (needed_sites (ungrafted S) (locations claims) n)
    found_here =
        found ∙ ap (λ ls. positions (ungrafted S) (needed_sites (ungrafted S) ls n)) (sym (locations-claims items cs))

    module _ (as_many : length ps ≡ length ds) where
      abbrev values : Values
      values = multi_values h T b proof claims chunk

      count_is : length (map text ds) ≡ length sites
      count_is = omega (arith, counted, length-map ds text)

      pub given : n ≤ 2 ^ 62 → AreGiven n ps ds
      given few = record { few = few; rising = needed_rise S L (map (λ c. c.1) cs) n ps found; enough = omega arith }

      pub served : Serves S values.digest ps (map text ds)
      served =
          let once : (s : Site) → times s sites ≤ 1 =
          λ s. omega (
            arith,
            times-by_position T s (sites_in T (untouched (locations claims)) (peaks_of T n)),
            each_given_once T (untouched (locations claims)) (T.shape.peaks n) s,
          ) in
          let read = read_all (h []) sites (map text ds) values values.element values.chunk count_is once
          (agree_itself values sites) in
          needed_serve S L (map (λ c. c.1) cs) n ps found values.digest (map text ds)
          (read ∙ ap (map values.digest) sites_are)

      pub fit : n ≤ 2 ^ 62 → Ascend 0 n (map (λ c. c.1) cs) → i ≤ length (S.peaks n) → Fit
      fit few up peaks = record {
        few = few;
        peaks = subst (λ (U : Shape). i ≤ length (U.peaks n)) (sym same) peaks;
        ascending = subst (Ascend 0 n) (sym (locations-claims items cs)) up;
        count = count_is;
      }

      pub root_is : (x : List ℕ) (peaks : List (List ℕ)) → peaks ≡ values_in items h T values.digest chunk cs (peaks_from S 0 n)
          → x ≡ root_of h T b n i peaks → x ≡ h (multi_string h T b proof claims chunk)
      root_is x peaks e f =
          let here : peaks ≡ values_in items h T values.digest chunk cs (peaks_from T.shape 0 n) =
          e ∙ ap (λ U. values_in items h T values.digest chunk cs (peaks_from U 0 n)) (sym same) in
          f ∙ ap (root_of h T b n i) here ∙ sym (ap (λ y. h (root_head T b n i ++ y))
          (eval-peaks h values b i (part T (untouched (locations claims))) (peaks_of T n)))

pub rising_claims : {E : Type 0} (items : E → List ℕ) (cs : List (E × ℕ)) (n m : ℕ) → n ≡ m
    → Ascend 0 n (map (λ c. c.1) cs) → Ascend 0 m (locations (claims_of items cs))
rising_claims items cs n m e up =
    subst (λ z. Ascend 0 z (locations (claims_of items cs))) e (subst (Ascend 0 n) (sym (locations-claims items cs)) up)
