-- A store reads the peaks and the folds of a proof.
use Rattle.std.proofs.Common.{◌≡◌, ℕ, zero, suc, ◌+◌, ◌-◌, ◌<◌, ◌≤◌, List, [], ◌∷◌, ◌++◌, length, map, take, drop, get_or, true, false, if◌then◌else◌, inl, inr, refl, sym, ap, ap₂, ◌∙◌, arith, subst, leb, append_assoc, append-nil, Option, Some, None}
use Rattle.std.proofs.lemmas.List.{map-append, length-map, length-append, length-drop, take_all, drop-map}
use Rattle.storage_merkle.specs.Shape.{Shape}
use Rattle.storage_merkle.specs.Calc.{Site, front, back, node, Values}
use Rattle.storage_merkle.specs.Trees.{Layout, Content, Peak, peaks_of, ungrafted}
use Rattle.storage_merkle.specs.RangeProofs.{apart, not_leading, up_to, sites_in, same_site, look_up, sites, check_values, CountsFit}
use Rattle.storage_merkle.specs.Extracted.{entries, by_bytes}
use Rattle.storage_merkle.specs.Rests.{peaks_from}
use Rattle.storage_merkle.specs.Siblings.{sibling_sites}
use Rattle.storage_merkle.specs.CheckParts.{front_before, top_sites}
use Rattle.storage_merkle.specs.StoreParts.{nodes_among, back_among}
use Rattle.storage_merkle.specs.Stores.{or_else}
use Rattle.storage_merkle.proofs.RangeSound.{folded-all}
use Rattle.storage_merkle.proofs.Distinct.{times, one_if, times-append, times-by_position, no_fold_in, each_once, read_all}
use Rattle.storage_merkle.proofs.Extracted.{tells}
use Rattle.storage_merkle.proofs.Check.Roots.{Walk, claim, proof_over, siblings, tops, agree_itself, split}

-- ---- the peaks, one after another

module _ (S : Shape) (digest : Site → List ℕ) (later : List (List ℕ)) where
  abbrev pub peak_entries : List Site → List (ℕ × List ℕ)
  peak_entries ss = entries (ungrafted S) digest (nodes_among ss)

  -- the digests of the sites come next, with their peaks all is kept, and their fold is the one
  pub record Reads (ds : List (List ℕ)) (now all : List (ℕ × List ℕ)) (ss : List Site)
      (fold : Option (List ℕ)) : Type 0 where
    pub there : ds ≡ map digest ss ++ later
    pub kept : now ++ peak_entries ss ≡ all
    pub fold_is : back_among digest ss ≡ fold

  pub reads_all : (ds : List (List ℕ)) (old : List (ℕ × List ℕ)) (ss : List Site) → ds ≡ map digest ss ++ later
      → Reads ds old (old ++ peak_entries ss) ss (back_among digest ss)
  reads_all ds old ss e = record { there = e; kept = refl; fold_is = refl }

  module _ {D : Type 0} (text : D → List ℕ) (ds : List D) (now : List (ℕ × D)) (all : List (ℕ × List ℕ))
      (ss : List Site) (fold : Option (List ℕ)) (r : Reads (map text ds) (by_bytes text now) all ss fold) where
    next_is : (s : Site) (ts : List Site) (x : D) → ss ≡ s ∷ ts → x ≡ get_or ds 0 x → text x ≡ digest s
    next_is s ts x es ex = go ds (r.there ∙ ap (λ us. map digest us ++ later) es) ex
      where
        go : (es : List D) → map text es ≡ digest s ∷ (map digest ts ++ later) → x ≡ get_or es 0 x → text x ≡ digest s
        go [] e f = cc
        go (y ∷ ys) e f = let same : text y ≡ digest s = cc in ap text f ∙ same

    pub reads_peak : (a k p : ℕ) (ts : List Site) (es : List D) (new : List (ℕ × D)) (x : D) → ss ≡ node a k ∷ ts
        → p ≡ S.position a k → es ≡ drop 1 ds → x ≡ get_or ds 0 x → new ≡ now ++ (p, x) ∷ []
        → Reads (map text es) (by_bytes text new) all ts fold
    reads_peak a k p ts es new x eq ep ed ex en =
        let f : ℕ × D → ℕ × List ℕ = λ e. (e.0, text e.1) in
        let here : text x ≡ digest (node a k) = next_is (node a k) ts x eq ex in
        record {
          there = ap (map text) ed ∙ sym (drop-map text 1 ds)
              ∙ ap (drop 1) (r.there ∙ ap (λ us. map digest us ++ later) eq);
          kept = ap (λ xs. map f xs ++ peak_entries ts) en
              ∙ ap (λ xs. xs ++ peak_entries ts) (map-append f now ((p, x) ∷ []))
              ∙ append_assoc (by_bytes text now) ((p, text x) ∷ []) (peak_entries ts)
              ∙ ap₂ (λ q y. by_bytes text now ++ (q, y) ∷ peak_entries ts) ep here
              ∙ ap (λ us. by_bytes text now ++ peak_entries us) (sym eq)
              ∙ r.kept;
          fold_is = ap (back_among digest) (sym eq) ∙ r.fold_is;
        }

    pub reads_other : (ts : List Site) (es : List D) (new : List (ℕ × D)) → ss ≡ ts → es ≡ ds → new ≡ now
        → Reads (map text es) (by_bytes text new) all ts fold
    reads_other ts es new eq ed en = subst (λ us. Reads (map text es) (by_bytes text new) all us fold) eq
        (subst (λ us. Reads (map text us) (by_bytes text new) all ss fold) (sym ed)
        (subst (λ us. Reads (map text ds) (by_bytes text us) all ss fold) (sym en) r))

    pub reads_fold : (x : D) → ss ≡ back ∷ [] → x ≡ get_or ds 0 x → (by_bytes text now ≡ all) × (Some (text x) ≡ fold)
    reads_fold x eq ex = (
      sym (append-nil (by_bytes text now)) ∙ ap (λ us. by_bytes text now ++ peak_entries us) (sym eq) ∙ r.kept,
      ap (λ y. Some y) (next_is back [] x eq ex) ∙ ap (back_among digest) (sym eq) ∙ r.fold_is,
    )

    pub reads_end : ss ≡ [] → (by_bytes text now ≡ all) × (None ≡ fold)
    reads_end eq = (
      sym (append-nil (by_bytes text now)) ∙ ap (λ us. by_bytes text now ++ peak_entries us) (sym eq) ∙ r.kept,
      ap (back_among digest) (sym eq) ∙ r.fold_is,
    )

-- all but the first
pub all_but_first : {D : Type 0} (ds es : List D) (n : ℕ) → es ≡ take n (drop 1 ds) → length ds - 1 ≤ n → es ≡ drop 1 ds
all_but_first ds es n e l = e ∙ take_all n (drop 1 ds) (omega (arith, length-drop 1 ds))

-- ---- the folds

back_there : (digest : Site → List ℕ) (ss : List Site) (x : List ℕ) → back_among digest ss ≡ Some x → x ≡ digest back
back_there digest [] x e = cc
back_there digest (front ∷ ss) x e = back_there digest ss x e
back_there digest (back ∷ ss) x e = cc
back_there digest (node a k ∷ ss) x e = back_there digest ss x e

back_nowhere : (digest : Site → List ℕ) (ss : List Site) → back_among digest ss ≡ None → times back ss ≡ 0
back_nowhere digest [] e = refl
back_nowhere digest (front ∷ ss) e = omega (arith, back_nowhere digest ss e)
back_nowhere digest (back ∷ ss) e = cc
back_nowhere digest (node a k ∷ ss) e = omega (arith, back_nowhere digest ss e)

-- what is not there is looked up as none
not_there : (none : List ℕ) (ss : List Site) (ds : List (List ℕ)) (s : Site) → times s ss ≡ 0
    → ((t : Site) → one_if (same_site t s) ≡ one_if (same_site s t)) → look_up none ss ds s ≡ none
not_there none [] ds s z sy = refl
not_there none (t ∷ ts) [] s z sy = refl
not_there none (t ∷ ts) (d ∷ ds) s z sy =
    elim (tells (same_site s t)) [
      | inl c ↦ absurd (let one : one_if (same_site s t) ≡ 1 = ap one_if c in omega (arith, sy t))
      | inr c ↦ rw c (not_there none ts ds s (omega arith) sy)
    ]

front_alike : (t : Site) → one_if (same_site t front) ≡ one_if (same_site front t)
front_alike front = refl
front_alike back = refl
front_alike (node a k) = refl

back_alike : (t : Site) → one_if (same_site t back) ≡ one_if (same_site back t)
back_alike front = refl
back_alike back = refl
back_alike (node a k) = refl

-- no site of peaks is the fold in front
no_front : (low high : ℕ) (ps : List Peak) (f : ℕ) → times front (top_sites low high ps f) ≡ 0
no_front low high [] f = refl
no_front low high (p ∷ ps) zero =
    elim (leb high p.first) as (λ c. times front (if c then back ∷ [] else (if apart low high p.first p.height
    then node p.first p.height ∷ top_sites low high ps zero else top_sites low high ps zero)) ≡ 0) [
      | true ↦ refl
      | false ↦ elim (apart low high p.first p.height) as (λ c. times front
          (if c then node p.first p.height ∷ top_sites low high ps zero else top_sites low high ps zero) ≡ 0) [
            | true ↦
                omega (arith, no_front low high ps zero)
            | false ↦ no_front low high ps zero
          ]
    ]
no_front low high (p ∷ ps) (suc f) =
    elim (apart low high p.first p.height) as (λ c. times front
    (if c then node p.first p.height ∷ top_sites low high ps f else top_sites low high ps f) ≡ 0) [
      | true ↦
          omega (arith, no_front low high ps f)
      | false ↦ no_front low high ps f
    ]

no_fold_beside : (T : Layout) (n low high : ℕ) (s : Site) → ((a k : ℕ) → same_site (node a k) s ≡ false)
    → times s (sibling_sites T n low high) ≡ 0
no_fold_beside T n low high s f =
    let ps = up_to high (not_leading low (peaks_of T n)) in
    times-by_position T s (sites_in T (apart low high) ps) ∙ no_fold_in T (apart low high) s f ps

no_back_before : (a : ℕ) → times back (front_before a) ≡ 0
no_back_before zero = refl
no_back_before (suc a) = refl

-- ---- all of a proof whose counts fit

module _ {D : Type 0} {S : Shape} {text : D → List ℕ} (w : Walk S text) where
  abbrev later : List Site
  later = top_sites w.low w.high (peaks_from S w.a w.r) w.g

  abbrev pub all_sites : List Site
  all_sites = tops w ++ siblings w

  abbrev pub values : Values
  values = check_values w.h w.T w.b (proof_over w w.n) w.low (claim w)

  -- what comes after the fold in front
  abbrev pub rest_digests : List (List ℕ)
  rest_digests = map values.digest (siblings w)

  -- the same walk for another claim over the range
  abbrev given_walk : (given : Content) → w.high ≡ w.low + length given.elements → Walk S text
  given_walk given range = record w {
    T = ungrafted S;
    same = refl;
    elements = given.elements;
    chunk = given.chunk;
    range = range;
  }

  -- the counts fit to one claim over the range, and so to each
  module _ (given : Content) (given_range : w.high ≡ w.low + length given.elements)
      (fit : CountsFit w.h (ungrafted S) w.b (proof_over w w.n) w.low given) where
    some : w.low < w.high
    some = let positive = fit.some in omega (arith, given_range)

    sites_split : sites w.T w.low (w.low + length w.elements) w.b w.n w.i ≡ all_sites
    sites_split = split w some

    counted : length (map text w.items) ≡ length (sites w.T w.low (w.low + length w.elements) w.b w.n w.i)
    counted = fit.count ∙ ap length (split (given_walk given given_range) some) ∙ sym (ap length sites_split)

    read : map text w.items ≡ map values.digest all_sites
    read =
        read_all (w.h []) (sites w.T w.low (w.low + length w.elements) w.b w.n w.i)
        (map text w.items) values values.element values.chunk counted
        (each_once w.T w.low (w.low + length w.elements) _ _ (w.T.shape.peaks w.n) (folded-all w.b w.i (peaks_of w.T w.n)))
        (agree_itself values (sites w.T w.low (w.low + length w.elements) w.b w.n w.i))
        ∙ ap (map values.digest) sites_split

    opened : map text w.items ≡ map values.digest (front_before w.a) ++ (map values.digest later ++ rest_digests)
    opened = read ∙ map-append values.digest (tops w) (siblings w)
        ∙ ap (λ xs. xs ++ rest_digests) (map-append values.digest (front_before w.a) later)
        ∙ append_assoc (map values.digest (front_before w.a)) (map values.digest later) rest_digests

    pub front_some : 0 < w.a → (x : D) → x ≡ get_or w.items 0 x → text x ≡ values.digest front
    front_some l x ex = go w.a l w.items opened ex
      where
        go : (c : ℕ) → 0 < c → (xs : List D) → map text xs ≡ map values.digest (front_before c)
            ++ (map values.digest later ++ rest_digests) → x ≡ get_or xs 0 x → text x ≡ values.digest front
        go zero l xs e q = absurd (omega arith)
        go (suc c) l [] e q = cc
        go (suc c) l (y ∷ ys) e q = let here : text y ≡ values.digest front = cc in ap text q ∙ here

    pub rest_some : 0 < w.a → (ds : List D) → ds ≡ drop 1 w.items → map text ds ≡ map values.digest later ++ rest_digests
    rest_some l ds e = ap (map text) e ∙ sym (drop-map text 1 w.items) ∙ ap (drop 1) opened ∙ go w.a l
      where
        go : (c : ℕ) → 0 < c → drop 1 (map values.digest (front_before c) ++ (map values.digest later ++ rest_digests))
            ≡ map values.digest later ++ rest_digests
        go zero l = absurd (omega arith)
        go (suc c) l = refl

    pub rest_none : w.a ≤ 0 → (ds : List D) → ds ≡ w.items → map text ds ≡ map values.digest later ++ rest_digests
    rest_none l ds e = let z : w.a ≡ 0 = omega arith in ap (map text) e ∙ opened
        ∙ ap (λ c. map values.digest (front_before c) ++ (map values.digest later ++ rest_digests)) z

    absent : (s : Site) → times s all_sites ≡ 0 → ((t : Site) → one_if (same_site t s) ≡ one_if (same_site s t))
        → values.digest s ≡ w.h []
    absent s z sy = not_there (w.h []) (sites w.T w.low (w.low + length w.elements) w.b w.n w.i) (map text w.items) s
        (ap (times s) sites_split ∙ z) sy

    pub front_none : w.a ≤ 0 → w.h [] ≡ values.digest front
    front_none l =
        let z : w.a ≡ 0 = omega arith in
        let before : times front (front_before w.a) ≡ 0 = ap (λ c. times front (front_before c)) z in
        sym (absent front (omega (
          arith,
          times-append front (tops w) (siblings w),
          times-append front (front_before w.a) later,
          before,
          no_front w.low w.high (peaks_from S w.a w.r) w.g,
          no_fold_beside (ungrafted S) w.n w.low w.high front (λ c k. refl),
        )) front_alike)

    pub back_is : (o : Option (List ℕ)) → o ≡ back_among values.digest later → or_else (w.h []) o ≡ values.digest back
    back_is None e = sym (absent back (omega (
      arith,
      times-append back (tops w) (siblings w),
      times-append back (front_before w.a) later,
      no_back_before w.a,
      back_nowhere values.digest later (sym e),
      no_fold_beside (ungrafted S) w.n w.low w.high back (λ c k. refl),
    )) back_alike)
    back_is (Some x) e = back_there values.digest later x (sym e)

    -- so there are enough
    counts : (ds : List D) → map text ds ≡ map values.digest later ++ rest_digests → length later ≤ length ds
    counts ds e = omega (
      arith,
      ap length e,
      length-map ds text,
      length-append (map values.digest later) (map values.digest (siblings w)),
      length-map later values.digest,
    )

    pub enough_some : 0 < w.a → (ds : List D) → ds ≡ drop 1 w.items → length later ≤ length ds
    enough_some l ds e = counts ds (rest_some l ds e)

    pub enough_none : w.a ≤ 0 → (ds : List D) → ds ≡ w.items → length later ≤ length ds
    enough_none l ds e = counts ds (rest_none l ds e)
