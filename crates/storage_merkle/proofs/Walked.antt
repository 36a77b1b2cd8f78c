-- What a walk along peaks meets, one after another.
use Rattle.std.proofs.Common.{◌≡◌, ℕ, zero, suc, ◌+◌, ◌-◌, ◌<◌, ◌≤◌, ◌^◌, List, [], ◌∷◌, ◌++◌, length, map, take, drop, Bool, true, false, if◌then◌else◌, ◌||◌, ◌⊎◌, inl, inr, refl, sym, ap, ap₂, ◌∙◌, arith, subst, leb, le-leb, leb-true, pow_pos, append_assoc, append-nil, Option, Some, None, option_map, MatchOption}
use Rattle.std.proofs.lemmas.Bool.{lt-leb}
use Rattle.std.proofs.lemmas.List.{length-map, map-append}
use Rattle.storage_codec.specs.Digests.{HashFunction}
use Rattle.storage_merkle.specs.Shape.{Shape, Laws, AreAligned, leaves_under}
use Rattle.storage_merkle.specs.Laws.Shape.{no_peaks}
use Rattle.storage_merkle.specs.Calc.{Site, back, node}
use Rattle.storage_merkle.specs.Trees.{Peak, places}
use Rattle.storage_merkle.specs.RangeProofs.{apart, leading, trailing}
use Rattle.storage_merkle.specs.Rests.{EachPeak, peaks_from}
use Rattle.storage_merkle.specs.CheckParts.{top_sites}
use Rattle.storage_merkle.specs.Hashers.{appended}
use Rattle.storage_merkle.specs.PlanParts.{ArePlannedApart, ArePlannedAll, IsPlannedMet, peaks_by}
use Rattle.storage_merkle.specs.Walked.{Met, one, past, walked}
use Rattle.storage_merkle.proofs.Check.Tops.{first_and_others}
use Rattle.storage_merkle.proofs.Plan.Folds.{forward_from, forward_more, no_peaks_from}

-- ---- the steps of a walk

module _ (low high : ℕ) where
  meets_first : (f : ℕ) (p : Peak) (ps : List Peak) → (0 < f) ⊎ ((f ≤ 0) × (p.first < high))
      → walked low high (p ∷ ps) f
      ≡ (if apart low high p.first p.height then one p ∷ walked low high ps (f - 1) else walked low high ps (f - 1))
  meets_first zero p ps (inl l) = absurd (omega arith)
  meets_first zero p ps (inr l) = rw (lt-leb high p.first l.1) refl
  meets_first (suc f) p ps l = let less : suc f - 1 ≡ f = omega arith in rw less refl

  meets_past : (f a : ℕ) (ks : List ℕ) → 0 < leaves_under ks → f ≤ 0 → high ≤ a
      → walked low high (places a ks) f ≡ past (places a ks) ∷ []
  unfolding leaves_under
  meets_past zero a [] some l u = absurd (omega arith)
  meets_past zero a (k ∷ ks) some l u = rw (le-leb high a u) refl
  meets_past (suc f) a ks some l u = absurd (omega arith)

  module _ (S : Shape) (a r f : ℕ) where
    abbrev pub left_of : List Met
    left_of = walked low high (peaks_from S a r) f

    pub walk_ends : Laws S → r ≤ 0 → left_of ≡ []
    walk_ends L l = ap (λ ps. walked low high ps f) (no_peaks_from S a r (no_peaks S L) l)

    pub walk_past : Laws S → 0 < r → f ≤ 0 → high ≤ a → left_of ≡ past (peaks_from S a r) ∷ []
    walk_past L some l u = meets_past f a (S.peaks r) (omega (arith, L.sum r)) l u

    module _ (h a' r' f' : ℕ) (e : S.peaks r ≡ h ∷ S.peaks (r - 2 ^ h)) (ea : a' ≡ a + 2 ^ h) (er : r' ≡ r - 2 ^ h)
        (ef : f' ≡ f - 1) (l : (0 < f) ⊎ ((f ≤ 0) × (a < high))) where
      abbrev p : Peak
      p = record { first = a; height = h }

      step : left_of ≡ (if apart low high a h then one p ∷ walked low high (peaks_from S a' r') f'
          else walked low high (peaks_from S a' r') f')
      step = ap (λ ps. walked low high ps f) (first_and_others S low high a r f h a' r' f' e ea er ef)
          ∙ meets_first f p (peaks_from S a' r') l ∙ ap (λ g. if apart low high a h
          then one p ∷ walked low high (peaks_from S a' r') g else walked low high (peaks_from S a' r') g) (sym ef)

      abbrev Opens : Bool → Type 0
      Opens b = left_of ≡ (if b then one p ∷ walked low high (peaks_from S a' r') f'
          else walked low high (peaks_from S a' r') f')

      pub walk_meets : true ≡ apart low high a h → left_of ≡ one p ∷ walked low high (peaks_from S a' r') f'
      walk_meets t = subst Opens (sym t) step

      pub walk_passes : false ≡ apart low high a h → left_of ≡ walked low high (peaks_from S a' r') f'
      walk_passes t = subst Opens (sym t) step

pub aligned_none : (S : Shape) → Laws S → (a : ℕ) → AreAligned (S.peaks 0) a
unfolding AreAligned
aligned_none S L a = rw (no_peaks S L) tt

-- ---- what is met, and the sites

module _ {X : Type 0} (low high : ℕ) (on_site : Site → X) (on_met : Met → X)
    (ones : (p : Peak) → on_met (one p) ≡ on_site (node p.first p.height)) where
  one_more : (b : Bool) (p : Peak) (ms : List Met) (ss : List Site) → map on_met ms ≡ map on_site ss
      → map on_met (if b then one p ∷ ms else ms) ≡ map on_site (if b then node p.first p.height ∷ ss else ss)
  one_more true p ms ss e = ap₂ (λ x xs. x ∷ xs) (ones p) e
  one_more false p ms ss e = e

  abbrev Same : List Met → List Site → Type 0
  Same ms ss = map on_met ms ≡ map on_site ss

  -- the peaks past the range
  abbrev Folds : List Peak → ℕ → Type 0
  Folds ps f =
      (q : Peak) (qs : List Peak) → q ∷ qs ≡ trailing high (drop f ps) → on_met (past (q ∷ qs)) ≡ on_site back

  pub sites_met : (ps : List Peak) (f : ℕ) → Folds ps f
      → map on_met (walked low high ps f) ≡ map on_site (top_sites low high ps f)
  sites_met [] f k = refl
  sites_met (p ∷ ps) zero k = go (leb high p.first) refl (sites_met ps zero)
    where
      go : (b : Bool) → leb high p.first ≡ b
          → (Folds ps zero → Same (walked low high ps zero) (top_sites low high ps zero))
          → Same (if b then past (p ∷ ps) ∷ []
          else (if apart low high p.first p.height then one p ∷ walked low high ps zero else walked low high ps zero))
          (if b then back ∷ [] else (if apart low high p.first p.height then node p.first p.height
          ∷ top_sites low high ps zero else top_sites low high ps zero))
      go true e rest = ap (λ x. x ∷ []) (k p ps (rw e refl))
      go false e rest =
          let same : trailing high ps ≡ trailing high (p ∷ ps) = rw e refl in
          one_more (apart low high p.first p.height) p (walked low high ps zero) (top_sites low high ps zero)
          (rest (λ q qs t. k q qs (t ∙ same)))
  sites_met (p ∷ ps) (suc f) k =
      one_more (apart low high p.first p.height) p (walked low high ps f) (top_sites low high ps f) (sites_met ps f k)

abbrev pub met_site : Met → Site
met_site (one p) = node p.first p.height
met_site (past ps) = back

all_same : (ss : List Site) → map (λ s. s) ss ≡ ss
all_same [] = refl
all_same (s ∷ ss) = ap (λ ts. s ∷ ts) (all_same ss)

module _ (low high : ℕ) (ps : List Peak) (f : ℕ) where
  pub met_sites : map met_site (walked low high ps f) ≡ top_sites low high ps f
  met_sites = sites_met low high (λ s. s) met_site (λ p. refl) ps f (λ q qs t. refl)
      ∙ all_same (top_sites low high ps f)

  pub counts_met : length (walked low high ps f) ≡ length (top_sites low high ps f)
  counts_met = sym (length-map (walked low high ps f) met_site) ∙ ap length met_sites

-- ---- the digests of what is met

-- one item, or none
abbrev pub listed : Option (List ℕ) → List (List ℕ)
listed None = []
listed (Some x) = x ∷ []

pub pushed : {D : Type 0} (text : D → List ℕ) (o : Option D) (old new : List D)
    → MatchOption o (new ≡ old) (λ d. new ≡ old ++ d ∷ []) → map text new ≡ map text old ++ listed (option_map text o)
pushed text None old new e = ap (map text) e ∙ sym (append-nil (map text old))
pushed text (Some d) old new e = ap (map text) e ∙ map-append text old (d ∷ [])

abbrev pub all_listed : List (Option (List ℕ)) → List (List ℕ)
all_listed [] = []
all_listed (o ∷ os) = listed o ++ all_listed os

all_some : (site : Site → List ℕ) (ss : List Site) → all_listed (map (λ s. Some (site s)) ss) ≡ map site ss
all_some site [] = refl
all_some site (s ∷ ss) = ap (λ xs. site s ∷ xs) (all_some site ss)

pub digests_met : (low high : ℕ) (site : Site → List ℕ) (digest : Met → Option (List ℕ))
    → ((p : Peak) → digest (one p) ≡ Some (site (node p.first p.height))) → (ps : List Peak) (f : ℕ)
    → ((q : Peak) (qs : List Peak) → q ∷ qs ≡ trailing high (drop f ps) → digest (past (q ∷ qs)) ≡ Some (site back))
    → all_listed (map digest (walked low high ps f)) ≡ map site (top_sites low high ps f)
digests_met low high site digest ones ps f folds =
    ap all_listed (sites_met low high (λ s. Some (site s)) digest ones ps f folds)
    ∙ all_some site (top_sites low high ps f)

-- what is added and what is left make all
pub adds_met : {D : Type 0} (text : D → List ℕ) (digest : Met → Option (List ℕ)) (o : Option D) (old new : List D)
    (m : Met) (ms ns : List Met) (all : List (List ℕ)) → ms ≡ m ∷ ns → option_map text o ≡ digest m
    → MatchOption o (new ≡ old) (λ d. new ≡ old ++ d ∷ []) → map text old ++ all_listed (map digest ms) ≡ all
    → map text new ++ all_listed (map digest ns) ≡ all
adds_met text digest o old new m ms ns all em eo en r =
    let left = all_listed (map digest ns) in
    ap (λ xs. xs ++ left) (pushed text o old new en ∙ ap (λ x. map text old ++ listed x) eo)
    ∙ append_assoc (map text old) (listed (digest m)) left
    ∙ ap (λ xs. map text old ++ all_listed (map digest xs)) (sym em) ∙ r

pub adds_none : (digest : Met → Option (List ℕ)) (ms : List Met) (now all : List (List ℕ)) → ms ≡ []
    → now ++ all_listed (map digest ms) ≡ all → now ≡ all
adds_none digest ms now all e r = sym (append-nil now) ∙ ap (λ xs. now ++ all_listed (map digest xs)) (sym e) ∙ r

-- ---- each that is met

abbrev pub EachMet : (Met → Type 0) → List Met → Type 0
EachMet P [] = Unit {0}
EachMet P (m ∷ ms) = P m × EachMet P ms

-- past the range all is apart
all_apart : (S : Shape) (low high : ℕ) (positions : List ℕ) (s : ℕ) (ks : List ℕ) → high ≤ s
    → ArePlannedApart S low high positions (places s ks) → ArePlannedAll S positions (places s ks)
all_apart S low high positions s [] l a = tt
all_apart S low high positions s (k ∷ ks) l a =
    let out : apart low high s k ≡ true =
    elim (leb (s + 2 ^ k) low) as (λ b. (b || leb high s) ≡ true) [ true ↦ refl | false ↦ le-leb high s l ] in
    (a.0 out, all_apart S low high positions (s + 2 ^ k) ks (omega arith) a.1)

module _ (S : Shape) (low high : ℕ) (positions : List ℕ) where
  abbrev Planned : List Met → Type 0
  Planned ms = EachMet (IsPlannedMet S positions) ms

  planned_more : (s k : ℕ) (ms : List Met) (b : Bool) → apart low high s k ≡ b
      → (apart low high s k ≡ true → Planned (one (record { first = s; height = k }) ∷ ms)) → Planned ms
      → Planned (if b then one (record { first = s; height = k }) ∷ ms else ms)
  planned_more s k ms true e here rest = here e
  planned_more s k ms false e here rest = rest

  pub planned_met : (f s : ℕ) (ks : List ℕ) → ArePlannedApart S low high positions (places s ks)
      → Planned (walked low high (places s ks) f)
  planned_met f s [] a = tt
  planned_met zero s (k ∷ ks) a = go (leb high s) refl (planned_met zero (s + 2 ^ k) ks a.1)
    where
      go : (b : Bool) → leb high s ≡ b → Planned (walked low high (places (s + 2 ^ k) ks) zero)
          → Planned (if b then past (places s (k ∷ ks)) ∷ [] else (if apart low high s k
          then one (record { first = s; height = k }) ∷ walked low high (places (s + 2 ^ k) ks) zero
          else walked low high (places (s + 2 ^ k) ks) zero))
      go true e rest = (all_apart S low high positions s (k ∷ ks) (leb-true high s e) a, tt)
      go false e rest = planned_more s k (walked low high (places (s + 2 ^ k) ks) zero) (apart low high s k) refl
          (λ t. (a.0 t, rest)) rest
  planned_met (suc f) s (k ∷ ks) a =
      let rest = planned_met f (s + 2 ^ k) ks a.1 in
      planned_more s k (walked low high (places (s + 2 ^ k) ks) f) (apart low high s k) refl (λ t. (a.0 t, rest)) rest

-- nothing is met after the peaks past the range
abbrev pub PastIsLast : List Met → Type 0
PastIsLast [] = Unit {0}
PastIsLast (one p ∷ ms) = PastIsLast ms
PastIsLast (past ps ∷ ms) = ms ≡ []

module _ (low high : ℕ) where
  last_more : (b : Bool) (p : Peak) (ms : List Met) → PastIsLast ms → PastIsLast (if b then one p ∷ ms else ms)
  last_more true p ms l = l
  last_more false p ms l = l

  pub past_is_last : (ps : List Peak) (f : ℕ) → PastIsLast (walked low high ps f)
  past_is_last [] f = tt
  past_is_last (p ∷ ps) zero =
      let rest = last_more (apart low high p.first p.height) p (walked low high ps zero) (past_is_last ps zero) in
      elim (leb high p.first) as (λ b. PastIsLast (if b then past (p ∷ ps) ∷ [] else (if apart low high p.first p.height
      then one p ∷ walked low high ps zero else walked low high ps zero))) [ true ↦ refl | false ↦ rest ]
  past_is_last (p ∷ ps) (suc f) =
      last_more (apart low high p.first p.height) p (walked low high ps f) (past_is_last ps f)

  few_more : (b : Bool) (p : Peak) (ms : List Met) (n m : ℕ) → length ms ≤ n → 0 < m
      → length (if b then one p ∷ ms else ms) ≤ m + n
  few_more true p ms n m l some = omega arith
  few_more false p ms n m l some = omega arith

  -- no more are met than there are leaves
  pub few_met : (f a : ℕ) (ks : List ℕ) → length (walked low high (places a ks) f) ≤ leaves_under ks
  unfolding leaves_under
  few_met f a [] = omega arith
  few_met zero a (k ∷ ks) =
      let rest = few_more (apart low high a k) (record { first = a; height = k })
      (walked low high (places (a + 2 ^ k) ks) zero) (leaves_under ks) (2 ^ k) (few_met zero (a + 2 ^ k) ks)
      (pow_pos k) in
      elim (leb high a) as (λ b. length (if b then past (places a (k ∷ ks)) ∷ [] else (if apart low high a k
      then one (record { first = a; height = k }) ∷ walked low high (places (a + 2 ^ k) ks) zero
      else walked low high (places (a + 2 ^ k) ks) zero)) ≤ 2 ^ k + leaves_under ks) [
        | true ↦ omega (arith, pow_pos k)
        | false ↦ rest
      ]
  few_met (suc f) a (k ∷ ks) = few_more (apart low high a k) (record { first = a; height = k })
      (walked low high (places (a + 2 ^ k) ks) f) (leaves_under ks) (2 ^ k) (few_met f (a + 2 ^ k) ks) (pow_pos k)

-- ---- leading peaks, folded one after another

-- what holds of some peaks holds of those that lead
pub each_leading : (low : ℕ) (P Q : ℕ → ℕ → Type 0) → ((a k : ℕ) → a + 2 ^ k ≤ low → P a k → Q a k)
    → (f : ℕ) (ps : List Peak) → EachPeak P ps → EachPeak Q (leading low (take f ps))
each_leading low P Q k zero ps e = tt
each_leading low P Q k (suc f) [] e = tt
each_leading low P Q k (suc f) (p ∷ ps) e =
    go (leb (p.first + 2 ^ p.height) low) refl (each_leading low P Q k f ps e.1)
  where
    go : (b : Bool) → leb (p.first + 2 ^ p.height) low ≡ b → EachPeak Q (leading low (take f ps))
        → EachPeak Q (if b then p ∷ leading low (take f ps) else [])
    go true t rest = (k p.first p.height (leb-true (p.first + 2 ^ p.height) low t) e.0, rest)
    go false t rest = tt

module _ (S : Shape) (low a r : ℕ) where
  abbrev pub leads_of : ℕ → List Peak
  leads_of f = leading low (take f (peaks_from S a r))

  pub leads_unfolded : (f : ℕ) → f ≤ 0 → leads_of f ≡ []
  leads_unfolded zero l = refl
  leads_unfolded (suc f) l = absurd (omega arith)

  pub leads_end : Laws S → (f : ℕ) → r ≤ 0 → leads_of f ≡ []
  leads_end L f l = ap (λ ps. leading low (take f ps)) (no_peaks_from S a r (no_peaks S L) l) ∙ nothing f
    where
      nothing : (g : ℕ) → leading low (take g []) ≡ []
      nothing zero = refl
      nothing (suc g) = refl

  module _ (h : ℕ) (e : S.peaks r ≡ h ∷ S.peaks (r - 2 ^ h)) where
    pub leads_not : (f : ℕ) → low < a + 2 ^ h → leads_of f ≡ []
    leads_not zero l = refl
    leads_not (suc f) l =
        ap (λ ps. leading low (take (suc f) ps)) (ap (places a) e) ∙ rw (lt-leb (a + 2 ^ h) low l) refl

    pub leads : (f a' r' f' : ℕ) → a' ≡ a + 2 ^ h → r' ≡ r - 2 ^ h → f' ≡ f - 1 → 0 < f → a + 2 ^ h ≤ low
        → leads_of f ≡ (record { first = a; height = h }) ∷ leading low (take f' (peaks_from S a' r'))
    leads zero a' r' f' ea er ef some l = absurd (omega arith)
    leads (suc f) a' r' f' ea er ef some l =
        let less : f' ≡ f = omega arith in
        ap (λ ps. leading low (take (suc f) ps)) (first_and_others S low low a r (suc f) h a' r' f' e ea er ef)
        ∙ rw (le-leb (a + 2 ^ h) low l, less) refl

pub leads_on : (h : HashFunction) (digest_of : ℕ → ℕ → List ℕ) (o : Option (List ℕ)) (x y : List ℕ) (p : Peak)
    (ps qs : List Peak) (all : Option (List ℕ)) → ps ≡ p ∷ qs → x ≡ digest_of p.first p.height → y ≡ appended h o x
    → forward_from h o (peaks_by digest_of ps) ≡ all → forward_from h (Some y) (peaks_by digest_of qs) ≡ all
leads_on h digest_of o x y p ps qs all e ex ey r =
    ap (λ z. forward_from h (Some z) (peaks_by digest_of qs)) (ey ∙ ap (appended h o) ex)
    ∙ sym (forward_more h o (digest_of p.first p.height) (peaks_by digest_of qs))
    ∙ ap (λ rs. forward_from h o (peaks_by digest_of rs)) (sym e) ∙ r
