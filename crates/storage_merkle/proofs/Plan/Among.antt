-- The peaks apart from a range, and the siblings, are among the planned nodes, and a plan's digests are theirs.
use Rattle.std.proofs.Common.{◌≡◌, ℕ, ◌+◌, ◌<◌, ◌≤◌, ◌^◌, List, [], ◌∷◌, ◌++◌, length, map, take, drop, Bool, true, false, inl, inr, refl, sym, ap, ap₂, ◌∙◌, arith, subst, Option, option_map, MatchOption}
use Rattle.std.specs.List.{AllZip}
use Rattle.std.specs.List.Sorted.{IsNonDecreasing}
use Rattle.std.proofs.lemmas.List.{map-append}
use Rattle.std.proofs.lemmas.List.Sorted.{IsNonDecreasingBy-from_default}
use Rattle.storage_codec.specs.Digests.{HashFunction}
use Rattle.storage_merkle.specs.Shape.{Shape, Laws}
use Rattle.storage_merkle.specs.Calc.{Site, front, back, node}
use Rattle.storage_merkle.specs.declared.merkle.bagging.Bagging.{Bagging}
use Rattle.storage_merkle.specs.Trees.{Layout, ungrafted, Peak, places, peaks_of, node_calc, folded, unfolded}
use Rattle.storage_merkle.specs.RangeProofs.{apart, leading, not_leading, up_to, trailing, sites_of, sites_in, position_of, by_position, sites, same_site}
use Rattle.storage_merkle.specs.Rests.{peaks_from, IsPast, AreFolded, AreAfterLeading}
use Rattle.storage_merkle.specs.CheckParts.{front_before, top_sites}
use Rattle.storage_merkle.specs.Hashers.{forward_of}
use Rattle.storage_merkle.specs.Siblings.{sibling_sites}
use Rattle.storage_merkle.specs.Plans.{planned}
use Rattle.storage_merkle.specs.PlanParts.{IsAmong, AreAmong, AreInOrder, ArePlannedApart, AreOf, StandsAt, peaks_by, site_digest}
use Rattle.storage_merkle.proofs.Prune.{leading-all, up_to-all}
use Rattle.storage_merkle.proofs.Distinct.{times, one_if, same_itself, times-append, times-by_position, times-in}
use Rattle.storage_merkle.proofs.RangeOwn.{same_site-eq}
use Rattle.storage_merkle.proofs.AscendingNumbers.{rising_at}
use Rattle.storage_merkle.proofs.Siblings.{positions, sites-cut, sort_rises}
use Rattle.storage_merkle.proofs.Check.Sites.{front_before-are, all_added}
use Rattle.storage_merkle.proofs.Walked.{listed, pushed}
use Rattle.storage_merkle.proofs.Plan.Tops.{front_listed}
use Rattle.storage_merkle.proofs.Plan.Sites.{AllSites, IsAlignedNode, aligned_in}

-- positions of sites that stand in a list
pub times_among : (T : Layout) (s : Site) (ss : List Site) → 1 ≤ times s ss → IsAmong (positions T ss) (position_of T s)
times_among T s [] l = absurd (omega arith)
times_among T s (t ∷ ts) l = go (same_site t s) refl (times_among T s ts)
  where
    go : (b : Bool) → same_site t s ≡ b → (1 ≤ times s ts → IsAmong (positions T ts) (position_of T s))
        → IsAmong (positions T (t ∷ ts)) (position_of T s)
    go true e rest = inl (ap (position_of T) (sym (same_site-eq t s e)))
    go false e rest = inr (rest (let z : one_if (same_site t s) ≡ 0 = ap one_if e in omega arith))

all_among : (T : Layout) (ss ts : List Site) → ((s : Site) → 1 ≤ times s ts → 1 ≤ times s ss)
    → AreAmong (positions T ss) (positions T ts)
all_among T ss [] f = tt
all_among T ss (t ∷ ts) f =
    let itself : one_if (same_site t t) ≡ 1 = ap one_if (same_itself t) in
    (times_among T t ss (f t (omega arith)), all_among T ss ts (λ s l. f s (omega arith)))

-- a fact of each site
pub site_has : (Q : Site → Type 0) (s : Site) (ss : List Site) → AllSites Q ss → 1 ≤ times s ss → Q s
site_has Q s [] a l = absurd (omega arith)
site_has Q s (t ∷ ts) a l = go (same_site t s) refl (site_has Q s ts a.1)
  where
    go : (b : Bool) → same_site t s ≡ b → (1 ≤ times s ts → Q s) → Q s
    go true e rest = subst Q (same_site-eq t s e) a.0
    go false e rest = rest (let z : one_if (same_site t s) ≡ 0 = ap one_if e in omega arith)

pub all_have : (Q : Site → Type 0) (ss : List Site) → ((s : Site) → 1 ≤ times s ss → Q s) → AllSites Q ss
all_have Q [] f = tt
all_have Q (s ∷ ss) f =
    let itself : one_if (same_site s s) ≡ 1 = ap one_if (same_itself s) in
    (f s (omega arith), all_have Q ss (λ t l. f t (omega arith)))

peaks_among : (T : Layout) (low high : ℕ) (ss : List Site) (a : ℕ) (ks : List ℕ)
    → ((s : Site) → times s (sites_in T (apart low high) (places a ks)) ≤ times s ss)
    → ArePlannedApart T.shape low high (positions T ss) (places a ks)
peaks_among T low high ss a [] f = tt
peaks_among T low high ss a (k ∷ ks) f =
    let here = sites_of (node_calc T (apart low high) k a) in
    let later = sites_in T (apart low high) (places (a + 2 ^ k) ks) in (
      λ e.
          let itself : one_if (same_site (node a k) (node a k)) ≡ 1 = ap one_if (same_itself (node a k)) in
          let one : times (node a k) here ≡ one_if (same_site (node a k) (node a k)) + 0 =
          ap (times (node a k)) (sites-cut T (apart low high) k a e) in
          times_among T (node a k) ss (omega (arith, f (node a k), times-append (node a k) here later)),
      peaks_among T low high ss (a + 2 ^ k) ks (λ s. omega (arith, f s, times-append s here later)),
    )

pub peaks_planned : (S : Shape) (n low high : ℕ) → ArePlannedApart S low high (planned S n low high) (peaks_from S 0 n)
peaks_planned S n low high =
    let T = ungrafted S in
    let ss = sites_in T (apart low high) (peaks_of T n) in
    peaks_among T low high (by_position T ss) 0 (S.peaks n) (λ s. omega (arith, times-by_position T s ss))

-- a sibling stands among the planned nodes
sibling_times : (S : Shape) (n low high : ℕ) (s : Site) → times s (sibling_sites (ungrafted S) n low high)
    ≤ times s (sites_in (ungrafted S) (apart low high) (peaks_of (ungrafted S) n))
sibling_times S n low high s =
    let T = ungrafted S in
    let ps = peaks_of T n in
    let ns = not_leading low ps in
    let us = up_to high ns in
    let x1 = times-by_position T s (sites_in T (apart low high) us) in
    let x2 = times-in T (apart low high) s us (trailing high ns) in
    let x3 = ap (λ qs. times s (sites_in T (apart low high) qs)) (up_to-all high ns) in
    let x4 = times-in T (apart low high) s (leading low ps) ns in
    let x5 = ap (λ qs. times s (sites_in T (apart low high) qs)) (leading-all low ps) in
    omega arith

pub siblings_planned : (S : Shape) (n low high : ℕ)
    → AreAmong (planned S n low high) (positions (ungrafted S) (sibling_sites (ungrafted S) n low high))
siblings_planned S n low high =
    let T = ungrafted S in
    let ss = sites_in T (apart low high) (peaks_of T n) in
    all_among T (by_position T ss) (sibling_sites T n low high)
    (λ s l. omega (arith, times-by_position T s ss, sibling_times S n low high s))

pub siblings_aligned : (S : Shape) → Laws S → (n low high : ℕ)
    → AllSites IsAlignedNode (sibling_sites (ungrafted S) n low high)
siblings_aligned S L n low high =
    let T = ungrafted S in
    let ss = sites_in T (apart low high) (peaks_of T n) in
    all_have IsAlignedNode (sibling_sites T n low high) (λ s l. site_has IsAlignedNode s ss
    (aligned_in T (apart low high) 0 (S.peaks n) (L.aligned n)) (omega (arith, sibling_times S n low high s)))

pub planned_in_order : {D : Type 0} (S : Shape) (n low high : ℕ) (ps : List ℕ) (ds : List D) → ps ≡ planned S n low high
    → length ds ≡ length (planned S n low high) → AreInOrder ps ds
planned_in_order S n low high ps ds e l = record {
  rising = subst (λ xs. IsNonDecreasing xs) (sym e)
      (IsNonDecreasingBy-from_default (λ x. x) (planned S n low high) 0 (rising_at (planned S n low high)
      (sort_rises (ungrafted S) (sites_in (ungrafted S) (apart low high) (peaks_of (ungrafted S) n)))));
  all = l ∙ ap length (sym e);
}

-- digests at the positions of nodes
pub zipped_digests : {D : Type 0} (text : D → List ℕ) (S : Shape) (low high : ℕ) (xs ys : List Peak) (h : HashFunction)
    (digest_of : ℕ → ℕ → List ℕ) (ps : List ℕ) (ds : List D) → AreOf text S ps ds digest_of → (ss : List Site)
    (added : List D) → AllSites IsAlignedNode ss → AllZip (StandsAt ps ds) (positions (ungrafted S) ss) added
    → map text added ≡ map (site_digest low high xs ys h digest_of) ss
zipped_digests text S low high xs ys h digest_of ps ds are [] [] a z = refl
zipped_digests text S low high xs ys h digest_of ps ds are [] (d ∷ added) a z = absurd z
zipped_digests text S low high xs ys h digest_of ps ds are (s ∷ ss) [] a z = absurd z
zipped_digests text S low high xs ys h digest_of ps ds are (front ∷ ss) (d ∷ added) a z = absurd a.0
zipped_digests text S low high xs ys h digest_of ps ds are (back ∷ ss) (d ∷ added) a z = absurd a.0
zipped_digests text S low high xs ys h digest_of ps ds are (node b k ∷ ss) (d ∷ added) a z =
    ap₂ (λ x rest. x ∷ rest) (are (S.position b k) b k d z.0 (record { aligned = a.0; at = refl }))
    (zipped_digests text S low high xs ys h digest_of ps ds are ss added a.1 z.1)

-- the digests of the leading fold, of what is met after it, and then of the siblings
pub proof_digests : {D : Type 0} (text : D → List ℕ) (S : Shape) → Laws S → (h : HashFunction)
    (digest_of : ℕ → ℕ → List ℕ) (b : Bagging) (i n low high f a r g : ℕ) → low < high → AreFolded S b i n f
    → AreAfterLeading S low 0 n f a r g → (ps sibs : List ℕ) (ds none one two last : List D) (fold : Option D)
    → ps ≡ planned S n low high → sibs ≡ positions (ungrafted S) (sibling_sites (ungrafted S) n low high) → none ≡ []
    → AreOf text S ps ds digest_of
    → option_map text fold ≡ forward_of h (peaks_by digest_of (leading low (take f (peaks_from S 0 n))))
    → MatchOption fold (one ≡ none) (λ d. one ≡ none ++ d ∷ [])
    → ((xs ys : List Peak) → trailing high (drop g (peaks_from S a r)) ≡ trailing high ys
    → map text two ≡ map text one ++ map (site_digest low high xs ys h digest_of)
    (top_sites low high (peaks_from S a r) g)) → (added : List D) → last ≡ two ++ added
    → AllZip (StandsAt ps ds) sibs added → map text last ≡ map (site_digest low high (folded b i (peaks_from S 0 n))
    (unfolded b i (peaks_from S 0 n)) h digest_of) (sites (ungrafted S) low high b n i)
proof_digests text S L h digest_of b i n low high f a r g some parts after ps sibs ds none one two last fold e es z are ef
    en add added l at =
    let T = ungrafted S in
    let xs = folded b i (peaks_from S 0 n) in
    let ys = unfolded b i (peaks_from S 0 n) in
    let site = site_digest low high xs ys h digest_of in
    let past : IsPast 0 a (leading low xs) =
    subst (λ ps. IsPast 0 a (leading low ps)) parts.folded_are after.past in
    let front : map text one ≡ map site (front_before a) = pushed text fold none one en
    ∙ ap₂ (λ us o. map text us ++ listed o) z (ef ∙ ap (λ ps. forward_of h (peaks_by digest_of (leading low ps)))
    parts.folded_are) ∙ front_listed h digest_of site (leading low xs) refl
    ∙ ap (map site) (front_before-are T low high a (leading low xs) past) in
    let ended : map text added ≡ map site (sibling_sites T n low high) = zipped_digests text S low high xs ys h digest_of
    ps ds are (sibling_sites T n low high) added (siblings_aligned S L n low high)
    (subst (λ qs. AllZip (StandsAt ps ds) qs added) es at) in
    all_added T low high b n i f a r g some parts after site (map text one) (map text two) (map text last) front
    (add xs ys (ap (trailing high) (after.unfolded_are ∙ parts.unfolded_are)))
    (ap (map text) l ∙ map-append text two added ∙ ap (λ us. map text two ++ us) ended)
