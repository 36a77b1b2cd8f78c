-- What an accepted check hands out is the tree's, and ascends by position.
use Rattle.std.proofs.Common.{◌≡◌, ◌≢◌, ℕ, zero, suc, ◌+◌, ◌*◌, ◌%◌, ◌<◌, ◌≤◌, ◌^◌, List, [], ◌∷◌, ◌++◌, length, map, Bool, true, false, if◌then◌else◌, ◌&&◌, ◌⊎◌, inl, inr, refl, sym, ap, ap₂, ◌∙◌, arith, subst, leb, eqb, eqb-true, ne_eqb, pow_pos, pow-suc}
use Rattle.std.specs.List.Sorted.{IsPermutation, IsStrictlyIncreasing}
use Rattle.std.proofs.lemmas.Bool.{cases_lt}
use Rattle.std.proofs.lemmas.List.{map-append}
use Rattle.std.proofs.lemmas.List.Sorted.{IsPermutation-map}
use Rattle.storage_codec.specs.Digests.{HashFunction, Cross}
use Rattle.storage_merkle.specs.Shape.{Laws}
use Rattle.storage_merkle.specs.Laws.Shape.{no_peaks}
use Rattle.storage_merkle.specs.Laws.Multiples.{multiple_down, multiple_add, power_multiple}
use Rattle.storage_merkle.specs.Calc.{Site, front, back, node, given, Values, eval, Agree}
use Rattle.storage_merkle.specs.declared.merkle.bagging.Bagging.{Bagging}
use Rattle.storage_merkle.specs.Trees.{Layout, Content, Peak, node_calc, join_calc, never, places, peaks_of, folded, unfolded, part, plain, tree_root, tree_strings}
use Rattle.storage_merkle.specs.Chunked.{AreChunks}
use Rattle.storage_merkle.specs.RangeProofs.{Proof, apart, leading, not_leading, up_to, trailing, one_for, check_bag, position_of, by_position, same_site, check_values, check_strings, IsAccepted}
use Rattle.storage_merkle.specs.Multi.{tree_digest}
use Rattle.storage_merkle.specs.Extracted.{nodes_under, nodes_in, overlapped, checked_sites, extracted_sites, entries, digest_at, extracted, tree_entries, ExtractedDigestsAreTrue, ExtractedPositionsAscend}
use Rattle.storage_merkle.proofs.Prune.{prunes_node, leading-all, up_to-all}
use Rattle.storage_merkle.proofs.Agreeing.{AllPeaks, AgreeAll, AgreeAt, AgreeBag, agree_bag, agree_append, agree_join, agree_at_append, agree_by_position, up_to-leading}
use Rattle.storage_merkle.proofs.Distinct.{times, one_if, one_if-le, other_first, times-append}
use Rattle.storage_merkle.proofs.RangeSound.{own_values, folded-all, range_agrees, range_sound}
use Rattle.storage_merkle.proofs.RangeOwn.{and-true, eval_agree, all_not_leading, all_up_to, peaks_under}
use Rattle.storage_merkle.proofs.AscendingNumbers.{count, count-permutation}
use Rattle.storage_merkle.proofs.Siblings.{positions, sort_rises, overlapped-is}
use Rattle.storage_merkle.proofs.SiblingOrder.{sorted}
use Rattle.storage_merkle.proofs.Plan.Sites.{AllSites, all_both, IsAlignedNode, each_place_once, strictly}

pub tells : (b : Bool) → (b ≡ true) ⊎ (b ≡ false)
tells true = inl refl
tells false = inr refl

-- ---- each digest is the tree's

-- digests by their sites alone
abbrev pub bare : (Site → List ℕ) → Values
bare digest = record { digest = digest; element = λ j. []; chunk = λ a. [] }

pub entries_agree : (T : Layout) (f g : Site → List ℕ) (ss : List Site) → AgreeAt (bare f) (bare g) ss
    → entries T f ss ≡ entries T g ss
entries_agree T f g [] a = refl
entries_agree T f g (s ∷ ss) a = ap₂ (λ d es. (position_of T s, d) ∷ es) a.0 (entries_agree T f g ss a.1)

-- in the peaks that share a leaf with a range
module _ (v w : Values) (T : Layout) (low high : ℕ) where
  abbrev AgreeIn : List Peak → Type 0
  AgreeIn ps = AgreeAll v w (map (part T (apart low high)) ps)

  up_to_both : (us ys : List Peak) → AgreeIn us → AgreeIn (up_to high ys) → AgreeIn (up_to high (us ++ ys))
  up_to_both [] ys a b = b
  up_to_both (u ∷ us) ys a b =
      elim (leb high u.first) as (λ c. AgreeIn (if c then [] else u ∷ up_to high (us ++ ys))) [
        | true ↦ tt
        | false ↦ (a.0, up_to_both us ys a.1 b)
      ]

  overlapped_both : low < high → (xs ys : List Peak) → AgreeIn (not_leading low xs) → AgreeIn (up_to high ys)
      → AgreeIn (up_to high (not_leading low (xs ++ ys)))
  overlapped_both some [] ys a b =
      (agree_append v w _ _ (subst (AgreeAll v w) (map-append (part T (apart low high)) (leading low ys)
      (up_to high (not_leading low ys))) (subst AgreeIn (up_to-leading low high some ys) b))).1
  overlapped_both some (x ∷ xs) ys a b =
      (elim (leb (x.first + 2 ^ x.height) low) as (λ c. AgreeIn (if c then not_leading low xs else x ∷ xs)
      → AgreeIn (up_to high (if c then not_leading low (xs ++ ys) else x ∷ (xs ++ ys)))) [
        | true ↦ λ f. overlapped_both some xs ys f b
        | false ↦ λ f. up_to_both (x ∷ xs) ys f b
      ]) a

  pub overlapped_agree : low < high → (b : Bagging) (n i : ℕ) → AgreeBag v w (check_bag T low high b n i)
      → AgreeIn (overlapped low high (peaks_of T n))
  overlapped_agree some b n i a =
      let xs = folded b i (peaks_of T n) in
      let ys = unfolded b i (peaks_of T n) in
      let halves = agree_bag v w _ _ a in
      let fore = agree_append v w (one_for (given front) (leading low xs)) _ halves.0 in
      let aft = agree_append v w (map (part T (apart low high)) (up_to high ys)) _ halves.1 in
      subst AgreeIn (sym (overlapped-is low high 0 (T.shape.peaks n))) (subst (λ ps. AgreeIn
      (up_to high (not_leading low ps))) (folded-all b i (peaks_of T n)) (overlapped_both some xs ys fore.1 aft.0))

-- at each node of a calculation that agrees with the own one
module _ (h : HashFunction) (v w : Values) (T : Layout) (cut : ℕ → ℕ → Bool) (content : Content)
    (chunks : (a : ℕ) → w.chunk a ≡ content.chunk a) (elements : (j : ℕ) → w.element j ≡ (plain h content).element j)
    (nodes : (a k : ℕ) → w.digest (node a k) ≡ eval h (plain h content) (node_calc T never k a)) where
  abbrev checked : Values
  checked = bare (digest_at h v T cut)

  abbrev trees : Values
  trees = bare (tree_digest h T content)

  abbrev SameAt : List Site → Type 0
  SameAt = AgreeAt checked trees

  same_node : (k a : ℕ) → Agree v w (node_calc T cut k a)
      → digest_at h v T cut (node a k) ≡ tree_digest h T content (node a k)
  same_node k a g = eval_agree v w h (node_calc T cut k a) g
      ∙ (prunes_node h w (plain h content) T cut chunks elements nodes k a).same

  same_under : (k a : ℕ) → Agree v w (node_calc T cut k a) → SameAt (nodes_under cut k a)
  same_under zero a g = (same_node zero a g, tt)
  same_under (suc k) a g =
      agree_at_append checked trees (if cut a (suc k) then [] else nodes_under cut k a ++ nodes_under cut k (a + 2 ^ k))
      (node a (suc k) ∷ [])
      ((elim (cut a (suc k)) as (λ b. Agree v w (if b then given (node a (suc k))
      else join_calc T a (suc k) (node_calc T cut k a) (node_calc T cut k (a + 2 ^ k)))
      → SameAt (if b then [] else nodes_under cut k a ++ nodes_under cut k (a + 2 ^ k))) [
        | true ↦ λ f. tt
        | false ↦ λ f. let r = agree_join v w T a (suc k) _ _ f in agree_at_append checked trees (nodes_under cut k a)
            (nodes_under cut k (a + 2 ^ k)) (same_under k a r.0) (same_under k (a + 2 ^ k) r.1)
      ]) g)
      (same_node (suc k) a g, tt)

  pub same_in : (ps : List Peak) → AgreeAll v w (map (part T cut) ps) → SameAt (nodes_in cut ps)
  same_in [] a = tt
  same_in (p ∷ ps) a = agree_at_append checked trees (nodes_under cut p.height p.first) (nodes_in cut ps)
      (same_under p.height p.first a.0) (same_in ps a.1)

pub extracted_same : (h : HashFunction) (T : Layout) (b : Bagging) (proof : Proof) (start : ℕ)
    (claim content : Content) → 0 < length claim.elements → proof.leaves ≡ length content.elements
    → AgreeBag (check_values h T b proof start claim)
    (own_values h T b content proof.leaves proof.inactive start (start + length claim.elements))
    (check_bag T start (start + length claim.elements) b proof.leaves proof.inactive)
    → extracted h T b proof start claim ≡ tree_entries h T content start (start + length claim.elements)
extracted_same h T b proof start claim content some en a =
    let high = start + length claim.elements in
    let n = proof.leaves in
    let v = check_values h T b proof start claim in
    let w = own_values h T b content n proof.inactive start high in
    let ps = overlapped start high (peaks_of T n) in
    let nonempty : start < high = omega arith in
    let each = same_in h v w T (apart start high) content (λ c. refl) (λ j. refl) (λ c k. refl) ps
    (overlapped_agree v w T start high nonempty b n proof.inactive a) in
    let f = tree_digest h T content in
    entries_agree T _ f _
    (agree_by_position (bare (digest_at h v T (apart start high))) (bare f) T (nodes_in (apart start high) ps) each)
    ∙ ap (λ m. entries T f (extracted_sites T m start high)) en

-- no leaves, no digests
pub no_entries : (T : Layout) (f : Site → List ℕ) (n low high : ℕ) → T.shape.peaks 0 ≡ [] → n ≡ 0
    → entries T f (extracted_sites T n low high) ≡ []
no_entries T f n low high none e = ap (λ m. entries T f (extracted_sites T m low high)) e
    ∙ ap (λ ks. entries T f (by_position T (nodes_in (apart low high) (overlapped low high (places 0 ks))))) none

pub extracted_true : ExtractedDigestsAreTrue
extracted_true d h T b proof start claim root sized L wide accepted N grafted same other chunked content inactive chunks
    few peaks at =
    let over : ℕ → Layout = λ n. record { shape = T.shape; position = T.position; grafted = grafted n } in
    let m = length content.elements in
    let high = start + length claim.elements in
    let chunked' : AreChunks N (over proof.leaves) proof.leaves (apart start (start + length claim.elements)) claim.chunk =
    subst (λ U. AreChunks N U proof.leaves (apart start (start + length claim.elements)) claim.chunk) same chunked in
    let Outcome : Layout → Type 0 =
    λ U. (extracted h U b proof start claim ≡ tree_entries h (over m) content start high)
    ⊎ Cross h (check_strings h U b proof start claim) (tree_strings h (over m) b content inactive) in
    let here : IsAccepted h (over proof.leaves) b proof start claim (tree_root h (over m) b content inactive) =
    subst (λ U. IsAccepted h U b proof start claim (tree_root h (over m) b content inactive)) same
    (subst (IsAccepted h T b proof start claim) (sym at) accepted) in
    let none : T.shape.peaks 0 ≡ [] = no_peaks T.shape L in
    let answer : Outcome (over proof.leaves) = elim here [
      | inl ok ↦ elim (range_agrees d N h sized other T.shape L T.position grafted b proof start claim wide chunked' content chunks
          inactive few peaks ok.0 ok.1) [
            | inr c ↦ inr c
            | inl r ↦
                let U = over proof.leaves in
                let one : extracted h U b proof start claim ≡ tree_entries h U content start high =
                extracted_same h U b proof start claim content ok.0.some r.leaves_are r.agree in
                inl (one ∙ ap (λ n. tree_entries h (over n) content start high) r.leaves_are)
          ]
      | inr ok ↦ elim (range_sound d N h sized other T.shape L T.position grafted b proof start claim wide chunked' content chunks
          inactive few peaks (inr ok)) [
            | inr c ↦ inr c
            | inl own ↦
                let leaves : proof.leaves ≡ m = ap (λ (p : Proof). p.leaves) own.proof_is in
                let U = over proof.leaves in
                inl (no_entries U _ proof.leaves start high none ok.0.no_leaves
                ∙ sym (no_entries (over m) _ m start high none (sym leaves ∙ ok.0.no_leaves)))
          ]
    ] in
    subst Outcome (sym same) answer

-- ---- each position once, ascending

other_height : (a k b m : ℕ) → k ≢ m → same_site (node a k) (node b m) ≡ false
other_height a k b m ne = elim (eqb a b) as (λ c. (c && eqb k m) ≡ false) [ true ↦ ne_eqb k m ne | false ↦ refl ]

module _ (cut : ℕ → ℕ → Bool) where
  times-under : (s : Site) (k a : ℕ) → times s (nodes_under cut (suc k) a)
      ≤ times s (nodes_under cut k a) + times s (nodes_under cut k (a + 2 ^ k)) + one_if (same_site (node a (suc k)) s)
  times-under s k a =
      let xs = nodes_under cut k a in
      let ys = nodes_under cut k (a + 2 ^ k) in
      elim (cut a (suc k)) as (λ c. times s ((if c then [] else xs ++ ys) ++ (node a (suc k) ∷ []))
      ≤ times s xs + times s ys + one_if (same_site (node a (suc k)) s)) [
        | true ↦ omega arith
        | false ↦ omega (arith, times-append s (xs ++ ys) (node a (suc k) ∷ []), times-append s xs ys)
      ]

  no_fold_under : (s : Site) → ((a k : ℕ) → same_site (node a k) s ≡ false) → (k a : ℕ)
      → times s (nodes_under cut k a) ≡ 0
  no_fold_under s f zero a = rw (f a zero) refl
  no_fold_under s f (suc k) a =
      omega (arith, times-under s k a, ap one_if (f a (suc k)), no_fold_under s f k a, no_fold_under s f k (a + 2 ^ k))

  no_fold_nodes : (s : Site) → ((a k : ℕ) → same_site (node a k) s ≡ false) → (ps : List Peak)
      → times s (nodes_in cut ps) ≡ 0
  no_fold_nodes s f [] = refl
  no_fold_nodes s f (p ∷ ps) = omega (
    arith,
    times-append s (nodes_under cut p.height p.first) (nodes_in cut ps),
    no_fold_under s f p.height p.first,
    no_fold_nodes s f ps,
  )

  module _ (b m : ℕ) where
    under_outside : (k a : ℕ) → (b < a) ⊎ (a + 2 ^ k ≤ b) → times (node b m) (nodes_under cut k a) ≡ 0
    under_outside zero a o =
        let ne : a ≢ b = elim o [ inl l ↦ omega arith | inr g ↦ omega arith ] in
        rw (other_first a zero b m ne) refl
    under_outside (suc k) a o =
        let pos : 0 < 2 ^ k = pow_pos k in
        let twice : 2 ^ suc k ≡ 2 ^ k * 2 = pow-suc 2 k in
        let ne : a ≢ b = elim o [ inl l ↦ omega arith | inr g ↦ omega arith ] in
        let left : (b < a) ⊎ (a + 2 ^ k ≤ b) = elim o [ inl l ↦ inl l | inr g ↦ inr (omega arith) ] in
        let right : (b < a + 2 ^ k) ⊎ ((a + 2 ^ k) + 2 ^ k ≤ b) =
        elim o [ inl l ↦ inl (omega arith) | inr g ↦ inr (omega arith) ] in
        omega (
          arith,
          times-under (node b m) k a,
          ap one_if (other_first a (suc k) b m ne),
          under_outside k a left,
          under_outside k (a + 2 ^ k) right,
        )

    under_lower : (k a : ℕ) → k < m → times (node b m) (nodes_under cut k a) ≡ 0
    under_lower zero a l = rw (other_height a zero b m (omega arith)) refl
    under_lower (suc k) a l =
        let ne : suc k ≢ m = omega arith in
        omega (
          arith,
          times-under (node b m) k a,
          ap one_if (other_height a (suc k) b m ne),
          under_lower k a (omega arith),
          under_lower k (a + 2 ^ k) (omega arith),
        )

    under_once : (k a : ℕ) → times (node b m) (nodes_under cut k a) ≤ 1
    under_once zero a = omega (arith, one_if-le (same_site (node a zero) (node b m)))
    under_once (suc k) a =
        elim (tells (same_site (node a (suc k)) (node b m))) [
          | inl e ↦
              let r = and-true (eqb a b) (eqb (suc k) m) e in
              let high : suc k ≡ m = eqb-true (suc k) m r.1 in
              omega (
                arith,
                times-under (node b m) k a,
                one_if-le (same_site (node a (suc k)) (node b m)),
                under_lower k a (omega arith),
                under_lower k (a + 2 ^ k) (omega arith),
              )
          | inr e ↦ elim (cases_lt b (a + 2 ^ k)) [
            | inl l ↦ omega (
              arith,
              times-under (node b m) k a,
              ap one_if e,
              under_once k a,
              under_outside k (a + 2 ^ k) (inl l),
            )
            | inr g ↦ omega (
              arith,
              times-under (node b m) k a,
              ap one_if e,
              under_outside k a (inr g),
              under_once k (a + 2 ^ k),
            )
          ]
        ]

    nodes_before : (a : ℕ) (ks : List ℕ) → b < a → times (node b m) (nodes_in cut (places a ks)) ≡ 0
    nodes_before a [] l = refl
    nodes_before a (k ∷ ks) l = omega (
      arith,
      times-append (node b m) (nodes_under cut k a)
          (nodes_in cut (places (a + 2 ^ k) ks)),
      under_outside k a (inl l),
      nodes_before (a + 2 ^ k) ks (omega arith),
    )

    nodes_once : (a : ℕ) (ks : List ℕ) → times (node b m) (nodes_in cut (places a ks)) ≤ 1
    nodes_once a [] = omega arith
    nodes_once a (k ∷ ks) =
        let both = times-append (node b m) (nodes_under cut k a) (nodes_in cut (places (a + 2 ^ k) ks)) in
        elim (cases_lt b (a + 2 ^ k)) [
          | inl l ↦ omega (arith, both, under_once k a, nodes_before (a + 2 ^ k) ks l)
          | inr g ↦ omega (arith, both, under_outside k a (inr g), nodes_once (a + 2 ^ k) ks)
        ]

  nodes_each_once : (ks : List ℕ) (s : Site) → times s (nodes_in cut (places 0 ks)) ≤ 1
  nodes_each_once ks front = omega (arith, no_fold_nodes front (λ a k. refl) (places 0 ks))
  nodes_each_once ks back = omega (arith, no_fold_nodes back (λ a k. refl) (places 0 ks))
  nodes_each_once ks (node b m) = nodes_once b m 0 ks

  times-nodes : (s : Site) (ps qs : List Peak)
      → times s (nodes_in cut (ps ++ qs)) ≡ times s (nodes_in cut ps) + times s (nodes_in cut qs)
  times-nodes s [] qs = omega arith
  times-nodes s (p ∷ ps) qs = omega (
    arith,
    times-append s (nodes_under cut p.height p.first) (nodes_in cut (ps ++ qs)),
    times-append s (nodes_under cut p.height p.first) (nodes_in cut ps),
    times-nodes s ps qs,
  )

  pub overlapped_once : (low high : ℕ) (ks : List ℕ) (s : Site)
      → times s (nodes_in cut (overlapped low high (places 0 ks))) ≤ 1
  overlapped_once low high ks s =
      let ps = places 0 ks in
      let ns = not_leading low ps in
      omega (
        arith,
        nodes_each_once ks s,
        times-nodes s (leading low ps) ns,
        times-nodes s (up_to high ns) (trailing high ns),
        ap (λ qs. times s (nodes_in cut qs)) (leading-all low ps),
        ap (λ qs. times s (nodes_in cut qs)) (up_to-all high ns),
        ap (λ qs. times s (nodes_in cut qs)) (overlapped-is low high 0 ks),
      )

  aligned_nodes : (k a : ℕ) → a % 2 ^ k ≡ 0 → AllSites IsAlignedNode (nodes_under cut k a)
  aligned_nodes zero a h = (h, tt)
  aligned_nodes (suc k) a h =
      let left : a % 2 ^ k ≡ 0 = multiple_down a k (suc k) (omega arith) h in
      let right : (a + 2 ^ k) % 2 ^ k ≡ 0 =
      multiple_add a (2 ^ k) (2 ^ k) (pow_pos k) left (power_multiple k k (omega arith)) in
      all_both IsAlignedNode (if cut a (suc k) then [] else nodes_under cut k a ++ nodes_under cut k (a + 2 ^ k))
      (node a (suc k) ∷ [])
      (elim (cut a (suc k)) as (λ c.
      AllSites IsAlignedNode (if c then [] else nodes_under cut k a ++ nodes_under cut k (a + 2 ^ k))) [
        | true ↦
            tt
        | false ↦ all_both IsAlignedNode _ _ (aligned_nodes k a left) (aligned_nodes k (a + 2 ^ k) right)
      ])
      (h, tt)

  pub aligned_over : (ps : List Peak) → AllPeaks (λ p. p.first % 2 ^ p.height ≡ 0) ps
      → AllSites IsAlignedNode (nodes_in cut ps)
  aligned_over [] a = tt
  aligned_over (p ∷ ps) a = all_both IsAlignedNode _ _ (aligned_nodes p.height p.first a.0) (aligned_over ps a.1)

pub all_weaker : (P Q : Peak → Type 0) → ((p : Peak) → P p → Q p) → (ps : List Peak) → AllPeaks P ps → AllPeaks Q ps
all_weaker P Q f [] a = tt
all_weaker P Q f (p ∷ ps) a = (f p a.0, all_weaker P Q f ps a.1)

pub aligned_checked : (T : Layout) → Laws T.shape → (n low high : ℕ)
    → AllSites IsAlignedNode (checked_sites T n low high)
aligned_checked T L n low high =
    let ks = T.shape.peaks n in
    let Q : Peak → Type 0 = λ p. p.first % 2 ^ p.height ≡ 0 in
    let all = all_weaker _ Q (λ p u. u.0) (peaks_of T n) (peaks_under ks ks 0 (L.aligned n) (λ a k i. i)) in
    aligned_over (apart low high) (overlapped low high (peaks_of T n)) (subst (AllPeaks Q)
    (sym (overlapped-is low high 0 ks)) (all_up_to high Q _ (all_not_leading low Q (peaks_of T n) all)))

entries-positions : (T : Layout) (f : Site → List ℕ) (ss : List Site) → map (λ e. e.0) (entries T f ss) ≡ positions T ss
entries-positions T f [] = refl
entries-positions T f (s ∷ ss) = ap (λ ps. position_of T s ∷ ps) (entries-positions T f ss)

pub entries_ascend : (T : Layout) → Laws T.shape → (f : Site → List ℕ) (n low high : ℕ)
    → IsStrictlyIncreasing (map (λ e. e.0) (entries T f (extracted_sites T n low high)))
entries_ascend T L f n low high =
    let ss = checked_sites T n low high in
    let moved : IsPermutation (positions T ss) (positions T (by_position T ss)) =
    IsPermutation-map (position_of T) ss (by_position T ss) (sorted T ss) in
    let once : (m : ℕ) → count m (positions T ss) ≤ 1 = each_place_once T L ss (aligned_checked T L n low high)
    (overlapped_once (apart low high) low high (T.shape.peaks n)) in
    subst IsStrictlyIncreasing (sym (entries-positions T f (by_position T ss)))
    (strictly (positions T (by_position T ss)) (sort_rises T ss)
    (λ m. omega (arith, once m, count-permutation m (positions T ss) (positions T (by_position T ss)) moved)))

pub extracted_ascend : ExtractedPositionsAscend
extracted_ascend h T b proof start claim L = entries_ascend T L _ proof.leaves start (start + length claim.elements)
