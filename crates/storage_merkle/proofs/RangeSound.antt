-- An accepted range proof is the tree's own, or two strings cross.
use Rattle.std.proofs.Common.{◌≡◌, ◌≢◌, ℕ, zero, suc, ◌+◌, ◌-◌, ◌<◌, ◌≤◌, ◌^◌, List, [], ◌∷◌, ◌++◌, length, map, take, drop, get_or, Bool, true, false, if◌then◌else◌, ◌||◌, leb, leb-false, max, Contains, ◌⊎◌, inl, inr, refl, sym, ap, ap₂, ◌∙◌, arith, subst, pow_pos, Option, Some, None, append-nil, take-append-drop, add-zero, add_assoc}
use Rattle.std.proofs.lemmas.List.{map-append}
use Rattle.std.proofs.lemmas.List.Elements.{Contains-append_right}
use Rattle.std.proofs.lemmas.Bool.{cases_lt}
use Rattle.storage_codec.specs.Digests.{HashFunction, Cross, IsSized}
use Rattle.storage_merkle.specs.Shape.{Shape, Laws, leaves_under, Inside}
use Rattle.storage_merkle.specs.Laws.Shape.{length_at_most, no_peaks}
use Rattle.storage_merkle.specs.Calc.{Site, front, back, node, Calc, Values, Agree, given}
use Rattle.storage_merkle.specs.declared.merkle.bagging.Bagging.{Bagging}
use Rattle.storage_merkle.specs.declared.merkle.bagging.Bagging.TheVariants.{ForwardFold, BackwardFold}
use Rattle.storage_merkle.specs.Trees.{Layout, Content, Peak, places, peaks_of, folded, unfolded, bag, eval_bag, strings_bag, whole_peak, part, tree_bag, plain, node_calc, never, root_head, tree_string, tree_strings, tree_root, empty_root}
use Rattle.storage_merkle.specs.Chunked.{AreChunks}
use Rattle.storage_merkle.specs.RangeProofs.{Proof, apart, leading, not_leading, up_to, trailing, one_for, check_bag, sites, sites_over, range_sites, look_up, same_site, check_values, check_string, check_strings, CountsFit, IsEmptyProof, IsAccepted, fold_digest, own_digest, IsOwn, AreDigests}
use Rattle.storage_merkle.specs.Laws.Calc.{IsWide, law, eval_length, cross_wider, heads, same_head}
use Rattle.storage_merkle.proofs.Prune.{PrunesBag, prunes_bag, leading-all, up_to-all}
use Rattle.storage_merkle.proofs.Agreeing.{AllPeaks, AgreeAll, AgreeBag, agree_leaf, agree_chunk, AgreeAt, agree_bag, agree_append, agree_front, agree_back, agree_sites_in, agree_one_for, agree_at_append, agree_by_position, up_to-leading, not_apart, Holds, holds_inside}
use Rattle.storage_merkle.proofs.Distinct.{each_once, read_all}
pub use Rattle.storage_merkle.proofs.Under.{all_take, all_drop}
use Rattle.storage_merkle.proofs.Chunked.{ChunkedBag, check_chunked, uncut}

-- what stands in a tree, at the sites of a range too
abbrev pub own_values : HashFunction → Layout → Bagging → Content → ℕ → ℕ → ℕ → ℕ → Values
own_values h T b content n i low high = record {
  digest = own_digest h T b content n i low high;
  element = λ j. get_or content.elements j [];
  chunk = content.chunk;
}

pub or-false : (x y : Bool) → (x || y) ≡ false → (x ≡ false) × (y ≡ false)
or-false true true e = cc
or-false true false e = cc
or-false false true e = cc
or-false false false e = (refl, refl)

pub law_bag : (d N : ℕ) (h : HashFunction) (v w : Values) → IsSized d h → N ≢ 8 + d → IsWide d v → IsWide d w
    → (t : Option Calc) → ChunkedBag N v t → ChunkedBag N w t → eval_bag h v t ≡ eval_bag h w t
    → AgreeBag v w t ⊎ Cross h (strings_bag h v t) (strings_bag h w t)
law_bag d N h v w sized apart wv ww None cv cw e = inl tt
law_bag d N h v w sized apart wv ww (Some t) cv cw e = law d N h v w sized apart wv ww t cv cw e

pub look_up-wide : (d : ℕ) (none : List ℕ) → length none ≡ d → (ss : List Site) (ds : List (List ℕ)) → AreDigests d ds
    → (s : Site) → length (look_up none ss ds s) ≡ d
look_up-wide d none e [] ds a s = e
look_up-wide d none e (t ∷ ts) [] a s = e
look_up-wide d none e (t ∷ ts) (x ∷ ds) a s =
    elim (same_site s t) as (λ b. length (if b then x else look_up none ts ds s) ≡ d) [
      | true ↦ a.0
      | false ↦ look_up-wide d none e ts ds a.1 s
    ]

pub fold_digest-wide : (d : ℕ) (h : HashFunction) (content : Content) → IsSized d h → (t : Option Calc)
    → length (fold_digest h (plain h content) t) ≡ d
fold_digest-wide d h content sized None = sized []
fold_digest-wide d h content sized (Some t) = eval_length d h (plain h content) sized (λ s. sized []) t

pub own-wide : (d : ℕ) (h : HashFunction) (T : Layout) (b : Bagging) (content : Content) (n i low high : ℕ)
    → IsSized d h → IsWide d (own_values h T b content n i low high)
own-wide d h T b content n i low high sized front = fold_digest-wide d h content sized _
own-wide d h T b content n i low high sized back = fold_digest-wide d h content sized _
own-wide d h T b content n i low high sized (node a k) =
    eval_length d h (plain h content) sized (λ s. sized []) (node_calc T never k a)

-- the peaks, cut by the inactive count
pub folded-all : (b : Bagging) (i : ℕ) (ps : List Peak) → folded b i ps ++ unfolded b i ps ≡ ps
folded-all ForwardFold i ps = append-nil ps
folded-all BackwardFold i ps = take-append-drop i ps

-- the honest calculation of a proof against the tree's
pub own-prunes : (h : HashFunction) (T : Layout) (b : Bagging) (content : Content) (n i low high : ℕ) → PrunesBag h
    (own_values h T b content n i low high) (plain h content) (check_bag T low high b n i) (tree_bag T b n i)
own-prunes h T b content n i low high =
    let xs = folded b i (peaks_of T n) in
    let ys = unfolded b i (peaks_of T n) in
    let w = plain h content in
    let v = own_values h T b content n i low high in
    let p = prunes_bag h v w T (apart low high) (λ a. refl) (λ j. refl) (λ a k. refl) (leading low xs)
    (not_leading low xs) (up_to high ys) (trailing high ys)
    (λ q rest e. ap (λ ps. fold_digest h w (bag (map (whole_peak T) ps) [])) e)
    (λ q rest e. ap (λ ps. fold_digest h w (bag [] (map (whole_peak T) ps))) e) in
    let F : List Peak → List Peak → Type 0 =
    λ us vs. PrunesBag h v w (check_bag T low high b n i) (bag (map (whole_peak T) us) (map (whole_peak T) vs)) in
    subst (λ us. F us ys) (leading-all low xs)
    (subst (λ vs. F (leading low xs ++ not_leading low xs) vs) (up_to-all high ys) p)

pub places-take : (i a : ℕ) (ks : List ℕ) → take i (places a ks) ≡ places a (take i ks)
places-take zero a ks = refl
places-take (suc i) a [] = refl
places-take (suc i) a (k ∷ ks) = ap (λ ps. (record { first = a; height = k }) ∷ ps) (places-take i (a + 2 ^ k) ks)

pub places-drop : (i a : ℕ) (ks : List ℕ) → drop i (places a ks) ≡ places (a + leaves_under (take i ks)) (drop i ks)
unfolding leaves_under
places-drop zero a ks = rw add-zero refl
places-drop (suc i) a [] = refl
places-drop (suc i) a (k ∷ ks) =
    places-drop i (a + 2 ^ k) ks ∙ ap (λ c. places c (drop i ks)) (add_assoc a (2 ^ k) (leaves_under (take i ks)))

pub leaves-split : (i : ℕ) (ks : List ℕ) → leaves_under (take i ks) + leaves_under (drop i ks) ≡ leaves_under ks
unfolding leaves_under
leaves-split zero ks = omega arith
leaves-split (suc i) [] = refl
leaves-split (suc i) (k ∷ ks) = omega (arith, leaves-split i ks)

pub all_any : (ps : List Peak) → AllPeaks (λ p. Unit {0}) ps
all_any [] = tt
all_any (p ∷ ps) = (tt, all_any ps)

module _ (T : Layout) (v w : Values) (low high : ℕ) where
  -- what the peak over a leaf of the range gives
  from_peak : (P : Type 0) (Q : Peak → Type 0) (b : Bagging) (i : ℕ) (ks : List ℕ) (j : ℕ) → low ≤ j → j < high
      → j < leaves_under ks → AllPeaks Q (places 0 ks)
      → ((p : Peak) → Q p → p.first ≤ j → j < p.first + 2 ^ p.height → Agree v w (part T (apart low high) p) → P)
      → AgreeAll v w (map (part T (apart low high)) (not_leading low (folded b i (places 0 ks))))
      → AgreeAll v w (map (part T (apart low high)) (up_to high (unfolded b i (places 0 ks)))) → P
  from_peak P Q ForwardFold i ks j l u m q found f g =
      agree_front v w T (apart low high) j P Q found low l 0 ks q (omega arith) (omega arith) f
  from_peak P Q BackwardFold i ks j l u m q found f g =
      let f' = subst (λ ps. AgreeAll v w (map (part T (apart low high)) (not_leading low ps))) (places-take i 0 ks) f in
      let g' = subst (λ ps. AgreeAll v w (map (part T (apart low high)) (up_to high ps))) (places-drop i 0 ks) g in
      elim (cases_lt j (leaves_under (take i ks))) [
        | inl here ↦ agree_front v w T (apart low high) j P Q found low l 0 (take i ks)
            (subst (AllPeaks Q) (places-take i 0 ks) (all_take Q i (places 0 ks) q)) (omega arith) (omega arith) f'
        | inr later ↦ agree_back v w T (apart low high) j P Q found high u (0 + leaves_under (take i ks)) (drop i ks)
            (subst (AllPeaks Q) (places-drop i 0 ks) (all_drop Q i (places 0 ks) q)) (omega arith)
            (omega (arith, leaves-split i ks)) g'
      ]

  pub sites_agree : (some : low < high) (xs ys : List Peak) → AgreeAll v w (one_for (given front) (leading low xs))
      → AgreeAll v w (map (part T (apart low high)) (not_leading low xs))
      → AgreeAll v w (map (part T (apart low high)) (up_to high ys)) → AgreeAll v w (one_for (given back) (trailing high ys))
      → AgreeAt v w (sites_over T low high xs ys)
  sites_agree some xs ys f n u t =
      let ns = not_leading low xs in
      let os = not_leading low ys in
      let n' = subst (λ ps. AgreeAll v w (map (part T (apart low high)) ps)) (sym (up_to-all high ns)) n in
      let n'' = agree_append v w _ _
      (subst (AgreeAll v w) (map-append (part T (apart low high)) (up_to high ns) (trailing high ns)) n') in
      let u' = subst (λ ps. AgreeAll v w (map (part T (apart low high)) ps)) (up_to-leading low high some ys) u in
      let u'' = agree_append v w _ _
      (subst (AgreeAll v w) (map-append (part T (apart low high)) (leading low ys) (up_to high os)) u') in
      let inside = agree_at_append v w _ _ (agree_sites_in v w T (apart low high) (up_to high ns) n''.0)
      (agree_sites_in v w T (apart low high) (up_to high os) u''.1) in
      agree_at_append v w _ _ (agree_one_for v w front (leading low xs) f)
      (agree_at_append v w _ _ (agree_sites_in v w T (apart low high) (leading low ys) u''.0)
      (agree_at_append v w _ _ (agree_sites_in v w T (apart low high) (trailing high ns) n''.1)
      (agree_at_append v w _ _ (agree_one_for v w back (trailing high ys) t) (agree_by_position v w T _ inside))))

pub peaks-le : (ks : List ℕ) → length ks ≤ leaves_under ks
unfolding leaves_under
peaks-le [] = omega arith
peaks-le (k ∷ ks) = omega (arith, peaks-le ks, pow_pos k)

-- two calculations of one tree that give one digest
module _ (d N : ℕ) (h : HashFunction) (sized : IsSized d h) (other : N ≢ 8 + d) (T : Layout) (L : Laws T.shape)
    (b : Bagging) (proof : Proof) (start : ℕ) (claim : Content) (wide : AreDigests d proof.digests)
    (chunked : AreChunks N T proof.leaves (apart start (start + length claim.elements)) claim.chunk)
    (content : Content) (chunks : AreChunks N T proof.leaves never content.chunk) where
  pub core : eval_bag h (check_values h T b proof start claim) (check_bag T start (start + length claim.elements) b
      proof.leaves proof.inactive) ≡ eval_bag h (plain h content) (tree_bag T b proof.leaves proof.inactive)
      → AgreeBag (check_values h T b proof start claim)
      (own_values h T b content proof.leaves proof.inactive start (start + length claim.elements))
      (check_bag T start (start + length claim.elements) b proof.leaves proof.inactive)
      ⊎ Cross h (strings_bag h (check_values h T b proof start claim) (check_bag T start (start + length claim.elements)
      b proof.leaves proof.inactive)) (strings_bag h (plain h content) (tree_bag T b proof.leaves proof.inactive))
  core e =
      let n = proof.leaves in
      let i = proof.inactive in
      let high = start + length claim.elements in
      let v = check_values h T b proof start claim in
      let w = own_values h T b content n i start high in
      let p = own-prunes h T b content n i start high in
      elim (law_bag d N h v w sized other (look_up-wide d (h []) (sized []) (range_sites h T b proof start claim)
      proof.digests wide) (own-wide d h T b content n i start high sized) (check_bag T start high b n i)
      (check_chunked N v T n start high (L.aligned n) chunked b i)
      (check_chunked N w T n start high (L.aligned n) (uncut N T n (apart start high) content.chunk chunks) b i)
      (e ∙ sym p.same)) [
        | inl a ↦ inl a
        | inr c ↦ inr (cross_wider (λ x m. m) p.fewer c)
      ]

-- what agreement gives
module _ (h : HashFunction) (T : Layout) (L : Laws T.shape) (b : Bagging) (proof : Proof) (start : ℕ)
    (claim : Content) (content : Content) where
  record_is : (m j low high : ℕ) → proof.leaves ≡ m → proof.inactive ≡ j → proof.digests ≡ map
      (own_digest h T b content proof.leaves proof.inactive low high) (sites T low high b proof.leaves proof.inactive)
      → proof ≡ (record {
        leaves = m;
        inactive = j;
        digests = map (own_digest h T b content m j low high) (sites T low high b m j);
      })
  record_is m j low high en ei ed =
      let F : ℕ → ℕ → Proof = λ n i. record {
        leaves = n;
        inactive = i;
        digests = map (own_digest h T b content n i low high) (sites T low high b n i);
      } in
      let one : proof ≡ F proof.leaves proof.inactive =
      ap (λ ds. record { leaves = proof.leaves; inactive = proof.inactive; digests = ds }) ed in
      one ∙ ap₂ F en ei

  pub agreed : (inactive : ℕ) → CountsFit h T b proof start claim → proof.leaves ≡ length content.elements
      → proof.inactive ≡ inactive → AgreeBag (check_values h T b proof start claim)
      (own_values h T b content proof.leaves proof.inactive start (start + length claim.elements)) (check_bag T start
      (start + length claim.elements) b proof.leaves proof.inactive) → IsOwn h T b proof start claim content inactive
  agreed inactive ok en ei a =
      let n = proof.leaves in
      let i = proof.inactive in
      let high = start + length claim.elements in
      let v = check_values h T b proof start claim in
      let w = own_values h T b content n i start high in
      let xs = folded b i (peaks_of T n) in
      let ys = unfolded b i (peaks_of T n) in
      let some = ok.some in
      let within = ok.within in
      let nonempty : start < high = omega arith in
      let both = agree_bag v w _ _ a in
      let fore = agree_append v w (one_for (given front) (leading start xs)) _ both.0 in
      let aft = agree_append v w (map (part T (apart start high)) (up_to high ys)) _ both.1 in
      let at = sites_agree T v w start high nonempty xs ys fore.0 fore.1 aft.0 aft.1 in
      record {
        proof_is = record_is (length content.elements) inactive start high en ei
            (read_all (h []) (range_sites h T b proof start claim) proof.digests w v.element v.chunk ok.count
            (each_once T start high xs ys (T.shape.peaks n) (folded-all b i (peaks_of T n))) at);
        elements_are = record {
          within = omega arith;
          each = λ j l.
              let low' : start ≤ start + j = omega arith in
              let high' : start + j < high = omega arith in
              let e = from_peak T v w start high (v.element (start + j) ≡ w.element (start + j)) (λ p. Unit {0}) b i
              (T.shape.peaks n) (start + j) low' high' (omega (arith, L.sum n)) (all_any _)
              (λ p q l u g. agree_leaf v w T (apart start high) (start + j)
              (not_apart start high (start + j) low' high') p.height p.first l u g) fore.1 aft.0 in
              let s : (start + j) - start ≡ j = omega arith in
              subst (λ k. get_or claim.elements k [] ≡ get_or content.elements (start + j) []) s e;
        };
        chunks_are = λ c k one t multiple inside touches.
            let r = or-false (leb (c + 2 ^ k) start) (leb high c) touches in
            let x : start < c + 2 ^ k = leb-false (c + 2 ^ k) start r.0 in
            let y : c < high = leb-false high c r.1 in
            let j : ℕ = max start c in
            let positive : 0 < 2 ^ k = pow_pos k in
            let from : start ≤ j = omega arith in
            let to : j < high = omega arith in
            let cl : c ≤ j = omega arith in
            let cu : j < c + 2 ^ k = omega arith in
            let inside' : Inside (T.shape.peaks n) 0 c k =
            subst (λ z. Inside (T.shape.peaks z) 0 c k) (sym en) inside in
            from_peak T v w start high (v.chunk c ≡ w.chunk c) (Holds c k j cl cu multiple) b i
            (T.shape.peaks n) j from to (omega (arith, L.sum n))
            (holds_inside c k j cl cu multiple (T.shape.peaks n) 0 (L.aligned n) inside')
            (λ p q pl pu g. let r = q pl pu in agree_chunk v w T (apart start high) j
            (not_apart start high j from to) k c t one cl cu p.height p.first r.1.0 r.0 r.1.1 pl pu g) fore.1 aft.0;
      }

-- the empty proof, accepted against a tree's root
no_bag : (T : Layout) (b : Bagging) (low high : ℕ) → T.shape.peaks 0 ≡ [] → check_bag T low high b 0 0 ≡ None
no_bag T ForwardFold low high e = rw e refl
no_bag T BackwardFold low high e = rw e refl

no_sites : (T : Layout) (b : Bagging) (low high : ℕ) → T.shape.peaks 0 ≡ [] → sites T low high b 0 0 ≡ []
no_sites T ForwardFold low high e = rw e refl
no_sites T BackwardFold low high e = rw e refl

module _ (h : HashFunction) (S : Shape) (L : Laws S) (position : ℕ → ℕ → ℕ) (grafted : ℕ → ℕ → ℕ → Bool) (b : Bagging)
    (chunk : ℕ → List ℕ) (content : Content) (inactive : ℕ) (few : length content.elements ≤ 2 ^ 62)
    (peaks : inactive ≤ length (S.peaks (length content.elements))) where
  abbrev layout : ℕ → Layout
  layout n = record { shape = S; position = position; grafted = grafted n }

  abbrev nothing : Proof
  nothing = record { leaves = 0; inactive = 0; digests = [] }

  abbrev no_claim : Content
  no_claim = record { elements = []; chunk = chunk }

  nothing_own : 0 ≡ length content.elements → 0 ≡ inactive
      → IsOwn h (layout (length content.elements)) b nothing 0 no_claim content inactive
  nothing_own en ei =
      let T = layout (length content.elements) in
      record {
        proof_is = record_is h T L b nothing 0 no_claim content (length content.elements) inactive 0 0 en ei
            (ap (map (own_digest h T b content 0 0 0 0)) (sym (no_sites T b 0 0 (no_peaks S L))));
        elements_are = record { within = omega arith; each = λ j l. absurd (omega arith) };
        chunks_are = λ a k one t multiple inside touches.
            let r = or-false (leb (a + 2 ^ k) 0) (leb 0 a) touches in
            absurd (omega (arith, leb-false 0 a r.1));
      }

  nothing_sound : empty_root h (layout 0) b ≡ tree_root h (layout (length content.elements)) b content inactive
      → IsOwn h (layout (length content.elements)) b nothing 0 no_claim content inactive ⊎ Cross h (check_strings h
      (layout 0) b nothing 0 no_claim) (tree_strings h (layout (length content.elements)) b content inactive)
  nothing_sound root_is =
      let m = length content.elements in
      let v = check_values h (layout 0) b nothing 0 no_claim in
      let t = check_bag (layout 0) 0 0 b 0 0 in
      let u = tree_bag (layout m) b m inactive in
      let e : check_string h (layout 0) b nothing 0 no_claim ≡ root_head (layout 0) b 0 0 ++ [] =
      ap (λ x. root_head (layout 0) b 0 0 ++ eval_bag h v x) (no_bag (layout 0) b 0 0 (no_peaks S L)) in
      let bound : m < 2 ^ 64 = omega arith in
      let bound2 : inactive < 2 ^ 64 = omega (arith, length_at_most (S.peaks m), L.sum m) in
      elim (heads h (check_string h (layout 0) b nothing 0 no_claim) (tree_string h (layout m) b content inactive)
      (strings_bag h v t) (strings_bag h (plain h content) u) (ap h e ∙ root_is)) [
        | inr c ↦ inr c
        | inl same ↦
            let fixed = same_head (layout 0) b 0 m 0 inactive (eval_bag h v t) (eval_bag h (plain h content) u)
            (omega arith) bound (omega arith) bound2 same in
            inl (nothing_own fixed.leaves fixed.inactive)
      ]

-- an accepted proof of some elements agrees with the tree at each slot, or two strings cross; which nodes are grafted may depend on the number of leaves
module _ (d N : ℕ) (h : HashFunction) (sized : IsSized d h) (other : N ≢ 8 + d) (S : Shape) (L : Laws S)
    (position : ℕ → ℕ → ℕ) (grafted : ℕ → ℕ → ℕ → Bool) (b : Bagging) (proof : Proof) (start : ℕ) (claim : Content)
    (wide : AreDigests d proof.digests)
    (chunked : AreChunks N (record { shape = S; position = position; grafted = grafted proof.leaves }) proof.leaves (apart start (start + length claim.elements)) claim.chunk)
    (content : Content)
    (chunks : AreChunks N (record { shape = S; position = position; grafted = grafted (length content.elements) }) (length content.elements) never content.chunk)
    (inactive : ℕ) (few : length content.elements ≤ 2 ^ 62)
    (peaks : inactive ≤ length (S.peaks (length content.elements))) where
  abbrev pub over : ℕ → Layout
  over n = record { shape = S; position = position; grafted = grafted n }

  pub record RangeAgrees : Type 0 where
    pub leaves_are : proof.leaves ≡ length content.elements
    pub inactive_are : proof.inactive ≡ inactive
    pub agree : AgreeBag (check_values h (over proof.leaves) b proof start claim)
        (own_values h (over proof.leaves) b content proof.leaves proof.inactive start (start + length claim.elements))
        (check_bag (over proof.leaves) start (start + length claim.elements) b proof.leaves proof.inactive)

  pub range_agrees : CountsFit h (over proof.leaves) b proof start claim
      → h (check_string h (over proof.leaves) b proof start claim)
      ≡ tree_root h (over (length content.elements)) b content inactive → RangeAgrees ⊎ Cross h (check_strings h
      (over proof.leaves) b proof start claim) (tree_strings h (over (length content.elements)) b content inactive)
  range_agrees ok root_is =
      let n = proof.leaves in
      let m = length content.elements in
      let i = proof.inactive in
      let v = check_values h (over n) b proof start claim in
      let t = check_bag (over n) start (start + length claim.elements) b n i in
      let u = tree_bag (over m) b m inactive in
      let few_n = ok.few in
      let few_i = ok.peaks in
      let bound : n < 2 ^ 64 = omega arith in
      let bound2 : m < 2 ^ 64 = omega arith in
      let bound3 : i < 2 ^ 64 = omega (arith, length_at_most (S.peaks n), L.sum n) in
      let bound4 : inactive < 2 ^ 64 = omega (arith, length_at_most (S.peaks m), L.sum m) in
      elim (heads h (check_string h (over n) b proof start claim) (tree_string h (over m) b content inactive)
      (strings_bag h v t) (strings_bag h (plain h content) u) root_is) [
        | inr c ↦ inr c
        | inl same ↦
            let fixed = same_head (over n) b n m i inactive (eval_bag h v t)
            (eval_bag h (plain h content) u) bound bound2 bound3 bound4 same in
            let moved : tree_bag (over n) b n i ≡ u =
            ap (λ x. tree_bag (over x) b x i) fixed.leaves ∙ ap (λ k. tree_bag (over m) b m k) fixed.inactive in
            let chunks' : AreChunks N (over n) n never content.chunk =
            subst (λ x. AreChunks N (over x) x never content.chunk) (sym fixed.leaves) chunks in
            elim (core d N h sized other (over n) L b proof start claim wide chunked content chunks' (fixed.rest
            ∙ ap (eval_bag h (plain h content)) (sym moved))) [
              | inl a ↦ inl (record { leaves_are = fixed.leaves; inactive_are = fixed.inactive; agree = a })
              | inr c ↦ inr (cross_wider (λ x q. Contains-append_right (check_string h (over n) b proof start claim
                  ∷ []) _ x q) (λ x q. Contains-append_right (tree_string h (over m) b content inactive ∷ []) _ x
                  (subst (λ z. Contains (strings_bag h (plain h content) z) x) moved q)) c)
            ]
      ]

  pub some_own : CountsFit h (over proof.leaves) b proof start claim → RangeAgrees
      → IsOwn h (over (length content.elements)) b proof start claim content inactive
  some_own ok r =
      subst (λ k. IsOwn h (over k) b proof start claim content inactive) r.leaves_are
      (agreed h (over proof.leaves) L b proof start claim content inactive ok r.leaves_are r.inactive_are r.agree)

  -- no elements
  Outcome : ℕ → ℕ → List (List ℕ) → ℕ → List (List ℕ) → Type 0
  Outcome n i ds at es =
      let p : Proof = record { leaves = n; inactive = i; digests = ds } in
      let c : Content = record { elements = es; chunk = claim.chunk } in
      IsOwn h (over (length content.elements)) b p at c content inactive ⊎ Cross h (check_strings h (over n) b p at c)
      (tree_strings h (over (length content.elements)) b content inactive)

  none_own : IsEmptyProof h (over proof.leaves) b proof start claim
      → empty_root h (over proof.leaves) b ≡ tree_root h (over (length content.elements)) b content inactive
      → IsOwn h (over (length content.elements)) b proof start claim content inactive ⊎ Cross h (check_strings h
      (over proof.leaves) b proof start claim) (tree_strings h (over (length content.elements)) b content inactive)
  unfolding Outcome
  none_own ok root_is =
      let e0 : Outcome 0 0 [] 0 [] = nothing_sound h S L position grafted b claim.chunk content inactive few peaks root_is in
      let e1 = subst (λ n. Outcome n 0 [] 0 []) (sym ok.no_leaves) e0 in
      let e2 = subst (λ i. Outcome proof.leaves i [] 0 []) (sym ok.no_inactive) e1 in
      let e3 = subst (λ ds. Outcome proof.leaves proof.inactive ds 0 []) (sym ok.no_digests) e2 in
      let e4 = subst (λ at. Outcome proof.leaves proof.inactive proof.digests at []) (sym ok.no_start) e3 in
      subst (λ es. Outcome proof.leaves proof.inactive proof.digests start es) (sym ok.none) e4

  pub range_sound : IsAccepted h (over proof.leaves) b proof start claim
      (tree_root h (over (length content.elements)) b content inactive)
      → IsOwn h (over (length content.elements)) b proof start claim content inactive ⊎ Cross h (check_strings h
      (over proof.leaves) b proof start claim) (tree_strings h (over (length content.elements)) b content inactive)
  range_sound (inl ok) = elim (range_agrees ok.0 ok.1) [ inl r ↦ inl (some_own ok.0 r) | inr c ↦ inr c ]
  range_sound (inr ok) = none_own ok.0 ok.1
