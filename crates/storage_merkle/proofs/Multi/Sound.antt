-- An accepted multi proof is the tree's own, or two strings cross.
use Rattle.std.proofs.Common.{◌≡◌, ◌≢◌, ℕ, ◌+◌, ◌<◌, ◌≤◌, ◌^◌, List, [], ◌∷◌, ◌++◌, length, map, get_or, Bool, true, false, ◌||◌, ◌⊎◌, inl, inr, refl, sym, ap, ap₂, ◌∙◌, arith, subst, Option, None, eqb, le-leb, eq-eqb, ne_eqb, not, append-nil}
use Rattle.std.proofs.lemmas.Bool.{lt-ltb}
use Rattle.std.proofs.lemmas.List.{map-append}
use Rattle.std.proofs.lemmas.List.Elements.{Contains-append_right}
use Rattle.storage_codec.specs.Digests.{HashFunction, Cross, IsSized}
use Rattle.storage_merkle.specs.Shape.{Shape, Laws}
use Rattle.storage_merkle.specs.Laws.Shape.{length_at_most, no_peaks}
use Rattle.storage_merkle.specs.Calc.{Site, front, back, node, Calc, Values}
use Rattle.storage_merkle.specs.declared.merkle.bagging.Bagging.{Bagging}
use Rattle.storage_merkle.specs.declared.merkle.bagging.Bagging.TheVariants.{ForwardFold, BackwardFold}
use Rattle.storage_merkle.specs.Trees.{Layout, Content, Peak, places, peaks_of, folded, unfolded, bag, eval_bag, strings_bag, part, whole_peak, tree_bag, plain, node_calc, never, root_head, tree_string, tree_strings, tree_root, empty_root}
use Rattle.storage_merkle.specs.RangeProofs.{Proof, sites_in, by_position, AreDigests}
use Rattle.storage_merkle.specs.Chunked.{AreChunks}
use Rattle.storage_merkle.specs.Laws.Calc.{IsWide, eval_length, cross_wider, heads, same_head}
use Rattle.storage_merkle.specs.Multi.{Claim, locations, touched, untouched, Ascend, element_at, Stand, needed_sites, tree_digest, own_multi_proof, multi_values, multi_bag, multi_string, multi_strings, ClaimsFit, default_proof, IsMultiAccepted, IsMultiOwn, IsMultiProved}
use Rattle.storage_merkle.proofs.Prune.{PrunesBag, prunes_bag}
use Rattle.storage_merkle.proofs.Agreeing.{AgreeAll, AgreeBag, agree_leaf, agree_bag, agree_parts, agree_sites_in, agree_by_position}
use Rattle.storage_merkle.proofs.Distinct.{times, times-by_position, each_given_once, read_all}
use Rattle.storage_merkle.proofs.Chunked.{cut_chunked, uncut}
use Rattle.storage_merkle.proofs.RangeSound.{all_any, law_bag, look_up-wide, folded-all}
use Rattle.storage_merkle.proofs.RangeOwn.{append_of}

-- what stands in a tree, at its nodes too
abbrev pub tree_values : HashFunction → Layout → Content → Values
tree_values h T content =
    record { digest = tree_digest h T content; element = λ j. get_or content.elements j []; chunk = content.chunk }

pub tree_values-wide : (d : ℕ) (h : HashFunction) (T : Layout) (content : Content) → IsSized d h
    → IsWide d (tree_values h T content)
tree_values-wide d h T content sized front = sized []
tree_values-wide d h T content sized back = sized []
tree_values-wide d h T content sized (node a k) =
    eval_length d h (plain h content) sized (λ s. sized []) (node_calc T never k a)

-- a calculation with some nodes given against the tree's
pub cut-prunes : (h : HashFunction) (T : Layout) (content : Content) (cut : ℕ → ℕ → Bool) (xs ys : List Peak)
    → PrunesBag h (tree_values h T content) (plain h content) (bag (map (part T cut) xs) (map (part T cut) ys))
    (bag (map (whole_peak T) xs) (map (whole_peak T) ys))
cut-prunes h T content cut xs ys =
    let v = tree_values h T content in
    let w = plain h content in
    let p = prunes_bag h v w T cut (λ a. refl) (λ j. refl) (λ a k. refl) [] xs ys [] (λ q rest e. absurd (cc))
    (λ q rest e. absurd (cc)) in
    let F : List Calc → List Peak → Type 0 =
    λ us vs. PrunesBag h v w (bag (map (part T cut) xs) us) (bag (map (whole_peak T) xs) (map (whole_peak T) vs)) in
    subst (λ us. F us ys) (append-nil (map (part T cut) ys)) (subst (F (map (part T cut) ys ++ [])) (append-nil ys) p)

or_right : (x y : Bool) → y ≡ true → (x || y) ≡ true
or_right true y e = refl
or_right false y e = e

-- claims that agree with a list at each claimed location stand in it
module _ (list : List (List ℕ)) (n : ℕ) (all : List Claim)
    (agree : (j : ℕ) → j < n → ((a k : ℕ) → a ≤ j → j < a + 2 ^ k → touched (locations all) a k ≡ true) → element_at all j ≡ get_or list j [])
    (size : n ≡ length list) where
  stand_from : (first : ℕ) (cs : List Claim) → Ascend first n (locations cs)
      → ((j : ℕ) → first ≤ j → element_at all j ≡ element_at cs j)
      → ((a k : ℕ) → touched (locations cs) a k ≡ true → touched (locations all) a k ≡ true) → Stand list cs
  stand_from first [] up here hit = tt
  stand_from first (c ∷ cs) up here hit =
      let from : first ≤ c.location = up.0 in
      let below : c.location < n = up.1 in
      let own : element_at (c ∷ cs) c.location ≡ c.element = rw (eq-eqb c.location c.location refl) refl in
      let hits = λ (a : ℕ) (k : ℕ) (l : a ≤ c.location) (u : c.location < a + 2 ^ k). let t : touched
      (locations (c ∷ cs)) a k ≡ true = rw (le-leb a c.location l, lt-ltb c.location (a + 2 ^ k) u) refl in
      hit a k t in (
        omega arith,
        sym own ∙ sym (here c.location from) ∙ agree c.location below hits,
        stand_from (c.location + 1) cs up.2
            (λ j l. let ne : c.location ≢ j = λ e. absurd (omega arith) in
            let e : eqb c.location j ≡ false = ne_eqb c.location j ne in here j (omega arith) ∙ rw e refl)
            (λ a k t. hit a k (or_right _ _ t)),
      )

module _ (d N : ℕ) (h : HashFunction) (sized : IsSized d h) (other : N ≢ 8 + d) (S : Shape) (L : Laws S)
    (position : ℕ → ℕ → ℕ) (grafted : ℕ → ℕ → ℕ → Bool) (b : Bagging) (proof : Proof) (claims : List Claim) (chunk : ℕ → List ℕ)
    (wide : AreDigests d proof.digests)
    (chunked : AreChunks N (record { shape = S; position = position; grafted = grafted proof.leaves }) proof.leaves (untouched (locations claims)) chunk)
    (content : Content)
    (chunks : AreChunks N (record { shape = S; position = position; grafted = grafted (length content.elements) }) (length content.elements) never content.chunk)
    (inactive : ℕ) (few : length content.elements ≤ 2 ^ 62)
    (peaks : inactive ≤ length (S.peaks (length content.elements))) where
  abbrev over : ℕ → Layout
  over n = record { shape = S; position = position; grafted = grafted n }

  abbrev T : Layout
  T = over proof.leaves

  abbrev v : Values
  v = multi_values h T b proof claims chunk

  abbrev w : Values
  w = tree_values h T content

  abbrev cut : ℕ → ℕ → Bool
  cut = untouched (locations claims)

  abbrev t : Option Calc
  t = multi_bag h T b proof claims chunk

  record_is : (m j : ℕ) → proof.leaves ≡ m → proof.inactive ≡ j → m ≡ length content.elements
      → proof.digests ≡ map (tree_digest h T content) (needed_sites T (locations claims) proof.leaves)
      → proof ≡ own_multi_proof h (over m) content j (locations claims)
  record_is m j en ei em ed =
      let F : ℕ → ℕ → Proof = λ n i. record {
        leaves = n;
        inactive = i;
        digests = map (tree_digest h (over n) content) (needed_sites (over n) (locations claims) n);
      } in
      let one : proof ≡ F proof.leaves proof.inactive =
      ap (λ ds. record { leaves = proof.leaves; inactive = proof.inactive; digests = ds }) ed in
      let last : F m j ≡ own_multi_proof h (over m) content j (locations claims) =
      ap (λ z. record {
        leaves = z;
        inactive = j;
        digests = map (tree_digest h (over m) content) (needed_sites (over m) (locations claims) z);
      }) em in
      one ∙ ap₂ F en ei ∙ last

  agreed : ClaimsFit h T b proof claims chunk → proof.leaves ≡ length content.elements → proof.inactive ≡ inactive
      → AgreeBag v w t → IsMultiOwn h (over (length content.elements)) proof claims content inactive
  agreed ok en ei a =
      let n = proof.leaves in
      let ps = peaks_of T n in
      let xs = folded b proof.inactive ps in
      let ys = unfolded b proof.inactive ps in
      let both = agree_bag v w (map (part T cut) xs) (map (part T cut) ys) a in
      let joined : AgreeAll v w (map (part T cut) ps) =
      subst (λ qs. AgreeAll v w (map (part T cut) qs)) (folded-all b proof.inactive ps)
      (subst (AgreeAll v w) (sym (map-append (part T cut) xs ys)) (append_of v w _ _ both.0 both.1)) in
      let at = agree_by_position v w T (sites_in T cut ps) (agree_sites_in v w T cut ps joined) in
      let once : (s : Site) → times s (needed_sites T (locations claims) n) ≤ 1 =
      λ s. omega (arith, times-by_position T s (sites_in T cut ps), each_given_once T cut (S.peaks n) s) in
      record {
        proof_is = record_is (length content.elements) inactive en ei refl
            (read_all (h []) (needed_sites T (locations claims) n) proof.digests w v.element v.chunk ok.count once at);
        elements_stand = stand_from content.elements n claims
            (λ j l hit. agree_parts v w T cut j (element_at claims j ≡ get_or content.elements j []) (λ p. Unit {0})
            (λ p q pl pu g. agree_leaf v w T cut j (λ c k cl cu. ap not (hit c k cl cu)) p.height p.first pl pu g) 0
            (S.peaks n) (all_any ps) (omega arith) (omega (arith, L.sum n)) joined)
            en 0 claims ok.ascending (λ j l. refl) (λ c k e. e);
      }

  pub claims_sound : ClaimsFit h T b proof claims chunk
      → h (multi_string h T b proof claims chunk) ≡ tree_root h (over (length content.elements)) b content inactive
      → IsMultiOwn h (over (length content.elements)) proof claims content inactive ⊎ Cross h
      (multi_strings h T b proof claims chunk) (tree_strings h (over (length content.elements)) b content inactive)
  claims_sound ok root_is =
      let n = proof.leaves in
      let m = length content.elements in
      let i = proof.inactive in
      let u = tree_bag (over m) b m inactive in
      let few_n = ok.few in
      let few_i = ok.peaks in
      let bound : n < 2 ^ 64 = omega arith in
      let bound2 : m < 2 ^ 64 = omega arith in
      let bound3 : i < 2 ^ 64 = omega (arith, length_at_most (S.peaks n), L.sum n) in
      let bound4 : inactive < 2 ^ 64 = omega (arith, length_at_most (S.peaks m), L.sum m) in
      elim (heads h (multi_string h T b proof claims chunk) (tree_string h (over m) b content inactive)
      (strings_bag h v t) (strings_bag h (plain h content) u) root_is) [
        | inr c ↦ inr c
        | inl same ↦
            let fixed = same_head T b n m i inactive (eval_bag h v t)
            (eval_bag h (plain h content) u) bound bound2 bound3 bound4 same in
            let moved : tree_bag T b n i ≡ u =
            ap (λ x. tree_bag (over x) b x i) fixed.leaves ∙ ap (λ k. tree_bag (over m) b m k) fixed.inactive in
            let p = cut-prunes h T content cut (folded b i (peaks_of T n)) (unfolded b i (peaks_of T n)) in
            let q : PrunesBag h w (plain h content) t u = subst (λ x. PrunesBag h w (plain h content) t x) moved p in
            let chunks' : AreChunks N T n cut content.chunk = uncut N T n cut content.chunk
            (subst (λ x. AreChunks N (over x) x never content.chunk) (sym fixed.leaves) chunks) in
            elim (law_bag d N h v w sized other (look_up-wide d (h []) (sized []) (needed_sites T (locations claims) n)
            proof.digests wide) (tree_values-wide d h T content sized) t
            (cut_chunked N v T n cut (L.aligned n) chunked b i) (cut_chunked N w T n cut (L.aligned n) chunks' b i)
            (fixed.rest ∙ sym q.same)) [
              | inl a ↦ inl (agreed ok fixed.leaves fixed.inactive a)
              | inr c ↦
                  inr (cross_wider (λ x r. Contains-append_right (multi_string h T b proof claims chunk ∷ []) _ x r)
                  (λ x r. Contains-append_right (tree_string h (over m) b content inactive ∷ []) _ x (q.fewer x r)) c)
            ]
      ]

-- no claims: the check of some, with none
module _ (h : HashFunction) (T : Layout) (L : Laws T.shape) (b : Bagging) (chunk : ℕ → List ℕ) where
  no_bag : (c : Bagging) (ks : List ℕ) → ks ≡ [] → bag (map (part T (untouched [])) (folded c 0 (places 0 ks)))
      (map (part T (untouched [])) (unfolded c 0 (places 0 ks))) ≡ None
  no_bag ForwardFold ks e = rw e refl
  no_bag BackwardFold ks e = rw e refl

  pub none_fit : ClaimsFit h T b default_proof [] chunk
  none_fit = record {
    few = omega arith;
    peaks = omega arith;
    ascending = tt;
    count = ap (λ ks. length (by_position T (sites_in T (untouched []) (places 0 ks)))) (sym (no_peaks T.shape L));
  }

  pub none_root : h (multi_string h T b default_proof [] chunk) ≡ empty_root h T b
  none_root = ap (λ t. h (root_head T b 0 0 ++ eval_bag h (multi_values h T b default_proof [] chunk) t))
      (no_bag b (T.shape.peaks 0) (no_peaks T.shape L))

fit_and_rooted : (h : HashFunction) (T : Layout) → Laws T.shape → (b : Bagging) (proof : Proof)
    (claims : List Claim) (chunk : ℕ → List ℕ) (root : List ℕ) → IsMultiAccepted h T b proof claims chunk root
    → ClaimsFit h T b proof claims chunk × (h (multi_string h T b proof claims chunk) ≡ root)
fit_and_rooted h T L b proof [] chunk root ok =
    let F : Proof → Type 0 = λ p. ClaimsFit h T b p [] chunk × (h (multi_string h T b p [] chunk) ≡ root) in
    subst F (sym ok.0) (none_fit h T L b chunk, none_root h T L b chunk ∙ ok.1)
fit_and_rooted h T L b proof (c ∷ cs) chunk root ok = ok

pub multi_sound : (d : ℕ) (h : HashFunction) → IsSized d h → (T : Layout) → Laws T.shape → (b : Bagging)
    (proof : Proof) (claims : List Claim) (chunk : ℕ → List ℕ) (root : List ℕ) → AreDigests d proof.digests
    → IsMultiAccepted h T b proof claims chunk root → IsMultiProved d h T b proof claims chunk root
multi_sound d h sized T L b proof claims chunk root wide accepted N grafted same other chunked content inactive chunks
    few peaks at =
    let over : ℕ → Layout = λ n. record { shape = T.shape; position = T.position; grafted = grafted n } in
    let m = length content.elements in
    let ok = fit_and_rooted h T L b proof claims chunk root accepted in
    let ok' : ClaimsFit h (over proof.leaves) b proof claims chunk
    × (h (multi_string h (over proof.leaves) b proof claims chunk) ≡ root) =
    subst (λ U. ClaimsFit h U b proof claims chunk × (h (multi_string h U b proof claims chunk) ≡ root)) same ok in
    subst (λ U. IsMultiOwn h (over m) proof claims content inactive
    ⊎ Cross h (multi_strings h U b proof claims chunk) (tree_strings h (over m) b content inactive)) (sym same)
    (claims_sound d N h sized other T.shape L T.position grafted b proof claims chunk wide
    (subst (λ U. AreChunks N U proof.leaves (untouched (locations claims)) chunk) same chunked) content chunks inactive
    few peaks ok'.0 (ok'.1 ∙ sym at))
