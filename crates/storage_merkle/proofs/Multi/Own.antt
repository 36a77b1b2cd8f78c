-- The own multi proof of a tree is accepted.
use Rattle.std.proofs.Common.{◌≡◌, ℕ, ◌+◌, ◌<◌, ◌≤◌, ◌^◌, List, [], ◌∷◌, ◌++◌, length, get_or, Bool, true, false, ◌&&◌, ◌||◌, refl, ap, ◌∙◌, arith, leb, ltb, leb-true, eqb, eqb-true, eq-eqb, if◌then◌else◌, not}
use Rattle.std.proofs.lemmas.Bool.{ltb-true}
use Rattle.std.proofs.lemmas.List.{length-map}
use Rattle.storage_codec.specs.Digests.{HashFunction}
use Rattle.storage_merkle.specs.Calc.{Site}
use Rattle.storage_merkle.specs.declared.merkle.bagging.Bagging.{Bagging}
use Rattle.storage_merkle.specs.Trees.{Layout, Content, peaks_of, folded, unfolded, root_head, tree_root}
use Rattle.storage_merkle.specs.RangeProofs.{sites_in}
use Rattle.storage_merkle.specs.Multi.{Claim, locations, touched, untouched, Ascend, element_at, Stand, needed_sites, own_multi_proof, multi_values, multi_bag, multi_string, ClaimsFit, IsMultiAccepted}
use Rattle.storage_merkle.proofs.Distinct.{times, times-in, times-by_position}
use Rattle.storage_merkle.proofs.RangeSound.{all_any, folded-all}
use Rattle.storage_merkle.proofs.RangeOwn.{and-true, found, bag_eval, bag_of, parts_of}
use Rattle.storage_merkle.proofs.Multi.Sound.{tree_values, cut-prunes}

not-false : (b : Bool) → not b ≡ false → b ≡ true
not-false true e = refl
not-false false e = cc

at_claim : (list : List (List ℕ)) (cs : List Claim) → Stand list cs → (a : ℕ) → touched (locations cs) a 0 ≡ true
    → element_at cs a ≡ get_or list a []
at_claim list [] st a t = cc
at_claim list (c ∷ cs) st a t =
    go (eqb c.location a) refl (leb a c.location && ltb c.location (a + 2 ^ 0)) refl t (at_claim list cs st.2 a)
  where
    go : (e : Bool) → eqb c.location a ≡ e → (b : Bool) → (leb a c.location && ltb c.location (a + 2 ^ 0)) ≡ b
        → (b || touched (locations cs) a 0) ≡ true → (touched (locations cs) a 0 ≡ true
        → element_at cs a ≡ get_or list a []) → (if e then c.element else element_at cs a) ≡ get_or list a []
    go true e b f u rest = st.1 ∙ ap (λ j. get_or list j []) (eqb-true c.location a e)
    go false e false f u rest = rest u
    go false e true f u rest =
        let r = and-true (leb a c.location) (ltb c.location (a + 2 ^ 0)) f in
        let l : a ≤ c.location = leb-true a c.location r.0 in
        let m : c.location < a + 2 ^ 0 = ltb-true c.location (a + 2 ^ 0) r.1 in
        let same : c.location ≡ a = omega arith in
        absurd (let t : eqb c.location a ≡ true = eq-eqb c.location a same in cc)

module _ (h : HashFunction) (T : Layout) (b : Bagging) (claims : List Claim) (content : Content) (inactive : ℕ) where
  abbrev n : ℕ
  n = length content.elements

  own_fits : n ≤ 2 ^ 62 → inactive ≤ length (T.shape.peaks n) → Ascend 0 n (locations claims)
      → ClaimsFit h T b (own_multi_proof h T content inactive (locations claims)) claims content.chunk
  own_fits few peaks up = record { few = few; peaks = peaks; ascending = up; count = length-map _ _ }

  own_root : Stand content.elements claims
      → h (multi_string h T b (own_multi_proof h T content inactive (locations claims)) claims content.chunk)
      ≡ tree_root h T b content inactive
  own_root stand =
      let v = multi_values h T b (own_multi_proof h T content inactive (locations claims)) claims content.chunk in
      let w = tree_values h T content in
      let cut = untouched (locations claims) in
      let ps = peaks_of T n in
      let xs = folded b inactive ps in
      let ys = unfolded b inactive ps in
      let agree : (s : Site) → 1 ≤ times s (sites_in T cut xs) + times s (sites_in T cut ys) → v.digest s ≡ w.digest s =
      λ s l. found (h []) w.digest (needed_sites T (locations claims) n) s
      (omega (
        arith,
        times-by_position T s (sites_in T cut ps),
        times-in T cut s xs ys,
        ap (λ qs. times s (sites_in T cut qs)) (folded-all b inactive ps),
      )) in
      let elements : (a : ℕ) → cut a 0 ≡ false → v.element a ≡ w.element a =
      λ a c. at_claim content.elements claims stand a (not-false _ c) in
      let Q : ℕ → ℕ → Type 0 = λ a k. Unit {0} in
      let a = bag_of v w _ _
      (parts_of v w T cut Q (λ a k q. (tt, tt)) elements (λ a k q out t. refl) xs (all_any xs)
      (λ s l. agree s (omega arith)))
      (parts_of v w T cut Q (λ a k q. (tt, tt)) elements (λ a k q out t. refl) ys (all_any ys)
      (λ s l. agree s (omega arith))) in
      ap (λ x. h (root_head T b n inactive ++ x)) (bag_eval v w h (multi_bag h T b (own_multi_proof h T content inactive
      (locations claims)) claims content.chunk) a ∙ (cut-prunes h T content cut xs ys).same)

some_accepted : (h : HashFunction) (T : Layout) (b : Bagging) (claims : List Claim) (content : Content) (inactive : ℕ)
    → 0 < length claims → ClaimsFit h T b (own_multi_proof h T content inactive (locations claims)) claims content.chunk
    → h (multi_string h T b (own_multi_proof h T content inactive (locations claims)) claims content.chunk)
    ≡ tree_root h T b content inactive → IsMultiAccepted h T b
    (own_multi_proof h T content inactive (locations claims)) claims content.chunk (tree_root h T b content inactive)
some_accepted h T b [] content inactive some fit root_is = absurd (omega arith)
some_accepted h T b (c ∷ cs) content inactive some fit root_is = (fit, root_is)

pub own_multi_accepted : (h : HashFunction) (T : Layout) (b : Bagging) (claims : List Claim) (content : Content)
    (inactive : ℕ) → length content.elements ≤ 2 ^ 62 → inactive ≤ length (T.shape.peaks (length content.elements))
    → 0 < length claims → Ascend 0 (length content.elements) (locations claims) → Stand content.elements claims
    → IsMultiAccepted h T b (own_multi_proof h T content inactive (locations claims)) claims content.chunk
    (tree_root h T b content inactive)
own_multi_accepted h T b claims content inactive few peaks some up stand =
    some_accepted h T b claims content inactive some (own_fits h T b claims content inactive few peaks up)
    (own_root h T b claims content inactive stand)
