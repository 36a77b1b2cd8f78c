-- The pinned digests and the digests of a proof: what a check compares is what is to match.
use Rattle.std.proofs.Common.{◌≡◌, ◌≢◌, ℕ, zero, suc, ◌+◌, ◌-◌, ◌<◌, ◌≤◌, ◌^◌, ◌↔◌, List, [], ◌∷◌, ◌++◌, All, length, map, take, drop, Bool, true, false, if◌then◌else◌, refl, sym, ap, ◌∙◌, arith, subst, leb, Option}
use Rattle.std.proofs.lemmas.List.{length-map}
use Rattle.std.proofs.lemmas.List.Elements.{All-nil, All-cons}
use Rattle.storage_codec.specs.Digests.{HashFunction}
use Rattle.storage_merkle.specs.Shape.{Shape, Laws, size}
use Rattle.storage_merkle.specs.Calc.{Site, front, back, node, given, leaf, be8, Values, eval}
use Rattle.storage_merkle.specs.declared.merkle.bagging.Bagging.{Bagging}
use Rattle.storage_merkle.specs.Trees.{Layout, Content, Peak, places, peaks_of, part, node_calc, join_calc, ungrafted, folded, bag}
use Rattle.storage_merkle.specs.RangeProofs.{Proof, check_values, sites, apart, leading, not_leading, up_to, sites_of, sites_in, place_in, by_position, fold_digest}
use Rattle.storage_merkle.specs.Hashing.{folded_forward}
use Rattle.storage_merkle.specs.Laws.Hashing.{eval-forward}
use Rattle.storage_merkle.specs.Hashers.{forward_of}
use Rattle.storage_merkle.specs.Plans.{InTree}
use Rattle.storage_merkle.specs.PlanParts.{digest_or, peaks_by}
use Rattle.storage_merkle.specs.Rests.{EachPeak, peaks_from, IsPast}
use Rattle.storage_merkle.specs.Siblings.{sibling_sites}
use Rattle.storage_merkle.specs.CheckParts.{front_before, top_sites}
use Rattle.storage_merkle.specs.Pinned.{peak_sites, pinned_sites, pinned_values, pinned_cut, recomputed, Match}
use Rattle.storage_merkle.specs.PinnedParts.{AgreesWith, AreNodesAt, as_list, digest_before}
use Rattle.storage_merkle.proofs.Walks.{all_peaks, in_tree_left, in_tree_right, peaks_in_tree}
use Rattle.storage_merkle.proofs.Siblings.{positions, sites-join}
use Rattle.storage_merkle.proofs.Check.Roots.{Walk, proof_over, claim, Fits, tops, siblings, split, counted, tops_read, siblings_read}
use Rattle.storage_merkle.proofs.Pinned.Match.{match_append}

-- ---- siblings are nodes of the tree

module _ (S : Shape) (L : Laws S) (n : ℕ) where
  abbrev AreIn : List Site → Type 0
  AreIn [] = Unit {0}
  AreIn (front ∷ ss) = ⊥
  AreIn (back ∷ ss) = ⊥
  AreIn (node a k ∷ ss) = InTree S n a k × AreIn ss

  in_append : (ss ts : List Site) → AreIn ss → AreIn ts → AreIn (ss ++ ts)
  in_append [] ts p q = q
  in_append (front ∷ ss) ts p q = absurd p
  in_append (back ∷ ss) ts p q = absurd p
  in_append (node a k ∷ ss) ts p q = (p.0, in_append ss ts p.1 q)

  in_place : (a k : ℕ) (ss : List Site) → InTree S n a k → AreIn ss → AreIn (place_in (ungrafted S) (node a k) ss)
  in_place a k [] p q = (p, tt)
  in_place a k (front ∷ ss) p q = absurd q
  in_place a k (back ∷ ss) p q = absurd q
  in_place a k (node b j ∷ ss) p q =
      elim (leb (S.position a k) (S.position b j)) as (λ c.
      AreIn (if c then node a k ∷ node b j ∷ ss else node b j ∷ place_in (ungrafted S) (node a k) ss)) [
        | true ↦ (p, q)
        | false ↦ (q.0, in_place a k ss p q.1)
      ]

  in_sorted : (ss : List Site) → AreIn ss → AreIn (by_position (ungrafted S) ss)
  in_sorted [] p = tt
  in_sorted (front ∷ ss) p = absurd p
  in_sorted (back ∷ ss) p = absurd p
  in_sorted (node a k ∷ ss) p = in_place a k (by_position (ungrafted S) ss) p.0 (in_sorted ss p.1)

  in_node : (cut : ℕ → ℕ → Bool) (k a : ℕ) → InTree S n a k → AreIn (sites_of (node_calc (ungrafted S) cut k a))
  in_node cut zero a t =
      elim (cut a zero) as (λ b. AreIn (sites_of
      (if b then given (node a zero) else leaf (be8 (S.position a zero)) a))) [ true ↦ (t, tt) | false ↦ tt ]
  in_node cut (suc k) a t =
      let less : suc k - 1 ≡ k = omega arith in
      let some : suc k ≢ 0 = λ z. absurd (omega arith) in
      let l = rw less at (in_tree_left S L n a (suc k) t some) in
      let r = rw less at (in_tree_right S L n a (suc k) t some) in
      let left = node_calc (ungrafted S) cut k a in
      let right = node_calc (ungrafted S) cut k (a + 2 ^ k) in
      elim (cut a (suc k)) as (λ b.
      AreIn (sites_of (if b then given (node a (suc k)) else join_calc (ungrafted S) a (suc k) left right))) [
        | true ↦ (t, tt)
        | false ↦ subst AreIn (sym (sites-join (ungrafted S) a (suc k) left right))
            (in_append (sites_of left) (sites_of right) (in_node cut k a l) (in_node cut k (a + 2 ^ k) r))
      ]

  abbrev PeaksIn : List Peak → Type 0
  PeaksIn ps = EachPeak (InTree S n) ps

  later_in : (low : ℕ) (ps : List Peak) → PeaksIn ps → PeaksIn (not_leading low ps)
  later_in low [] p = tt
  later_in low (q ∷ ps) p =
      elim (leb (q.first + 2 ^ q.height) low) as (λ b.
      PeaksIn (if b then not_leading low ps else q ∷ ps)) [ true ↦ later_in low ps p.1 | false ↦ p ]

  earlier_in : (high : ℕ) (ps : List Peak) → PeaksIn ps → PeaksIn (up_to high ps)
  earlier_in high [] p = tt
  earlier_in high (q ∷ ps) p =
      elim (leb high q.first) as (λ b. PeaksIn (if b then [] else q ∷ up_to high ps)) [
        | true ↦ tt
        | false ↦
            (p.0, earlier_in high ps p.1)
      ]

  sites_of_in : (cut : ℕ → ℕ → Bool) (ps : List Peak) → PeaksIn ps → AreIn (sites_in (ungrafted S) cut ps)
  sites_of_in cut [] p = tt
  sites_of_in cut (q ∷ ps) p =
      in_append (sites_of (part (ungrafted S) cut q)) _ (in_node cut q.height q.first p.0) (sites_of_in cut ps p.1)

  siblings_in : (low high : ℕ) → AreIn (sibling_sites (ungrafted S) n low high)
  siblings_in low high =
      let all = peaks_in_tree S L n 0 n (all_peaks S L n) in
      in_sorted _ (sites_of_in (apart low high) _ (earlier_in high _ (later_in low _ all)))

  low_positions : (ss : List Site) → AreIn ss → All (λ p. p < size S n) (positions (ungrafted S) ss)
  low_positions [] p = All-nil (λ q. q < size S n)
  low_positions (front ∷ ss) p = absurd p
  low_positions (back ∷ ss) p = absurd p
  low_positions (node a k ∷ ss) p = All-cons (λ q. q < size S n) _ _ (let i = p.0 in i.inside) (low_positions ss p.1)

  nodes_at : (ss : List Site) → AreIn ss → AreNodesAt S n (positions (ungrafted S) ss) ss
  nodes_at [] p = tt
  nodes_at (front ∷ ss) p = absurd p
  nodes_at (back ∷ ss) p = absurd p
  nodes_at (node a k ∷ ss) p = let i = p.0 in (record { aligned = i.aligned; at = refl }, i.inside, nodes_at ss p.1)

  module _ (low high : ℕ) (ps : List ℕ)
      (found : ps ≡ positions (ungrafted S) (sibling_sites (ungrafted S) n low high)) where
    pub siblings_low : All (λ p. p < size S n) ps
    siblings_low = subst (All (λ p. p < size S n)) (sym found)
        (low_positions (sibling_sites (ungrafted S) n low high) (siblings_in low high))

    pub siblings_at : AreNodesAt S n ps (sibling_sites (ungrafted S) n low high)
    siblings_at = subst (λ qs. AreNodesAt S n qs (sibling_sites (ungrafted S) n low high)) (sym found)
        (nodes_at (sibling_sites (ungrafted S) n low high) (siblings_in low high))

-- ---- as many pinned digests as peaks

length-sites : (s : ℕ) (ks : List ℕ) → length (peak_sites (places s ks)) ≡ length ks
length-sites s [] = refl
length-sites s (k ∷ ks) = ap suc (length-sites (s + 2 ^ k) ks)

pub pinned_counted : (S : Shape) (h : HashFunction) (T : Layout) → T.shape ≡ S
    → (b : Bagging) (proof : Proof) (start : ℕ) (claim : Content) (pinned : List (List ℕ))
    → length (pinned_sites h T b proof start claim pinned) ≡ length (S.peaks start)
pinned_counted S h T same b proof start claim pinned =
    length-sites 0 (T.shape.peaks start) ∙ ap (λ U. length (U.peaks start)) same

-- ---- the fold in front

module _ (h : HashFunction) (v : Values) (T : Layout) (cut : ℕ → ℕ → Bool) where
  abbrev digest_of : ℕ → ℕ → List ℕ
  digest_of a k = eval h v (node_calc T cut k a)

  parts_are : (ps : List Peak) → map (eval h v) (map (part T cut) ps) ≡ peaks_by digest_of ps
  parts_are [] = refl
  parts_are (p ∷ ps) = ap (λ ds. digest_of p.first p.height ∷ ds) (parts_are ps)

  pub fold_is : (ps : List Peak)
      → fold_digest h v (bag (map (part T cut) ps) []) ≡ digest_or (h []) (forward_of h (peaks_by digest_of ps))
  fold_is [] = refl
  fold_is (p ∷ ps) = eval-forward h v (part T cut p) (map (part T cut) ps)
      ∙ ap (folded_forward h (digest_of p.first p.height)) (parts_are ps)

fold_listed : (h : HashFunction) (digest_of : ℕ → ℕ → List ℕ) (r : Site → List ℕ) (a : ℕ) (ls : List Peak)
    (fold : Option (List ℕ)) → IsPast 0 a ls → fold ≡ forward_of h (peaks_by digest_of ls)
    → r front ≡ digest_or (h []) (forward_of h (peaks_by digest_of ls)) → as_list fold ≡ map r (front_before a)
fold_listed h digest_of r zero [] fold past e f = ap as_list e
fold_listed h digest_of r (suc a) [] fold past e f = absurd (omega arith)
fold_listed h digest_of r zero (p ∷ ps) fold past e f = absurd (omega arith)
fold_listed h digest_of r (suc a) (p ∷ ps) fold past e f = ap as_list e ∙ ap (λ x. x ∷ []) (sym f)

-- the digests of a proof that match start with the fold, if there is one
module _ (start : ℕ) (f r : Site → List ℕ) (a : ℕ) (fold : List (List ℕ)) (folds : fold ≡ map r (front_before a)) where
  fold_other : (b : ℕ) (ts : List Site) → Match start f r (front_before b ++ ts)
      → map f (front_before b ++ ts) ≡ map r (front_before b) ++ map f ts
  fold_other zero ts m = refl
  fold_other (suc b) ts m = ap (λ x. x ∷ map f ts) (m.0 refl)

  pub fold_missing : (ts : List Site) (ds : List (List ℕ)) → ds ≡ map f (front_before a ++ ts)
      → ((es : List (List ℕ)) → ds ≢ fold ++ es) → Match start f r (front_before a ++ ts) → ⊥
  fold_missing ts ds e ne m = ne (map f ts) (e ∙ fold_other a ts m ∙ ap (λ x. x ++ map f ts) (sym folds))

  fold_here : (b : ℕ) (ts : List Site) (ds es : List (List ℕ)) → ds ≡ map f (front_before b ++ ts) → ds
      ≡ map r (front_before b) ++ es → (es ≡ map f ts) × (Match start f r ts → Match start f r (front_before b ++ ts))
  fold_here zero ts ds es e g = (sym g ∙ e, λ m. m)
  fold_here (suc b) ts ds es e g =
      let both : r front ∷ es ≡ f front ∷ map f ts = sym g ∙ e in
      let tails : es ≡ map f ts = cc in
      let heads : f front ≡ r front = cc in
      (tails, λ m. (λ t. heads, m))

  pub fold_matches : (ts : List Site) (ds es : List (List ℕ)) → ds ≡ map f (front_before a ++ ts) → ds ≡ fold ++ es
      → (es ≡ map f ts) × (Match start f r ts ↔ Match start f r (front_before a ++ ts))
  fold_matches ts ds es e g =
      let x = fold_here a ts ds es e (g ∙ ap (λ y. y ++ es) folds) in
      (x.0, (x.1, λ m. ((match_append start f r (front_before a) ts).0 m).1))

-- ---- all of it

module _ {D : Type 0} {S : Shape} {text : D → List ℕ} (w : Walk S text) (pinned : List (List ℕ)) where
  -- what is compared agrees, where the tree has m leaves and the range begins at `start`
  abbrev pub Agrees : ℕ → ℕ → Type 0
  Agrees m start = AgreesWith w.h w.T w.b (proof_over w m) start (claim w) pinned

  abbrev pub digest : Site → List ℕ
  digest = (check_values w.h w.T w.b (proof_over w w.n) w.low (claim w)).digest

  abbrev pub again : Site → List ℕ
  again = recomputed w.h w.T w.b (proof_over w w.n) w.low (claim w) pinned

  abbrev later : List Site
  later = top_sites w.low w.high (peaks_from S w.a w.r) w.g

  -- the leading peaks, by the pinned digests
  abbrev pub fold_of : List Peak → Option (List ℕ)
  fold_of ps = forward_of w.h (peaks_by (digest_before w.h w.T w.low pinned w.chunk) (leading w.low ps))

  pub nonempty : Fits w w.n w.low → w.low < w.high
  nonempty fit = let some = fit.some in omega (arith, w.range)

  as_many : Fits w w.n w.low → length w.items ≡ length (tops w) + length (siblings w)
  as_many fit =
      let count : length (map text w.items)
      ≡ length (sites w.T w.low (w.low + length w.elements) w.b w.n w.i) = fit.count in
      omega (arith, length-map w.items text, counted w (nonempty fit))

  pub enough : Fits w w.n w.low → length (siblings w) ≤ length w.items
  enough fit = omega (arith, as_many fit)

  module _ (fit : Fits w w.n w.low) (m k : ℕ) (ek : k ≡ length (siblings w)) (em : m + k ≡ length w.items) where
    tops_count : m ≡ length (tops w)
    tops_count = omega (arith, as_many fit)

    fits : m ≤ length w.items
    fits = omega arith

    left_over : length w.items - m ≡ k
    left_over = omega arith

    tops_are : map text (take m w.items) ≡ map digest (tops w)
    tops_are = tops_read w m k tops_count ek fits left_over (nonempty fit)

    pub beside_are : map text (drop m w.items) ≡ map digest (siblings w)
    beside_are = siblings_read w m k tops_count ek fits left_over (nonempty fit)

    matches : Match w.low digest again (sites w.T w.low (w.low + length w.elements) w.b w.n w.i)
        ↔ (Match w.low digest again (tops w) × Match w.low digest again (siblings w))
    matches = subst (λ ss. Match w.low digest again ss
        ↔ (Match w.low digest again (tops w) × Match w.low digest again (siblings w))) (sym (split w (nonempty fit)))
        (match_append w.low digest again (tops w) (siblings w))

    module _ (fold : Option (List ℕ)) (folds : fold ≡ fold_of (take w.f (peaks_from S 0 w.n))) where
      front_is : again front ≡ digest_or (w.h []) (fold_of (take w.f (peaks_from S 0 w.n)))
      front_is = fold_is w.h (pinned_values w.h w.T w.b (proof_over w w.n) w.low (claim w) pinned) w.T
          (pinned_cut w.h w.T w.b (proof_over w w.n) w.low (claim w) pinned)
          (leading w.low (folded w.b w.i (peaks_of w.T w.n)))
          ∙ ap (λ ps. digest_or (w.h []) (fold_of ps))
          (ap (λ U. folded w.b w.i (peaks_from U 0 w.n)) w.same ∙ sym w.parts.folded_are)

      fold_are : as_list fold ≡ map again (front_before w.a)
      fold_are = fold_listed w.h (digest_before w.h w.T w.low pinned w.chunk) again w.a
          (leading w.low (take w.f (peaks_from S 0 w.n))) fold w.after.past folds front_is

      pub fold_refused : ((ds : List (List ℕ)) → map text (take m w.items) ≢ as_list fold ++ ds) → Agrees w.n w.low → ⊥
      fold_refused ne ok = fold_missing w.low digest again w.a (as_list fold) fold_are later
          (map text (take m w.items)) tops_are ne (matches.0 ok.same).0

      module _ (left : List (List ℕ)) (starts : map text (take m w.items) ≡ as_list fold ++ left) where
        fold_parts : (left ≡ map digest later)
            × (Match w.low digest again later ↔ Match w.low digest again (tops w))
        fold_parts = fold_matches w.low digest again w.a (as_list fold) fold_are later
            (map text (take m w.items)) left tops_are starts

        pub left_are : left ≡ map digest later
        left_are = fold_parts.0

        pub agree_where : length pinned ≡ length (S.peaks w.low) → Match w.low digest again later
            → Match w.low digest again (siblings w) → Agrees w.n w.low
        agree_where e x y = record {
          count = e ∙ sym (pinned_counted S w.h w.T w.same w.b (proof_over w w.n) w.low (claim w) pinned);
          same = matches.1 (fold_parts.1.0 x, y);
        }

        pub peaks_agree : Agrees w.n w.low → Match w.low digest again later
        peaks_agree ok = fold_parts.1.1 (matches.0 ok.same).0

        pub siblings_agree : Agrees w.n w.low → Match w.low digest again (siblings w)
        siblings_agree ok = (matches.0 ok.same).1
