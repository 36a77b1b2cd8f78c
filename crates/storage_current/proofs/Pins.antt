-- Pins from which a snapshot's grafted root is calculated are the view's digests, or two strings cross.
use Rattle.std.proofs.Common.{◌≡◌, ◌≢◌, ℕ, zero, suc, ◌+◌, ◌-◌, ◌*◌, ◌/◌, ◌%◌, ◌^◌, ◌<◌, ◌≤◌, ◌⊎◌, ◌||◌, List, [], ◌∷◌, ◌++◌, length, map, Bool, true, false, if◌then◌else◌, ltb, leb, eqb, le-ltb, Option, Some, None, is_some, option_to_list, unwrap_or, Contains, inl, inr, refl, sym, ap, ap₂, subst, ◌∙◌, arith, le-leb, eqb-true, suc-mul, pow-add, lt_of_mul-lt-mul_right}
use Rattle.std.proofs.lemmas.Bool.{cases_lt, lt-leb}
use Rattle.std.proofs.lemmas.List.{map-append}
use Rattle.std.proofs.lemmas.List.Elements.{Contains-append_left, Contains-append_right}
use Rattle.std.proofs.lemmas.Nat.{pow_pos, shl-shr}
use Rattle.std.proofs.Math.Nat.{add-mul}
use Rattle.storage_codec.specs.Digests.{HashFunction, IsSized, Cross}
use Rattle.storage_merkle.specs.declared.merkle.bagging.Bagging.TheVariants.{BackwardFold}
use Rattle.storage_merkle.specs.Calc.{front, back, node, Calc, Values, Agree}
use Rattle.storage_merkle.specs.Chunked.{AreChunks}
use Rattle.storage_merkle.specs.Kept.{at_peaks, paired, pins}
use Rattle.storage_merkle.specs.Multi.{tree_digest}
use Rattle.storage_merkle.specs.Nodes.{placed}
use Rattle.storage_merkle.specs.Peaks.{HasPeak}
use Rattle.storage_merkle.specs.RangeProofs.{AreDigests}
use Rattle.storage_merkle.specs.Shape.{Shape, Laws, size, Inside, leaves_under}
use Rattle.storage_merkle.specs.Trees.{Layout, Peak, bag, eval_bag, strings_bag, folded, unfolded, never, node_calc, part, peaks_of, places, plain, tree_bag, tree_node, ungrafted, listed, tree_string, tree_strings}
use Rattle.storage_merkle.specs.Laws.Calc.{IsWide, cross_wider, heads, same_head}
use Rattle.storage_merkle.specs.Laws.Multiples.{in_units, out_of_units}
use Rattle.storage_merkle.specs.Laws.Peaks.{inside_of_peak, peak_aligned}
use Rattle.storage_merkle.specs.Laws.Shape.{length_at_most}
use Rattle.storage_merkle.proofs.Agreeing.{AgreeAll, AgreeBag, agree_bag, agree_parts}
use Rattle.storage_merkle.proofs.Chunked.{cut_chunked, uncut}
use Rattle.storage_merkle.proofs.Multi.Sound.{cut-prunes, tree_values, tree_values-wide}
use Rattle.storage_merkle.proofs.Prune.{PrunesBag}
use Rattle.storage_merkle.proofs.RangeOwn.{append_of}
use Rattle.storage_merkle.proofs.RangeSound.{folded-all, law_bag}
use Rattle.storage_current.specs.CombinedViews.{grafted_node}
use Rattle.storage_current.specs.GraftedTrees.{IsPeak, tree_at}
use Rattle.storage_current.specs.Laws.Grafting.{aligned-le, and-true, chunk_apart}
use Rattle.storage_current.specs.Pins.{AreTold, HavePins, PinsAreBound, chunk_pins, is_told, kept_over, told_bag, told_digest, told_string, told_strings, told_values}
use Rattle.storage_current.specs.Snapshots.{Grafting, IsGrafting, Snapshot, IsSnapshot, aligned_of, content, height, view, grafted_root_of, snapshot_string, snapshot_strings, ops_root_of, pending_of, partial_of, exact_of}
use Rattle.storage_current.proofs.PinSites.{all_peaks, descend, has_of, none_over, pin_there, pins_are}
use Rattle.storage_current.proofs.Pinned.{found_leaf, peak_inside, tree_at_high, tree_at_low}
use Rattle.storage_current.proofs.RangeSound.{chunk-length}

-- ---- digests of d bytes

or_wide : (d : ℕ) (none : List ℕ) → length none ≡ d → (o : Option (List ℕ)) → ((x : List ℕ) → o ≡ Some x → length x ≡ d)
    → length (unwrap_or o none) ≡ d
or_wide d none e None f = e
or_wide d none e (Some x) f = f x refl

-- what is found beside a position is of the list
paired_wide : (d p : ℕ) (qs : List ℕ) (ds : List (List ℕ)) → AreDigests d ds → (x : List ℕ) → paired p qs ds ≡ Some x
    → length x ≡ d
paired_wide d p [] ds a x e = cc
paired_wide d p (q ∷ qs) [] a x e = cc
paired_wide d p (q ∷ qs) (y ∷ ds) a x e = go (eqb q p) (paired_wide d p qs ds a.1 x) e
  where
    go : (b : Bool) → (paired p qs ds ≡ Some x → length x ≡ d) → (if b then Some y else paired p qs ds) ≡ Some x
        → length x ≡ d
    go true later f = let same : y ≡ x = cc in ap length (sym same) ∙ a.0
    go false later f = later f

module _ (d : ℕ) (h : HashFunction) (sized : IsSized d h) (g : Grafting) (L : Laws g.shape) (c : ℕ)
    (ps grafts : List (List ℕ)) (low : ℕ → ℕ → List ℕ) (told : AreTold d g c ps grafts low) where
  abbrev kept : ℕ → Option (List ℕ)
  kept = tree_at g.shape c ps grafts

  abbrev v : Values
  v = told_values h g kept low

  abbrev cut : ℕ → ℕ → Bool
  cut = is_told h g kept low

  kept_wide : (p : ℕ) (x : List ℕ) → kept p ≡ Some x → length x ≡ d
  kept_wide p x e = elim (cases_lt p (size g.shape c)) [
    | inl before ↦ paired_wide d p (pins g.shape c) ps told.pinned x (sym (tree_at_low g.shape c ps grafts p before) ∙ e)
    | inr after ↦ paired_wide d p _ grafts told.behind x (sym (tree_at_high g.shape c ps grafts p after) ∙ e)
  ]

  told_wide : IsWide d v
  told_wide front = sized []
  told_wide back = sized []
  told_wide (node a k) =
      elim (ltb k (height g)) as (λ b. length (if b then low a k else unwrap_or (kept_over h g kept low a k) (h [])) ≡ d) [
        | true ↦ told.below a k
        | false ↦ or_wide d (h []) (sized []) (kept_over h g kept low a k) (kept_wide _)
      ]

  -- no chunk is grafted over a node that is not given
  uncut_chunks : (n : ℕ) → AreChunks g.bytes (view g n) n cut v.chunk
  uncut_chunks n a k one grafted multiple inside bare =
      let both = and-true (eqb k (height g)) _ grafted in
      let level : k ≡ height g = eqb-true k (height g) both.0 in
      let whole : cut a k ≡ true = rw (le-leb k (height g) (omega (arith, level))) refl in
      absurd (let clash = sym whole ∙ bare in cc)

  module _ (n : ℕ) (there : HavePins g n c) (w : Values)
      (agree : AgreeAll v w (map (part (view g n) cut) (peaks_of (view g n) n))) where
    -- a pin is the other one's
    module _ (b j : ℕ) (al : b % 2 ^ j ≡ 0) (i : IsPeak (g.shape.peaks c) 0 b j) where
      abbrev first : ℕ
      first = b * 2 ^ height g

      abbrev level : ℕ
      level = j + height g

      aligned : first % 2 ^ level ≡ 0
      aligned = out_of_units b j (height g) al

      same_kept : kept_over h g kept low first level ≡ kept (g.shape.position b j)
      same_kept = let back : j + height g - height g ≡ j = omega arith in
          ap₂ (λ x y. kept (g.shape.position x y)) (shl-shr b (height g)) back

      own : cut first level ≡ true
      own = elim (leb level (height g)) as (λ t. (t || is_some (kept_over h g kept low first level)) ≡ true) [
        | true ↦ refl
        | false ↦ ap is_some same_kept ∙ pin_there g.shape L c ps grafts told.count b j al i
      ]

      opens : (a k : ℕ) → a % 2 ^ k ≡ 0 → a ≤ first → first + 2 ^ level ≤ a + 2 ^ k → level < k → cut a k ≡ false
      opens a k ak lo hi less =
          let high : height g ≤ k = omega (arith, less) in
          let u = in_units a k (height g) high ak in
          let P : ℕ = 2 ^ height g in
          let pos : 0 < P = pow_pos (height g) in
          let q : ℕ = 2 ^ (k - height g) in
          let back : k ≡ k - height g + height g = omega (arith, high) in
          let wide : 2 ^ k ≡ q * P = ap (λ x. 2 ^ x) back ∙ pow-add 2 (k - height g) (height g) in
          let narrow : 2 ^ level ≡ 2 ^ j * P = pow-add 2 j (height g) in
          let start : a / P * P ≡ a = u.0 in
          let one : a / P * P < suc b * P = omega (arith, start, lo, suc-mul b P, pos) in
          let from : a / P < suc b = lt_of_mul-lt-mul_right P one in
          let left : (b + 2 ^ j) * P ≡ b * P + 2 ^ j * P = add-mul b (2 ^ j) P in
          let right : (a / P + q) * P ≡ a / P * P + q * P = add-mul (a / P) q P in
          let two : (b + 2 ^ j) * P < suc (a / P + q) * P =
          omega (arith, start, hi, wide, narrow, left, right, suc-mul (a / P + q) P, pos) in
          let to : b + 2 ^ j < suc (a / P + q) = lt_of_mul-lt-mul_right P two in
          let none = none_over g.shape L c ps grafts told.count (a / P) (k - height g) b j u.1 i
          (omega (arith, from)) (omega (arith, to)) (omega (arith, less)) in
          rw (lt-leb k (height g) (omega (arith, less)), none) refl

      at_site : v.digest (node first level) ≡ w.digest (node first level)
      at_site =
          let born = there b j i in
          let inside = (L.inside n first level aligned).1 born in
          let pos = pow_pos level in
          let end : first + 2 ^ level ≤ n = omega (arith, L.late first level, born) in
          agree_parts v w (view g n) cut first (v.digest (node first level) ≡ w.digest (node first level))
          (λ p. HasPeak (g.shape.peaks n) 0 p.first p.height)
          (λ p q lo hi f.
          let r = inside_of_peak (g.shape.peaks n) 0 first level p.first p.height first inside q (omega arith)
          (omega (arith, pos)) lo hi in
          descend v w (view g n) cut first level aligned own opens p.height p.first
          (peak_aligned (g.shape.peaks n) 0 p.first p.height (L.aligned n) q) r.0 r.1 f)
          0 (g.shape.peaks n) (all_peaks (g.shape.peaks n) (g.shape.peaks n) 0 (λ a k z. z)) (omega arith)
          (omega (arith, L.sum n, end, pos)) agree

      pub pin_is : (x : List ℕ) → kept (g.shape.position b j) ≡ Some x → x ≡ w.digest (node first level)
      pin_is x is =
          let above : ltb level (height g) ≡ false = le-ltb level (height g) (omega arith) in
          let read : v.digest (node first level) ≡ x =
          ap (λ t. if t then low first level else unwrap_or (kept_over h g kept low first level) (h [])) above
          ∙ ap (λ o. unwrap_or o (h [])) (same_kept ∙ is) in
          sym read ∙ at_site

  module _ (size_apart : g.bytes ≢ 8 + d) (s : Snapshot) (snapshot : IsSnapshot s) where
    abbrev m : ℕ
    m = length s.operations

    abbrev tree : Option Calc
    tree = tree_bag (view g m) BackwardFold m (aligned_of h g s)

    abbrev w : ℕ → Values
    w n = tree_values h (view g n) (content h g s)

    -- both calculations agree
    pub record Agrees (n i : ℕ) : Type 0 where
      pub leaves : n ≡ m
      pub agree : AgreeAll v (w n) (map (part (view g n) cut) (peaks_of (view g n) n))

    agrees : (n i : ℕ) → n ≤ 2 ^ 62 → i ≤ length (g.shape.peaks n) → h (told_string h g kept low n i) ≡ grafted_root_of h g s
        → Agrees n i ⊎ Cross h (told_strings h g kept low n i) (tree_strings h (view g m) BackwardFold (content h g s) (aligned_of h g s))
    agrees n i few peaks root_is =
        let T = view g n in
        let t = told_bag h g kept low n i in
        let ct = content h g s in
        let least = aligned-le g.shape m s.floor (height g) in
        let few_m = snapshot.few in
        let bound : n < 2 ^ 64 = omega (arith, few) in
        let bound2 : m < 2 ^ 64 = omega (arith, few_m) in
        let bound3 : i < 2 ^ 64 = omega (arith, few, peaks, length_at_most (g.shape.peaks n), L.sum n) in
        let bound4 : aligned_of h g s < 2 ^ 64 =
        omega (arith, few_m, least, length_at_most (g.shape.peaks m), L.sum m) in
        let string = told_string h g kept low n i in
        let tree_is = tree_string h (view g m) BackwardFold ct (aligned_of h g s) in
        elim (heads h string tree_is (strings_bag h v t) (strings_bag h (plain h ct) tree) root_is) [
          | inr x ↦ inr x
          | inl same ↦
              let fixed = same_head T BackwardFold n m i (aligned_of h g s) (eval_bag h v t)
              (eval_bag h (plain h ct) tree) bound bound2 bound3 bound4 same in
              let moved : tree_bag T BackwardFold n i ≡ tree =
              ap (λ x. tree_bag (view g x) BackwardFold x i) fixed.leaves
              ∙ ap (λ k. tree_bag (view g m) BackwardFold m k) fixed.inactive in
              let xs = folded BackwardFold i (peaks_of T n) in
              let ys = unfolded BackwardFold i (peaks_of T n) in
              let p = cut-prunes h T ct cut xs ys in
              let q : PrunesBag h (w n) (plain h ct) t tree =
              subst (λ x. PrunesBag h (w n) (plain h ct) t x) moved p in
              let whole : AreChunks g.bytes (view g m) m never ct.chunk =
              λ a k o g' m' j e. chunk-length g.bytes s.bits _ in
              let chunks : AreChunks g.bytes T n cut ct.chunk = uncut g.bytes T n cut ct.chunk
              (subst (λ x. AreChunks g.bytes (view g x) x never ct.chunk) (sym fixed.leaves) whole) in
              elim (law_bag d g.bytes h v (w n) sized size_apart told_wide (tree_values-wide d h T ct sized) t
              (cut_chunked g.bytes v T n cut (L.aligned n) (uncut_chunks n) BackwardFold i)
              (cut_chunked g.bytes (w n) T n cut (L.aligned n) chunks BackwardFold i) (fixed.rest ∙ sym q.same)) [
                | inl a ↦
                    let both = agree_bag v (w n) (map (part T cut) xs) (map (part T cut) ys) a in
                    inl (record {
                      leaves = fixed.leaves;
                      agree = subst (λ qs. AgreeAll v (w n) (map (part T cut) qs))
                          (folded-all BackwardFold i (peaks_of T n))
                          (subst (AgreeAll v (w n)) (sym (map-append (part T cut) xs ys))
                          (append_of v (w n) _ _ both.0 both.1));
                    })
                | inr x ↦ inr (cross_wider (λ z r. Contains-append_right (string ∷ []) _ z r)
                    (λ z r. Contains-append_right (tree_is ∷ []) _ z (q.fewer z r)) x)
              ]
        ]

pub pins_bound : PinsAreBound
pins_bound d h width sized g grafting c n i ps grafts low told there few peaks s snapshot root_is =
    let S = g.shape in
    let L = grafting.laws in
    let m = length s.operations in
    let kept = tree_at S c ps grafts in
    let ys = tree_strings h (view g m) BackwardFold (content h g s) (aligned_of h g s) in
    let others = tree_strings h (ungrafted S) BackwardFold (listed s.operations) (exact_of h g s)
    ++ (option_to_list (pending_of h g s) ++ option_to_list (partial_of h g s)) in
    elim (agrees d h sized g L c ps grafts low told (chunk_apart g grafting.size d width) s snapshot n i few peaks root_is) [
      | inr x ↦ inr (cross_wider (λ z r. r) (λ z r. Contains-append_right (snapshot_string h g s ∷ []) (ys ++ others) z
          (Contains-append_left ys others z r)) x)
      | inl ok ↦
          let w : Values = tree_values h (view g n) (content h g s) in
          let is = λ (b j : ℕ) (x : List ℕ) (al : b % 2 ^ j ≡ 0) (p : IsPeak (S.peaks c) 0 b j)
          (found : kept (S.position b j) ≡ Some x). pin_is d h sized g L c ps grafts low told n there w ok.agree b j al p x found in
          let moved : (b j : ℕ) → w.digest (node (b * 2 ^ height g) (j + height g)) ≡ grafted_node h g s b j =
          λ b j. ap (λ k. tree_node h (view g k) (content h g s) (b * 2 ^ height g) (j + height g)) ok.leaves in
          let same : ps ≡ chunk_pins h g s c =
          pins_are S L (λ k a. grafted_node h g s a k) (S.peaks c) 0 ps (L.aligned c) told.count (λ b j x p found.
          let al : b % 2 ^ j ≡ 0 = peak_aligned (S.peaks c) 0 b j (L.aligned c) (has_of (S.peaks c) 0 b j p) in
          let before : S.position b j < size S c =
          (L.born c b j al).1 ((L.inside c b j al).0 (peak_inside (S.peaks c) 0 b j p)) in
          is b j x al p (tree_at_low S c ps grafts (S.position b j) before ∙ found) ∙ moved b j) in
          inl (ok.leaves, same)
    ]
