-- What is had of a view's peaks is calculated from pins, and each peak over the pinned chunks is one of its nodes.
use Rattle.std.proofs.Common.{◌≡◌, ◌≢◌, ℕ, zero, suc, ◌+◌, ◌-◌, ◌*◌, ◌/◌, ◌%◌, ◌^◌, ◌<◌, ◌≤◌, ◌⊎◌, ◌||◌, ◌&&◌, ◌++◌, List, [], ◌∷◌, length, map, Bool, true, false, if◌then◌else◌, ltb, leb, eqb, ne_eqb, le-ltb, lt-ltb, le-leb, Option, Some, None, IsSome, is_some, option_map, unwrap_or, inl, inr, refl, sym, ap, ap₂, subst, ◌∙◌, arith, pow_pos, pow-add, suc-mul, lt_of_mul-lt-mul_right}
use Rattle.std.specs.Option.{option_or}
use Rattle.std.proofs.lemmas.Bool.{cases_lt, lt-leb}
use Rattle.std.proofs.lemmas.Nat.{shl-shr}
use Rattle.std.proofs.Math.Nat.{add-mul}
use Rattle.storage_codec.specs.Digests.{HashFunction}
use Rattle.storage_merkle.specs.Calc.{node, Calc, Values, be8, given, leaf, pair, graft, eval}
use Rattle.storage_merkle.specs.Nodes.{IsNode}
use Rattle.storage_merkle.specs.Peaks.{HasPeak}
use Rattle.storage_merkle.specs.Shape.{Shape, Laws, size, Inside, leaves_under}
use Rattle.storage_merkle.specs.Trees.{Layout, join_calc, node_calc}
use Rattle.storage_merkle.specs.Laws.Multiples.{in_units, multiple_add, multiple_down, next, out_of_units, pow_le, pow_order, power_multiple}
use Rattle.storage_merkle.specs.Laws.Peaks.{PeakOver, inside_of_peak, peak_aligned, peak_over}
use Rattle.storage_merkle.specs.Laws.Peaks as peaks
use Rattle.storage_merkle.specs.Laws.Shape.{covers_down, inside_before, inside_between, inside_valid}
use Rattle.storage_current.specs.Combined.{joined}
use Rattle.storage_current.specs.GraftedTrees.{IsPeak, KeptChunks, join_over, made_of, rebuilt, regrafted, tree_at}
use Rattle.storage_current.specs.Laws.Grafting.{graftable_by_birth}
use Rattle.storage_current.specs.NodeLists.{ArePeaksHad, ArePeaksTold}
use Rattle.storage_current.specs.Pins.{HavePins, had_of_view, is_told, kept_over, kept_texts, low_texts, told_digest, told_values}
use Rattle.storage_current.specs.Snapshots.{Grafting, graftable, height, view}
use Rattle.storage_current.proofs.Joined.{joined_above, joined_below}
use Rattle.storage_current.proofs.KeptChunks.{coverable_top}
use Rattle.storage_current.proofs.PinSites.{has_of}
use Rattle.storage_current.proofs.Pinned.{inside_under, peak_inside, tree_at-map}
use Rattle.storage_current.proofs.PrunedViews.{regrafted_is}
use Rattle.storage_current.proofs.Rebuilt.{rebuilt_seen, some_covered}

-- ---- the calculation of a node

module _ (h : HashFunction) (g : Grafting) (kept : ℕ → Option (List ℕ)) (low : ℕ → ℕ → List ℕ) where
  abbrev v : Values
  v = told_values h g kept low

  abbrev cut : ℕ → ℕ → Bool
  cut = is_told h g kept low

  abbrev node_of : ℕ → ℕ → ℕ → Calc
  node_of n k a = node_calc (view g n) cut k a

  given_node : (n k a : ℕ) → cut a k ≡ true → eval h v (node_of n k a) ≡ v.digest (node a k)
  given_node n zero a e = ap (λ c. eval h v (if c then given (node a zero) else leaf (be8 (g.shape.position a zero)) a)) e
  given_node n (suc k) a e = ap (λ c. eval h v (if c then given (node a (suc k))
      else join_calc (view g n) a (suc k) (node_of n k a) (node_of n k (a + 2 ^ k)))) e

  joined_node : (n k a : ℕ) → cut a (suc k) ≡ false → height g ≤ k → eval h v (node_of n (suc k) a)
      ≡ h (be8 (g.shape.position a (suc k)) ++ (eval h v (node_of n k a) ++ eval h v (node_of n k (a + 2 ^ k))))
  joined_node n k a e high =
      let T : Layout = view g n in
      let l = node_of n k a in
      let r = node_of n k (a + 2 ^ k) in
      let other : eqb (suc k) (height g) ≡ false = ne_eqb (suc k) (height g) (λ z. absurd (omega (arith, z, high))) in
      let bare : T.grafted a (suc k) ≡ false = rw other refl in
      ap (λ c. eval h v (if c then given (node a (suc k)) else join_calc T a (suc k) l r)) e
      ∙ ap (λ t. eval h v (if t then graft a (T.position a (suc k)) l r else pair (be8 (T.position a (suc k))) l r)) bare

  -- what is kept over chunks, at the node over the same operations
  kept_same : (b j : ℕ) → kept_over h g kept low (b * 2 ^ height g) (j + height g) ≡ kept (g.shape.position b j)
  kept_same b j = let back : j + height g - height g ≡ j = omega arith in
      ap₂ (λ x y. kept (g.shape.position x y)) (shl-shr b (height g)) back

  kept_digest : (b j : ℕ) (x : List ℕ) → kept (g.shape.position b j) ≡ Some x
      → v.digest (node (b * 2 ^ height g) (j + height g)) ≡ x
  kept_digest b j x is =
      let above : ltb (j + height g) (height g) ≡ false = le-ltb (j + height g) (height g) (omega arith) in
      ap (λ t. if t then low (b * 2 ^ height g) (j + height g)
      else unwrap_or (kept_over h g kept low (b * 2 ^ height g) (j + height g)) (h [])) above
      ∙ ap (λ o. unwrap_or o (h [])) (kept_same b j ∙ is)

  abbrev over : ℕ → ℕ → Option (List ℕ)
  over = rebuilt g.shape (join_over h (λ bytes. bytes) g.shape (height g)) kept

  -- what is rebuilt of a node is calculated so
  module _ (n : ℕ) where
    step : (b j : ℕ) (o l r : Option (List ℕ)) (x : List ℕ) → kept (g.shape.position b (suc j)) ≡ o
        → option_or o (made_of (join_over h (λ bytes. bytes) g.shape (height g) b (suc j)) l r) ≡ Some x
        → ((y : List ℕ) → l ≡ Some y → y ≡ eval h v (node_of n (j + height g) (b * 2 ^ height g)))
        → ((y : List ℕ) → r ≡ Some y → y ≡ eval h v (node_of n (j + height g) ((b + 2 ^ j) * 2 ^ height g)))
        → x ≡ eval h v (node_of n (suc j + height g) (b * 2 ^ height g))
    step b j (Some d) l r x is e left right =
        let same : d ≡ x = cc in
        let told : is_some (kept_over h g kept low (b * 2 ^ height g) (suc j + height g)) ≡ true =
        ap is_some (kept_same b (suc j) ∙ is) in
        let whole : cut (b * 2 ^ height g) (suc j + height g) ≡ true =
        rw told (elim (leb (suc j + height g) (height g)) as (λ t. (t || true) ≡ true) [ true ↦ refl | false ↦ refl ]) in
        sym (given_node n (suc j + height g) (b * 2 ^ height g) whole ∙ kept_digest b (suc j) d is ∙ same)
    step b j None (Some l) (Some r) x is e left right =
        let G = height g in
        let up : suc j + G ≡ suc (j + G) = omega arith in
        let made : h (be8 (g.shape.position (b * 2 ^ G) (suc j + G)) ++ (l ++ r)) ≡ x = cc in
        let gone : is_some (kept_over h g kept low (b * 2 ^ G) (suc j + G)) ≡ false =
        ap is_some (kept_same b (suc j) ∙ is) in
        let part : cut (b * 2 ^ G) (suc (j + G)) ≡ false =
        subst (λ m. cut (b * 2 ^ G) m ≡ false) up (rw (gone, lt-leb (suc j + G) G (omega arith)) refl) in
        let half : (b + 2 ^ j) * 2 ^ G ≡ b * 2 ^ G + 2 ^ (j + G) =
        add-mul b (2 ^ j) (2 ^ G) ∙ ap (λ y. b * 2 ^ G + y) (sym (pow-add 2 j G)) in
        let rest = joined_node n (j + G) (b * 2 ^ G) part (omega arith) in
        let both = ap₂ (λ y z. h (be8 (g.shape.position (b * 2 ^ G) (suc j + G)) ++ (y ++ z))) (left l refl)
        (right r refl ∙ ap (λ a. eval h v (node_of n (j + G) a)) half) in
        sym made ∙ both
        ∙ ap (λ m. h (be8 (g.shape.position (b * 2 ^ G) m) ++ (eval h v (node_of n (j + G) (b * 2 ^ G))
        ++ eval h v (node_of n (j + G) (b * 2 ^ G + 2 ^ (j + G)))))) up
        ∙ sym rest ∙ ap (λ m. eval h v (node_of n m (b * 2 ^ G))) (sym up)
    step b j None (Some l) None x is e left right = cc
    step b j None None r x is e left right = cc

    pub rebuilt_calculated : (j b : ℕ) (x : List ℕ) → over j b ≡ Some x
        → x ≡ eval h v (node_of n (j + height g) (b * 2 ^ height g))
    rebuilt_calculated zero b x e =
        let whole : cut (b * 2 ^ height g) (zero + height g) ≡ true =
        rw (le-leb (zero + height g) (height g) (omega arith)) refl in
        sym (given_node n (zero + height g) (b * 2 ^ height g) whole ∙ kept_digest b zero x e)
    rebuilt_calculated (suc j) b x e = step b j (kept (g.shape.position b (suc j))) (over j b) (over j (b + 2 ^ j)) x refl e
        (λ y is. rebuilt_calculated j b y is) (λ y is. rebuilt_calculated j (b + 2 ^ j) y is)

  pub low_calculated : (n k a : ℕ) → k < height g → eval h v (node_of n k a) ≡ low a k
  low_calculated n k a less =
      let whole : cut a k ≡ true = rw (le-leb k (height g) (omega (arith, less))) refl in
      given_node n k a whole
      ∙ ap (λ t. if t then low a k else unwrap_or (kept_over h g kept low a k) (h [])) (lt-ltb k (height g) less)

-- ---- what is had of peaks

peak_of : (hs : List ℕ) (s a k : ℕ) → HasPeak hs s a k → IsPeak hs s a k
unfolding HasPeak
peak_of [] s a k i = absurd i
peak_of (x ∷ hs) s a k (inl i) = inl (sym i.0, sym i.1)
peak_of (x ∷ hs) s a k (inr i) = inr (peak_of hs (s + 2 ^ x) a k i)

some_of : {X : Type 0} (o : Option X) → IsSome o → (x : X) × (o ≡ Some x)
some_of None e = absurd (cc)
some_of (Some x) e = (x, refl)

rebuilt_same : (S : Shape) (join : ℕ → ℕ → List ℕ → List ℕ → List ℕ) (f k : ℕ → Option (List ℕ)) → ((p : ℕ) → f p ≡ k p)
    → (j b : ℕ) → rebuilt S join f j b ≡ rebuilt S join k j b
rebuilt_same S join f k same zero b = same (S.position b zero)
rebuilt_same S join f k same (suc j) b = ap₂ option_or (same (S.position b (suc j)))
    (ap₂ (made_of (join b (suc j))) (rebuilt_same S join f k same j b) (rebuilt_same S join f k same j (b + 2 ^ j)))

module _ {D : Type 0} (digest : List ℕ → D) (text : D → List ℕ) (h : HashFunction)
    (told : (x : List ℕ) → text (digest x) ≡ h x) (g : Grafting) (L : Laws g.shape) (n : ℕ) (few : n ≤ 2 ^ 62)
    (t : KeptChunks D) (below : ℕ → Option D) where
  abbrev had : ℕ → Option D
  had = had_of_view digest text g n t below

  abbrev kept_of : ℕ → Option D
  kept_of = tree_at g.shape t.pruned t.pinned t.leaves

  abbrev rebuilt_of : ℕ → ℕ → Option D
  rebuilt_of = rebuilt g.shape (join_over digest text g.shape (height g)) kept_of

  -- where a peak stands
  module _ (a k : ℕ) (peak : IsPeak (g.shape.peaks n) 0 a k) where
    peak_al : a % 2 ^ k ≡ 0
    peak_al = peak_aligned (g.shape.peaks n) 0 a k (L.aligned n) (has_of (g.shape.peaks n) 0 a k peak)

    peak_in : Inside (g.shape.peaks n) 0 a k
    peak_in = peak_inside (g.shape.peaks n) 0 a k peak

    peak_low : k < height g → had (g.shape.position a k) ≡ below (g.shape.position a k)
    peak_low less = joined_below g.shape L (height g) (size g.shape n)
        (regrafted digest text g.shape (height g) kept_of) below (g.shape.position a k) a k
        (inside_before g.shape L n a k peak_al peak_in) (inside_valid g.shape L n a k few peak_al peak_in)
        (record { aligned = peak_al; at = refl }) less

    peak_high : height g ≤ k → had (g.shape.position a k) ≡ rebuilt_of (k - height g) (a / 2 ^ height g)
    peak_high high =
        let S = g.shape in
        let u = in_units a k (height g) high peak_al in
        let q = S.position (a / 2 ^ height g) (k - height g) in
        let here : IsNode S (S.position a k) a k = record { aligned = peak_al; at = refl } in
        joined_above S L (height g) (size S n) (regrafted digest text S (height g) kept_of) below (S.position a k) q
        (inside_before S L n a k peak_al peak_in) (inside_valid S L n a k few peak_al peak_in)
        (covers_down S L a k (height g) (S.position a k) q here high refl)
        ∙ regrafted_is S L digest text (height g) kept_of q (a / 2 ^ height g) (k - height g)
        (record { aligned = u.1; at = refl })

  -- they are calculated from the digests that are kept
  pub peaks_calculated : ArePeaksHad g.shape n had → ArePeaksTold g.shape n
      (λ a k. eval h (told_values h g (kept_texts text g.shape t) (low_texts h text g.shape below))
      (node_calc (view g n) (is_told h g (kept_texts text g.shape t) (low_texts h text g.shape below)) k a))
      (λ p. option_map text (had p))
  peaks_calculated all a k peak =
      let S = g.shape in
      let kept = kept_texts text S t in
      let low = low_texts h text S below in
      let found = some_of (had (S.position a k)) (all a k peak) in
      elim (cases_lt k (height g)) [
        | inl less ↦
            let read : below (S.position a k) ≡ Some found.0 = sym (peak_low a k peak less) ∙ found.1 in
            let is : low a k ≡ text found.0 = ap (λ o. unwrap_or (option_map text o) (h [])) read in
            ap (option_map text) found.1 ∙ ap Some (sym (low_calculated h g kept low n k a less ∙ is))
        | inr high ↦
            let G = height g in
            let u = in_units a k G high (peak_al a k peak) in
            let back : k - G + G ≡ k = omega (arith, high) in
            let read : rebuilt_of (k - G) (a / 2 ^ G) ≡ Some found.0 = sym (peak_high a k peak high) ∙ found.1 in
            let seen = rebuilt_seen S text (join_over digest text S G) (join_over h (λ x. x) S G) (λ b j l r. told _) kept_of
            (k - G) (a / 2 ^ G) in
            let same = rebuilt_same S (join_over h (λ x. x) S G) (λ p. option_map text (kept_of p)) kept
            (λ p. tree_at-map text S t.pruned t.pinned t.leaves p) (k - G) (a / 2 ^ G) in
            let made = rebuilt_calculated h g kept low n (k - G) (a / 2 ^ G) (text found.0)
            (sym same ∙ sym seen ∙ ap (option_map text) read) in
            let at : text found.0 ≡ eval h (told_values h g kept low) (node_calc (view g n) (is_told h g kept low) k a) =
            rw (back, u.0) at made in
            ap (option_map text) found.1 ∙ ap Some at
      ]

  -- no peak lies strictly inside one over the pruned chunks
  peak_top : ArePeaksHad g.shape n had → (a k : ℕ) → IsPeak (g.shape.peaks n) 0 a k → height g ≤ k
      → Inside (g.shape.peaks t.pruned) 0 (a / 2 ^ height g) (k - height g)
      → IsPeak (g.shape.peaks t.pruned) 0 (a / 2 ^ height g) (k - height g)
  peak_top all a k peak high inside =
      let u = in_units a k (height g) high (peak_al a k peak) in
      coverable_top g.shape L t.pruned t.pinned t.leaves (k - height g) (a / 2 ^ height g) u.1
      (some_covered g.shape (join_over digest text g.shape (height g)) kept_of (k - height g) (a / 2 ^ height g)
      (ap is_some (sym (peak_high a k peak high)) ∙ all a k peak)) inside

  -- so each of those is over a node of the view
  pub pins_there : ArePeaksHad g.shape n had → t.pruned ≤ graftable g n → HavePins g n t.pruned
  pins_there all within b j pin =
      let S = g.shape in
      let G = height g in
      let c : ℕ = t.pruned in
      let P : ℕ = 2 ^ G in
      let first : ℕ = b * P in
      let al : b % 2 ^ j ≡ 0 = peak_aligned (S.peaks c) 0 b j (L.aligned c) (has_of (S.peaks c) 0 b j pin) in
      let inside : Inside (S.peaks c) 0 b j = peak_inside (S.peaks c) 0 b j pin in
      let ends = inside_between (S.peaks c) 0 b j inside in
      let sum = L.sum c in
      let early : b < graftable g n = omega (arith, ends.1, sum, within, pow_pos j) in
      let chunk : Inside (S.peaks n) 0 first G = (graftable_by_birth S L G n b).1 early in
      let room = inside_between (S.peaks n) 0 first G chunk in
      let pos = pow_pos G in
      let q = peak_over (S.peaks n) 0 first (omega arith) (omega (arith, room.1, pos)) in
      let r = inside_of_peak (S.peaks n) 0 first G q.first q.height first chunk q.is (omega arith) (omega (arith, pos)) q.low
      q.high in
      let small : 2 ^ G ≤ 2 ^ q.height = omega (arith, r.0, r.1) in
      let high : G ≤ q.height = pow_order G q.height small in
      let aq : q.first % 2 ^ q.height ≡ 0 = peak_aligned (S.peaks n) 0 q.first q.height (L.aligned n) q.is in
      let wide : first % 2 ^ (j + G) ≡ 0 = out_of_units b j G al in
      elim (cases_lt q.height (j + G)) [
        | inr over ↦
            let step : q.first % 2 ^ (j + G) ≡ 0 = multiple_down q.first (j + G) q.height (omega (arith, over)) aq in
            let past : (q.first + 2 ^ q.height) % 2 ^ (j + G) ≡ 0 = multiple_add q.first (2 ^ q.height) (2 ^ (j + G))
            (pow_pos (j + G)) step (power_multiple q.height (j + G) (omega (arith, over))) in
            let end = next first (q.first + 2 ^ q.height) (2 ^ (j + G)) wide past q.high in
            (L.inside n first (j + G) wide).0 (inside_under (S.peaks n) 0 q.first q.height first (j + G)
            (peaks.peak_inside (S.peaks n) 0 q.first q.height q.is) r.0 end)
        | inl under ↦
            let u = in_units q.first q.height G high aq in
            let a : ℕ = q.first / P in
            let k : ℕ = q.height - G in
            let less : k < j = omega (arith, under, high) in
            let back : q.height ≡ k + G = omega (arith, high) in
            let scaled : 2 ^ q.height ≡ 2 ^ k * P = ap (λ x. 2 ^ x) back ∙ pow-add 2 k G in
            let from : a * P ≤ b * P = omega (arith, u.0, r.0) in
            let sum' : (a + 2 ^ k) * P ≡ a * P + 2 ^ k * P = add-mul a (2 ^ k) P in
            let to : b * P < (a + 2 ^ k) * P = omega (arith, u.0, q.high, scaled, sum') in
            let before : b < a + 2 ^ k = lt_of_mul-lt-mul_right P to in
            let one : a * P < suc b * P = omega (arith, from, suc-mul b P, pos) in
            let after : a < suc b = lt_of_mul-lt-mul_right P one in
            let same : a ≡ b = elim (cases_lt a b) [
              | inl less' ↦ absurd (omega (arith, next a b (2 ^ k) u.1 (multiple_down b k j (omega (arith, less)) al) less', before))
              | inr least ↦ omega (arith, least, after)
            ] in
            let grow = pow_le k j (omega (arith, less)) in
            let nested : Inside (S.peaks c) 0 a k =
            inside_under (S.peaks c) 0 b j a k inside (omega (arith, same)) (omega (arith, same, grow)) in
            let top = peak_top all q.first q.height (peak_of (S.peaks n) 0 q.first q.height q.is) high nested in
            let meet = inside_of_peak (S.peaks c) 0 b j a k b inside (has_of (S.peaks c) 0 a k top) (omega arith)
            (omega (arith, pow_pos j)) (omega (arith, same)) (omega (arith, before)) in
            let narrow : 2 ^ j ≤ 2 ^ k = omega (arith, meet.0, meet.1, same) in
            let least : j ≤ k = pow_order j k narrow in
            absurd (omega (arith, least, less))
      ]
