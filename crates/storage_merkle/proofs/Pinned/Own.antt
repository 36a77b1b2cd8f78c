-- A tree's own proof, with the digests of its own peaks over the start, is accepted: what stands before the start is hashed from them.
use Rattle.std.proofs.Common.{◌≡◌, ℕ, zero, suc, ◌+◌, ◌%◌, ◌<◌, ◌≤◌, ◌^◌, List, [], ◌∷◌, ◌++◌, length, map, get_or, Bool, true, false, if◌then◌else◌, ◌&&◌, ◌||◌, inl, inr, refl, sym, ap, ap₂, ◌∙◌, arith, subst, leb, leb-true, le-leb, eqb, eqb-true, eq-eqb, ne_eqb, pow_pos}
use Rattle.std.proofs.lemmas.Bool.{cases_Bool, cases_lt, and_parts, or_cases, or_from, or_left, or_right}
use Rattle.std.proofs.lemmas.List.{length-map}
use Rattle.storage_codec.specs.Digests.{HashFunction}
use Rattle.storage_merkle.specs.Shape.{Laws, Inside}
use Rattle.storage_merkle.specs.Peaks.{HasPeak}
use Rattle.storage_merkle.specs.Laws.Shape.{inside_between}
use Rattle.storage_merkle.specs.Laws.Peaks.{inside_grows, peak_inside, peak_node, peak_over}
use Rattle.storage_merkle.specs.Laws.Multiples.{pow_two, next, multiple_add, multiple_down, power_multiple}
use Rattle.storage_merkle.specs.declared.merkle.bagging.Bagging.{Bagging}
use Rattle.storage_merkle.specs.Calc.{Site, front, back, node, Calc, given, leaf, pair, graft, be8, Values, eval, Agree}
use Rattle.storage_merkle.specs.Trees.{Layout, Content, Peak, content_of, never, places, peaks_of, node_calc, join_calc, part, whole_peak, folded, unfolded, fold_forward, bag, plain}
use Rattle.storage_merkle.specs.RangeProofs.{Proof, apart, leading, sites, range_sites, same_site, look_up, check_values, fold_digest, own_digest, own_proof, sites_in}
use Rattle.storage_merkle.specs.Multi.{tree_digest}
use Rattle.storage_merkle.specs.Pinned.{stands_in, peak_sites, is_earlier, recomputed, Match, OwnPinnedProofsAreAccepted}
use Rattle.storage_merkle.proofs.Prune.{prunes_node}
use Rattle.storage_merkle.proofs.Agreeing.{AllPeaks}
use Rattle.storage_merkle.proofs.Distinct.{times, one_if, same_itself, all_times}
use Rattle.storage_merkle.proofs.Under.{all_folded}
use Rattle.storage_merkle.proofs.RangeSound.{folded-all}
use Rattle.storage_merkle.proofs.RangeOwn.{found, eval_agree, own_accepted}
use Rattle.storage_merkle.proofs.Greatest.{Top, IsTop, all_tops, peak_top}
use Rattle.storage_merkle.proofs.Plan.Among.{site_has}

-- ---- peaks, by the sites of their digests

has_stands : (hs : List ℕ) (s a k : ℕ) → HasPeak hs s a k → stands_in (places s hs) a k ≡ true
unfolding HasPeak
has_stands [] s a k p = absurd p
has_stands (x ∷ hs) s a k (inl p) =
    or_left (eqb s a && eqb x k) _ (rw (eq-eqb s a (sym p.0), eq-eqb x k (sym p.1)) refl)
has_stands (x ∷ hs) s a k (inr p) = or_right (eqb s a && eqb x k) _ (has_stands hs (s + 2 ^ x) a k p)

stands_has : (hs : List ℕ) (s a k : ℕ) → stands_in (places s hs) a k ≡ true → HasPeak hs s a k
unfolding HasPeak
stands_has [] s a k e = cc
stands_has (x ∷ hs) s a k e =
    elim (or_cases (eqb s a && eqb x k) (stands_in (places (s + 2 ^ x) hs) a k) e) [
      | inl here ↦
          let r = and_parts (eqb s a) (eqb x k) here in inl (sym (eqb-true s a r.0), sym (eqb-true x k r.1))
      | inr later ↦ inr (stands_has hs (s + 2 ^ x) a k later)
    ]

has_times : (hs : List ℕ) (s a k : ℕ) → HasPeak hs s a k → 1 ≤ times (node a k) (peak_sites (places s hs))
unfolding HasPeak
has_times [] s a k p = absurd p
has_times (x ∷ hs) s a k (inl p) =
    let here : (eqb s a && eqb x k) ≡ true = rw (eq-eqb s a (sym p.0), eq-eqb x k (sym p.1)) refl in
    omega (arith, ap one_if here)
has_times (x ∷ hs) s a k (inr p) = omega (arith, has_times hs (s + 2 ^ x) a k p)

each_peak : (Q : ℕ → ℕ → Type 0) (hs : List ℕ) (s : ℕ) → ((a k : ℕ) → HasPeak hs s a k → Q a k)
    → AllPeaks (λ p. Q p.first p.height) (places s hs)
unfolding HasPeak
each_peak Q [] s f = tt
each_peak Q (x ∷ hs) s f = (f s x (inl (refl, refl)), each_peak Q hs (s + 2 ^ x) (λ a k p. f a k (inr p)))

all_leading : (low : ℕ) (Q : Peak → Type 0) (ps : List Peak) → AllPeaks Q ps
    → AllPeaks (λ p. Q p × (p.first + 2 ^ p.height ≤ low)) (leading low ps)
all_leading low Q [] a = tt
all_leading low Q (p ∷ ps) a =
    elim (cases_Bool (leb (p.first + 2 ^ p.height) low)) [
      | inl e ↦ rw e ((a.0, leb-true _ _ e), all_leading low Q ps a.1)
      | inr e ↦ rw e tt
    ]

-- of two nodes that share a leaf the lower one lies in the other
lies_in : (a k c j : ℕ) → a % 2 ^ k ≡ 0 → c % 2 ^ j ≡ 0 → j ≤ k → a < c + 2 ^ j → c < a + 2 ^ k
    → (a ≤ c) × (c + 2 ^ j ≤ a + 2 ^ k)
lies_in a k c j ha hc le l u =
    let low : a % 2 ^ j ≡ 0 = multiple_down a j k le ha in
    let high : (a + 2 ^ k) % 2 ^ j ≡ 0 = multiple_add a (2 ^ k) (2 ^ j) (pow_pos j) low (power_multiple k j le) in
    let from : a ≤ c = elim (cases_lt c a) [
      | inl less ↦ absurd (let past : c + 2 ^ j ≤ a = next c a (2 ^ j) hc low less in omega arith)
      | inr fine ↦ fine
    ] in
    (from, next c (a + 2 ^ k) (2 ^ j) hc high u)

-- ---- two values agree on a node: where it is given, and where they agree on its halves

module _ (v w : Values) (T : Layout) (cut : ℕ → ℕ → Bool) where
  agree_given : (a k : ℕ) → cut a k ≡ true → v.digest (node a k) ≡ w.digest (node a k)
      → Agree v w (node_calc T cut k a)
  agree_given a zero c e = subst
      (λ b. Agree v w (if b then given (node a zero) else leaf (be8 (T.shape.position a zero)) a)) (sym c) e
  agree_given a (suc k) c e = subst (λ b. Agree v w (if b then given (node a (suc k))
      else join_calc T a (suc k) (node_calc T cut k a) (node_calc T cut k (a + 2 ^ k)))) (sym c) e

  module _ (chunks : (a : ℕ) → v.chunk a ≡ w.chunk a) where
    agree_joined : (a k : ℕ) (l r : Calc) → Agree v w l → Agree v w r → Agree v w (join_calc T a k l r)
    agree_joined a k l r x y = elim (T.grafted a k) as (λ b.
        Agree v w (if b then graft a (T.position a k) l r else pair (be8 (T.position a k)) l r)) [
          | true ↦ (chunks a, (x, y))
          | false ↦ (x, y)
        ]

    agree_halves : (a k : ℕ) → cut a (suc k) ≡ false → Agree v w (node_calc T cut k a)
        → Agree v w (node_calc T cut k (a + 2 ^ k)) → Agree v w (node_calc T cut (suc k) a)
    agree_halves a k c x y = subst (λ b. Agree v w (if b then given (node a (suc k))
        else join_calc T a (suc k) (node_calc T cut k a) (node_calc T cut k (a + 2 ^ k)))) (sym c)
        (agree_joined a (suc k) _ _ x y)

-- ---- folds from the left are the same where their items are

module _ (h : HashFunction) (v w : Values) (T : Layout) (cut : ℕ → ℕ → Bool) where
  abbrev SamePart : Peak → Type 0
  SamePart p = eval h v (part T cut p) ≡ eval h w (whole_peak T p)

  forward_same : (t u : Calc) → eval h v t ≡ eval h w u → (ps : List Peak) → AllPeaks SamePart ps
      → eval h v (fold_forward t (map (part T cut) ps)) ≡ eval h w (fold_forward u (map (whole_peak T) ps))
  forward_same t u e [] a = e
  forward_same t u e (p ∷ ps) a = forward_same (pair [] t (part T cut p)) (pair [] u (whole_peak T p))
      (ap₂ (λ x y. h ([] ++ (x ++ y))) e a.0) ps a.1

  fold_same : (ps : List Peak) → AllPeaks SamePart ps
      → fold_digest h v (bag (map (part T cut) ps) []) ≡ fold_digest h w (bag (map (whole_peak T) ps) [])
  fold_same [] a = refl
  fold_same (p ∷ ps) a = forward_same (part T cut p) (whole_peak T p) a.0 ps a.1

module _ (h : HashFunction) (T : Layout) (L : Laws T.shape) (content : Content) (start : ℕ) where
  -- the peaks over the start: their heights, where they are given, and their digests
  abbrev over : List ℕ
  over = T.shape.peaks start

  abbrev cut : ℕ → ℕ → Bool
  cut a k = eqb k 0 || stands_in (places 0 over) a k

  abbrev pins : List (List ℕ)
  pins = map (tree_digest h T content) (peak_sites (places 0 over))

  abbrev from_pins : Values
  from_pins = record {
    digest = look_up (h []) (peak_sites (places 0 over)) pins;
    element = λ j. [];
    chunk = content.chunk;
  }

  -- what the tree has at each node
  abbrev whole : Values
  whole = record {
    digest = tree_digest h T content;
    element = λ j. get_or content.elements j [];
    chunk = content.chunk;
  }

  -- a peak over the start is no higher than the node, if they share a leaf
  abbrev Low : ℕ → ℕ → Type 0
  Low a k = (c j : ℕ) → HasPeak over 0 c j → a < c + 2 ^ j → c < a + 2 ^ k → j ≤ k

  peak_within : (c j : ℕ) → HasPeak over 0 c j → (c % 2 ^ j ≡ 0) × (c + 2 ^ j ≤ start)
  peak_within c j p = (
    (peak_node T.shape L start c j p).0,
    omega (arith, inside_between over 0 c j (peak_inside over 0 c j p), L.sum start),
  )

  given_peak : (a k : ℕ) → HasPeak over 0 a k → from_pins.digest (node a k) ≡ whole.digest (node a k)
  given_peak a k p =
      found (h []) (tree_digest h T content) (peak_sites (places 0 over)) (node a k) (has_times over 0 a k p)

  -- a node that is the greatest apart from what begins at the start
  top_low : (n high : ℕ) → start ≤ n → (a k : ℕ) → a % 2 ^ k ≡ 0 → Top T (T.shape.peaks n) (apart start high) a k
      → Low a k
  top_low n high le a k al top c j p l u =
      elim (cases_lt k j) [
        | inr fine ↦ fine
        | inl above ↦
            let w = peak_within c j p in
            let i : Inside (T.shape.peaks n) 0 c j = inside_grows T.shape L start n c j le w.0 (peak_inside over 0 c j p) in
            let covers = lies_in c j a k w.0 al (omega arith) u l in
            let out : apart start high c j ≡ true = or_left (leb (c + 2 ^ j) start) _ (le-leb (c + 2 ^ j) start w.1) in
            let same = top c j (w.0, i) covers.0 covers.1 out in
            absurd (omega (arith, same.1))
      ]

  -- so it is in a half of a node that is no such peak
  half_low : (a k : ℕ) → a % 2 ^ suc k ≡ 0 → (HasPeak over 0 a (suc k) → ⊥) → Low a (suc k) → (b : ℕ) → a ≤ b
      → b + 2 ^ k ≤ a + 2 ^ suc k → Low b k
  half_low a k al none low b from to c j p l u =
      elim (cases_lt k j) [
        | inr fine ↦ fine
        | inl above ↦
            let first : a < c + 2 ^ j = omega arith in
            let last : c < a + 2 ^ suc k = omega arith in
            let most : j ≤ suc k = low c j p first last in
            let ej : j ≡ suc k = omega arith in
            let size : 2 ^ j ≡ 2 ^ suc k = ap (λ x. 2 ^ x) ej in
            let i = lies_in a (suc k) c j al (peak_within c j p).0 most first last in
            let ec : c ≡ a = omega (arith, i.0, i.1) in
            absurd (none (subst (λ x. HasPeak over 0 x (suc k)) ec (subst (λ x. HasPeak over 0 c x) ej p)))
      ]

  -- a leaf before the start, under no higher peak, is a peak itself
  leaf_peak : (a : ℕ) → a + 2 ^ 0 ≤ start → Low a 0 → HasPeak over 0 a 0
  leaf_peak a before low =
      let o = peak_over over 0 a (omega arith) (omega (arith, L.sum start)) in
      let flat : o.height ≤ 0 = low o.first o.height o.is o.high (omega (arith, o.low)) in
      let eh : o.height ≡ 0 = omega arith in
      let size : 2 ^ o.height ≡ 2 ^ 0 = ap (λ x. 2 ^ x) eh in
      let ea : o.first ≡ a = omega (arith, o.low, o.high) in
      subst (λ x. HasPeak over 0 x 0) ea (subst (λ x. HasPeak over 0 o.first x) eh o.is)

  agree_before : (k a : ℕ) → a % 2 ^ k ≡ 0 → a + 2 ^ k ≤ start → Low a k
      → Agree from_pins whole (node_calc T cut k a)
  agree_before zero a al before low =
      agree_given from_pins whole T cut a zero refl (given_peak a zero (leaf_peak a before low))
  agree_before (suc k) a al before low =
      elim (cases_Bool (stands_in (places 0 over) a (suc k))) [
        | inl e ↦ agree_given from_pins whole T cut a (suc k) (or_right (eqb (suc k) 0) _ e)
            (given_peak a (suc k) (stands_has over 0 a (suc k) e))
        | inr e ↦
            let none : HasPeak over 0 a (suc k) → ⊥ =
            λ p. (let t = has_stands over 0 a (suc k) p in let both : true ≡ false = sym t ∙ e in cc) in
            let left : a % 2 ^ k ≡ 0 = multiple_down a k (suc k) (omega arith) al in
            let right : (a + 2 ^ k) % 2 ^ k ≡ 0 =
            multiple_add a (2 ^ k) (2 ^ k) (pow_pos k) left (power_multiple k k (omega arith)) in
            let twice : 2 ^ suc k ≡ 2 ^ k + 2 ^ k = pow_two k in
            let halves : cut a (suc k) ≡ false =
            or_from (eqb (suc k) 0) _ (ne_eqb (suc k) 0 (λ z. absurd (omega arith))) e in
            agree_halves from_pins whole T cut (λ d. refl) a k halves
            (agree_before k a left (omega arith) (half_low a k al none low a (omega arith) (omega arith)))
            (agree_before k (a + 2 ^ k) right (omega arith)
            (half_low a k al none low (a + 2 ^ k) (omega arith) (omega arith)))
      ]

  same_before : (k a : ℕ) → a % 2 ^ k ≡ 0 → a + 2 ^ k ≤ start → Low a k
      → eval h from_pins (node_calc T cut k a) ≡ eval h (plain h content) (node_calc T never k a)
  same_before k a al before low =
      eval_agree from_pins whole h (node_calc T cut k a) (agree_before k a al before low)
      ∙ (prunes_node h whole (plain h content) T cut (λ d. refl) (λ j. refl) (λ c j. refl) k a).same

  -- ---- the digests of a proof from the start on

  module _ (b : Bagging) (elements : List (List ℕ)) (inactive : ℕ)
      (within : start + length elements ≤ length content.elements) where
    abbrev count : ℕ
    count = length content.elements

    abbrev high : ℕ
    high = start + length elements

    abbrev claim : Content
    claim = content_of elements content.chunk

    abbrev own : Proof
    own = own_proof h T b content inactive start high

    abbrev again : Site → List ℕ
    again = recomputed h T b own start claim pins

    abbrev digest : Site → List ℕ
    digest = own_digest h T b content count inactive start high

    -- a peak of the tree
    abbrev Placed : ℕ → ℕ → Type 0
    Placed a k = (a % 2 ^ k ≡ 0) × Top T (T.shape.peaks count) (apart start high) a k

    same_part : (ps : List Peak)
        → AllPeaks (λ p. Placed p.first p.height × (p.first + 2 ^ p.height ≤ start)) ps
        → AllPeaks (SamePart h from_pins (plain h content) T cut) ps
    same_part [] a = tt
    same_part (p ∷ ps) a = (
      same_before p.height p.first a.0.0.0 a.0.1
          (top_low count high (omega arith) p.first p.height a.0.0.0 a.0.0.1),
      same_part ps a.1,
    )

    front_again : digest front ≡ again front
    front_again =
        let tops = each_peak Placed (T.shape.peaks count) 0
        (λ a k p. ((peak_node T.shape L count a k p).0, peak_top T.shape L count (apart start high) a k p)) in
        let first = all_leading start (λ p. Placed p.first p.height) (folded b inactive (peaks_of T count))
        (all_folded (λ p. Placed p.first p.height) b inactive (peaks_of T count) tops).0 in
        sym (fold_same h from_pins (plain h content) T cut _ (same_part _ first))

    site_again : (s : Site) → 1 ≤ times s (sites T start high b count inactive) → is_earlier start s ≡ true
        → digest s ≡ again s
    site_again front l e = front_again
    site_again back l e = cc
    site_again (node a k) l e =
        let xs = folded b inactive (peaks_of T count) in
        let ys = unfolded b inactive (peaks_of T count) in
        let all = ap (λ ps. times (node a k) (sites_in T (apart start high) ps)) (folded-all b inactive (peaks_of T count)) in
        let top : IsTop T (T.shape.peaks count) (apart start high) (node a k) =
        site_has (IsTop T (T.shape.peaks count) (apart start high)) (node a k)
        (sites_in T (apart start high) (peaks_of T count)) (all_tops T L count (apart start high))
        (omega (arith, l, all, all_times T start high (node a k) xs ys)) in
        sym (same_before k a top.0.0 (leb-true _ _ e) (top_low count high (omega arith) a k top.0.0 top.2))

    matched : (f r : Site → List ℕ) (ss : List Site)
        → ((s : Site) → 1 ≤ times s ss → is_earlier start s ≡ true → f s ≡ r s) → Match start f r ss
    matched f r [] g = tt
    matched f r (s ∷ ss) g = let itself : one_if (same_site s s) ≡ 1 = ap one_if (same_itself s) in
        (g s (omega arith), matched f r ss (λ t l. g t (omega arith)))

    own_match : Match start (check_values h T b own start claim).digest again (range_sites h T b own start claim)
    own_match = matched _ again (range_sites h T b own start claim)
        (λ s l e. found (h []) digest (sites T start high b count inactive) s l ∙ site_again s l e)

pub own_pinned_accepted : OwnPinnedProofsAreAccepted
own_pinned_accepted h T L b proof start elements pinned content inactive few peaks some is =
    let claim = content_of elements content.chunk in
    let own = is.own in
    let first = own_match h T L content start b elements inactive own.elements_are.within in
    record {
      accepted = own_accepted h T L b start claim content inactive proof few peaks some own;
      count = ap length is.pinned_are ∙ length-map _ _;
      same = subst (λ (p : Proof). Match start (check_values h T b p start claim).digest
          (recomputed h T b p start claim pinned) (range_sites h T b p start claim)) (sym own.proof_is)
          (subst (λ (ps : List (List ℕ)). Match start
          (check_values h T b (own_proof h T b content inactive start (start + length elements)) start claim).digest
          (recomputed h T b (own_proof h T b content inactive start (start + length elements)) start claim ps)
          (range_sites h T b (own_proof h T b content inactive start (start + length elements)) start claim))
          (sym is.pinned_are) first);
    }
