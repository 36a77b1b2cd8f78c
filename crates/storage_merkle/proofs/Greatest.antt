-- The planned nodes are the greatest nodes of the tree that hold no leaf of the range.
use Rattle.std.proofs.Common.{◌≡◌, ℕ, zero, suc, ◌+◌, ◌%◌, ◌<◌, ◌≤◌, ◌^◌, List, [], ◌∷◌, length, get_or, Bool, true, false, if◌then◌else◌, ◌⊎◌, inl, inr, refl, sym, ap, ap₂, ◌∙◌, arith, subst, pow_pos}
use Rattle.std.specs.List.{Contains}
use Rattle.std.proofs.lemmas.Bool.{cases_lt}
use Rattle.storage_merkle.specs.Shape.{Shape, Laws, Inside}
use Rattle.storage_merkle.specs.Peaks.{HasPeak}
use Rattle.storage_merkle.specs.Laws.Peaks.{peak_node, peak_inside, inside_of_peak}
use Rattle.storage_merkle.specs.Laws.Multiples.{pow_two, pow_order, pow_le, next, multiple_add, multiple_down, power_multiple}
use Rattle.storage_merkle.specs.Calc.{Site, front, back, node, given, leaf, be8}
use Rattle.storage_merkle.specs.Trees.{Layout, ungrafted, places, peaks_of, node_calc, join_calc}
use Rattle.storage_merkle.specs.RangeProofs.{apart, sites_of, sites_in, position_of, by_position, same_site}
use Rattle.storage_merkle.specs.Nodes.{IsNode}
use Rattle.storage_merkle.specs.PlanParts.{IsAmong}
use Rattle.storage_merkle.specs.Plans.{InTree, IsGreatestApart, GreatestNodesArePlanned, planned}
use Rattle.storage_merkle.proofs.Distinct.{times, one_if, same_itself, times-append, times-join, times-by_position}
use Rattle.storage_merkle.proofs.RangeOwn.{IsUnder, under_halves}
use Rattle.storage_merkle.proofs.Siblings.{positions, sites-join}
use Rattle.storage_merkle.proofs.Plan.Sites.{AllSites, all_both}
use Rattle.storage_merkle.proofs.Plan.Among.{site_has, all_have, times_among}

-- a node that covers a half of another node, and is not that half, covers the other node
covers_left : (a k b j : ℕ) → a % 2 ^ suc k ≡ 0 → b % 2 ^ j ≡ 0 → b ≤ a → a + 2 ^ k ≤ b + 2 ^ j
    → ((b ≡ a) × (j ≡ k)) ⊎ (a + 2 ^ suc k ≤ b + 2 ^ j)
covers_left a k b j ha hb l u =
    elim (cases_lt k j) [
      | inl above ↦
          let mb : b % 2 ^ suc k ≡ 0 = multiple_down b (suc k) j (omega arith) hb in
          let me : (b + 2 ^ j) % 2 ^ suc k ≡ 0 =
          multiple_add b (2 ^ j) (2 ^ suc k) (pow_pos (suc k)) mb (power_multiple j (suc k) (omega arith)) in
          inr (next a (b + 2 ^ j) (2 ^ suc k) ha me (omega (arith, pow_pos k)))
      | inr below ↦
          let less : 2 ^ j ≤ 2 ^ k = pow_le j k below in
          let same : 2 ^ k ≤ 2 ^ j = omega arith in
          let higher : k ≤ j = pow_order k j same in
          inl (omega arith, omega arith)
    ]

covers_right : (a k b j : ℕ) → a % 2 ^ suc k ≡ 0 → b % 2 ^ j ≡ 0 → b ≤ a + 2 ^ k → (a + 2 ^ k) + 2 ^ k ≤ b + 2 ^ j
    → ((b ≡ a + 2 ^ k) × (j ≡ k)) ⊎ (b ≤ a)
covers_right a k b j ha hb l u =
    elim (cases_lt k j) [
      | inl above ↦
          let mb : b % 2 ^ suc k ≡ 0 = multiple_down b (suc k) j (omega arith) hb in
          elim (cases_lt a b) [
            | inl after ↦
                absurd (let far : a + 2 ^ suc k ≤ b = next a b (2 ^ suc k) ha mb after in omega (arith, pow_two k, pow_pos k))
            | inr before ↦ inr before
          ]
      | inr below ↦
          let less : 2 ^ j ≤ 2 ^ k = pow_le j k below in
          let same : 2 ^ k ≤ 2 ^ j = omega arith in
          let higher : k ≤ j = pow_order k j same in
          inl (omega arith, omega arith)
    ]

-- a lower node in another lies in one of its halves
in_half : (a k b j : ℕ) → a % 2 ^ suc k ≡ 0 → b % 2 ^ j ≡ 0 → j ≤ k → a ≤ b → b + 2 ^ j ≤ a + 2 ^ suc k
    → (b + 2 ^ j ≤ a + 2 ^ k) ⊎ (a + 2 ^ k ≤ b)
in_half a k b j ha hb l lo hi =
    elim (cases_lt b (a + 2 ^ k)) [
      | inl left ↦
          let ma : a % 2 ^ j ≡ 0 = multiple_down a j (suc k) (omega arith) ha in
          let me : (a + 2 ^ k) % 2 ^ j ≡ 0 = multiple_add a (2 ^ k) (2 ^ j) (pow_pos j) ma (power_multiple k j l) in
          inl (next b (a + 2 ^ k) (2 ^ j) hb me left)
      | inr right ↦ inr right
    ]

module _ (T : Layout) (ks : List ℕ) (cut : ℕ → ℕ → Bool) where
  -- no other node that is cut covers it
  abbrev pub Top : ℕ → ℕ → Type 0
  Top a k = (b j : ℕ) → IsUnder ks b j → b ≤ a → a + 2 ^ k ≤ b + 2 ^ j → cut b j ≡ true → (b ≡ a) × (j ≡ k)

  abbrev pub IsTop : Site → Type 0
  IsTop front = ⊥
  IsTop back = ⊥
  IsTop (node a k) = IsUnder ks a k × (cut a k ≡ true) × Top a k

  left_top : (a k : ℕ) → a % 2 ^ suc k ≡ 0 → cut a (suc k) ≡ false → Top a (suc k) → Top a k
  left_top a k ha e top b j under l u c =
      elim (covers_left a k b j ha under.0 l u) [
        | inl same ↦ same
        | inr more ↦ absurd (let s = top b j under l more c in let f : cut b j ≡ false = ap₂ cut s.0 s.1 ∙ e in cc)
      ]

  right_top : (a k : ℕ) → a % 2 ^ suc k ≡ 0 → cut a (suc k) ≡ false → Top a (suc k) → Top (a + 2 ^ k) k
  right_top a k ha e top b j under l u c =
      elim (covers_right a k b j ha under.0 l u) [
        | inl same ↦ same
        | inr less ↦ absurd (let s = top b j under less (omega (arith, pow_two k)) c in
            let f : cut b j ≡ false = ap₂ cut s.0 s.1 ∙ e in cc)
      ]

  tops_under : (k a : ℕ) → IsUnder ks a k → Top a k → AllSites IsTop (sites_of (node_calc T cut k a))
  tops_under zero a under top = go (cut a zero) refl
    where
      go : (c : Bool) → cut a zero ≡ c
          → AllSites IsTop (sites_of (if c then given (node a zero) else leaf (be8 (T.shape.position a zero)) a))
      go true e = ((under, e, top), tt)
      go false e = tt
  tops_under (suc k) a under top = go (cut a (suc k)) refl (λ t. tops_under k a (under_halves ks a k under).0 t)
      (λ t. tops_under k (a + 2 ^ k) (under_halves ks a k under).1 t)
    where
      go : (c : Bool) → cut a (suc k) ≡ c → (Top a k → AllSites IsTop (sites_of (node_calc T cut k a)))
          → (Top (a + 2 ^ k) k → AllSites IsTop (sites_of (node_calc T cut k (a + 2 ^ k))))
          → AllSites IsTop (sites_of (if c then given (node a (suc k))
          else join_calc T a (suc k) (node_calc T cut k a) (node_calc T cut k (a + 2 ^ k))))
      go true e f g = ((under, e, top), tt)
      go false e f g = rw (sites-join T a (suc k) (node_calc T cut k a) (node_calc T cut k (a + 2 ^ k)))
          (all_both IsTop _ _ (f (left_top a k under.0 e top)) (g (right_top a k under.0 e top)))

  tops_in : (s : ℕ) (hs : List ℕ) → ((a k : ℕ) → HasPeak hs s a k → IsUnder ks a k × Top a k)
      → AllSites IsTop (sites_in T cut (places s hs))
  unfolding HasPeak
  tops_in s [] f = tt
  tops_in s (x ∷ hs) f =
      let first = f s x (inl (refl, refl)) in
      all_both IsTop _ _ (tops_under x s first.0 first.1) (tops_in (s + 2 ^ x) hs (λ a k p. f a k (inr p)))

  -- a node that is cut, and that no other such node covers, stands below each node that covers it
  found_under : (b m : ℕ) → IsUnder ks b m → cut b m ≡ true → Top b m → (k a : ℕ) → IsUnder ks a k → a ≤ b
      → b + 2 ^ m ≤ a + 2 ^ k → 1 ≤ times (node b m) (sites_of (node_calc T cut k a))
  found_under b m under c top zero a over l u =
      let low : 2 ^ m ≤ 2 ^ 0 = omega arith in
      let flat : m ≤ 0 = pow_order m 0 low in
      let em : m ≡ 0 = omega arith in
      let eb : b ≡ a = omega (arith, pow_pos m) in
      let here : cut a zero ≡ true = ap₂ cut (sym eb) (sym em) ∙ c in
      let one : one_if (same_site (node a zero) (node b m)) ≡ 1 =
      ap one_if (ap₂ (λ x y. same_site (node a zero) (node x y)) eb em ∙ same_itself (node a zero)) in
      rw here (omega arith)
  found_under b m under c top (suc k) a over l u = go (cut a (suc k)) refl (found_under b m under c top k a
      (under_halves ks a k over).0 l) (found_under b m under c top k (a + 2 ^ k) (under_halves ks a k over).1)
    where
      go : (d : Bool) → cut a (suc k) ≡ d → (b + 2 ^ m ≤ a + 2 ^ k
          → 1 ≤ times (node b m) (sites_of (node_calc T cut k a))) → (a + 2 ^ k ≤ b → b + 2 ^ m ≤ (a + 2 ^ k) + 2 ^ k
          → 1 ≤ times (node b m) (sites_of (node_calc T cut k (a + 2 ^ k)))) → 1 ≤ times (node b m) (sites_of (if d
          then given (node a (suc k)) else join_calc T a (suc k) (node_calc T cut k a) (node_calc T cut k (a + 2 ^ k))))
      go true e f g =
          let s = top a (suc k) over l u e in
          let one : one_if (same_site (node a (suc k)) (node b m)) ≡ 1 =
          ap one_if (ap₂ (λ x y. same_site (node x y) (node b m)) s.0 s.1 ∙ same_itself (node b m)) in
          omega arith
      go false e f g =
          let both = times-join (node b m) T a (suc k) (node_calc T cut k a) (node_calc T cut k (a + 2 ^ k)) in
          let low : 2 ^ m ≤ 2 ^ suc k = omega arith in
          let at_most : m ≤ suc k = pow_order m (suc k) low in
          let lower : m ≤ k = elim (cases_lt k m) [
            | inl above ↦
                let em : m ≡ suc k = omega arith in
                let same : 2 ^ m ≡ 2 ^ suc k = ap (λ x. 2 ^ x) em in
                let eb : b ≡ a = omega arith in
                absurd (let g : cut b m ≡ false = ap₂ cut eb em ∙ e in cc)
            | inr fine ↦ fine
          ] in
          elim (in_half a k b m over.0 under.0 lower l u) [
            | inl left ↦ omega (arith, both, f left)
            | inr right ↦ omega (arith, both, g right (omega (arith, pow_two k)))
          ]

  found_in : (b m : ℕ) → IsUnder ks b m → cut b m ≡ true → Top b m → (s : ℕ) (hs : List ℕ) → ((a k : ℕ)
      → HasPeak hs s a k → IsUnder ks a k) → Inside hs s b m → 1 ≤ times (node b m) (sites_in T cut (places s hs))
  unfolding Inside HasPeak
  found_in b m under c top s [] f i = absurd i
  found_in b m under c top s (x ∷ hs) f (inl i) = omega (
    arith,
    times-append (node b m) (sites_of (node_calc T cut x s))
        (sites_in T cut (places (s + 2 ^ x) hs)),
    found_under b m under c top x s (f s x (inl (refl, refl))) i.0 i.1,
  )
  found_in b m under c top s (x ∷ hs) f (inr i) = omega (
    arith,
    times-append (node b m) (sites_of (node_calc T cut x s))
        (sites_in T cut (places (s + 2 ^ x) hs)),
    found_in b m under c top (s + 2 ^ x) hs (λ a k p. f a k (inr p)) i,
  )

module _ (S : Shape) (L : Laws S) (n : ℕ) where
  from_tree : (a k : ℕ) → InTree S n a k → IsUnder (S.peaks n) a k
  from_tree a k t = (t.aligned, (L.inside n a k t.aligned).1 ((L.born n a k t.aligned).0 t.inside))

  to_tree : (a k : ℕ) → IsUnder (S.peaks n) a k → InTree S n a k
  to_tree a k u = record { aligned = u.0; inside = (L.born n a k u.0).1 ((L.inside n a k u.0).0 u.1) }

  peak_under : (a k : ℕ) → HasPeak (S.peaks n) 0 a k → IsUnder (S.peaks n) a k
  peak_under a k p = ((peak_node S L n a k p).0, peak_inside (S.peaks n) 0 a k p)

  -- no other node of the tree covers a peak
  pub peak_top : (cut : ℕ → ℕ → Bool) (a k : ℕ) → HasPeak (S.peaks n) 0 a k → Top (ungrafted S) (S.peaks n) cut a k
  peak_top cut a k p b j under l u c =
      let i = inside_of_peak (S.peaks n) 0 b j a k a under.1 p l (omega (arith, pow_pos k)) (omega arith)
      (omega (arith, pow_pos k)) in
      let eb : b ≡ a = omega (arith, i) in
      let up : 2 ^ j ≤ 2 ^ k = omega (arith, i) in
      let down : 2 ^ k ≤ 2 ^ j = omega arith in
      let x : j ≤ k = pow_order j k up in
      let y : k ≤ j = pow_order k j down in
      (eb, omega arith)

-- no other node that is cut covers one that a tree is given
pub all_tops : (T : Layout) → Laws T.shape → (n : ℕ) (cut : ℕ → ℕ → Bool)
    → AllSites (IsTop T (T.shape.peaks n) cut) (sites_in T cut (peaks_of T n))
all_tops T L n cut = tops_in T (T.shape.peaks n) cut 0 (T.shape.peaks n)
    (λ a k h. (peak_under T.shape L n a k h, peak_top T.shape L n cut a k h))

named : (T : Layout) (Q : Site → Type 0) (ss : List Site) → AllSites Q ss → (k : ℕ) (p : ℕ)
    → k < length (positions T ss) → get_or (positions T ss) k p ≡ p → (s : Site) × Q s × (position_of T s ≡ p)
named T Q [] a k p l e = absurd (omega arith)
named T Q (s ∷ ss) a zero p l e = (s, a.0, e)
named T Q (s ∷ ss) a (suc k) p l e = named T Q ss a.1 k p (omega arith) e

contained : (ps : List ℕ) (p : ℕ) → IsAmong ps p → Contains ps p
contained [] p a = absurd a
contained (q ∷ qs) p (inl e) = (0, omega arith, sym e)
contained (q ∷ qs) p (inr a) = let r = contained qs p a in (suc r.0, omega (arith, r.1), r.2)

pub greatest_nodes_are_planned : GreatestNodesArePlanned
greatest_nodes_are_planned S L n low high p =
    let T = ungrafted S in
    let cut = apart low high in
    let ks = S.peaks n in
    let ss = sites_in T cut (peaks_of T n) in
    let all : AllSites (IsTop T ks cut) ss = all_tops T L n cut in
    let sorted : AllSites (IsTop T ks cut) (by_position T ss) = all_have (IsTop T ks cut) (by_position T ss)
    (λ s l. site_has (IsTop T ks cut) s ss all (omega (arith, times-by_position T s ss))) in (
      λ c. (let r = named T (IsTop T ks cut) (by_position T ss) sorted c.0 p c.1 c.2 in of_site r.0 r.1 r.2),
      λ g.
          let a = g.0 in
          let k = g.1 in
          let under = from_tree S L n a k g.3.tree in
          let found = found_in T ks cut a k under g.3.outside
          (λ b j u l h c. g.3.greatest b j (to_tree S L n b j u) c l h) 0 ks (peak_under S L n) under.1 in
          subst (Contains (planned S n low high)) g.2.at (contained (planned S n low high) (S.position a k)
          (times_among T (node a k) (by_position T ss) (omega (arith, times-by_position T (node a k) ss)))),
    )
  where
    of_site : (s : Site) → IsTop (ungrafted S) (S.peaks n) (apart low high) s → position_of (ungrafted S) s ≡ p
        → (a : ℕ) × (k : ℕ) × IsNode S p a k × IsGreatestApart S n low high a k
    of_site front q e = absurd q
    of_site back q e = absurd q
    of_site (node a k) q e = (
      a,
      k,
      record { aligned = q.0.0; at = e },
      record {
        tree = to_tree S L n a k q.0;
        outside = q.1;
        greatest = λ b j t c l u. q.2 b j (from_tree S L n b j t) l u c;
      },
    )
