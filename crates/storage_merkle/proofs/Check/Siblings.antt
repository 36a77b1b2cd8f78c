-- The siblings of a check: where they stand, and whose digests are given.
use Rattle.std.proofs.Common.{◌≡◌, ℕ, zero, suc, ◌+◌, ◌%◌, ◌<◌, ◌≤◌, ◌^◌, List, [], ◌∷◌, ◌++◌, length, map, get_or, Contains, Bool, true, false, if◌then◌else◌, refl, sym, ap, ap₂, ◌∙◌, arith, subst, leb, eqb, eq-eqb, eqb-true, pow_pos}
use Rattle.std.specs.List.Sorted.{IsNonDecreasing}
use Rattle.std.proofs.lemmas.List.{get_or_default}
use Rattle.storage_merkle.specs.Shape.{Shape, Laws, AreAligned}
use Rattle.storage_merkle.specs.Laws.Multiples.{multiple_down, multiple_add, power_multiple}
use Rattle.storage_merkle.specs.Calc.{Site, front, back, node, given, leaf, be8}
use Rattle.storage_merkle.specs.Trees.{Layout, Peak, places, peaks_of, part, node_calc, join_calc, ungrafted}
use Rattle.storage_merkle.specs.RangeProofs.{apart, leading, not_leading, up_to, sites_of, sites_in, position_of, place_in, by_position}
use Rattle.storage_merkle.specs.Rests.{peaks_from, AreAfterLeading}
use Rattle.storage_merkle.specs.Siblings.{sibling_sites}
use Rattle.storage_merkle.specs.Extracted.{overlapped}
use Rattle.storage_merkle.specs.CheckParts.{Serves, Present, PresentIn}
use Rattle.storage_merkle.proofs.Distinct.{one_if}
use Rattle.storage_merkle.proofs.AscendingNumbers.{Rising, count, rising_at}
use Rattle.storage_merkle.proofs.Siblings.{overlapped-is, positions, sites-join, sort-count, sort_rises, not_both}

contains_count : (m : ℕ) (xs : List ℕ) → 1 ≤ count m xs → Contains xs m
contains_count m [] l = absurd (omega arith)
contains_count m (x ∷ xs) l = go (eqb x m) refl l (contains_count m xs)
  where
    go : (b : Bool) → eqb x m ≡ b → 1 ≤ one_if b + count m xs → (1 ≤ count m xs → Contains xs m) → Contains (x ∷ xs) m
    go true e h f = (0, omega arith, eqb-true x m e)
    go false e h f = let r = f (omega arith) in (suc r.0, omega (arith, r.1), r.2)

-- ascending, at any default
pub rising_list : (xs : List ℕ) → Rising xs → IsNonDecreasing xs
rising_list xs r = λ i j d u l.
    let at = rising_at xs r i j u l in
    omega (arith, at, get_or_default xs i d 0 (omega arith), get_or_default xs j d 0 l)

-- sites that are nodes
abbrev pub IsPlace : Site → Type 0
IsPlace front = ⊥
IsPlace back = ⊥
IsPlace (node a k) = a % 2 ^ k ≡ 0

abbrev pub ArePlaces : List Site → Type 0
ArePlaces [] = Unit {0}
ArePlaces (s ∷ ss) = IsPlace s × ArePlaces ss

pub places_append : (ss ts : List Site) → ArePlaces ss → ArePlaces ts → ArePlaces (ss ++ ts)
places_append [] ts p q = q
places_append (s ∷ ss) ts p q = (p.0, places_append ss ts p.1 q)

module _ (T : Layout) where
  places_in_place : (s : Site) (ss : List Site) → IsPlace s → ArePlaces ss → ArePlaces (place_in T s ss)
  places_in_place s [] p q = (p, tt)
  places_in_place s (t ∷ ts) p q =
      elim (leb (position_of T s) (position_of T t)) as (λ b.
      ArePlaces (if b then s ∷ t ∷ ts else t ∷ place_in T s ts)) [
        | true ↦ (p, q)
        | false ↦ (q.0, places_in_place s ts p q.1)
      ]

  pub places_sorted : (ss : List Site) → ArePlaces ss → ArePlaces (by_position T ss)
  places_sorted [] p = tt
  places_sorted (s ∷ ss) p = places_in_place s (by_position T ss) p.0 (places_sorted ss p.1)

  module _ (cut : ℕ → ℕ → Bool) where
    pub node_places : (k a : ℕ) → a % 2 ^ k ≡ 0 → ArePlaces (sites_of (node_calc T cut k a))
    node_places zero a h =
        elim (cut a zero) as (λ b. ArePlaces (sites_of (if b then given (node a zero)
        else leaf (be8 (T.shape.position a zero)) a))) [ true ↦ (h, tt) | false ↦ tt ]
    node_places (suc k) a h =
        let down : a % 2 ^ k ≡ 0 = multiple_down a k (suc k) (omega arith) h in
        let right : (a + 2 ^ k) % 2 ^ k ≡ 0 =
        multiple_add a (2 ^ k) (2 ^ k) (pow_pos k) down (power_multiple k k (omega arith)) in
        let l = node_calc T cut k a in
        let r = node_calc T cut k (a + 2 ^ k) in
        let halves = places_append (sites_of l) (sites_of r) (node_places k a down) (node_places k (a + 2 ^ k) right) in
        elim (cut a (suc k)) as (λ b.
        ArePlaces (sites_of (if b then given (node a (suc k)) else join_calc T a (suc k) l r))) [
          | true ↦
              (h, tt)
          | false ↦ subst ArePlaces (sym (sites-join T a (suc k) l r)) halves
        ]

  overlapped_places : (low high s : ℕ) (ks : List ℕ) → AreAligned ks s
      → ArePlaces (sites_in T (apart low high) (overlapped low high (places s ks)))
  unfolding AreAligned
  overlapped_places low high s [] al = tt
  overlapped_places low high s (k ∷ ks) al =
      let later = overlapped_places low high (s + 2 ^ k) ks al.1 in
      elim (apart low high s k) as (λ b.
      ArePlaces (sites_in T (apart low high) (if b then overlapped low high (places (s + 2 ^ k) ks)
      else (record { first = s; height = k }) ∷ overlapped low high (places (s + 2 ^ k) ks)))) [
        | true ↦ later
        | false ↦
            places_append (sites_of (node_calc T (apart low high) k s)) _ (node_places (apart low high) k s al.0) later
      ]

  siblings_are : (n low high : ℕ) → sibling_sites T n low high
      ≡ by_position T (sites_in T (apart low high) (overlapped low high (places 0 (T.shape.peaks n))))
  siblings_are n low high =
      ap (λ ps. by_position T (sites_in T (apart low high) ps)) (sym (overlapped-is low high 0 (T.shape.peaks n)))

-- digests at positions
module _ (S : Shape) (L : Laws S) (digest : Site → List ℕ) where
  pub serve_each : (ss : List Site) → ArePlaces ss → (a k i : ℕ) → a % 2 ^ k ≡ 0
      → i < length (positions (ungrafted S) ss) → get_or (positions (ungrafted S) ss) i 0 ≡ S.position a k
      → get_or (map digest ss) i [] ≡ digest (node a k)
  serve_each [] p a k i h l e = absurd (omega arith)
  serve_each (front ∷ ss) p a k i h l e = absurd p.0
  serve_each (back ∷ ss) p a k i h l e = absurd p.0
  serve_each (node b j ∷ ss) p a k zero h l e = let same = L.injective b j a k p.0 h e in
      ap₂ (λ x y. digest (node x y)) same.0 same.1
  serve_each (node b j ∷ ss) p a k (suc i) h l e = serve_each ss p.1 a k i h (omega arith) e

  pub siblings_serve : (n low high : ℕ) (ps : List ℕ) (ds : List (List ℕ))
      → ps ≡ positions (ungrafted S) (sibling_sites (ungrafted S) n low high)
      → ds ≡ map digest (sibling_sites (ungrafted S) n low high) → Serves S digest ps ds
  siblings_serve n low high ps ds ep ed =
      let U = ungrafted S in
      let ss = by_position U (sites_in U (apart low high) (overlapped low high (places 0 (S.peaks n)))) in
      let all : ArePlaces ss = places_sorted U _ (overlapped_places U low high 0 (S.peaks n) (L.aligned n)) in
      let ep' : ps ≡ positions U ss = ep ∙ ap (positions U) (siblings_are U n low high) in
      let ed' : ds ≡ map digest ss = ed ∙ ap (map digest) (siblings_are U n low high) in
      let served : Serves S digest (positions U ss) (map digest ss) =
      record { each = λ a k i h l e. serve_each ss all a k i h l e } in
      subst (λ xs. Serves S digest xs ds) (sym ep') (subst (Serves S digest (positions U ss)) (sym ed') served)

-- positions that are there
module _ (S : Shape) where
  pub present_all : (ss : List Site) (ps : List ℕ) → ((m : ℕ) → count m (positions (ungrafted S) ss) ≤ count m ps)
      → Present S ps ss
  present_all [] ps f = tt
  present_all (s ∷ ss) ps f =
      let p : ℕ = position_of (ungrafted S) s in (
        contains_count p ps (omega (arith, f p, ap one_if (eq-eqb p p refl))),
        present_all ss ps (λ m. omega (arith, f m)),
      )

  present_split : (ss ts : List Site) (ps : List ℕ) → Present S ps (ss ++ ts) → Present S ps ss × Present S ps ts
  present_split [] ts ps p = (tt, p)
  present_split (s ∷ ss) ts ps p = let r = present_split ss ts ps p.1 in ((p.0, r.0), r.1)

  module _ (low high : ℕ) (ps : List ℕ) where
    present_in : (qs : List Peak) → Present S ps (sites_in (ungrafted S) (apart low high) (overlapped low high qs))
        → PresentIn S low high ps qs
    present_in [] p = tt
    present_in (q ∷ qs) p = go (apart low high q.first q.height) refl p (present_in qs)
      where
        go : (b : Bool) → apart low high q.first q.height ≡ b → Present S ps
            (sites_in (ungrafted S) (apart low high) (if b then overlapped low high qs else q ∷ overlapped low high qs))
            → (Present S ps (sites_in (ungrafted S) (apart low high) (overlapped low high qs))
            → PresentIn S low high ps qs) → PresentIn S low high ps (q ∷ qs)
        go true e h f = (λ out. absurd (not_both _ e out), f h)
        go false e h f = let r = present_split (sites_of (part (ungrafted S) (apart low high) q))
            (sites_in (ungrafted S) (apart low high) (overlapped low high qs)) ps h in (λ out. r.0, f r.1)

    present_after : (us vs : List Peak) → PresentIn S low high ps (us ++ vs) → PresentIn S low high ps vs
    present_after [] vs p = p
    present_after (u ∷ us) vs p = present_after us vs p.1

    pub siblings_present : (n f a r g : ℕ) → ps ≡ positions (ungrafted S) (sibling_sites (ungrafted S) n low high)
        → AreAfterLeading S low 0 n f a r g → PresentIn S low high ps (peaks_from S a r)
    siblings_present n f a r g e after =
        let U = ungrafted S in
        let ss = sites_in U (apart low high) (overlapped low high (places 0 (S.peaks n))) in
        let e' : ps ≡ positions U (by_position U ss) = e ∙ ap (positions U) (siblings_are U n low high) in
        let all : Present S ps ss = present_all ss ps (λ m. omega (arith, ap (count m) e', sort-count U m ss)) in
        present_after (leading low _) (peaks_from S a r)
        (subst (PresentIn S low high ps) after.all (present_in (places 0 (S.peaks n)) all))

pub siblings_rise : (S : Shape) (n low high : ℕ) (ps : List ℕ)
    → ps ≡ positions (ungrafted S) (sibling_sites (ungrafted S) n low high) → IsNonDecreasing ps
siblings_rise S n low high ps e =
    let U = ungrafted S in
    let ss = sites_in U (apart low high) (up_to high (not_leading low (peaks_of U n))) in
    subst IsNonDecreasing (sym e) (rising_list (positions U (by_position U ss)) (sort_rises U ss))
