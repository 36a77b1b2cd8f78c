-- The sites of a range proof, as a check walks along them.
use Rattle.std.proofs.Common.{◌≡◌, ℕ, zero, suc, ◌+◌, ◌<◌, ◌≤◌, ◌^◌, List, [], ◌∷◌, ◌++◌, map, take, drop, true, false, if◌then◌else◌, ◌||◌, ◌⊎◌, inl, inr, refl, sym, ap, ap₂, ◌∙◌, arith, subst, leb, le-leb, pow_pos, append_assoc, take-append-drop}
use Rattle.std.proofs.lemmas.Bool.{lt-leb, cases_lt}
use Rattle.std.proofs.lemmas.List.{map-append}
use Rattle.storage_merkle.specs.Shape.{leaves_under}
use Rattle.storage_merkle.specs.Calc.{Site, back, node, front}
use Rattle.storage_merkle.specs.Trees.{Layout, Peak, places, part}
use Rattle.storage_merkle.specs.declared.merkle.bagging.Bagging.{Bagging}
use Rattle.storage_merkle.specs.RangeProofs.{apart, leading, not_leading, up_to, trailing, sites_of, sites_in, one_for, by_position, sites_over, sites}
use Rattle.storage_merkle.specs.Rests.{peaks_from, IsPast, AreFolded, AreAfterLeading}
use Rattle.storage_merkle.specs.Siblings.{sibling_sites}
use Rattle.storage_merkle.specs.Extracted.{overlapped}
use Rattle.storage_merkle.specs.CheckParts.{front_before, top_sites}
use Rattle.storage_merkle.proofs.RangeSound.{places-take, places-drop}
use Rattle.storage_merkle.proofs.Siblings.{overlapped-is, sites-cut}

-- of peaks that are folded from the left, those apart from the range
abbrev pub left_tops : ℕ → ℕ → List Peak → List Site
left_tops low high [] = []
left_tops low high (p ∷ ps) =
    if apart low high p.first p.height then node p.first p.height ∷ left_tops low high ps else left_tops low high ps

-- of peaks that are folded from the right, those apart from the range, with one fold for those past it
abbrev pub right_tops : ℕ → ℕ → List Peak → List Site
right_tops low high [] = []
right_tops low high (p ∷ ps) =
    if leb high p.first then back ∷ []
    else (if apart low high p.first p.height then node p.first p.height ∷ right_tops low high ps
    else right_tops low high ps)

module _ (low high : ℕ) where
  top_sites-right : (ps : List Peak) → top_sites low high ps 0 ≡ right_tops low high ps
  top_sites-right [] = refl
  top_sites-right (p ∷ ps) =
      ap (λ ss. if leb high p.first then back ∷ []
      else (if apart low high p.first p.height then node p.first p.height ∷ ss else ss)) (top_sites-right ps)

  pub top_sites-both : (ps : List Peak) (f : ℕ)
      → top_sites low high ps f ≡ left_tops low high (take f ps) ++ right_tops low high (drop f ps)
  top_sites-both [] zero = refl
  top_sites-both [] (suc f) = refl
  top_sites-both (p ∷ ps) zero = top_sites-right (p ∷ ps)
  top_sites-both (p ∷ ps) (suc f) =
      elim (apart low high p.first p.height) as (λ b. (if b then node p.first p.height ∷ top_sites low high ps f
      else top_sites low high ps f) ≡ (if b then node p.first p.height ∷ left_tops low high (take f ps)
      else left_tops low high (take f ps)) ++ right_tops low high (drop f ps)) [
        | true ↦ ap (λ ss. node p.first p.height ∷ ss) (top_sites-both ps f)
        | false ↦ top_sites-both ps f
      ]

  -- past low, no peak leads
  leading-none : (s : ℕ) (ks : List ℕ) → low < s → leading low (places s ks) ≡ []
  leading-none s [] l = refl
  leading-none s (k ∷ ks) l = rw (lt-leb (s + 2 ^ k) low (omega arith)) refl

  right_tops-after : (s : ℕ) (ks : List ℕ) → low < s
      → right_tops low high (places s ks) ≡ one_for back (trailing high (places s ks))
  right_tops-after s [] l = refl
  right_tops-after s (k ∷ ks) l =
      elim (cases_lt s high) [
        | inr past ↦ rw (le-leb high s past) refl
        | inl before ↦ rw (lt-leb high s before, lt-leb (s + 2 ^ k) low (omega arith))
            (right_tops-after (s + 2 ^ k) ks (omega arith))
      ]

  module _ (T : Layout) where
    right_tops-are : low < high → (s : ℕ) (ks : List ℕ) → right_tops low high (places s ks)
        ≡ sites_in T (apart low high) (leading low (places s ks)) ++ one_for back (trailing high (places s ks))
    right_tops-are some s [] = refl
    right_tops-are some s (k ∷ ks) =
        let positive : 0 < 2 ^ k = pow_pos k in
        elim (cases_lt low (s + 2 ^ k)) [
          | inr leads ↦
              let first : apart low high s k ≡ true = rw (le-leb (s + 2 ^ k) low leads) refl in
              let here = sites-cut T (apart low high) k s first in
              let later = right_tops-are some (s + 2 ^ k) ks in
              rw (le-leb (s + 2 ^ k) low leads, lt-leb high s (omega arith)) (ap (λ ss. node s k ∷ ss) later
              ∙ ap (λ ss. (ss ++ sites_in T (apart low high) (leading low (places (s + 2 ^ k) ks)))
              ++ one_for back (trailing high (places (s + 2 ^ k) ks))) (sym here))
          | inl after ↦
              let first : leb (s + 2 ^ k) low ≡ false = lt-leb (s + 2 ^ k) low after in
              elim (cases_lt s high) [
                | inr past ↦ rw (first, le-leb high s past) refl
                | inl before ↦ rw (first, lt-leb high s before) (right_tops-after (s + 2 ^ k) ks after)
              ]
        ]

    left_tops-past : (s : ℕ) (ks : List ℕ) → high ≤ s
        → left_tops low high (places s ks) ≡ sites_in T (apart low high) (places s ks)
    left_tops-past s [] u = refl
    left_tops-past s (k ∷ ks) u =
        let first : apart low high s k ≡ true =
        elim (leb (s + 2 ^ k) low) as (λ b. (b || leb high s) ≡ true) [ true ↦ refl | false ↦ le-leb high s u ] in
        let here = sites-cut T (apart low high) k s first in
        subst (λ b. (if b then node s k ∷ left_tops low high (places (s + 2 ^ k) ks) else left_tops low high
        (places (s + 2 ^ k) ks)) ≡ sites_of (part T (apart low high) (record { first = s; height = k }))
        ++ sites_in T (apart low high) (places (s + 2 ^ k) ks)) (sym first)
        (ap (λ ss. node s k ∷ ss) (left_tops-past (s + 2 ^ k) ks (omega arith))
        ∙ ap (λ ss. ss ++ sites_in T (apart low high) (places (s + 2 ^ k) ks)) (sym here))

    left_tops-after : (s : ℕ) (ks : List ℕ) → low < s
        → left_tops low high (places s ks) ≡ sites_in T (apart low high) (trailing high (places s ks))
    left_tops-after s [] l = refl
    left_tops-after s (k ∷ ks) l =
        elim (cases_lt s high) [
          | inr past ↦ left_tops-past s (k ∷ ks) past ∙ rw (le-leb high s past) refl
          | inl before ↦ rw (lt-leb high s before, lt-leb (s + 2 ^ k) low (omega arith))
              (left_tops-after (s + 2 ^ k) ks (omega arith))
        ]

    left_tops-are : (s : ℕ) (ks : List ℕ) → left_tops low high (not_leading low (places s ks))
        ≡ sites_in T (apart low high) (trailing high (not_leading low (places s ks)))
    left_tops-are s [] = refl
    left_tops-are s (k ∷ ks) =
        elim (cases_lt low (s + 2 ^ k)) [
          | inr leads ↦ rw (le-leb (s + 2 ^ k) low leads) (left_tops-are (s + 2 ^ k) ks)
          | inl after ↦
              let first : leb (s + 2 ^ k) low ≡ false = lt-leb (s + 2 ^ k) low after in
              elim (cases_lt s high) [
                | inr past ↦ rw first (left_tops-past s (k ∷ ks) past ∙ rw (le-leb high s past) refl)
                | inl before ↦ rw (first, lt-leb high s before) (rw first (left_tops-after (s + 2 ^ k) ks after))
              ]
        ]

-- the peaks that are folded from the left, and those from the right, of one list of peaks
module _ (T : Layout) (low high : ℕ) where
  -- no peak of the first is past the range, or none of the others leads
  apart_once : (f s : ℕ) (ks : List ℕ) → low < high
      → (sites_in T (apart low high) (trailing high (not_leading low (take f (places s ks)))) ≡ [])
      ⊎ (leading low (drop f (places s ks)) ≡ [])
  apart_once zero s ks some = inl refl
  apart_once (suc f) s [] some = inl refl
  apart_once (suc f) s (k ∷ ks) some =
      elim (cases_lt low (s + 2 ^ k)) [
        | inr leads ↦ rw (le-leb (s + 2 ^ k) low leads) (apart_once f (s + 2 ^ k) ks some)
        | inl after ↦ inr (ap (leading low) (places-drop f (s + 2 ^ k) ks)
            ∙ leading-none low high ((s + 2 ^ k) + leaves_under (take f ks)) (drop f ks) (omega arith))
      ]

  sites_in-append : (ps qs : List Peak)
      → sites_in T (apart low high) (ps ++ qs) ≡ sites_in T (apart low high) ps ++ sites_in T (apart low high) qs
  sites_in-append [] qs = refl
  sites_in-append (p ∷ ps) qs =
      ap (λ ss. sites_of (part T (apart low high) p) ++ ss) (sites_in-append ps qs) ∙ sym (append_assoc
      (sites_of (part T (apart low high) p)) (sites_in T (apart low high) ps) (sites_in T (apart low high) qs))

  overlapped-append : (ps qs : List Peak)
      → overlapped low high (ps ++ qs) ≡ overlapped low high ps ++ overlapped low high qs
  overlapped-append [] qs = refl
  overlapped-append (p ∷ ps) qs =
      elim (apart low high p.first p.height) as (λ b.
      (if b then overlapped low high (ps ++ qs) else p ∷ overlapped low high (ps ++ qs))
      ≡ (if b then overlapped low high ps else p ∷ overlapped low high ps) ++ overlapped low high qs) [
        | true ↦ overlapped-append ps qs
        | false ↦ ap (λ ss. p ∷ ss) (overlapped-append ps qs)
      ]

  overlapped-take : (f s : ℕ) (ks : List ℕ)
      → overlapped low high (take f (places s ks)) ≡ up_to high (not_leading low (take f (places s ks)))
  overlapped-take f s ks = ap (overlapped low high) (places-take f s ks) ∙ overlapped-is low high s (take f ks)
      ∙ ap (λ ps. up_to high (not_leading low ps)) (sym (places-take f s ks))

  overlapped-drop : (f s : ℕ) (ks : List ℕ)
      → overlapped low high (drop f (places s ks)) ≡ up_to high (not_leading low (drop f (places s ks)))
  overlapped-drop f s ks =
      ap (overlapped low high) (places-drop f s ks) ∙ overlapped-is low high (s + leaves_under (take f ks)) (drop f ks)
      ∙ ap (λ ps. up_to high (not_leading low ps)) (sym (places-drop f s ks))

  -- the siblings are those in both
  pub siblings_both : (f s : ℕ) (ks : List ℕ)
      → sites_in T (apart low high) (up_to high (not_leading low (take f (places s ks))))
      ++ sites_in T (apart low high) (up_to high (not_leading low (drop f (places s ks))))
      ≡ sites_in T (apart low high) (up_to high (not_leading low (places s ks)))
  siblings_both f s ks =
      let ps = places s ks in
      let cut = sites_in T (apart low high) in
      ap₂ (λ us vs. cut us ++ cut vs) (sym (overlapped-take f s ks)) (sym (overlapped-drop f s ks))
      ∙ sym (sites_in-append (overlapped low high (take f ps)) (overlapped low high (drop f ps)))
      ∙ ap cut (sym (overlapped-append (take f ps) (drop f ps)) ∙ ap (overlapped low high) (take-append-drop f ps)
      ∙ overlapped-is low high s ks)

  pub front_before-are : (a : ℕ) (ps : List Peak) → IsPast 0 a ps → one_for front ps ≡ front_before a
  front_before-are a [] e = ap front_before (sym e)
  front_before-are zero (p ∷ ps) l = absurd (omega arith)
  front_before-are (suc a) (p ∷ ps) l = refl

  swapped : (A B C : List Site) → (B ≡ []) ⊎ (A ≡ []) → A ++ (B ++ C) ≡ B ++ (A ++ C)
  swapped A B C (inl e) = ap (λ x. A ++ (x ++ C)) e ∙ ap (λ x. x ++ (A ++ C)) (sym e)
  swapped A B C (inr e) = ap (λ x. x ++ (B ++ C)) e ∙ ap (λ x. B ++ (x ++ C)) (sym e)

  module _ (b : Bagging) (n i f a r g : ℕ) (some : low < high) (parts : AreFolded T.shape b i n f)
      (after : AreAfterLeading T.shape low 0 n f a r g) where
    pub sites_are : sites T low high b n i
        ≡ (front_before a ++ top_sites low high (peaks_from T.shape a r) g) ++ sibling_sites T n low high
    sites_are =
        let ks = T.shape.peaks n in
        let P = places 0 ks in
        let xs = take f P in
        let ys = drop f P in
        let Q = peaks_from T.shape a r in
        let F = front_before a in
        let A = sites_in T (apart low high) (leading low ys) in
        let B = sites_in T (apart low high) (trailing high (not_leading low xs)) in
        let C = one_for back (trailing high ys) in
        let D = sites_in T (apart low high) (up_to high (not_leading low xs))
        ++ sites_in T (apart low high) (up_to high (not_leading low ys)) in
        let X = sibling_sites T n low high in
        let left : left_tops low high (take g Q) ≡ B =
        ap (left_tops low high) (after.folded_are ∙ ap (not_leading low) (places-take f 0 ks))
        ∙ left_tops-are low high T 0 (take f ks)
        ∙ ap (λ ps. sites_in T (apart low high) (trailing high (not_leading low ps))) (sym (places-take f 0 ks)) in
        let right : right_tops low high (drop g Q) ≡ A ++ C =
        ap (right_tops low high) (after.unfolded_are ∙ places-drop f 0 ks)
        ∙ right_tops-are low high T some (0 + leaves_under (take f ks)) (drop f ks) ∙ ap (λ ps.
        sites_in T (apart low high) (leading low ps) ++ one_for back (trailing high ps)) (sym (places-drop f 0 ks)) in
        let mid : top_sites low high Q g ≡ A ++ (B ++ C) =
        top_sites-both low high Q g ∙ ap₂ (λ us vs. us ++ vs) left right ∙ sym (swapped A B C
        (elim (apart_once f 0 ks some) [ inl e ↦ inl e | inr e ↦ inr (ap (sites_in T (apart low high)) e) ])) in
        let inside : by_position T D ≡ X = ap (by_position T) (siblings_both f 0 ks) in
        ap₂ (sites_over T low high) (sym parts.folded_are) (sym parts.unfolded_are)
        ∙ ap₂ (λ us vs. us ++ (A ++ (B ++ (C ++ vs)))) (front_before-are a (leading low xs) after.past) inside
        ∙ sym (
        ap (λ ss. (F ++ ss) ++ X) mid ∙ append_assoc F (A ++ (B ++ C)) X
        ∙ ap (λ ss. F ++ ss) (append_assoc A (B ++ C) X ∙ ap (λ ss. A ++ ss) (append_assoc B C X))
        )

    -- the digests at those in front, then at the others, then at the siblings
    pub all_added : (site : Site → List ℕ) (one two all : List (List ℕ)) → one ≡ map site (front_before a)
        → two ≡ one ++ map site (top_sites low high (peaks_from T.shape a r) g)
        → all ≡ two ++ map site (sibling_sites T n low high) → all ≡ map site (sites T low high b n i)
    all_added site one two all e1 e2 e3 =
        let tops = top_sites low high (peaks_from T.shape a r) g in
        let beside = sibling_sites T n low high in
        e3 ∙ ap (λ us. us ++ map site beside)
        (e2 ∙ ap (λ us. us ++ map site tops) e1 ∙ sym (map-append site (front_before a) tops))
        ∙ sym (map-append site (front_before a ++ tops) beside) ∙ ap (map site) (sym sites_are)
