-- The peaks of a check, one after another: which are apart from the range, and what they are folded into.
use Rattle.std.proofs.Common.{◌≡◌, ℕ, zero, suc, ◌+◌, ◌-◌, ◌<◌, ◌≤◌, ◌^◌, List, [], ◌∷◌, length, map, drop, Bool, true, false, if◌then◌else◌, ◌⊎◌, inl, inr, refl, sym, ap, ap₂, ◌∙◌, arith, subst, le-leb, Option, Some, None, option_map, pow_pos}
use Rattle.std.proofs.lemmas.Bool.{lt-leb}
use Rattle.std.proofs.lemmas.List.{length-drop, drop-map}
use Rattle.storage_codec.specs.Digests.{HashFunction}
use Rattle.storage_merkle.specs.Shape.{Shape, Laws, leaves_under}
use Rattle.storage_merkle.specs.Calc.{Site, back, node}
use Rattle.storage_merkle.specs.Trees.{Peak, places}
use Rattle.storage_merkle.specs.RangeProofs.{apart}
use Rattle.storage_merkle.specs.Rests.{peaks_from}
use Rattle.storage_merkle.specs.Hashers.{prepended, appended}
use Rattle.storage_merkle.specs.CheckParts.{top_sites, Present, PresentIn, right_of, both_folds, bag_onto}
use Rattle.storage_merkle.proofs.Check.Nodes.{under}

module _ (S : Shape) (low high : ℕ) where
  abbrev pub tops : ℕ → ℕ → ℕ → List Site
  tops a r f = top_sites low high (peaks_from S a r) f

  -- the first of some peaks, and the others
  module _ (a r f h a' r' f' : ℕ) (e : S.peaks r ≡ h ∷ S.peaks (r - 2 ^ h)) (ea : a' ≡ a + 2 ^ h) (er : r' ≡ r - 2 ^ h)
      (ef : f' ≡ f - 1) where
    pub first_and_others : peaks_from S a r ≡ (record { first = a; height = h }) ∷ peaks_from S a' r'
    first_and_others =
        ap (places a) e ∙ ap₂ (λ x y. (record { first = a; height = h }) ∷ peaks_from S x y) (sym ea) (sym er)

    tops_first : (g : ℕ) (ps : List Peak) → (0 < g) ⊎ ((g ≤ 0) × (a < high))
        → top_sites low high ((record { first = a; height = h }) ∷ ps) g
        ≡ (if apart low high a h then node a h ∷ top_sites low high ps (g - 1) else top_sites low high ps (g - 1))
    tops_first zero ps (inl l) = absurd (omega arith)
    tops_first zero ps (inr l) = rw (lt-leb high a l.1) refl
    tops_first (suc g) ps l = let less : suc g - 1 ≡ g = omega arith in rw less refl

    pub tops_step : (0 < f) ⊎ ((f ≤ 0) × (a < high))
        → tops a r f ≡ (if apart low high a h then node a h ∷ tops a' r' f' else tops a' r' f')
    tops_step l = ap (λ ps. top_sites low high ps f) first_and_others ∙ tops_first f (peaks_from S a' r') l
        ∙ ap (λ g. if apart low high a h then node a h ∷ tops a' r' g else tops a' r' g) (sym ef)

  -- past the range one fold is left
  tops_past : (f a : ℕ) (ks : List ℕ) → 0 < leaves_under ks → f ≤ 0 → high ≤ a
      → top_sites low high (places a ks) f ≡ back ∷ []
  unfolding leaves_under
  tops_past zero a [] some l u = absurd (omega arith)
  tops_past zero a (k ∷ ks) some l u = rw (le-leb high a u) refl
  tops_past (suc f) a ks some l u = absurd (omega arith)

  tops_none : (f a : ℕ) (ks : List ℕ) → leaves_under ks ≡ 0 → top_sites low high (places a ks) f ≡ []
  unfolding leaves_under
  tops_none f a [] z = refl
  tops_none f a (k ∷ ks) z = absurd (omega (arith, pow_pos k))

  pub tops_fold : Laws S → (a r f : ℕ) → 0 < r → f ≤ 0 → high ≤ a → tops a r f ≡ back ∷ []
  tops_fold L a r f some l u = tops_past f a (S.peaks r) (omega (arith, L.sum r)) l u

  pub tops_end : Laws S → (a r f : ℕ) → r ≤ 0 → tops a r f ≡ []
  tops_end L a r f l = tops_none f a (S.peaks r) (omega (arith, L.sum r))

-- what is given for the first of some peaks and the others
module _ (S : Shape) (low high a r f h a' r' f' : ℕ) (e : S.peaks r ≡ h ∷ S.peaks (r - 2 ^ h)) (ea : a' ≡ a + 2 ^ h)
    (er : r' ≡ r - 2 ^ h) (ef : f' ≡ f - 1) where
  pub present_first : (positions : List ℕ) → PresentIn S low high positions (peaks_from S a r)
      → apart low high a h ≡ false → Present S positions (under S positions low high h a)
  present_first positions p =
      (subst (PresentIn S low high positions) (first_and_others S low high a r f h a' r' f' e ea er ef) p).0

  pub present_others : (positions : List ℕ) → PresentIn S low high positions (peaks_from S a r)
      → PresentIn S low high positions (peaks_from S a' r')
  present_others positions p =
      (subst (PresentIn S low high positions) (first_and_others S low high a r f h a' r' f' e ea er ef) p).1

  module _ (l : (0 < f) ⊎ ((f ≤ 0) × (a < high))) where
    step : tops S low high a r f
        ≡ (if apart low high a h then node a h ∷ tops S low high a' r' f' else tops S low high a' r' f')
    step = tops_step S low high a r f h a' r' f' e ea er ef l

    module _ {D : Type 0} where
      pub some_top : (ds : List D) → length ds ≡ length (tops S low high a r f) → apart low high a h ≡ true
          → 0 < length ds
      some_top ds n t =
          let taken = subst (λ b. tops S low high a r f
          ≡ (if b then node a h ∷ tops S low high a' r' f' else tops S low high a' r' f')) t step in
          omega (arith, ap length taken)

      pub tops_left : (ds es : List D) → length ds ≡ length (tops S low high a r f)
          → es ≡ (if apart low high a h then drop 1 ds else ds) → length es ≡ length (tops S low high a' r' f')
      tops_left ds es n g = go (apart low high a h) step g
        where
          go : (b : Bool)
              → tops S low high a r f ≡ (if b then node a h ∷ tops S low high a' r' f' else tops S low high a' r' f')
              → es ≡ (if b then drop 1 ds else ds) → length es ≡ length (tops S low high a' r' f')
          go true s t = omega (arith, ap length s, ap length t, length-drop 1 ds)
          go false s t = omega (arith, ap length s, ap length t)

      module _ (text : D → List ℕ) (digest : Site → List ℕ) where
        pub top_here : (ds : List D) → map text ds ≡ map digest (tops S low high a r f) → apart low high a h ≡ true
            → map text ds ≡ map digest (node a h ∷ tops S low high a' r' f')
        top_here ds m t =
            m ∙ ap (map digest) (subst (λ b. tops S low high a r f
            ≡ (if b then node a h ∷ tops S low high a' r' f' else tops S low high a' r' f')) t step)

        pub tops_after : (ds es : List D) → map text ds ≡ map digest (tops S low high a r f)
            → es ≡ (if apart low high a h then drop 1 ds else ds) → map text es ≡ map digest (tops S low high a' r' f')
        tops_after ds es m g = go (apart low high a h) step g
          where
            go : (b : Bool)
                → tops S low high a r f ≡ (if b then node a h ∷ tops S low high a' r' f' else tops S low high a' r' f')
                → es ≡ (if b then drop 1 ds else ds) → map text es ≡ map digest (tops S low high a' r' f')
            go true s t = ap (map text) t ∙ sym (drop-map text 1 ds) ∙ ap (drop 1) (m ∙ ap (map digest) s)
            go false s t = ap (map text) t ∙ m ∙ ap (map digest) s

  pub right_step : (H : HashFunction) (item : Peak → List ℕ) (fold x : List ℕ) (onto : Option (List ℕ)) → a < high
      → x ≡ item (record { first = a; height = h }) → onto ≡ right_of H item fold high (peaks_from S a' r')
      → Some (prepended H x onto) ≡ right_of H item fold high (peaks_from S a r)
  right_step H item fold x onto u ex eo =
      let later = right_of H item fold high (peaks_from S a' r') in
      let out : right_of H item fold high (peaks_from S a r)
      ≡ Some (prepended H (item (record { first = a; height = h })) later) =
      ap (right_of H item fold high) (first_and_others S low high a r f h a' r' f' e ea er ef)
      ∙ rw (lt-leb high a u) refl in
      ap₂ (λ y z. Some (prepended H y z)) ex eo ∙ sym out

right_none : (H : HashFunction) (item : Peak → List ℕ) (fold : List ℕ) (high a : ℕ) (ks : List ℕ) → leaves_under ks ≡ 0
    → right_of H item fold high (places a ks) ≡ None
unfolding leaves_under
right_none H item fold high a [] z = refl
right_none H item fold high a (k ∷ ks) z = absurd (omega (arith, pow_pos k))

right_past : (H : HashFunction) (item : Peak → List ℕ) (fold : List ℕ) (high a : ℕ) (ks : List ℕ) → 0 < leaves_under ks
    → high ≤ a → right_of H item fold high (places a ks) ≡ Some fold
unfolding leaves_under
right_past H item fold high a [] some u = absurd (omega arith)
right_past H item fold high a (k ∷ ks) some u = rw (le-leb high a u) refl

module _ (S : Shape) (L : Laws S) (H : HashFunction) (item : Peak → List ℕ) (fold : List ℕ) (high a r : ℕ) where
  pub right_end : r ≡ 0 → None ≡ right_of H item fold high (peaks_from S a r)
  right_end z = sym (right_none H item fold high a (S.peaks r) (omega (arith, L.sum r)))

  pub right_fold : 0 < r → high ≤ a → (x : List ℕ) → x ≡ fold → Some x ≡ right_of H item fold high (peaks_from S a r)
  right_fold some u x e =
      ap (λ y. Some y) e ∙ sym (right_past H item fold high a (S.peaks r) (omega (arith, L.sum r)) u)

-- what peaks are folded into from the left
module _ (S : Shape) (H : HashFunction) (item : Peak → List ℕ) (fold : List ℕ) (high a r f : ℕ) where
  pub bag_step : (h a' r' f' : ℕ) → S.peaks r ≡ h ∷ S.peaks (r - 2 ^ h) → a' ≡ a + 2 ^ h → r' ≡ r - 2 ^ h → f' ≡ f - 1
      → 0 < f → (before : Option (List ℕ)) (x y : List ℕ) → x ≡ item (record { first = a; height = h })
      → y ≡ appended H before x
      → bag_onto H item fold high (Some y) (peaks_from S a' r') f'
      ≡ bag_onto H item fold high before (peaks_from S a r) f
  bag_step h a' r' f' e ea er ef some before x y ex ey =
      ap₂ (λ z g. bag_onto H item fold high (Some z) (peaks_from S a' r') g) (ey ∙ ap (appended H before) ex) ef
      ∙ opened f (peaks_from S a' r') some
      ∙ sym (ap (λ ps. bag_onto H item fold high before ps f) (first_and_others S 0 high a r f h a' r' f' e ea er ef))
    where
      opened : (g : ℕ) (ps : List Peak) → 0 < g
          → bag_onto H item fold high (Some (appended H before (item (record { first = a; height = h })))) ps (g - 1)
          ≡ bag_onto H item fold high before ((record { first = a; height = h }) ∷ ps) g
      opened zero ps s = absurd (omega arith)
      opened (suc g) ps s = let less : suc g - 1 ≡ g = omega arith in rw less refl

  bag_rest : (g : ℕ) (ks : List ℕ) → (leaves_under ks ≡ 0) ⊎ (g ≤ 0) → (before : Option (List ℕ))
      → bag_onto H item fold high before (places a ks) g ≡ both_folds H before (right_of H item fold high (places a ks))
  unfolding leaves_under
  bag_rest g [] e before = refl
  bag_rest zero (k ∷ ks) e before = refl
  bag_rest (suc g) (k ∷ ks) (inl e) before = absurd (omega (arith, pow_pos k))
  bag_rest (suc g) (k ∷ ks) (inr e) before = absurd (omega arith)

  pub bag_end : Laws S → (r ≤ 0) ⊎ (f ≤ 0) → (before : Option (List ℕ)) → bag_onto H item fold high before
      (peaks_from S a r) f ≡ both_folds H before (right_of H item fold high (peaks_from S a r))
  bag_end L (inl e) before = bag_rest f (S.peaks r) (inl (omega (arith, L.sum r))) before
  bag_end L (inr e) before = bag_rest f (S.peaks r) (inr e) before

pub tops_unfolded : (S : Shape) → Laws S → (low high a r f : ℕ) → (r ≤ 0) ⊎ (f ≤ 0)
    → tops S low high a r f ≡ tops S low high a r 0
tops_unfolded S L low high a r f (inl e) = tops_end S low high L a r f e ∙ sym (tops_end S low high L a r 0 e)
tops_unfolded S L low high a r f (inr e) = let z : f ≡ 0 = omega arith in ap (tops S low high a r) z

-- the end of both folds
module _ (S : Shape) (L : Laws S) (H : HashFunction) (item : Peak → List ℕ) (fold : List ℕ) (high a r f : ℕ)
    (over : (r ≤ 0) ⊎ (f ≤ 0)) {D : Type 0} (text : D → List ℕ) (before : Option D) (onto all : Option (List ℕ))
    (eo : onto ≡ right_of H item fold high (peaks_from S a r))
    (ea : bag_onto H item fold high (option_map text before) (peaks_from S a r) f ≡ all) where
  both_are : both_folds H (option_map text before) onto ≡ all
  both_are = ap (both_folds H (option_map text before)) eo
      ∙ sym (bag_end S H item fold high a r f L over (option_map text before)) ∙ ea

  pub bag_none : before ≡ None → onto ≡ all
  bag_none e = ap (λ o. both_folds H (option_map text o) onto) (sym e) ∙ both_are

  pub bag_some : (d : D) (x : List ℕ) → before ≡ Some d → x ≡ prepended H (text d) onto → Some x ≡ all
  bag_some d x e ex = ap (λ y. Some y) ex ∙ ap (λ o. both_folds H (option_map text o) onto) (sym e) ∙ both_are
