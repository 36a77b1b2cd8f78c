-- Positions of two stores, of which one is read at once and the other later.
use Rattle.std.proofs.Common.{◌≡◌, ℕ, suc, List, [], ◌∷◌, ◌++◌, length, map, Option, Some, None, inl, inr, refl, sym, ap, subst, ◌∙◌}
use Rattle.std.specs.List.{All}
use Rattle.std.proofs.lemmas.List.Elements.{All-head, All-tail}
use Rattle.storage_merkle.specs.Plans.{IsFirstAbsent, IsFirstFault}
use Rattle.storage_current.specs.Splits.{IsSplit, gaps, filled}

module _ {D : Type 0} (node later : ℕ → Option D) where
  pub more_found : (p : ℕ) (d : D) (rest : List ℕ) (ds : List (Option D)) (ps os : List ℕ) → node p ≡ Some d
      → IsSplit node later (p ∷ rest) ds ps os → IsSplit node later rest (ds ++ Some d ∷ []) ps os
  more_found p d rest [] ps os e h = rw (h.0, h.1) (e, (refl, refl))
  more_found p d rest (Some c ∷ ds) [] os e h = absurd h
  more_found p d rest (Some c ∷ ds) (q ∷ ps) os e h = (h.0, more_found p d rest ds ps os e h.1)
  more_found p d rest (None ∷ ds) [] os e h = absurd h
  more_found p d rest (None ∷ ds) (q ∷ ps) [] e h = absurd h
  more_found p d rest (None ∷ ds) (q ∷ ps) (o ∷ os) e h = (h.0, h.1, more_found p d rest ds ps os e h.2)

  pub more_below : (p : ℕ) (rest : List ℕ) (ds : List (Option D)) (ps os : List ℕ) → node p ≡ later p
      → IsSplit node later (p ∷ rest) ds ps os → IsSplit node later rest (ds ++ None ∷ []) ps (os ++ p ∷ [])
  more_below p rest [] ps os e h = rw (h.0, h.1) (refl, e, (refl, refl))
  more_below p rest (Some c ∷ ds) [] os e h = absurd h
  more_below p rest (Some c ∷ ds) (q ∷ ps) os e h = (h.0, more_below p rest ds ps os e h.1)
  more_below p rest (None ∷ ds) [] os e h = absurd h
  more_below p rest (None ∷ ds) (q ∷ ps) [] e h = absurd h
  more_below p rest (None ∷ ds) (q ∷ ps) (o ∷ os) e h = (h.0, h.1, more_below p rest ds ps os e h.2)

  pub gaps_are : (rest : List ℕ) (ds : List (Option D)) (ps os : List ℕ) → IsSplit node later rest ds ps os
      → gaps ds ≡ length os
  gaps_are rest [] ps os h = sym (ap length h.1)
  gaps_are rest (Some c ∷ ds) [] os h = absurd h
  gaps_are rest (Some c ∷ ds) (q ∷ ps) os h = gaps_are rest ds ps os h.1
  gaps_are rest (None ∷ ds) [] os h = absurd h
  gaps_are rest (None ∷ ds) (q ∷ ps) [] h = absurd h
  gaps_are rest (None ∷ ds) (q ∷ ps) (o ∷ os) h = ap suc (gaps_are rest ds ps os h.2)

  -- the first that is absent of the positions that are read later is the first of all
  pub absent_below : (r : ℕ) (rest : List ℕ) (ds : List (Option D)) (ps os : List ℕ) → IsSplit node later rest ds ps os
      → IsFirstAbsent (λ q a. a ≡ later q) os r → IsFirstAbsent (λ q a. a ≡ node q) ps r
  absent_below r rest [] ps os h f = let g = rw h.1 at f in absurd g
  absent_below r rest (Some c ∷ ds) [] os h f = absurd h
  absent_below r rest (Some c ∷ ds) (q ∷ ps) os h f = inr (c, sym h.0, absent_below r rest ds ps os h.1 f)
  absent_below r rest (None ∷ ds) [] os h f = absurd h
  absent_below r rest (None ∷ ds) (q ∷ ps) [] h f = absurd h
  absent_below r rest (None ∷ ds) (q ∷ ps) (o ∷ os) h (inl x) = inl (x.0 ∙ ap later h.0 ∙ sym h.1, x.1 ∙ h.0)
  absent_below r rest (None ∷ ds) (q ∷ ps) (o ∷ os) h (inr x) =
      inr (x.0, x.1 ∙ ap later h.0 ∙ sym h.1, absent_below r rest ds ps os h.2 x.2)

  -- the first fault of the positions that are read later is the first of all
  pub fault_below : (reads : ℕ → Type 0) (may_fail : ℕ → ℕ → Type 0) (code : ℕ) (rest : List ℕ) (ds : List (Option D))
      (ps os : List ℕ) → IsSplit node later rest ds ps os → All reads os
      → IsFirstFault (λ q a. a ≡ later q) may_fail os code
      → IsFirstFault (λ q a. a ≡ node q) (λ p c. reads p × may_fail p c) ps code
  fault_below reads may_fail code rest [] ps os h r f = let g = rw h.1 at f in absurd g
  fault_below reads may_fail code rest (Some c ∷ ds) [] os h r f = absurd h
  fault_below reads may_fail code rest (Some c ∷ ds) (q ∷ ps) os h r f =
      inr (c, sym h.0, fault_below reads may_fail code rest ds ps os h.1 r f)
  fault_below reads may_fail code rest (None ∷ ds) [] os h r f = absurd h
  fault_below reads may_fail code rest (None ∷ ds) (q ∷ ps) [] h r f = absurd h
  fault_below reads may_fail code rest (None ∷ ds) (q ∷ ps) (o ∷ os) h r (inl x) =
      inl (subst (λ z. reads z × may_fail z code) h.0 (All-head reads o os r, x))
  fault_below reads may_fail code rest (None ∷ ds) (q ∷ ps) (o ∷ os) h r (inr x) =
      inr (x.0, x.1 ∙ ap later h.0 ∙ sym h.1, fault_below reads may_fail code rest ds ps os h.2 (All-tail reads o os r) x.2)

  -- a position that is missing is the first that is absent, where those that are read later are all there
  pub absent_missing : (p : ℕ) (more rest : List ℕ) (ds : List (Option D)) (ps os : List ℕ) (es : List D)
      → IsSplit node later rest ds ps os → map Some es ≡ map later os → rest ≡ p ∷ more → node p ≡ None
      → IsFirstAbsent (λ q a. a ≡ node q) ps p
  absent_missing p more rest [] ps os es h served e none = rw (h.0, e) (inl (sym none, refl))
  absent_missing p more rest (Some c ∷ ds) [] os es h served e none = absurd h
  absent_missing p more rest (Some c ∷ ds) (q ∷ ps) os es h served e none =
      inr (c, sym h.0, absent_missing p more rest ds ps os es h.1 served e none)
  absent_missing p more rest (None ∷ ds) [] os es h served e none = absurd h
  absent_missing p more rest (None ∷ ds) (q ∷ ps) [] es h served e none = absurd h
  absent_missing p more rest (None ∷ ds) (q ∷ ps) (o ∷ os) [] h served e none = absurd (cc)
  absent_missing p more rest (None ∷ ds) (q ∷ ps) (o ∷ os) (x ∷ es) h served e none =
      let head : Some x ≡ later o = cc in
      let tail : map Some es ≡ map later os = cc in
      inr (x, head ∙ ap later h.0 ∙ sym h.1, absent_missing p more rest ds ps os es h.2 tail e none)

  pub served_length : (os : List ℕ) (es : List D) → map Some es ≡ map later os → length es ≡ length os
  served_length [] [] e = refl
  served_length [] (x ∷ es) e = absurd (cc)
  served_length (o ∷ os) [] e = absurd (cc)
  served_length (o ∷ os) (x ∷ es) e = let tail : map Some es ≡ map later os = cc in ap suc (served_length os es tail)

  pub filled_are : (rest : List ℕ) (ds : List (Option D)) (ps os : List ℕ) (es : List D)
      → IsSplit node later rest ds ps os → map Some es ≡ map later os → rest ≡ []
      → map Some (filled ds es) ≡ map node ps
  filled_are rest [] ps os es h served e = rw (h.0, e) refl
  filled_are rest (Some c ∷ ds) [] os es h served e = absurd h
  filled_are rest (Some c ∷ ds) (q ∷ ps) os es h served e = let more = filled_are rest ds ps os es h.1 served e in
      let head : node q ≡ Some c = h.0 in cc
  filled_are rest (None ∷ ds) [] os es h served e = absurd h
  filled_are rest (None ∷ ds) (q ∷ ps) [] es h served e = absurd h
  filled_are rest (None ∷ ds) (q ∷ ps) (o ∷ os) [] h served e = absurd (cc)
  filled_are rest (None ∷ ds) (q ∷ ps) (o ∷ os) (x ∷ es) h served e =
      let head : Some x ≡ later o = cc in
      let tail : map Some es ≡ map later os = cc in
      let here : Some x ≡ node q = head ∙ ap later h.0 ∙ sym h.1 in
      let more = filled_are rest ds ps os es h.2 tail e in
      cc
