-- Digests by position: what is answered for planned positions, and what is found there.
use Rattle.std.proofs.Common.{◌≡◌, ℕ, zero, suc, ◌+◌, ◌<◌, ◌≤◌, List, [], ◌∷◌, ◌++◌, length, get_or, drop, inl, inr, refl, sym, ap, ◌∙◌, arith, subst, append_assoc, append-nil, Option, Some, None, Result, Ok, Err, MatchResult}
use Rattle.std.specs.List.{AllZip}
use Rattle.std.specs.List.Sorted.{IsNonDecreasing, IsBinarySearchResult}
use Rattle.std.specs.Ordering.{nat_cmp}
use Rattle.std.proofs.lemmas.Bool.{cases_lt}
use Rattle.std.proofs.lemmas.List.{drop_more, drop_all}
use Rattle.std.proofs.lemmas.List.Sorted.{searched}
use Rattle.storage_merkle.specs.Plans.{IsFirstAbsent}
use Rattle.storage_merkle.specs.PlanParts.{IsAmong, AreAmong, AreInOrder, StandsAt}

-- ---- one after another

module _ {D : Type 0} (ps : List ℕ) where
  -- those at the positions from i on end the whole
  abbrev pub Zips : (ℕ → D → Type 0) → ℕ → List D → Type 0
  Zips R i done = (ds : List D) → AllZip R (drop i ps) ds → AllZip R ps (done ++ ds)

  pub zips_start : (R : ℕ → D → Type 0) (done : List D) → done ≡ [] → Zips R 0 done
  zips_start R done e ds z = subst (λ xs. AllZip R ps (xs ++ ds)) (sym e) z

  pub zips_more : (R : ℕ → D → Type 0) (i q : ℕ) (d : D) (done new : List D) → i < length ps → q ≡ get_or ps i q → R q d
      → new ≡ done ++ d ∷ [] → Zips R i done → Zips R (i + 1) new
  zips_more R i q d done new l e r f z ds rest =
      let here : R (get_or ps i q) d = subst (λ x. R x d) e r in
      let opened : AllZip R (drop i ps) (d ∷ ds) =
      subst (λ xs. AllZip R xs (d ∷ ds)) (sym (drop_more ps i q l)) (here, rest) in
      let joined : new ++ ds ≡ done ++ (d ∷ ds) = ap (λ xs. xs ++ ds) f ∙ append_assoc done (d ∷ []) ds in
      subst (AllZip R ps) (sym joined) (z (d ∷ ds) opened)

  pub zips_end : (R : ℕ → D → Type 0) (i : ℕ) (done : List D) → length ps ≤ i → Zips R i done → AllZip R ps done
  zips_end R i done l z =
      subst (AllZip R ps) (append-nil done) (z [] (subst (λ xs. AllZip R xs []) (sym (drop_all i ps l)) tt))

  -- what is first absent from the position at i on is first absent
  abbrev pub Skips : (ℕ → Option D → Type 0) → ℕ → Type 0
  Skips A i = (p : ℕ) → IsFirstAbsent A (drop i ps) p → IsFirstAbsent A ps p

  pub skips_more : (A : ℕ → Option D → Type 0) (i q : ℕ) (d : D) → i < length ps → q ≡ get_or ps i q → A q (Some d)
      → Skips A i → Skips A (i + 1)
  skips_more A i q d l e a s p rest =
      let here : A (get_or ps i q) (Some d) = subst (λ x. A x (Some d)) e a in
      s p (subst (λ xs. IsFirstAbsent A xs p) (sym (drop_more ps i q l)) (inr (d, here, rest)))

  pub absent_at : (A : ℕ → Option D → Type 0) (i q : ℕ) → i < length ps → q ≡ get_or ps i q → A q None → Skips A i
      → IsFirstAbsent A ps q
  absent_at A i q l e a s =
      let here : A (get_or ps i q) None = subst (λ x. A x None) e a in
      s q (subst (λ xs. IsFirstAbsent A xs q) (sym (drop_more ps i q l)) (inl (here, e)))

pub among_at : (qs ps : List ℕ) → AreAmong qs ps → (i q : ℕ) → i < length ps → q ≡ get_or ps i q → IsAmong qs q
among_at qs [] a i q l e = absurd (omega arith)
among_at qs (p ∷ ps) a zero q l e = subst (IsAmong qs) (sym e) a.0
among_at qs (p ∷ ps) a (suc i) q l e = among_at qs ps a.1 i q (omega arith) e

-- ---- found by position

among_index : (ps : List ℕ) (p : ℕ) → IsAmong ps p → (i : ℕ) × (i < length ps) × (get_or ps i 0 ≡ p)
among_index [] p a = absurd a
among_index (q ∷ qs) p (inl e) = (0, omega arith, sym e)
among_index (q ∷ qs) p (inr a) = let r = among_index qs p a in (suc r.0, omega (arith, r.1), r.2)

pub not_found : (ps : List ℕ) (p i : ℕ) (r : Result ℕ ℕ) → IsBinarySearchResult (λ y. nat_cmp y p) ps r → r ≡ Err i
    → IsNonDecreasing ps → IsAmong ps p → ⊥
not_found ps p i r s e up a =
    let rises : (i j : ℕ) → i ≤ j → j < length ps → get_or ps i 0 ≤ get_or ps j 0 = λ i j u l. up i j 0 u l in
    let m = subst (λ x. MatchResult x (λ j. (j < length ps) × (get_or ps j 0 ≡ p)) (λ j. (j ≤ length ps)
    × ((k : ℕ) → k < j → get_or ps k 0 < p) × ((k : ℕ) → j ≤ k → k < length ps → p < get_or ps k 0))) e
    (searched ps p r s rises) in
    let at = among_index ps p a in
    elim (cases_lt at.0 i) [
      | inl l ↦ omega (arith, m.1 at.0 l, at.2)
      | inr g ↦ omega (arith, m.2 at.0 g at.1, at.2)
    ]

stands_at : {D : Type 0} (ps : List ℕ) (ds : List D) (i p : ℕ) (d : D) → length ds ≡ length ps → i < length ps
    → get_or ps i 0 ≡ p → StandsAt ps ds p (get_or ds i d)
stands_at [] ds i p d e l f = absurd (omega arith)
stands_at (q ∷ qs) [] i p d e l f = absurd (omega arith)
stands_at (q ∷ qs) (x ∷ xs) zero p d e l f = inl (sym f, refl)
stands_at (q ∷ qs) (x ∷ xs) (suc i) p d e l f = inr (stands_at qs xs i p d (omega arith) (omega arith) f)

pub found : {D : Type 0} (ps : List ℕ) (ds : List D) (p i : ℕ) (r : Result ℕ ℕ) (d : D)
    → IsBinarySearchResult (λ y. nat_cmp y p) ps r → r ≡ Ok i → AreInOrder ps ds → StandsAt ps ds p (get_or ds i d)
found ps ds p i r d s e o =
    let rises : (i j : ℕ) → i ≤ j → j < length ps → get_or ps i 0 ≤ get_or ps j 0 = λ i j u l. o.rising i j 0 u l in
    let m = subst (λ x. MatchResult x (λ j. (j < length ps) × (get_or ps j 0 ≡ p)) (λ j. (j ≤ length ps)
    × ((k : ℕ) → k < j → get_or ps k 0 < p) × ((k : ℕ) → j ≤ k → k < length ps → p < get_or ps k 0))) e
    (searched ps p r s rises) in
    stands_at ps ds i p d o.all m.0 m.1
