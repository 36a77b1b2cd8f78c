-- The digests that a check keeps on its way.
use Rattle.std.proofs.Common.{◌≡◌, ◌≢◌, ℕ, zero, suc, ◌+◌, ◌-◌, ◌≤◌, ◌^◌, List, [], ◌∷◌, ◌++◌, map, Bool, true, false, inl, inr, if◌then◌else◌, Result, Ok, Err, IfOk, refl, sym, ap, ap₂, ◌∙◌, arith, subst, leb, Option, Some, None, option_map, append-nil, append_assoc}
use Rattle.std.proofs.lemmas.List.{map-append}
use Rattle.storage_codec.specs.Digests.{HashFunction}
use Rattle.storage_merkle.specs.Shape.{Shape}
use Rattle.storage_merkle.specs.Calc.{Site, node, Values, eval}
use Rattle.storage_merkle.specs.Trees.{Layout, Peak, peaks_of, node_calc}
use Rattle.storage_merkle.specs.RangeProofs.{apart, leading, position_of}
use Rattle.storage_merkle.specs.Rests.{peaks_from, AreAfterLeading}
use Rattle.storage_merkle.specs.CheckParts.{Adds}
use Rattle.storage_merkle.specs.Extracted.{nodes_under, nodes_in, overlapped, entries, digest_at}
use Rattle.storage_merkle.proofs.Plan.Folds.{no_peaks_from}
use Rattle.storage_merkle.proofs.Siblings.{overlapped-past}
use Rattle.storage_merkle.proofs.Extracted.{tells}

-- ---- what is kept behind what was there, if anything is kept

pub adds_nothing : {V X : Type 0} (g : V → List X) (o : Option V) (xs : List X) → xs ≡ [] → Adds g o o xs
adds_nothing g None xs e = refl
adds_nothing g (Some v) xs e = ap (λ y. Some y) (sym (append-nil (g v)) ∙ ap (λ ys. g v ++ ys) (sym e))

pub adds_same : {V X : Type 0} (g : V → List X) (o n : Option V) (xs ys : List X) → xs ≡ ys → Adds g o n xs
    → Adds g o n ys
adds_same g o n xs ys e a = subst (Adds g o n) e a

pub adds_then : {V X : Type 0} (g : V → List X) (o m n : Option V) (xs ys all : List X) → all ≡ xs ++ ys → Adds g o m xs
    → Adds g m n ys → Adds g o n all
adds_then g None None None xs ys all q e f = refl
adds_then g None None (Some c) xs ys all q e f = cc
adds_then g None (Some b) n xs ys all q e f = cc
adds_then g (Some a) None n xs ys all q e f = cc
adds_then g (Some a) (Some b) None xs ys all q e f = cc
adds_then g (Some a) (Some b) (Some c) xs ys all q e f =
    let e' : g b ≡ g a ++ xs = cc in
    let f' : g c ≡ g b ++ ys = cc in
    ap (λ y. Some y) (f' ∙ ap (λ z. z ++ ys) e' ∙ append_assoc (g a) xs ys ∙ ap (λ z. g a ++ z) (sym q))

-- and what is still to be kept
pub keeps_on : {V X : Type 0} (g : V → List X) (m n : Option V) (xs ys all : List X) (r : Option (List X))
    → all ≡ xs ++ ys → Adds g m n xs → option_map (λ v. g v ++ all) m ≡ r → option_map (λ v. g v ++ ys) n ≡ r
keeps_on g None None xs ys all r q a e = e
keeps_on g None (Some b) xs ys all r q a e = cc
keeps_on g (Some a) None xs ys all r q f e = cc
keeps_on g (Some a) (Some b) xs ys all r q f e =
    let here : g b ≡ g a ++ xs = cc in
    ap (λ z. Some (z ++ ys)) here ∙ ap (λ z. Some z) (append_assoc (g a) xs ys) ∙ ap (λ z. Some (g a ++ z)) (sym q) ∙ e

-- a digest that is kept last
pub keeps_last : {D E V : Type 0} (text : D → List ℕ) (g : V → List (ℕ × List ℕ)) (r : Result D E) (digest : D)
    (value : List ℕ) (p : ℕ) (old mid new : Option V) (xs all : List (ℕ × List ℕ)) → text digest ≡ value
    → all ≡ xs ++ ((p, value) ∷ []) → Adds g old mid xs
    → IfOk r (λ d. d ≡ digest) → IfOk r (λ d. Adds g mid new ((p, text digest) ∷ []))
    → IfOk r (λ d. (text d ≡ value) × Adds g old new all)
keeps_last text g (Err e) digest value p old mid new xs all ev q a same kept = tt
keeps_last text g (Ok d) digest value p old mid new xs all ev q a same kept = (
  ap text same ∙ ev,
  adds_then g old mid new xs ((p, text digest) ∷ []) all (q ∙ ap (λ y. xs ++ ((p, y) ∷ [])) (sym ev)) a kept,
)

-- ---- the nodes of a check

module _ (cut : ℕ → ℕ → Bool) where
  under_one : (k a : ℕ) → cut a k ≡ true → nodes_under cut k a ≡ node a k ∷ []
  under_one zero a e = refl
  under_one (suc k) a e = rw e refl

  under_halves : (k a : ℕ) → cut a (suc k) ≡ false
      → nodes_under cut (suc k) a ≡ (nodes_under cut k a ++ nodes_under cut k (a + 2 ^ k)) ++ (node a (suc k) ∷ [])
  under_halves k a e = rw e refl

module _ (h : HashFunction) (T : Layout) (low high : ℕ) (v : Values) where
  abbrev pub digests_at : Site → List ℕ
  digests_at = digest_at h v T (apart low high)

  abbrev pub found_under : ℕ → ℕ → List (ℕ × List ℕ)
  found_under k a = entries T digests_at (nodes_under (apart low high) k a)

  abbrev value : ℕ → ℕ → List ℕ
  value k a = eval h v (node_calc T (apart low high) k a)

  one_entry : (S : Shape) (k a p : ℕ) → T.shape ≡ S → p ≡ S.position a k
      → (p, value k a) ∷ [] ≡ entries T digests_at (node a k ∷ [])
  one_entry S k a p same at = ap (λ q. (q, value k a) ∷ []) (at ∙ ap (λ (U : Shape). U.position a k) (sym same))

  pub found_itself : (S : Shape) (k a p : ℕ) → T.shape ≡ S → true ≡ apart low high a k → p ≡ S.position a k
      → found_under k a ≡ [] ++ ((p, value k a) ∷ [])
  found_itself S k a p same e at =
      ap (entries T digests_at) (under_one (apart low high) k a (sym e)) ∙ sym (one_entry S k a p same at)

  pub found_leaf : (S : Shape) (k a p : ℕ) → T.shape ≡ S → k ≡ 0 → p ≡ S.position a k
      → found_under k a ≡ [] ++ ((p, value k a) ∷ [])
  found_leaf S zero a p same e at = sym (one_entry S zero a p same at)
  found_leaf S (suc k) a p same e at = absurd (omega arith)

  pub found_halves : (S : Shape) (k a p : ℕ) → T.shape ≡ S → false ≡ apart low high a k → k ≢ 0 → p ≡ S.position a k
      → found_under k a ≡ (found_under (k - 1) a ++ found_under (k - 1) (a + 2 ^ (k - 1))) ++ ((p, value k a) ∷ [])
  found_halves S zero a p same e ne at = absurd (ne refl)
  found_halves S (suc k) a p same e ne at =
      let less : suc k - 1 ≡ k = omega arith in
      let f : Site → ℕ × List ℕ = λ s. (position_of T s, digests_at s) in
      let xs = nodes_under (apart low high) k a in
      let ys = nodes_under (apart low high) k (a + 2 ^ k) in
      let halves : found_under (suc k) a
      ≡ (found_under k a ++ found_under k (a + 2 ^ k)) ++ ((p, value (suc k) a) ∷ []) =
      ap (map f) (under_halves (apart low high) k a (sym e)) ∙ map-append f (xs ++ ys) (node a (suc k) ∷ [])
      ∙ ap₂ (λ us vs. us ++ vs) (map-append f xs ys) (sym (one_entry S (suc k) a p same at)) in
      rw less halves

  -- a peak that is apart from the range, and one that is not
  abbrev pub found_peak : ℕ → ℕ → List (ℕ × List ℕ)
  found_peak k a = entries T digests_at (if apart low high a k then [] else nodes_under (apart low high) k a)

  pub found_apart : (k a : ℕ) → true ≡ apart low high a k → found_peak k a ≡ []
  found_apart k a e = rw (sym e) refl

  pub found_not_apart : (k a : ℕ) → false ≡ apart low high a k → found_peak k a ≡ found_under k a
  found_not_apart k a e = rw (sym e) refl

  -- some peaks
  abbrev pub found_peaks : List Peak → List (ℕ × List ℕ)
  found_peaks ps = entries T digests_at (nodes_in (apart low high) (overlapped low high ps))

  pub found_first : (k a : ℕ) (ps qs : List Peak) → ps ≡ (record { first = a; height = k }) ∷ qs
      → found_peaks ps ≡ found_peak k a ++ found_peaks qs
  found_first k a ps qs e =
      let f : Site → ℕ × List ℕ = λ s. (position_of T s, digests_at s) in
      ap found_peaks e ∙ (elim (apart low high a k) as (λ b. map f (nodes_in (apart low high)
      (if b then overlapped low high qs else (record { first = a; height = k }) ∷ overlapped low high qs))
      ≡ map f (if b then [] else nodes_under (apart low high) k a) ++ found_peaks qs) [
        | true ↦ refl
        | false ↦ map-append f (nodes_under (apart low high) k a) (nodes_in (apart low high) (overlapped low high qs))
      ])

  -- no peaks, and peaks past the range
  pub found_none : (S : Shape) → S.peaks 0 ≡ [] → (a r : ℕ) → r ≤ 0 → found_peaks (peaks_from S a r) ≡ []
  found_none S none a r z = ap found_peaks (no_peaks_from S a r none z)

  pub found_past : (S : Shape) (a r : ℕ) → high ≤ a → found_peaks (peaks_from S a r) ≡ []
  found_past S a r l =
      ap (λ ps. entries T digests_at (nodes_in (apart low high) ps)) (overlapped-past low high a (S.peaks r) l)

  -- the leading peaks are apart from the range
  leading_apart : (xs ys : List Peak) → overlapped low high (leading low xs ++ ys) ≡ overlapped low high ys
  leading_apart [] ys = refl
  leading_apart (x ∷ xs) ys =
      elim (tells (leb (x.first + 2 ^ x.height) low)) [
        | inl e ↦ subst (λ b. overlapped low high ((if b then x ∷ leading low xs else []) ++ ys)
            ≡ overlapped low high ys) (sym e) (rw e (leading_apart xs ys))
        | inr e ↦ subst (λ b. overlapped low high ((if b then x ∷ leading low xs else []) ++ ys)
            ≡ overlapped low high ys) (sym e) refl
      ]

  pub found_rest : (S : Shape) (n f a r g : ℕ) → T.shape ≡ S → AreAfterLeading S low 0 n f a r g
      → found_peaks (peaks_from S a r) ≡ found_peaks (peaks_of T n)
  found_rest S n f a r g same after =
      let F : List Peak → List (ℕ × List ℕ) = λ ps. entries T digests_at (nodes_in (apart low high) ps) in
      ap F (sym (leading_apart _ (peaks_from S a r)) ∙ ap (overlapped low high) (sym after.all)
      ∙ ap (λ (U : Shape). overlapped low high (peaks_from U 0 n)) (sym same))
