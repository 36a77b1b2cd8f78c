-- Peaks folded one after another.
use Rattle.std.proofs.Common.{◌≡◌, ℕ, ◌+◌, ◌-◌, ◌≤◌, ◌^◌, List, [], ◌∷◌, refl, sym, ap, ap₂, ◌∙◌, arith, subst, Option, Some, None}
use Rattle.storage_codec.specs.Digests.{HashFunction}
use Rattle.storage_merkle.specs.Shape.{Shape}
use Rattle.storage_merkle.specs.Trees.{Peak, places}
use Rattle.storage_merkle.specs.Rests.{peaks_from}
use Rattle.storage_merkle.specs.Hashing.{folded_forward}
use Rattle.storage_merkle.specs.Hashers.{appended, prepended, folded_onto, forward_of}
use Rattle.storage_merkle.specs.PlanParts.{IsAmong, ArePlannedAll, peaks_by}

-- some items are folded from the left already
abbrev pub forward_from : HashFunction → Option (List ℕ) → List (List ℕ) → Option (List ℕ)
forward_from h None ds = forward_of h ds
forward_from h (Some x) ds = Some (folded_forward h x ds)

pub forward_more : (h : HashFunction) (o : Option (List ℕ)) (d : List ℕ) (ds : List (List ℕ))
    → forward_from h o (d ∷ ds) ≡ forward_from h (Some (appended h o d)) ds
forward_more h None d ds = refl
forward_more h (Some x) d ds = refl

forward_none : (h : HashFunction) (o : Option (List ℕ)) → forward_from h o [] ≡ o
forward_none h None = refl
forward_none h (Some x) = refl

module _ (S : Shape) (s r k : ℕ) (first : S.peaks r ≡ k ∷ S.peaks (r - 2 ^ k)) where
  pub opened : peaks_from S s r ≡ (record { first = s; height = k }) ∷ peaks_from S (s + 2 ^ k) (r - 2 ^ k)
  opened = ap (places s) first

  pub all_first : (positions : List ℕ) → ArePlannedAll S positions (peaks_from S s r)
      → IsAmong positions (S.position s k)
  all_first positions a = (subst (ArePlannedAll S positions) opened a).0

  pub all_rest : (positions : List ℕ) → ArePlannedAll S positions (peaks_from S s r)
      → ArePlannedAll S positions (peaks_from S (s + 2 ^ k) (r - 2 ^ k))
  all_rest positions a = (subst (ArePlannedAll S positions) opened a).1

  -- folded from the right
  pub back_more : (h : HashFunction) (digest_of : ℕ → ℕ → List ℕ) (m n : ℕ) (x y : List ℕ) (o : Option (List ℕ))
      → m ≡ 2 ^ k → n ≡ 2 ^ k → x ≡ digest_of s k
      → o ≡ folded_onto h (peaks_by digest_of (peaks_from S (s + m) (r - n))) None → y ≡ prepended h x o
      → Some y ≡ folded_onto h (peaks_by digest_of (peaks_from S s r)) None
  back_more h digest_of m n x y o em en ex eo ey =
      let rest : o ≡ folded_onto h (peaks_by digest_of (peaks_from S (s + 2 ^ k) (r - 2 ^ k))) None =
      eo ∙ ap₂ (λ i j. folded_onto h (peaks_by digest_of (peaks_from S (s + i) (r - j))) None) em en in
      ap Some (ey ∙ ap₂ (prepended h) ex rest) ∙ ap (λ ps. folded_onto h (peaks_by digest_of ps) None) (sym opened)

pub no_peaks_from : (S : Shape) (s r : ℕ) → S.peaks 0 ≡ [] → r ≤ 0 → peaks_from S s r ≡ []
no_peaks_from S s r none l = let z : r ≡ 0 = omega arith in ap (λ j. places s (S.peaks j)) z ∙ ap (places s) none

pub forward_ends : (h : HashFunction) (digest_of : ℕ → ℕ → List ℕ) (o all : Option (List ℕ)) (ps : List Peak) → ps ≡ []
    → forward_from h o (peaks_by digest_of ps) ≡ all → o ≡ all
forward_ends h digest_of o all ps e f =
    sym (forward_none h o) ∙ ap (λ qs. forward_from h o (peaks_by digest_of qs)) (sym e) ∙ f

pub back_none : (S : Shape) (h : HashFunction) (digest_of : ℕ → ℕ → List ℕ) (s r : ℕ) → S.peaks 0 ≡ [] → r ≡ 0
    → None ≡ folded_onto h (peaks_by digest_of (peaks_from S s r)) None
back_none S h digest_of s r none z =
    ap (λ ps. folded_onto h (peaks_by digest_of ps) None) (sym (no_peaks_from S s r none (omega arith)))
