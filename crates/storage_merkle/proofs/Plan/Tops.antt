-- The digests of the peaks and folds of a plan apart from a range.
use Rattle.std.proofs.Common.{◌≡◌, ℕ, ◌+◌, ◌^◌, List, [], ◌∷◌, ◌++◌, map, take, drop, true, refl, sym, ap, ◌∙◌, subst, le-leb, Some, None}
use Rattle.storage_codec.specs.Digests.{HashFunction}
use Rattle.storage_merkle.specs.Shape.{Shape}
use Rattle.storage_merkle.specs.Calc.{Site, front}
use Rattle.storage_merkle.specs.CheckParts.{top_sites}
use Rattle.storage_merkle.specs.Trees.{Peak}
use Rattle.storage_merkle.specs.RangeProofs.{apart, leading, trailing, one_for}
use Rattle.storage_merkle.specs.Rests.{peaks_from, AreAfterLeading}
use Rattle.storage_merkle.specs.Hashers.{folded_onto, forward_of}
use Rattle.storage_merkle.specs.PlanParts.{IsAmong, ArePlannedApart, ArePlannedAll, digest_or, met_digest, peaks_by, site_digest}
use Rattle.storage_merkle.specs.Walked.{walked}
use Rattle.storage_merkle.proofs.Walked.{each_leading, listed, all_listed, digests_met}

pub front_listed : (h : HashFunction) (digest_of : ℕ → ℕ → List ℕ) (f : Site → List ℕ) (ls : List Peak)
    → f front ≡ digest_or (h []) (forward_of h (peaks_by digest_of ls))
    → listed (forward_of h (peaks_by digest_of ls)) ≡ map f (one_for front ls)
front_listed h digest_of f [] e = refl
front_listed h digest_of f (p ∷ ps) e = ap (λ x. x ∷ []) (sym e)

after_planned : (S : Shape) (low high : ℕ) (positions : List ℕ) (ps qs : List Peak)
    → ArePlannedApart S low high positions (ps ++ qs) → ArePlannedApart S low high positions qs
after_planned S low high positions [] qs a = a
after_planned S low high positions (p ∷ ps) qs a = after_planned S low high positions ps qs a.1

pub front_planned : (S : Shape) (low high : ℕ) (positions : List ℕ) (a r f : ℕ) → ArePlannedApart S low high positions
    (peaks_from S a r) → ArePlannedAll S positions (leading low (take f (peaks_from S a r)))
front_planned S low high positions a r f p =
    each_leading low (λ b k. apart low high b k ≡ true → IsAmong positions (S.position b k))
    (λ b k. IsAmong positions (S.position b k)) (λ b k l q. q (rw (le-leb (b + 2 ^ k) low l) refl)) f
    (peaks_from S a r) p

pub rest_planned : (S : Shape) (low high : ℕ) (positions : List ℕ) (a r f b s g : ℕ)
    → AreAfterLeading S low a r f b s g → ArePlannedApart S low high positions (peaks_from S a r)
    → ArePlannedApart S low high positions (peaks_from S b s)
rest_planned S low high positions a r f b s g after p =
    after_planned S low high positions (leading low (take f (peaks_from S a r))) (peaks_from S b s)
    (subst (ArePlannedApart S low high positions) after.all p)

-- the peaks xs are folded from the left and the peaks ys from the right
module _ (low high : ℕ) (xs ys : List Peak) (h : HashFunction) (digest_of : ℕ → ℕ → List ℕ) where
  abbrev pub site : Site → List ℕ
  site = site_digest low high xs ys h digest_of

  -- the digests of what is met after the leading peaks
  pub met_are : (ps : List Peak) (f : ℕ) → trailing high (drop f ps) ≡ trailing high ys
      → all_listed (map (met_digest h digest_of) (walked low high ps f)) ≡ map site (top_sites low high ps f)
  met_are ps f late = digests_met low high site (met_digest h digest_of) (λ p. refl) ps f
      (λ q qs t. ap (λ zs. Some (digest_or (h []) (folded_onto h (peaks_by digest_of zs) None))) (t ∙ late))
