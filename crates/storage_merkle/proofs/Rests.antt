-- Walking past the leading peaks.
use Rattle.std.proofs.Common.{◌≡◌, ℕ, suc, ◌+◌, ◌-◌, ◌<◌, ◌≤◌, ◌^◌, List, [], ◌∷◌, ◌++◌, length, take, drop, Bool, true, false, if◌then◌else◌, refl, sym, ap, ap₂, ◌∙◌, arith, subst, leb, le-leb, pow_pos}
use Rattle.storage_merkle.specs.Shape.{Shape}
use Rattle.storage_merkle.specs.declared.merkle.bagging.Bagging.{Bagging}
use Rattle.storage_merkle.specs.declared.merkle.bagging.Bagging.TheVariants.{ForwardFold, BackwardFold}
use Rattle.storage_merkle.specs.Trees.{Peak, places}
use Rattle.storage_merkle.specs.RangeProofs.{leading, not_leading}
use Rattle.storage_merkle.specs.Rests.{peaks_from, IsPast, AreFolded, AreAfterLeading}
use Rattle.storage_merkle.proofs.Check.Tops.{first_and_others}
use Rattle.storage_merkle.proofs.Walked.{leads, leads_of}

-- all peaks
take_all : (a : ℕ) (ks : List ℕ) → take (length ks) (places a ks) ≡ places a ks
take_all a [] = refl
take_all a (k ∷ ks) = ap (λ ps. (record { first = a; height = k }) ∷ ps) (take_all (a + 2 ^ k) ks)

drop_all : (a : ℕ) (ks : List ℕ) → drop (length ks) (places a ks) ≡ []
drop_all a [] = refl
drop_all a (k ∷ ks) = drop_all (a + 2 ^ k) ks

pub all_folded_forward : (S : Shape) (b : Bagging) (i n f : ℕ) → b ≡ ForwardFold → f ≡ length (S.peaks n)
    → AreFolded S b i n f
all_folded_forward S b i n f e l =
    subst (λ c. AreFolded S c i n f) (sym e) (record {
      folded_are = ap (λ m. take m (peaks_from S 0 n)) l ∙ take_all 0 (S.peaks n);
      unfolded_are = ap (λ m. drop m (peaks_from S 0 n)) l ∙ drop_all 0 (S.peaks n);
    })

pub inactive_folded : (S : Shape) (b : Bagging) (i n : ℕ) → b ≡ BackwardFold → AreFolded S b i n i
inactive_folded S b i n e = subst (λ c. AreFolded S c i n i) (sym e) (record { folded_are = refl; unfolded_are = refl })

-- the others are all, where none leads
all_follow : (low : ℕ) (ps : List Peak) → leading low ps ≡ [] → ps ≡ not_leading low ps
all_follow low [] e = refl
all_follow low (p ∷ ps) e = go (leb (p.first + 2 ^ p.height) low) refl e
  where
    go : (b : Bool) → leb (p.first + 2 ^ p.height) low ≡ b → (if b then p ∷ leading low ps else []) ≡ []
        → p ∷ ps ≡ (if b then not_leading low ps else p ∷ ps)
    go true t e = cc
    go false t e = refl

module _ (S : Shape) (low a r f : ℕ) where
  pub none_leads : leads_of S low a r f ≡ [] → AreAfterLeading S low a r f a r f
  none_leads e = record {
    all = ap (λ ps. ps ++ peaks_from S a r) (sym e);
    folded_are = all_follow low (take f (peaks_from S a r)) e;
    unfolded_are = refl;
    past = subst (IsPast a a) (sym e) refl;
  }

  module _ (h a' r' f' : ℕ) (e : S.peaks r ≡ h ∷ S.peaks (r - 2 ^ h)) (ea : a' ≡ a + 2 ^ h) (er : r' ≡ r - 2 ^ h)
      (ef : f' ≡ f - 1) (some : 0 < f) (l : a + 2 ^ h ≤ low) where
    abbrev p : Peak
    p = record { first = a; height = h }

    opened : peaks_from S a r ≡ p ∷ peaks_from S a' r'
    opened = first_and_others S low low a r f h a' r' f' e ea er ef

    count : f ≡ suc f'
    count = omega arith

    others : not_leading low (take f (peaks_from S a r)) ≡ not_leading low (take f' (peaks_from S a' r'))
    others = ap₂ (λ m ps. not_leading low (take m ps)) count opened ∙ rw (le-leb (a + 2 ^ h) low l) refl

    later : (b : ℕ) (ps : List Peak) → IsPast a' b ps → a < b
    later b [] e = omega (arith, pow_pos h)
    later b (q ∷ ps) l = omega (arith, pow_pos h)

    pub one_leads : (b s g : ℕ) → AreAfterLeading S low a' r' f' b s g → AreAfterLeading S low a r f b s g
    one_leads b s g t =
        let lead = leads S low a r h e f a' r' f' ea er ef some l in
        record {
          all = opened ∙ ap (λ ps. p ∷ ps) t.all ∙ ap (λ ps. ps ++ peaks_from S b s) (sym lead);
          folded_are = t.folded_are ∙ sym others;
          unfolded_are = t.unfolded_are ∙ sym (ap₂ drop count opened);
          past = subst (IsPast a b) (sym lead) (later b (leading low (take f' (peaks_from S a' r'))) t.past);
        }
