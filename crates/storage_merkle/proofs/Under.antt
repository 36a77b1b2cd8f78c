-- Peaks and the nodes under them: what holds of each peak holds of each in a part of the list.
use Rattle.std.proofs.Common.{◌≡◌, ℕ, zero, suc, ◌+◌, ◌%◌, ◌^◌, List, [], ◌∷◌, take, drop, true, false, if◌then◌else◌, inl, inr, arith, leb, pow_pos}
use Rattle.storage_merkle.specs.Shape.{Inside, AreAligned}
use Rattle.storage_merkle.specs.Laws.Multiples.{pow_two, multiple_down, multiple_add, power_multiple}
use Rattle.storage_merkle.specs.declared.merkle.bagging.Bagging.{Bagging}
use Rattle.storage_merkle.specs.declared.merkle.bagging.Bagging.TheVariants.{ForwardFold, BackwardFold}
use Rattle.storage_merkle.specs.Trees.{Peak, places, folded, unfolded}
use Rattle.storage_merkle.specs.RangeProofs.{not_leading, up_to}
use Rattle.storage_merkle.proofs.Agreeing.{AllPeaks}

-- ---- parts of a list of peaks

pub all_take : (Q : Peak → Type 0) (i : ℕ) (ps : List Peak) → AllPeaks Q ps → AllPeaks Q (take i ps)
all_take Q zero ps a = tt
all_take Q (suc i) [] a = tt
all_take Q (suc i) (p ∷ ps) a = (a.0, all_take Q i ps a.1)

pub all_drop : (Q : Peak → Type 0) (i : ℕ) (ps : List Peak) → AllPeaks Q ps → AllPeaks Q (drop i ps)
all_drop Q zero ps a = a
all_drop Q (suc i) [] a = a
all_drop Q (suc i) (p ∷ ps) a = all_drop Q i ps a.1

pub all_not_leading : (low : ℕ) (Q : Peak → Type 0) (ps : List Peak) → AllPeaks Q ps → AllPeaks Q (not_leading low ps)
all_not_leading low Q [] a = tt
all_not_leading low Q (p ∷ ps) a =
    elim (leb (p.first + 2 ^ p.height) low) as (λ b. AllPeaks Q (if b then not_leading low ps else p ∷ ps)) [
      | true ↦
          all_not_leading low Q ps a.1
      | false ↦ a
    ]

pub all_up_to : (high : ℕ) (Q : Peak → Type 0) (ps : List Peak) → AllPeaks Q ps → AllPeaks Q (up_to high ps)
all_up_to high Q [] a = tt
all_up_to high Q (p ∷ ps) a =
    elim (leb high p.first) as (λ b. AllPeaks Q (if b then [] else p ∷ up_to high ps)) [
      | true ↦ tt
      | false ↦
          (a.0, all_up_to high Q ps a.1)
    ]

-- nodes that stand inside one of the peaks
pub inside_half : (hs : List ℕ) (s a k : ℕ) → Inside hs s a (suc k) → Inside hs s a k × Inside hs s (a + 2 ^ k) k
unfolding Inside
inside_half [] s a k i = absurd i
inside_half (x ∷ hs) s a k (inl i) =
    (inl (i.0, omega (arith, i, pow_two k)), inl (omega (arith, i), omega (arith, i, pow_two k)))
inside_half (x ∷ hs) s a k (inr i) = let r = inside_half hs (s + 2 ^ x) a k i in (inr r.0, inr r.1)

abbrev pub IsUnder : List ℕ → ℕ → ℕ → Type 0
IsUnder ks a k = (a % 2 ^ k ≡ 0) × Inside ks 0 a k

pub under_halves : (ks : List ℕ) (a k : ℕ) → IsUnder ks a (suc k) → IsUnder ks a k × IsUnder ks (a + 2 ^ k) k
under_halves ks a k u =
    let down : a % 2 ^ k ≡ 0 = multiple_down a k (suc k) (omega arith) u.0 in
    let i = inside_half ks 0 a k u.1 in
    ((down, i.0), (multiple_add a (2 ^ k) (2 ^ k) (pow_pos k) down (power_multiple k k (omega arith)), i.1))

pub peaks_under : (ks hs : List ℕ) (s : ℕ) → AreAligned hs s → ((a k : ℕ) → Inside hs s a k → Inside ks 0 a k)
    → AllPeaks (λ p. IsUnder ks p.first p.height) (places s hs)
unfolding AreAligned Inside
peaks_under ks [] s al f = tt
peaks_under ks (x ∷ hs) s al f =
    ((al.0, f s x (inl (omega arith, omega arith))), peaks_under ks hs (s + 2 ^ x) al.1 (λ a k i. f a k (inr i)))

pub all_folded : (Q : Peak → Type 0) (b : Bagging) (i : ℕ) (ps : List Peak) → AllPeaks Q ps
    → AllPeaks Q (folded b i ps) × AllPeaks Q (unfolded b i ps)
all_folded Q ForwardFold i ps a = (a, tt)
all_folded Q BackwardFold i ps a = (all_take Q i ps a, all_drop Q i ps a)
