-- What holds of each peak, and of the peaks over fewer leaves among those over more.
use Rattle.std.proofs.Common.{◌≡◌, ℕ, suc, ◌+◌, ◌%◌, ◌^◌, ◌<◌, ◌≤◌, List, [], ◌∷◌, length, refl, ap, inl, inr, ⊎_elim, arith}
use Rattle.std.proofs.lemmas.Bool.{cases_lt}
use Rattle.std.proofs.lemmas.Nat.{pow_pos}
use Rattle.storage_merkle.specs.Shape.{Shape, Laws, size, leaves_under, Inside, AreAligned}
use Rattle.storage_merkle.specs.Peaks.{HasPeak}
use Rattle.storage_merkle.specs.Trees.{places}
use Rattle.storage_merkle.specs.Laws.Multiples.{pow_order}
use Rattle.storage_merkle.specs.Laws.Shape.{inside_before, inside_valid, inside_between}

pub length_places : (a : ℕ) (ks : List ℕ) → length (places a ks) ≡ length ks
length_places a [] = refl
length_places a (k ∷ ks) = ap suc (length_places (a + 2 ^ k) ks)

-- a peak is inside the peaks
pub peak_inside : (hs : List ℕ) (s a k : ℕ) → HasPeak hs s a k → Inside hs s a k
unfolding HasPeak Inside
peak_inside [] s a k h = absurd h
peak_inside (x ∷ hs) s a k (inl p) = let w : 2 ^ k ≡ 2 ^ x = ap (λ z. 2 ^ z) p.1 in
    inl (omega (arith, p.0), omega (arith, p.0))
peak_inside (x ∷ hs) s a k (inr q) = inr (peak_inside hs (s + 2 ^ x) a k q)

pub peak_aligned : (hs : List ℕ) (s a k : ℕ) → AreAligned hs s → HasPeak hs s a k → a % 2 ^ k ≡ 0
unfolding HasPeak AreAligned
peak_aligned [] s a k al h = absurd h
peak_aligned (x ∷ hs) s a k al (inl p) = rw (p.0, p.1) al.0
peak_aligned (x ∷ hs) s a k al (inr q) = peak_aligned hs (s + 2 ^ x) a k al.1 q

-- a node inside the peaks that shares a leaf with one of them lies inside that one
pub inside_of_peak : (hs : List ℕ) (s a k b j i : ℕ) → Inside hs s a k → HasPeak hs s b j → a ≤ i → i < a + 2 ^ k
    → b ≤ i → i < b + 2 ^ j → (b ≤ a) × (a + 2 ^ k ≤ b + 2 ^ j)
unfolding HasPeak Inside
inside_of_peak [] s a k b j i h p l1 u1 l2 u2 = absurd h
inside_of_peak (x ∷ hs) s a k b j i (inl h) (inl p) l1 u1 l2 u2 = let w : 2 ^ j ≡ 2 ^ x = ap (λ z. 2 ^ z) p.1 in
    (omega (arith, p.0, h), omega (arith, p.0, h))
inside_of_peak (x ∷ hs) s a k b j i (inl h) (inr q) l1 u1 l2 u2 =
    absurd (let r = inside_between hs (s + 2 ^ x) b j (peak_inside hs (s + 2 ^ x) b j q) in omega (arith, r, h))
inside_of_peak (x ∷ hs) s a k b j i (inr g) (inl p) l1 u1 l2 u2 =
    absurd (let w : 2 ^ j ≡ 2 ^ x = ap (λ z. 2 ^ z) p.1 in let r = inside_between hs (s + 2 ^ x) a k g in omega (arith, r, p.0))
inside_of_peak (x ∷ hs) s a k b j i (inr g) (inr q) l1 u1 l2 u2 =
    inside_of_peak hs (s + 2 ^ x) a k b j i g q l1 u1 l2 u2

-- each leaf lies below a peak
pub record PeakOver (hs : List ℕ) (s i : ℕ) : Type 0 where
  pub first : ℕ
  pub height : ℕ
  pub is : HasPeak hs s first height
  pub low : first ≤ i
  pub high : i < first + 2 ^ height

pub peak_over : (hs : List ℕ) (s i : ℕ) → s ≤ i → i < s + leaves_under hs → PeakOver hs s i
unfolding HasPeak leaves_under
peak_over [] s i lo hi = absurd (omega arith)
peak_over (x ∷ hs) s i lo hi = ⊎_elim
    (λ (l : i < s + 2 ^ x). record { first = s; height = x; is = inl (refl, refl); low = lo; high = l })
    (λ (g : s + 2 ^ x ≤ i). let r = peak_over hs (s + 2 ^ x) i g (omega arith) in
    record { first = r.first; height = r.height; is = inr r.is; low = r.low; high = r.high })
    (cases_lt i (s + 2 ^ x))

module _ (S : Shape) (L : Laws S) where
  -- a tree never loses a node while it grows
  pub inside_grows : (m n a k : ℕ) → m ≤ n → a % 2 ^ k ≡ 0 → Inside (S.peaks m) 0 a k → Inside (S.peaks n) 0 a k
  inside_grows m n a k le ha i =
      (L.inside n a k ha).1 (let b : S.birth a k ≤ m = (L.inside m a k ha).0 i in omega arith)

  pub peak_node : (n a k : ℕ) → HasPeak (S.peaks n) 0 a k → (a % 2 ^ k ≡ 0) × (S.position a k < size S n)
  peak_node n a k p =
      let al : a % 2 ^ k ≡ 0 = peak_aligned (S.peaks n) 0 a k (L.aligned n) p in
      (al, inside_before S L n a k al (peak_inside (S.peaks n) 0 a k p))

  pub peak_valid : (n a k : ℕ) → n ≤ 2 ^ 62 → HasPeak (S.peaks n) 0 a k → S.position a k ≤ size S (2 ^ 62)
  peak_valid n a k few p = inside_valid S L n a k few (peak_node n a k p).0 (peak_inside (S.peaks n) 0 a k p)

  -- the peaks over fewer leaves nest in those over more: one that shares its first leaf with a peak over more lies inside it
  pub peaks_nest : (m n a k b j : ℕ) → m ≤ n → HasPeak (S.peaks m) 0 a k → HasPeak (S.peaks n) 0 b j → b ≤ a
      → a < b + 2 ^ j → (k ≤ j) × (a + 2 ^ k ≤ b + 2 ^ j)
  peaks_nest m n a k b j le p q lo hi =
      let al : a % 2 ^ k ≡ 0 = (peak_node m a k p).0 in
      let i = inside_grows m n a k le al (peak_inside (S.peaks m) 0 a k p) in
      let r = inside_of_peak (S.peaks n) 0 a k b j a i q (omega arith) (omega (arith, pow_pos k)) lo hi in
      (pow_order k j (let w : 2 ^ k ≤ 2 ^ j = omega (arith, r) in w), r.1)
