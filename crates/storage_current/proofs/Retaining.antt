-- Trees whose first leaves are forgotten: what stands behind those, and which lists they are over.
use Rattle.std.proofs.Common.{◌≡◌, ℕ, zero, suc, ◌+◌, ◌-◌, ◌*◌, ◌/◌, ◌%◌, ◌^◌, ◌<◌, ◌≤◌, List, [], ◌∷◌, length, map, get_or, None, if◌then◌else◌, le-leb, refl, sym, ap, ap₂, ◌∙◌, arith, inl, inr, pow_pos}
use Rattle.std.specs.List.{slice_get}
use Rattle.std.proofs.lemmas.Bool.{cases_lt, lt-leb}
use Rattle.std.proofs.Math.Nat.{div-lt_iff_lt-mul, div-mul-le_self, lt-div-mul-add, mul-le-mul_right, zero-mul}
use Rattle.storage_codec.specs.Digests.{HashFunction}
use Rattle.storage_merkle.specs.Hashing.{join_digest}
use Rattle.storage_merkle.specs.Kept.{Kept, StandsFor, at_peaks, kept_at, paired, pins}
use Rattle.storage_merkle.specs.Laws.Multiples.{multiple_add, multiple_down, pow_order, pow_two, power_multiple}
use Rattle.storage_merkle.specs.Laws.Shape.{inside_between}
use Rattle.storage_merkle.specs.Shape.{AreAligned, Inside, Laws, Shape, size}
use Rattle.storage_merkle.specs.Trees.{ungrafted}
use Rattle.storage_bitmap.specs.Chunks.{IsChunkSize, Retained}
use Rattle.storage_current.specs.GraftedTrees.{IsPeak}
use Rattle.storage_current.specs.KeptSnapshots.{HasEachBit}
use Rattle.storage_current.specs.KeptTrees.{ArePruned}
use Rattle.storage_current.specs.Laws.Grafting.{chunk_height, graftable_by_birth}
use Rattle.storage_current.specs.Laws.Retained.{behind}
use Rattle.storage_current.specs.NodeLists.{IsRetained, kept_from, plain_over}
use Rattle.storage_current.specs.Snapshots.{Grafting, graftable, height}
use Rattle.storage_current.proofs.Pinned.{inside_peak, peak_inside}

-- ---- what a tree has from its boundary on

none_paired : {D : Type 0} (p : ℕ) (qs : List ℕ) → paired {D = D} p qs [] ≡ None
none_paired p [] = refl
none_paired p (q ∷ qs) = refl

pub kept_behind : {D : Type 0} (S : Shape) (m : Kept D) (p : ℕ) → size S m.boundary ≤ p
    → kept_from S m p ≡ kept_at S m.boundary m.pinned m.nodes p
kept_behind S m p behind =
    ap (λ c. if c then slice_get m.nodes (p - size S m.boundary) else paired p (pins S m.boundary) [])
    (le-leb _ _ behind)
    ∙ sym (ap (λ c. if c then slice_get m.nodes (p - size S m.boundary) else paired p (pins S m.boundary) m.pinned)
    (le-leb _ _ behind))

pub kept_before : {D : Type 0} (S : Shape) (m : Kept D) (p : ℕ) → p < size S m.boundary → kept_from S m p ≡ None
kept_before S m p before =
    ap (λ c. if c then slice_get m.nodes (p - size S m.boundary) else paired p (pins S m.boundary) [])
    (lt-leb _ _ before) ∙ none_paired p (pins S m.boundary)

-- ---- peaks

pub peak_aligned : (hs : List ℕ) (s a k : ℕ) → AreAligned hs s → IsPeak hs s a k → a % 2 ^ k ≡ 0
unfolding AreAligned
peak_aligned [] s a k al i = absurd i
peak_aligned (h ∷ hs) s a k al (inl q) = rw (← q.0, ← q.1) al.0
peak_aligned (h ∷ hs) s a k al (inr r) = peak_aligned hs (s + 2 ^ h) a k al.1 r

-- a peak that begins inside a node of the tree is at least as high
peak_over : (hs : List ℕ) (s a k b g : ℕ) → IsPeak hs s a k → Inside hs s b g → b ≤ a → a < b + 2 ^ g → g ≤ k
unfolding Inside
peak_over [] s a k b g i j low high = absurd i
peak_over (h ∷ hs) s a k b g (inl q) (inl r) low high =
    let e : h ≡ k = q.1 in
    let one : 0 < 2 ^ g = pow_pos g in
    rw e at (pow_order g h (omega (arith, r.0, r.1)))
peak_over (h ∷ hs) s a k b g (inl q) (inr r) low high =
    let between = inside_between hs (s + 2 ^ h) b g r in
    absurd (omega (arith, q.0, between.0, low, pow_pos h))
peak_over (h ∷ hs) s a k b g (inr q) (inl r) low high =
    let between = inside_between hs (s + 2 ^ h) a k (peak_inside hs (s + 2 ^ h) a k q) in
    absurd (omega (arith, between.0, r.1, high))
peak_over (h ∷ hs) s a k b g (inr q) (inr r) low high = peak_over hs (s + 2 ^ h) a k b g q r low high

-- where some of the graftable chunks are forgotten, no peak is
pub peaks_retained : (g : Grafting) → Laws g.shape → (n r a k : ℕ) → r ≤ graftable g n
    → IsPeak (g.shape.peaks n) 0 a k
    → IsRetained g.shape (height g) (r * 2 ^ height g) (g.shape.position a k) k
peaks_retained g L n r a k few peak =
    let S = g.shape in
    let al : a % 2 ^ k ≡ 0 = peak_aligned (S.peaks n) 0 a k (L.aligned n) peak in
    elim (cases_lt k (height g)) [
      | inr high ↦ inl high
      | inl low ↦ elim (cases_lt a (r * 2 ^ height g)) [
        | inr after ↦ inr (behind S L (r * 2 ^ height g) a k al after)
        | inl before ↦
            let place : a / 2 ^ height g < r = (div-lt_iff_lt-mul (pow_pos (height g))).1 before in
            let inside : Inside (S.peaks n) 0 (a / 2 ^ height g * 2 ^ height g) (height g) =
            (graftable_by_birth S L (height g) n (a / 2 ^ height g)).1 (omega (arith, place, few)) in
            let up : height g ≤ k = peak_over (S.peaks n) 0 a k (a / 2 ^ height g * 2 ^ height g) (height g) peak
            inside (div-mul-le_self a (2 ^ height g)) (lt-div-mul-add (pow_pos (height g))) in
            absurd (omega (arith, up, low))
      ]
    ]

-- operations and bits of which none is forgotten
pub all_unpruned : {D : Type 0} (g : Grafting) (m : Kept D) (status : Retained) → HasEachBit g.bytes m.leaves status
    → m.boundary ≡ 0 → ArePruned g m status
all_unpruned g m status each none = record {
  all = each.all;
  place = none ∙ sym (ap (λ (p : ℕ). p * 2 ^ height g) each.unpruned ∙ zero-mul (2 ^ height g));
  few = omega (arith, each.unpruned);
}

-- the boundary by bits
pub boundary_is : {D : Type 0} (g : Grafting) (m : Kept D) (status : Retained) → IsChunkSize g.bytes → ArePruned g m status
    → m.boundary ≡ status.pruned * (8 * g.bytes)
boundary_is g m status sized pruned =
    pruned.place ∙ ap (λ (n : ℕ). status.pruned * n) (chunk_height g sized).bits

-- a chunk that is not pruned begins behind the boundary
pub pruned_behind : {D : Type 0} (g : Grafting) (m : Kept D) (status : Retained) (j r : ℕ) → height g ≡ r
    → ArePruned g m status → status.pruned ≤ j → m.boundary ≤ j * 2 ^ r
pruned_behind g m status j r level pruned kept =
    let more : status.pruned * 2 ^ height g ≤ j * 2 ^ height g = mul-le-mul_right (2 ^ height g) kept in
    let from : m.boundary ≤ j * 2 ^ height g = omega (arith, more, pruned.place) in
    rw level at from

-- ---- which lists a tree is over

peaks_agree : (f f' : ℕ → ℕ → List ℕ) (hs : List ℕ) (s : ℕ) → at_peaks f s hs ≡ at_peaks f' s hs → (a k : ℕ)
    → IsPeak hs s a k → f k a ≡ f' k a
peaks_agree f f' [] s e a k i = absurd i
peaks_agree f f' (h ∷ hs) s e a k (inl q) = let head : f h s ≡ f' h s = cc in rw (← q.0, ← q.1) head
peaks_agree f f' (h ∷ hs) s e a k (inr r) =
    let tail : at_peaks f (s + 2 ^ h) hs ≡ at_peaks f' (s + 2 ^ h) hs = cc in
    peaks_agree f f' hs (s + 2 ^ h) tail a k r

module _ (h : HashFunction) (S : Shape) (L : Laws S) (b n : ℕ) (xs ys : List (List ℕ))
    (pins_same : at_peaks (plain_over h S xs) 0 (S.peaks b) ≡ at_peaks (plain_over h S ys) 0 (S.peaks b))
    (leaves_same : (i : ℕ) → b ≤ i → i < n → get_or xs i [] ≡ get_or ys i []) where
  -- Two lists with the same peaks over the first leaves and the same leaves after them have the same nodes behind those.
  nodes_same : (k a : ℕ) → a % 2 ^ k ≡ 0 → S.birth a k ≤ n → b < S.birth a k → plain_over h S xs k a ≡ plain_over h S ys k a
  nodes_same zero a al born late =
      let birth : S.birth a 0 ≡ a + 1 = (L.leaf a).1 in
      leaves_same a (omega (arith, birth, late)) (omega (arith, birth, born))
  nodes_same (suc k) a al born late =
      let two = pow_two k in
      let low = L.children a k al in
      let there : S.position a (suc k) < size S n = (L.born n a (suc k) al).1 born in
      let none : Inside (S.peaks b) 0 a (suc k) → ⊥ = λ i.
      let x : S.birth a (suc k) ≤ b = (L.inside b a (suc k) al).0 i in absurd (omega (arith, x, late)) in
      let child : (c : ℕ) → c % 2 ^ k ≡ 0 → a ≤ c → c + 2 ^ k ≤ a + 2 ^ suc k → S.position c k < S.position a (suc k)
      → plain_over h S xs k c ≡ plain_over h S ys k c = λ c ca lo hi before.
      let inside : S.birth c k ≤ n = (L.born n c k ca).0 (omega (arith, before, there)) in
      elim (cases_lt b (S.birth c k)) [
        | inl after ↦ nodes_same k c ca inside after
        | inr early ↦
            let i : Inside (S.peaks b) 0 c k = (L.inside b c k ca).1 early in
            peaks_agree (plain_over h S xs) (plain_over h S ys) (S.peaks b) 0 pins_same c k
            (inside_peak (S.peaks b) 0 c k a (L.aligned b) i al lo hi none)
      ] in
      let left : a % 2 ^ k ≡ 0 = multiple_down a k (suc k) (omega arith) al in
      let right : (a + 2 ^ k) % 2 ^ k ≡ 0 =
      multiple_add a (2 ^ k) (2 ^ k) (pow_pos k) left (power_multiple k k (omega arith)) in
      ap₂ (join_digest h (ungrafted S) (λ x. []) a (suc k))
      (child a left (omega arith) (omega (arith, two)) low.0)
      (child (a + 2 ^ k) right (omega arith) (omega (arith, two)) low.1)

-- so a tree that is over the one is over the other
pub over_other : {D : Type 0} (text : D → List ℕ) (h : HashFunction) (S : Shape) → Laws S → (m : Kept D)
    (xs ys : List (List ℕ)) → StandsFor text S (plain_over h S) m xs → length xs ≡ length ys
    → map text m.pinned ≡ at_peaks (plain_over h S ys) 0 (S.peaks m.boundary)
    → ((i : ℕ) → m.boundary ≤ i → i < m.leaves → get_or xs i [] ≡ get_or ys i [])
    → StandsFor text S (plain_over h S) m ys
over_other text h S L m xs ys stands count pinned leaves = record {
  count = stands.count ∙ count;
  holds = record {
    peaks = pinned;
    from = λ a k al low high clean.
        let born : S.birth a k ≤ m.leaves = (L.born m.leaves a k al).0 high in
        let late : m.boundary < S.birth a k = elim (cases_lt m.boundary (S.birth a k)) [
          | inl after ↦ after
          | inr early ↦
              let x : S.position a k < size S m.boundary = (L.born m.boundary a k al).1 early in
              absurd (omega (arith, x, low))
        ] in
        stands.holds.from a k al low high clean
        ∙ nodes_same h S L m.boundary m.leaves xs ys (sym stands.holds.peaks ∙ pinned) leaves k a al born late;
  };
}
