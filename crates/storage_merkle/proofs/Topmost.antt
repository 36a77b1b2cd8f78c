-- The peaks of a tree are kept, and what is kept of them is had one after another.
use Rattle.std.proofs.Common.{◌≡◌, ℕ, suc, ◌+◌, ◌-◌, ◌*◌, ◌/◌, ◌%◌, ◌^◌, ◌<◌, ◌≤◌, List, [], ◌∷◌, ◌++◌, length, map, refl, sym, ap, ◌∙◌, inl, inr, ⊎_elim, arith, take, set, append_assoc}
use Rattle.std.proofs.lemmas.Bool.{cases_lt}
use Rattle.std.proofs.lemmas.Nat.{pow_pos, div-add-mod'}
use Rattle.std.proofs.Math.Nat.{mod-lt}
use Rattle.std.proofs.lemmas.List.{take_more_set, map-append}
use Rattle.storage_merkle.specs.Shape.{Shape, Laws, size, Inside, AreAligned}
use Rattle.storage_merkle.specs.Laws.Shape.{inside_between}
use Rattle.storage_merkle.specs.Laws.Multiples.{pow_two, next, multiple_add, multiple_down, power_multiple, is_multiple}
use Rattle.storage_merkle.specs.Trees.{Peak}
use Rattle.storage_merkle.proofs.MemNodes.{IsPeak, IsKept, inside_peak}

pub peak_inside : (hs : List ℕ) (s a k : ℕ) → IsPeak hs s a k → Inside hs s a k
unfolding Inside
peak_inside [] s a k i = absurd i
peak_inside (h ∷ hs) s a k (inl q) = let e : 2 ^ h ≡ 2 ^ k = ap (λ x. 2 ^ x) q.1 in let f : s ≡ a = q.0 in
    inl ((omega arith), (omega arith))
peak_inside (h ∷ hs) s a k (inr r) = inr (peak_inside hs (s + 2 ^ h) a k r)

-- the parent of a peak is not there
pub peak_topmost : (hs : List ℕ) (s a k p : ℕ) → IsPeak hs s a k → p ≤ a → a + 2 ^ k ≤ p + 2 ^ suc k
    → Inside hs s p (suc k) → ⊥
unfolding Inside
peak_topmost [] s a k p i lo hi x = i
peak_topmost (h ∷ hs) s a k p (inl q) lo hi (inl x) = let e : 2 ^ h ≡ 2 ^ k = ap (λ y. 2 ^ y) q.1 in
    let f : s ≡ a = q.0 in let x1 : p + 2 ^ suc k ≤ s + 2 ^ h = x.1 in omega (arith, x.0, x1, pow_two k, pow_pos k)
peak_topmost (h ∷ hs) s a k p (inl q) lo hi (inr y) = let f : s ≡ a = q.0 in
    let r = inside_between hs (s + 2 ^ h) p (suc k) y in omega (arith, r.0, pow_pos h)
peak_topmost (h ∷ hs) s a k p (inr r) lo hi (inl x) = let t =
    inside_between hs (s + 2 ^ h) a k (peak_inside hs (s + 2 ^ h) a k r) in let x1 : p + 2 ^ suc k ≤ s + 2 ^ h = x.1 in
    omega (arith, t.0, x1, pow_pos k)
peak_topmost (h ∷ hs) s a k p (inr r) lo hi (inr y) = peak_topmost hs (s + 2 ^ h) a k p r lo hi y

pub record Parent (a k : ℕ) : Type 0 where
  pub first : ℕ
  pub aligned : first % 2 ^ suc k ≡ 0
  pub low : first ≤ a
  pub high : a + 2 ^ k ≤ first + 2 ^ suc k

pub parent_of : (a k : ℕ) → a % 2 ^ k ≡ 0 → Parent a k
parent_of a k al =
    let d = 2 ^ suc k in
    let pos : 0 < d = pow_pos (suc k) in
    let p = a / d * d in
    let pa : p % d ≡ 0 = is_multiple (a / d) d pos in
    let e : a / d * d + a % d ≡ a = div-add-mod' a d in
    let m : a % d < d = mod-lt a pos in
    let q : (p + d) % 2 ^ k ≡ 0 = multiple_add p d (2 ^ k) (pow_pos k) (multiple_down p k (suc k) (omega arith) pa)
    (power_multiple (suc k) k (omega arith)) in
    record { first = p; aligned = pa; low = omega arith; high = next a (p + d) (2 ^ k) al q (omega arith) }

module _ (S : Shape) (L : Laws S) where
  -- a node that is not in the tree over b leaves, or is a peak there
  pub kept_below : (b p a k : ℕ) → a % 2 ^ k ≡ 0 → S.position a k < p
      → ((q : Parent a k) → Inside (S.peaks b) 0 q.first (suc k) → ⊥) → IsKept S L b p a k
  kept_below b p a k al below none =
      let q = parent_of a k al in
      record {
        aligned = al;
        below = below;
        there = ⊎_elim
            (λ (l : S.position a k < size S b).
            let i : Inside (S.peaks b) 0 a k = (L.inside b a k al).1 ((L.born b a k al).0 l) in
            inr (l, inside_peak (S.peaks b) 0 a k q.first (L.aligned b) i q.aligned q.low q.high (none q)))
            (λ (g : size S b ≤ S.position a k). inl g)
            (cases_lt (S.position a k) (size S b));
      }

  pub peak_kept : (b m p a k : ℕ) → b ≤ m → size S m ≤ p → a % 2 ^ k ≡ 0 → IsPeak (S.peaks m) 0 a k → IsKept S L b p a k
  peak_kept b m p a k le reach al i =
      let j = peak_inside (S.peaks m) 0 a k i in
      let lt : S.position a k < size S m = (L.born m a k al).1 ((L.inside m a k al).0 j) in
      kept_below b p a k al (omega arith)
      (λ q x. peak_topmost (S.peaks m) 0 a k q.first i q.low q.high ((L.inside m q.first (suc k) q.aligned).1
      (let y : S.birth q.first (suc k) ≤ b = (L.inside b q.first (suc k) q.aligned).0 x in omega arith)))

  -- the first peak is kept too
  pub first_kept : (b m p h : ℕ) → b ≤ m → size S m ≤ p → S.peaks m ≡ h ∷ S.peaks (m - 2 ^ h)
      → IsKept S L b p 0 h
  unfolding AreAligned
  first_kept b m p h le reach e =
      let al = rw e at (L.aligned m) in
      peak_kept b m p 0 h le reach al.0 (rw e (inl (refl, refl)))

-- the digests of some peaks
abbrev pub digests_of : (ℕ → ℕ → List ℕ) → List Peak → List (List ℕ)
digests_of node ps = map (λ p. node p.height p.first) ps

pub walk_more : {A : Type 0} (node : ℕ → ℕ → List ℕ) (f : A → List ℕ) (ds : List A) (count : ℕ) (p : Peak) (ps qs : List Peak)
    (v : A) (all : List (List ℕ)) → ps ≡ p ∷ qs → map f (take count ds) ++ digests_of node ps ≡ all → count < length ds
    → f v ≡ node p.height p.first → map f (take (count + 1) (set ds count v)) ++ digests_of node qs ≡ all
walk_more node f ds count p ps qs v all first e l at =
    let later = digests_of node qs in
    ap (λ xs. map f xs ++ later) (take_more_set ds count v l)
    ∙ ap (λ xs. xs ++ later) (map-append f (take count ds) (v ∷ []))
    ∙ append_assoc (map f (take count ds)) (f v ∷ []) later
    ∙ ap (λ x. map f (take count ds) ++ (x ∷ later)) at
    ∙ ap (λ rs. map f (take count ds) ++ digests_of node rs) (sym first)
    ∙ e
