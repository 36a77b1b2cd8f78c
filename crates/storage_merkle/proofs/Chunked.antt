-- Chunks of one length, where a tree's calculations graft them.
use Rattle.std.proofs.Common.{◌≡◌, ℕ, zero, suc, ◌+◌, ◌^◌, List, [], ◌∷◌, ◌++◌, length, map, Bool, true, false, if◌then◌else◌, refl, arith, Option, Some, None}
use Rattle.storage_merkle.specs.Shape.{AreAligned}
use Rattle.storage_merkle.specs.Calc.{Site, front, back, node, Calc, given, leaf, pair, graft, be8, Values}
use Rattle.storage_merkle.specs.Laws.Calc.{IsChunked}
use Rattle.storage_merkle.specs.Chunked.{AreChunks}
use Rattle.storage_merkle.specs.declared.merkle.bagging.Bagging.{Bagging}
use Rattle.storage_merkle.specs.Trees.{Layout, Peak, peaks_of, folded, unfolded, part, bag, fold_forward, fold_backward, join_calc, node_calc, never}
use Rattle.storage_merkle.specs.RangeProofs.{apart, leading, not_leading, up_to, trailing, one_for, check_bag}
use Rattle.storage_merkle.proofs.Agreeing.{AllPeaks}
use Rattle.storage_merkle.proofs.Under.{IsUnder, under_halves, peaks_under, all_folded, all_not_leading, all_up_to}

-- where no node is cut they are of that length at each other cut
pub uncut : (N : ℕ) (T : Layout) (n : ℕ) (cut : ℕ → ℕ → Bool) (chunk : ℕ → List ℕ) → AreChunks N T n never chunk
    → AreChunks N T n cut chunk
uncut N T n cut chunk f = λ a k o g m i c. f a k o g m i refl

module _ (N : ℕ) (v : Values) where
  abbrev pub ChunkedAll : List Calc → Type 0
  ChunkedAll [] = Unit {0}
  ChunkedAll (t ∷ ts) = IsChunked N v t × ChunkedAll ts

  abbrev pub ChunkedBag : Option Calc → Type 0
  ChunkedBag None = Unit {0}
  ChunkedBag (Some t) = IsChunked N v t

  chunked_forward : (t : Calc) (ts : List Calc) → IsChunked N v t → ChunkedAll ts → IsChunked N v (fold_forward t ts)
  chunked_forward t [] a b = a
  chunked_forward t (u ∷ ts) a b = chunked_forward (pair [] t u) ts (a, b.0) b.1

  chunked_backward : (t : Calc) (ts : List Calc) → IsChunked N v t → ChunkedAll ts
      → IsChunked N v (fold_backward t ts)
  chunked_backward t [] a b = a
  chunked_backward t (u ∷ ts) a b = (a, chunked_backward u ts b.0 b.1)

  chunked_bag : (xs ys : List Calc) → ChunkedAll xs → ChunkedAll ys → ChunkedBag (bag xs ys)
  chunked_bag [] [] a b = tt
  chunked_bag [] (y ∷ ys) a b = chunked_backward y ys b.0 b.1
  chunked_bag (x ∷ xs) ys a b = chunked_backward _ ys (chunked_forward x xs a.0 a.1) b

  chunked_append : (ts us : List Calc) → ChunkedAll ts → ChunkedAll us → ChunkedAll (ts ++ us)
  chunked_append [] us a b = b
  chunked_append (t ∷ ts) us a b = (a.0, chunked_append ts us a.1 b)

  chunked_one : (s : Site) (ps : List Peak) → ChunkedAll (one_for (given s) ps)
  chunked_one s [] = tt
  chunked_one s (p ∷ ps) = (tt, tt)

  -- where each chunk has that length, grafted or not
  always : ((a : ℕ) → length (v.chunk a) ≡ N) → (t : Calc) → IsChunked N v t
  always f (given s) = tt
  always f (leaf p j) = tt
  always f (pair p l r) = (always f l, always f r)
  always f (graft a p l r) = (f a, (always f l, always f r))

  pub always_bag : ((a : ℕ) → length (v.chunk a) ≡ N) → (t : Option Calc) → ChunkedBag t
  always_bag f None = tt
  always_bag f (Some t) = always f t

  module _ (T : Layout) (n : ℕ) (cut : ℕ → ℕ → Bool) (aligned : AreAligned (T.shape.peaks n) 0)
      (chunks : AreChunks N T n cut v.chunk) where
    chunked_join : (a k : ℕ) (l r : Calc) → (T.grafted a k ≡ true → length (v.chunk a) ≡ N) → IsChunked N v l
        → IsChunked N v r → IsChunked N v (join_calc T a k l r)
    chunked_join a k l r f x y = go (T.grafted a k) refl
      where
        go : (g : Bool) → T.grafted a k ≡ g → IsChunked N v
            (if g then graft a (T.position a k) l r else pair (be8 (T.position a k)) l r)
        go true e = (f e, (x, y))
        go false e = (x, y)

    chunked_node : (k a : ℕ) → IsUnder (T.shape.peaks n) a k → IsChunked N v (node_calc T cut k a)
    chunked_node zero a u = elim (cut a zero) as (λ c. IsChunked N v (if c then given (node a zero)
        else leaf (be8 (T.shape.position a zero)) a)) [ true ↦ tt | false ↦ tt ]
    chunked_node (suc k) a u =
        let halves = under_halves (T.shape.peaks n) a k u in
        go (cut a (suc k)) refl (chunked_node k a halves.0) (chunked_node k (a + 2 ^ k) halves.1)
      where
        go : (c : Bool) → cut a (suc k) ≡ c → IsChunked N v (node_calc T cut k a)
            → IsChunked N v (node_calc T cut k (a + 2 ^ k)) → IsChunked N v (if c then given (node a (suc k))
            else join_calc T a (suc k) (node_calc T cut k a) (node_calc T cut k (a + 2 ^ k)))
        go true e x y = tt
        go false e x y = chunked_join a (suc k) (node_calc T cut k a) (node_calc T cut k (a + 2 ^ k))
            (λ g. chunks a (suc k) (omega arith) g u.0 u.1 e) x y

    chunked_parts : (ps : List Peak) → AllPeaks (λ p. IsUnder (T.shape.peaks n) p.first p.height) ps
        → ChunkedAll (map (part T cut) ps)
    chunked_parts [] a = tt
    chunked_parts (p ∷ ps) a = (chunked_node p.height p.first a.0, chunked_parts ps a.1)

    under : AllPeaks (λ p. IsUnder (T.shape.peaks n) p.first p.height) (peaks_of T n)
    under = peaks_under (T.shape.peaks n) (T.shape.peaks n) 0 aligned (λ a k i. i)

    -- of a tree with some nodes given
    pub cut_chunked : (b : Bagging) (i : ℕ) → ChunkedBag (bag (map (part T cut) (folded b i (peaks_of T n)))
        (map (part T cut) (unfolded b i (peaks_of T n))))
    cut_chunked b i =
        let parts = all_folded (λ p. IsUnder (T.shape.peaks n) p.first p.height) b i (peaks_of T n) under in
        chunked_bag _ _ (chunked_parts _ parts.0) (chunked_parts _ parts.1)

  -- of the check of a range
  pub check_chunked : (T : Layout) (n low high : ℕ) → AreAligned (T.shape.peaks n) 0
      → AreChunks N T n (apart low high) v.chunk → (b : Bagging) (i : ℕ) → ChunkedBag (check_bag T low high b n i)
  check_chunked T n low high aligned chunks b i =
      let Q : Peak → Type 0 = λ p. IsUnder (T.shape.peaks n) p.first p.height in
      let xs = folded b i (peaks_of T n) in
      let ys = unfolded b i (peaks_of T n) in
      let parts = all_folded Q b i (peaks_of T n) (under T n (apart low high) aligned chunks) in
      chunked_bag (one_for (given front) (leading low xs) ++ map (part T (apart low high)) (not_leading low xs))
      (map (part T (apart low high)) (up_to high ys) ++ one_for (given back) (trailing high ys))
      (chunked_append _ _ (chunked_one front (leading low xs)) (chunked_parts T n (apart low high) aligned chunks
      (not_leading low xs) (all_not_leading low Q xs parts.0)))
      (chunked_append _ _ (chunked_parts T n (apart low high) aligned chunks (up_to high ys)
      (all_up_to high Q ys parts.1)) (chunked_one back (trailing high ys)))
