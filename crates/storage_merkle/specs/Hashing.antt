-- Nodes and roots from digests that are given.
use Rattle.std.specs.Prelude.{ℕ, zero, suc, ◌+◌, ◌^◌, ◌++◌, List, [], ◌∷◌, map, take, drop, get_or, if◌then◌else◌}
use Rattle.storage_codec.specs.Digests.{HashFunction}
use Rattle.storage_merkle.specs.Calc.{be8, grafted_digest}
use Rattle.storage_merkle.specs.Trees.{Layout, peaks_of, root_head}
use Rattle.storage_merkle.specs.declared.merkle.bagging.Bagging.{Bagging}
use Rattle.storage_merkle.specs.declared.merkle.bagging.Bagging.TheVariants.{ForwardFold, BackwardFold}

-- the digest of a node, by its first leaf and its height, from those of its children
abbrev pub join_digest : HashFunction → Layout → (ℕ → List ℕ) → ℕ → ℕ → List ℕ → List ℕ → List ℕ
join_digest h T chunk a k l r =
    if T.grafted a k then grafted_digest h (chunk a) (h (be8 (T.position a k) ++ (l ++ r)))
    else h (be8 (T.position a k) ++ (l ++ r))

-- the digests of leaves, the first of which is leaf a
abbrev pub leaf_digests : HashFunction → Layout → ℕ → List (List ℕ) → List (List ℕ)
leaf_digests h T a [] = []
leaf_digests h T a (x ∷ xs) = h (be8 (T.shape.position a 0) ++ x) ∷ leaf_digests h T (a + 1) xs

-- the digest of the node of height k over the leaves from a on, from those of the leaves
abbrev pub node_over : HashFunction → Layout → (ℕ → List ℕ) → List (List ℕ) → ℕ → ℕ → List ℕ
node_over h T chunk leaves zero a = get_or leaves a []
node_over h T chunk leaves (suc k) a = join_digest h T chunk a (suc k) (node_over h T chunk leaves k a)
    (node_over h T chunk leaves k (a + 2 ^ k))

-- the digests of the peaks over n leaves, from those of the leaves
abbrev pub peak_digests : HashFunction → Layout → (ℕ → List ℕ) → List (List ℕ) → ℕ → List (List ℕ)
peak_digests h T chunk leaves n = map (λ p. node_over h T chunk leaves p.height p.first) (peaks_of T n)

-- digests folded from the left
abbrev pub folded_forward : HashFunction → List ℕ → List (List ℕ) → List ℕ
folded_forward h x [] = x
folded_forward h x (y ∷ ys) = folded_forward h (h (x ++ y)) ys

-- digests folded from the right
abbrev pub folded_backward : HashFunction → List ℕ → List (List ℕ) → List ℕ
folded_backward h x [] = x
folded_backward h x (y ∷ ys) = h (x ++ folded_backward h y ys)

-- the first list folded from the left into one item, and then that item and the second list from the right; nothing for no digests
abbrev pub bagged : HashFunction → List (List ℕ) → List (List ℕ) → List ℕ
bagged h [] [] = []
bagged h [] (y ∷ ys) = folded_backward h y ys
bagged h (x ∷ xs) ys = folded_backward h (folded_forward h x xs) ys

-- the digests of peaks, of which i are inactive, bagged
abbrev pub bagged_peaks : HashFunction → Bagging → ℕ → List (List ℕ) → List ℕ
bagged_peaks h ForwardFold i ds = bagged h ds []
bagged_peaks h BackwardFold i ds = bagged h (take i ds) (drop i ds)

-- the root over n leaves, of which the first i peaks are inactive, from the digests of the peaks
abbrev pub root_of : HashFunction → Layout → Bagging → ℕ → ℕ → List (List ℕ) → List ℕ
root_of h T b n i ds = h (root_head T b n i ++ bagged_peaks h b i ds)
