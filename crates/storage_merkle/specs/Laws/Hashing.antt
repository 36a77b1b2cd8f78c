-- Digests calculated from digests are what the calculations of trees evaluate to.
use Rattle.std.proofs.Common.{◌≡◌, ℕ, zero, suc, ◌+◌, ◌<◌, ◌≤◌, ◌^◌, List, [], ◌∷◌, ◌++◌, length, map, take, drop, get_or, true, false, if◌then◌else◌, refl, sym, ap, ap₂, ◌∙◌, arith}
use Rattle.std.proofs.lemmas.List.{take-map, drop-map}
use Rattle.storage_codec.specs.Digests.{HashFunction}
use Rattle.storage_merkle.specs.Shape.{Laws, leaves_under}
use Rattle.storage_merkle.specs.Laws.Multiples.{pow_two}
use Rattle.storage_merkle.specs.Calc.{Calc, pair, graft, be8, Values, eval, grafted_digest}
use Rattle.storage_merkle.specs.declared.merkle.bagging.Bagging.{Bagging}
use Rattle.storage_merkle.specs.declared.merkle.bagging.Bagging.TheVariants.{ForwardFold, BackwardFold}
use Rattle.storage_merkle.specs.Trees.{Layout, Content, Peak, places, peaks_of, join_calc, node_calc, never, whole_peak, fold_forward, fold_backward, bag, eval_bag, folded, unfolded, root_head, empty_root, plain, tree_node, tree_root}
use Rattle.storage_merkle.specs.Hashing.{join_digest, leaf_digests, node_over, peak_digests, folded_forward, folded_backward, bagged, bagged_peaks, root_of}

-- a node from its halves
pub eval-join : (h : HashFunction) (v : Values) (T : Layout) (a k : ℕ) (l r : Calc)
    → eval h v (join_calc T a k l r) ≡ join_digest h T v.chunk a k (eval h v l) (eval h v r)
eval-join h v T a k l r =
    elim (T.grafted a k) as (λ b.
    eval h v (if b then graft a (T.position a k) l r else pair (be8 (T.position a k)) l r)
    ≡ (if b then grafted_digest h (v.chunk a) (h (be8 (T.position a k) ++ (eval h v l ++ eval h v r)))
    else h (be8 (T.position a k) ++ (eval h v l ++ eval h v r)))) [
      | true ↦ refl
      | false ↦ refl
    ]

-- folds
pub eval-forward : (h : HashFunction) (v : Values) (t : Calc) (ts : List Calc)
    → eval h v (fold_forward t ts) ≡ folded_forward h (eval h v t) (map (eval h v) ts)
eval-forward h v t [] = refl
eval-forward h v t (u ∷ ts) = eval-forward h v (pair [] t u) ts

pub eval-backward : (h : HashFunction) (v : Values) (t : Calc) (ts : List Calc)
    → eval h v (fold_backward t ts) ≡ folded_backward h (eval h v t) (map (eval h v) ts)
eval-backward h v t [] = refl
eval-backward h v t (u ∷ ts) = ap (λ x. h (eval h v t ++ x)) (eval-backward h v u ts)

-- bagging
pub eval-bag : (h : HashFunction) (v : Values) (xs ys : List Calc)
    → eval_bag h v (bag xs ys) ≡ bagged h (map (eval h v) xs) (map (eval h v) ys)
eval-bag h v [] [] = refl
eval-bag h v [] (y ∷ ys) = eval-backward h v y ys
eval-bag h v (x ∷ xs) ys =
    eval-backward h v (fold_forward x xs) ys ∙ ap (λ z. folded_backward h z (map (eval h v) ys)) (eval-forward h v x xs)

map_twice : (g : Calc → List ℕ) (f : Peak → Calc) (ps : List Peak) → map g (map f ps) ≡ map (λ p. g (f p)) ps
map_twice g f [] = refl
map_twice g f (p ∷ ps) = ap (λ ds. g (f p) ∷ ds) (map_twice g f ps)

-- bagged peaks
pub eval-peaks : (h : HashFunction) (v : Values) (b : Bagging) (i : ℕ) (f : Peak → Calc) (ps : List Peak) → eval_bag h v
    (bag (map f (folded b i ps)) (map f (unfolded b i ps))) ≡ bagged_peaks h b i (map (λ p. eval h v (f p)) ps)
eval-peaks h v ForwardFold i f ps = eval-bag h v (map f ps) [] ∙ ap (λ ds. bagged h ds []) (map_twice (eval h v) f ps)
eval-peaks h v BackwardFold i f ps =
    let g : Peak → List ℕ = λ p. eval h v (f p) in
    eval-bag h v (map f (take i ps)) (map f (drop i ps))
    ∙ ap₂ (bagged h) (map_twice (eval h v) f (take i ps) ∙ sym (take-map g i ps)) (map_twice (eval h v) f (drop i ps)
    ∙ sym (drop-map g i ps))

-- the root of no peaks
pub root_of-none : (h : HashFunction) (T : Layout) (b : Bagging) → root_of h T b 0 0 [] ≡ empty_root h T b
root_of-none h T ForwardFold = refl
root_of-none h T BackwardFold = refl

-- digests of leaves
pub length-leaf_digests : (h : HashFunction) (T : Layout) (a : ℕ) (xs : List (List ℕ))
    → length (leaf_digests h T a xs) ≡ length xs
length-leaf_digests h T a [] = refl
length-leaf_digests h T a (x ∷ xs) = ap suc (length-leaf_digests h T (a + 1) xs)

pub get-leaf_digests : (h : HashFunction) (T : Layout) (a : ℕ) (xs : List (List ℕ)) (j : ℕ) → j < length xs
    → get_or (leaf_digests h T a xs) j [] ≡ h (be8 (T.shape.position (a + j) 0) ++ get_or xs j [])
get-leaf_digests h T a [] j l = absurd (omega arith)
get-leaf_digests h T a (x ∷ xs) zero l =
    ap (λ i. h (be8 (T.shape.position i 0) ++ x)) (let e : a ≡ a + 0 = omega arith in e)
get-leaf_digests h T a (x ∷ xs) (suc j) l = get-leaf_digests h T (a + 1) xs j (omega arith)
    ∙ ap (λ i. h (be8 (T.shape.position i 0) ++ get_or xs j [])) (let e : a + 1 + j ≡ a + suc j = omega arith in e)

pub leaf_digests-append : (h : HashFunction) (T : Layout) (a : ℕ) (xs ys : List (List ℕ))
    → leaf_digests h T a (xs ++ ys) ≡ leaf_digests h T a xs ++ leaf_digests h T (a + length xs) ys
leaf_digests-append h T a [] ys = ap (λ i. leaf_digests h T i ys) (let e : a ≡ a + 0 = omega arith in e)
leaf_digests-append h T a (x ∷ xs) ys = ap (λ ds. h (be8 (T.shape.position a 0) ++ x) ∷ ds)
    (leaf_digests-append h T (a + 1) xs ys ∙ ap (λ i. leaf_digests h T (a + 1) xs ++ leaf_digests h T i ys)
    (let e : a + 1 + length xs ≡ a + suc (length xs) = omega arith in e))

-- a node over digests of leaves is the tree's
pub node_over-tree : (h : HashFunction) (T : Layout) (content : Content) (k a : ℕ) → a + 2 ^ k ≤ length content.elements
    → node_over h T content.chunk (leaf_digests h T 0 content.elements) k a ≡ tree_node h T content a k
node_over-tree h T content zero a l = get-leaf_digests h T 0 content.elements a (omega arith)
    ∙ ap (λ i. h (be8 (T.shape.position i 0) ++ get_or content.elements a [])) (let e : 0 + a ≡ a = omega arith in e)
node_over-tree h T content (suc k) a l =
    let one = node_over-tree h T content k a (omega (arith, pow_two k)) in
    let two = node_over-tree h T content k (a + 2 ^ k) (omega (arith, pow_two k)) in
    ap₂ (join_digest h T content.chunk a (suc k)) one two
    ∙ sym (eval-join h (plain h content) T a (suc k) (node_calc T never k a) (node_calc T never k (a + 2 ^ k)))

peaks_over : (h : HashFunction) (T : Layout) (content : Content) (ks : List ℕ) (s : ℕ)
    → s + leaves_under ks ≤ length content.elements
    → map (λ p. node_over h T content.chunk (leaf_digests h T 0 content.elements) p.height p.first) (places s ks)
    ≡ map (λ p. tree_node h T content p.first p.height) (places s ks)
unfolding leaves_under
peaks_over h T content [] s l = refl
peaks_over h T content (k ∷ ks) s l = ap₂ (λ d ds. d ∷ ds) (node_over-tree h T content k s (omega arith))
    (peaks_over h T content ks (s + 2 ^ k) (omega arith))

-- the digests of the peaks
pub peak_digests-tree : (h : HashFunction) (T : Layout) → Laws T.shape → (content : Content)
    → peak_digests h T content.chunk (leaf_digests h T 0 content.elements) (length content.elements)
    ≡ map (λ p. tree_node h T content p.first p.height) (peaks_of T (length content.elements))
peak_digests-tree h T L content =
    peaks_over h T content (T.shape.peaks (length content.elements)) 0 (omega (arith, L.sum (length content.elements)))

-- the root from the digests of the peaks
pub tree_root-peaks : (h : HashFunction) (T : Layout) (b : Bagging) (content : Content) (i : ℕ)
    → tree_root h T b content i ≡ root_of h T b (length content.elements) i
    (map (λ p. tree_node h T content p.first p.height) (peaks_of T (length content.elements)))
tree_root-peaks h T b content i = ap (λ x. h (root_head T b (length content.elements) i ++ x))
    (eval-peaks h (plain h content) b i (whole_peak T) (peaks_of T (length content.elements)))

-- the root from the digests of the leaves
pub tree_root-leaves : (h : HashFunction) (T : Layout) → Laws T.shape → (b : Bagging) (content : Content) (i : ℕ)
    → tree_root h T b content i ≡ root_of h T b (length content.elements) i
    (peak_digests h T content.chunk (leaf_digests h T 0 content.elements) (length content.elements))
tree_root-leaves h T L b content i = tree_root-peaks h T b content i
    ∙ sym (ap (root_of h T b (length content.elements) i) (peak_digests-tree h T L content))
