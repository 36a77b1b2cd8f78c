-- Digests of nodes, one step each.
use Rattle.std.proofs.Common.{◌≡◌, ℕ, zero, suc, ◌+◌, ◌^◌, List, [], ◌∷◌, ◌++◌, length, map, Bool, false, if◌then◌else◌, refl, ap, ap₂, sym, ◌∙◌, arith}
use Rattle.storage_codec.specs.Digests.{HashFunction}
use Rattle.storage_merkle.specs.Calc.{given, node, be8, Values, eval, grafted_digest}
use Rattle.storage_merkle.specs.Hashing.{bagged_peaks}
use Rattle.storage_merkle.specs.Laws.Hashing.{eval-join, tree_root-peaks}
use Rattle.storage_merkle.specs.Shape.{leaves_under}
use Rattle.storage_merkle.specs.Trees.{Layout, Content, Peak, join_calc, node_calc, places, peaks_of, root_head, tree_node, tree_root}
use Rattle.storage_merkle.specs.declared.merkle.bagging.Bagging.{Bagging}

module _ (h : HashFunction) (T : Layout) (cut : ℕ → ℕ → Bool) (v : Values) where
  -- a node from its halves
  pub node_halves : (j k a m p : ℕ) (l r i d : List ℕ) → k ≡ suc j → cut a k ≡ false → m ≡ a + 2 ^ j
      → p ≡ T.position a k → l ≡ eval h v (node_calc T cut j a) → r ≡ eval h v (node_calc T cut j m)
      → i ≡ h (be8 p ++ (l ++ r)) → d ≡ (if T.grafted a k then grafted_digest h (v.chunk a) i else i)
      → d ≡ eval h v (node_calc T cut k a)
  node_halves j zero a m p l r i d s c n e x y z w = absurd (omega arith)
  node_halves j (suc k) a m p l r i d s c n e x y z w =
      let same : j ≡ k = omega arith in
      let left : l ≡ eval h v (node_calc T cut k a) = x ∙ ap (λ (q : ℕ). eval h v (node_calc T cut q a)) same in
      let right : r ≡ eval h v (node_calc T cut k (a + 2 ^ k)) =
      y ∙ ap₂ (λ (q o : ℕ). eval h v (node_calc T cut q o)) same (n ∙ ap (λ (q : ℕ). a + 2 ^ q) same) in
      let inner : i ≡ h (be8 (T.position a (suc k))
      ++ (eval h v (node_calc T cut k a) ++ eval h v (node_calc T cut k (a + 2 ^ k)))) =
      z ∙ ap₂ (λ (q : ℕ) (o : List ℕ). h (be8 q ++ o)) e (ap₂ (λ (o u : List ℕ). o ++ u) left right) in
      w ∙ ap (λ (o : List ℕ). if T.grafted a (suc k) then grafted_digest h (v.chunk a) o else o) inner
      ∙ sym (eval-join h v T a (suc k) (node_calc T cut k a) (node_calc T cut k (a + 2 ^ k)))
      ∙ ap (λ (b : Bool). eval h v (if b then given (node a (suc k))
      else join_calc T a (suc k) (node_calc T cut k a) (node_calc T cut k (a + 2 ^ k)))) (sym c)

-- what side by side is
pub leaves_cons : (xs rest : List ℕ) (k : ℕ) → xs ≡ k ∷ rest → leaves_under xs ≡ 2 ^ k + leaves_under rest
unfolding leaves_under
leaves_cons xs rest k e = rw e refl

pub length-places : (a : ℕ) (ks : List ℕ) → length (places a ks) ≡ length ks
length-places a [] = refl
length-places a (k ∷ ks) = ap suc (length-places (a + 2 ^ k) ks)

-- the root from what a tree's peaks are bagged into
pub root_from : (h : HashFunction) (T : Layout) (b : Bagging) (content : Content) (i n : ℕ) (r bag : List ℕ)
    (ds : List (List ℕ)) (ps : List Peak) → n ≡ length content.elements → ps ≡ peaks_of T n
    → ds ≡ map (λ p. tree_node h T content p.first p.height) ps → bag ≡ bagged_peaks h b i ds
    → r ≡ h (root_head T b n i ++ bag) → r ≡ tree_root h T b content i
root_from h T b content i n r bag ds ps count peaks digests bagged root =
    let all : ds ≡ map (λ p. tree_node h T content p.first p.height) (peaks_of T (length content.elements)) =
    digests ∙ ap (map (λ p. tree_node h T content p.first p.height)) (peaks ∙ ap (peaks_of T) count) in
    root ∙ ap₂ (λ (m : ℕ) (x : List ℕ). h (root_head T b m i ++ x)) count (bagged ∙ ap (bagged_peaks h b i) all)
    ∙ sym (tree_root-peaks h T b content i)
