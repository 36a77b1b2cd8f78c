-- Trees with one root are alike, or two strings cross.
use Rattle.std.proofs.Common.{◌≡◌, ℕ, List, ◌∷◌, ◌++◌, length, inl, inr, refl, sym, ◌∙◌, append_assoc}
use Rattle.storage_merkle.specs.declared.merkle.bagging.Bagging.{Bagging}
use Rattle.storage_merkle.specs.declared.merkle.bagging.Bagging.TheVariants.{ForwardFold, BackwardFold}
use Rattle.storage_merkle.specs.Calc.{be8}
use Rattle.storage_merkle.specs.Laws.Calc.{split_append, be8_length, be8_same, heads}
use Rattle.storage_merkle.specs.Trees.{bagging_byte, eval_bag, strings_bag, plain, tree_bag, tree_string}
use Rattle.storage_merkle.specs.Soundness.{RootsBindTheirTrees}

bagging_is : (b c : Bagging) → bagging_byte b ≡ bagging_byte c → b ≡ c
bagging_is ForwardFold ForwardFold e = refl
bagging_is ForwardFold BackwardFold e = cc
bagging_is BackwardFold ForwardFold e = cc
bagging_is BackwardFold BackwardFold e = refl

first_is : (a b : ℕ) (xs ys : List ℕ) → a ∷ xs ≡ b ∷ ys → a ≡ b
first_is a b xs ys e = cc

rest_is : (a b : ℕ) (xs ys : List ℕ) → a ∷ xs ≡ b ∷ ys → xs ≡ ys
rest_is a b xs ys e = cc

pub alike : RootsBindTheirTrees
alike h T U b c x y i j hx hy hi hj e =
    let n = length x.elements in
    let m = length y.elements in
    let t = tree_bag T b n i in
    let u = tree_bag U c m j in
    let p = eval_bag h (plain h x) t in
    let q = eval_bag h (plain h y) u in
    elim (heads h (tree_string h T b x i) (tree_string h U c y j) (strings_bag h (plain h x) t)
    (strings_bag h (plain h y) u) e) [
      | inr k ↦ inr k
      | inl same ↦
          let after = rest_is (T.shape.byte) (U.shape.byte) _ _ same in
          let tails : be8 n ++ (be8 i ++ p) ≡ be8 m ++ (be8 j ++ q) = sym (append_assoc (be8 n) (be8 i) p)
          ∙ rest_is (bagging_byte b) (bagging_byte c) _ _ after ∙ append_assoc (be8 m) (be8 j) q in
          let one = split_append (be8 n) (be8 i ++ p) (be8 m) (be8 j ++ q) (be8_length n ∙ sym (be8_length m)) tails in
          let two = split_append (be8 i) p (be8 j) q (be8_length i ∙ sym (be8_length j)) one.1 in
          inl (record {
            family = first_is (T.shape.byte) (U.shape.byte) _ _ same;
            bagging = bagging_is b c (first_is (bagging_byte b) (bagging_byte c) _ _ after);
            leaves = be8_same n m hx hy one.0;
            inactive = be8_same i j hi hj two.0;
          })
    ]
