-- What a check folds its peaks into is what the calculation of the check bags.
use Rattle.std.proofs.Common.{◌≡◌, ℕ, zero, suc, List, [], ◌∷◌, ◌++◌, map, take, drop, true, false, if◌then◌else◌, refl, sym, ap, ap₂, ◌∙◌, arith, subst, leb, Option, Some, None}
use Rattle.std.proofs.lemmas.List.{map-append}
use Rattle.storage_codec.specs.Digests.{HashFunction, or_nothing}
use Rattle.storage_merkle.specs.Calc.{front, back, Values, eval, given}
use Rattle.storage_merkle.specs.Trees.{Layout, Peak, peaks_of, part, folded, unfolded, eval_bag}
use Rattle.storage_merkle.specs.declared.merkle.bagging.Bagging.{Bagging}
use Rattle.storage_merkle.specs.RangeProofs.{apart, leading, not_leading, up_to, trailing, one_for, check_bag}
use Rattle.storage_merkle.specs.Hashing.{folded_forward, bagged}
use Rattle.storage_merkle.specs.Laws.Hashing.{eval-bag}
use Rattle.storage_merkle.specs.Hashers.{forward_of, appended, prepended, folded_onto}
use Rattle.storage_merkle.specs.Rests.{peaks_from, IsPast, AreFolded, AreAfterLeading}
use Rattle.storage_merkle.specs.CheckParts.{right_of, both_folds, bag_onto, folded_before}
use Rattle.storage_merkle.proofs.Folds.{bagged_rest, prepended_none}

module _ (h : HashFunction) where
  -- items folded from the left onto what is folded before them
  abbrev pub forward_onto : Option (List ℕ) → List (List ℕ) → Option (List ℕ)
  forward_onto before [] = before
  forward_onto before (x ∷ xs) = forward_onto (Some (appended h before x)) xs

  forward_some : (x : List ℕ) (xs : List (List ℕ)) → forward_onto (Some x) xs ≡ Some (folded_forward h x xs)
  forward_some x [] = refl
  forward_some x (y ∷ xs) = forward_some (h (x ++ y)) xs

  forward_none : (xs : List (List ℕ)) → forward_onto None xs ≡ forward_of h xs
  forward_none [] = refl
  forward_none (x ∷ xs) = forward_some x xs

  bagged_both : (xs ys : List (List ℕ)) → or_nothing (both_folds h (forward_of h xs) (folded_onto h ys None)) ≡ bagged h xs ys
  bagged_both [] ys = bagged_rest h ys
  bagged_both (x ∷ xs) ys = prepended_none h (folded_forward h x xs) ys

  module _ (item : Peak → List ℕ) (fold : List ℕ) (high : ℕ) where
    bag_onto-both : (before : Option (List ℕ)) (ps : List Peak) (f : ℕ) → bag_onto h item fold high before ps f
        ≡ both_folds h (forward_onto before (map item (take f ps))) (right_of h item fold high (drop f ps))
    bag_onto-both before [] zero = refl
    bag_onto-both before [] (suc f) = refl
    bag_onto-both before (p ∷ ps) zero = refl
    bag_onto-both before (p ∷ ps) (suc f) = bag_onto-both (Some (appended h before (item p))) ps f

    -- one fold for some peaks
    abbrev pub fold_for : List Peak → List (List ℕ)
    fold_for [] = []
    fold_for (p ∷ ps) = fold ∷ []

    pub right_of-folded : (ps : List Peak)
        → right_of h item fold high ps ≡ folded_onto h (map item (up_to high ps) ++ fold_for (trailing high ps)) None
    right_of-folded [] = refl
    right_of-folded (p ∷ ps) =
        elim (leb high p.first) as (λ b.
        (if b then Some fold else Some (prepended h (item p) (right_of h item fold high ps))) ≡ folded_onto h (map item
        (if b then [] else p ∷ up_to high ps) ++ fold_for (if b then p ∷ ps else trailing high ps)) None) [
          | true ↦ refl
          | false ↦ ap (λ o. Some (prepended h (item p) o)) (right_of-folded ps)
        ]

-- what stands in front
front_values : (h : HashFunction) (v : Values) (ps : List Peak) (a : ℕ) (items : List (List ℕ)) → IsPast 0 a ps
    → forward_onto h (folded_before (v.digest front) a) items ≡ forward_of h (map (eval h v) (one_for (given front) ps) ++ items)
front_values h v [] a items e =
    ap (λ b. forward_onto h (folded_before (v.digest front) b) items) e ∙ forward_none h items
front_values h v (p ∷ ps) zero items l = absurd (omega arith)
front_values h v (p ∷ ps) (suc a) items l = forward_some h (v.digest front) items

back_values : (h : HashFunction) (v : Values) (item : Peak → List ℕ) (high : ℕ) (ps : List Peak)
    → fold_for h item (v.digest back) high ps ≡ map (eval h v) (one_for (given back) ps)
back_values h v item high [] = refl
back_values h v item high (p ∷ ps) = refl

parts_values : (h : HashFunction) (v : Values) (T : Layout) (low high : ℕ) (ps : List Peak)
    → map (λ p. eval h v (part T (apart low high) p)) ps ≡ map (eval h v) (map (part T (apart low high)) ps)
parts_values h v T low high [] = refl
parts_values h v T low high (p ∷ ps) =
    ap (λ xs. eval h v (part T (apart low high) p) ∷ xs) (parts_values h v T low high ps)

module _ (h : HashFunction) (T : Layout) (v : Values) (low high : ℕ) (b : Bagging) (n i f a r g : ℕ)
    (parts : AreFolded T.shape b i n f) (after : AreAfterLeading T.shape low 0 n f a r g) where
  pub bag_is : or_nothing (bag_onto h (λ p. eval h v (part T (apart low high) p)) (v.digest back) high
      (folded_before (v.digest front) a) (peaks_from T.shape a r) g) ≡ eval_bag h v (check_bag T low high b n i)
  bag_is =
      let item : Peak → List ℕ = λ p. eval h v (part T (apart low high) p) in
      let xs = folded b i (peaks_of T n) in
      let ys = unfolded b i (peaks_of T n) in
      let Q = peaks_from T.shape a r in
      let E = eval h v in
      let before = folded_before (v.digest front) a in
      let X = one_for (given front) (leading low xs) ++ map (part T (apart low high)) (not_leading low xs) in
      let Y = map (part T (apart low high)) (up_to high ys) ++ one_for (given back) (trailing high ys) in
      let lefts : take g Q ≡ not_leading low xs = after.folded_are ∙ ap (not_leading low) parts.folded_are in
      let rights : drop g Q ≡ ys = after.unfolded_are ∙ parts.unfolded_are in
      let past : IsPast 0 a (leading low xs) = subst (λ ps. IsPast 0 a (leading low ps)) parts.folded_are after.past in
      let one : forward_onto h before (map item (take g Q)) ≡ forward_of h (map E X) =
      ap (λ ps. forward_onto h before (map item ps)) lefts
      ∙ front_values h v (leading low xs) a (map item (not_leading low xs)) past
      ∙ ap (λ ds. forward_of h (map E (one_for (given front) (leading low xs)) ++ ds))
      (parts_values h v T low high (not_leading low xs))
      ∙ ap (forward_of h)
      (sym (map-append E (one_for (given front) (leading low xs)) (map (part T (apart low high)) (not_leading low xs)))) in
      let two : right_of h item (v.digest back) high (drop g Q) ≡ folded_onto h (map E Y) None =
      ap (right_of h item (v.digest back) high) rights
      ∙ right_of-folded h item (v.digest back) high ys
      ∙ ap (λ ds. folded_onto h ds None) (
      ap₂ (λ ds es. ds ++ es) (parts_values h v T low high (up_to high ys))
      (back_values h v item high (trailing high ys))
      ∙ sym (map-append E (map (part T (apart low high)) (up_to high ys)) (one_for (given back) (trailing high ys)))
      ) in
      ap or_nothing (bag_onto-both h item (v.digest back) high before Q g ∙ ap₂ (both_folds h) one two)
      ∙ bagged_both h (map E X) (map E Y)
      ∙ sym (eval-bag h v X Y)
