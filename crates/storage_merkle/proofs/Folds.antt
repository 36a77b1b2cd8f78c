-- Folds of digests.
use Rattle.std.proofs.Common.{◌≡◌, ℕ, List, [], ◌∷◌, ◌++◌, map, take, drop, Option, Some, None, refl, ap, sym, ◌∙◌}
use Rattle.storage_codec.specs.Digests.{HashFunction, or_nothing}
use Rattle.storage_merkle.specs.Hashing.{folded_forward, folded_backward, bagged, bagged_peaks}
use Rattle.std.proofs.lemmas.List.{take-map, drop-map}
use Rattle.storage_merkle.specs.declared.merkle.bagging.Bagging.{Bagging}
use Rattle.storage_merkle.specs.declared.merkle.bagging.Bagging.TheVariants.{ForwardFold, BackwardFold}
use Rattle.storage_merkle.specs.Hashers.{prepended, folded_onto, forward_of}

-- the last of some items is folded first
pub onto_last : (h : HashFunction) (xs : List (List ℕ)) (x : List ℕ) (onto : Option (List ℕ))
    → folded_onto h (xs ++ x ∷ []) onto ≡ folded_onto h xs (Some (prepended h x onto))
onto_last h [] x onto = refl
onto_last h (y ∷ xs) x onto = ap (λ r. Some (prepended h y r)) (onto_last h xs x onto)

pub onto_none : (h : HashFunction) (x : List ℕ) (xs : List (List ℕ))
    → folded_onto h (x ∷ xs) None ≡ Some (folded_backward h x xs)
onto_none h x [] = refl
onto_none h x (y ∷ xs) = ap (λ r. Some (prepended h x r)) (onto_none h y xs)

pub prepended_none : (h : HashFunction) (x : List ℕ) (xs : List (List ℕ))
    → prepended h x (folded_onto h xs None) ≡ folded_backward h x xs
prepended_none h x [] = refl
prepended_none h x (y ∷ xs) = ap (prepended h x) (onto_none h y xs)

pub bagged_rest : (h : HashFunction) (ys : List (List ℕ)) → or_nothing (folded_onto h ys None) ≡ bagged h [] ys
bagged_rest h [] = refl
bagged_rest h (y ∷ ys) = ap or_nothing (onto_none h y ys)

-- where the items in front fold to nothing, and where they fold to an item
pub bagged_none : (h : HashFunction) (xs ys : List (List ℕ)) (r : Option (List ℕ)) → None ≡ forward_of h xs
    → r ≡ folded_onto h ys None → or_nothing r ≡ bagged h xs ys
bagged_none h [] ys r e f = ap or_nothing f ∙ bagged_rest h ys
bagged_none h (x ∷ xs) ys r e f = absurd cc

pub bagged_some : (h : HashFunction) (xs ys : List (List ℕ)) (a : List ℕ) (r : Option (List ℕ))
    → Some a ≡ forward_of h xs → r ≡ folded_onto h ys None → prepended h a r ≡ bagged h xs ys
bagged_some h [] ys a r e f = absurd cc
bagged_some h (x ∷ xs) ys a r e f =
    let same : a ≡ folded_forward h x xs = cc in
    ap (prepended h a) f ∙ prepended_none h a ys ∙ ap (λ b. folded_backward h b ys) same

pub peaks_forward : (h : HashFunction) (b : Bagging) (i : ℕ) (ds : List (List ℕ)) → b ≡ ForwardFold
    → bagged_peaks h b i ds ≡ bagged h ds []
peaks_forward h b i ds e = ap (λ c. bagged_peaks h c i ds) e

pub peaks_backward : {D : Type 0} (h : HashFunction) (b : Bagging) (i : ℕ) (text : D → List ℕ) (ds front rest : List D)
    → b ≡ BackwardFold → front ≡ take i ds → rest ≡ drop i ds
    → bagged h (map text front) (map text rest) ≡ bagged_peaks h b i (map text ds)
peaks_backward h b i text ds front rest e f r =
    ap (λ xs. bagged h (map text xs) (map text rest)) f ∙ ap (λ xs. bagged h (map text (take i ds)) (map text xs)) r
    ∙ ap (λ xs. bagged h xs (map text (drop i ds))) (sym (take-map text i ds))
    ∙ ap (λ xs. bagged h (take i (map text ds)) xs) (sym (drop-map text i ds))
    ∙ sym (ap (λ c. bagged_peaks h c i (map text ds)) e)
