-- The rows of a list: a new one goes to the end.
use Rattle.std.proofs.Common.{◌≡◌, ℕ, ◌+◌, ◌<◌, ◌≤◌, pos, List, [], ◌∷◌, ◌++◌, length, map, take, get_or, Less, ap, sym, ◌∙◌, arith}
use Rattle.std.proofs.lemmas.List.{append_assoc, map_more, length-append, length-map, length-take-le}
use Rattle.std.proofs.lemmas.Bool.Decides.{nat_tests}
use Rattle.std.specs.Ordering.{int_cmp, match_ordering}
use Rattle.sqlite.specs.declared.types.Value.TheVariants.{Int}
use Rattle.sqlite.specs.Order.{Row, value_cmp}
use Rattle.sqlite_value.proofs.OrderLemmas.{value_cmp-Int}
use Rattle.sqlite_trees.specs.Tree.{put_row}
use Rattle.storage_file.specs.Tables.{stored, numbered}

pub int_less : (m n : ℕ) → m < n → int_cmp (pos m) (pos n) ≡ Less
int_less m n h = grind (arith, nat_tests)

module _ {X : Type 0} (cells : X → Row) where
  put_from : (number : ℕ) (all : List X) (x : X) → put_row (stored cells (number + length all) x) (numbered cells number all) ≡ numbered cells number (all ++ x ∷ [])
  put_from number [] x = ap (λ n. stored cells n x ∷ []) (omega arith)
  put_from number (y ∷ ys) x =
      let below : number < number + length (y ∷ ys) = omega arith in
      let less : value_cmp (Int (pos number)) (Int (pos (number + length (y ∷ ys)))) ≡ Less = value_cmp-Int _ _ ∙ int_less _ _ below in
      let same : number + length (y ∷ ys) ≡ (number + 1) + length ys = omega arith in
      let new = stored cells (number + length (y ∷ ys)) x in
      let rest = numbered cells (number + 1) ys in
      ap (λ o. match_ordering o (stored cells number y ∷ put_row new rest) (new ∷ rest) (new ∷ stored cells number y ∷ rest)) less
      ∙ ap (λ n. stored cells number y ∷ put_row (stored cells n x) rest) same ∙ ap (λ rows. stored cells number y ∷ rows) (put_from (number + 1) ys x)

  pub put_is : (all : List X) (x : X) → put_row (stored cells (length all) x) (numbered cells 0 all) ≡ numbered cells 0 (all ++ x ∷ [])
  put_is all x =
      let same : length all ≡ 0 + length all = omega arith in
      ap (λ n. put_row (stored cells n x) (numbered cells 0 all)) same ∙ put_from 0 all x

-- ---- the first items of a list

pub one_more : {X Y : Type 0} (f : X → Y) (before : List Y) (all : List X) (i : ℕ) (x : X) → i < length all → x ≡ get_or all i x → (before ++ map f (take i all)) ++ f x ∷ [] ≡ before ++ map f (take (i + 1) all)
one_more f before all i x low is =
    append_assoc before (map f (take i all)) (f x ∷ []) ∙ ap (λ y. before ++ (map f (take i all) ++ f y ∷ [])) is ∙ ap (λ ys. before ++ ys) (sym (map_more f all i x low))

pub length_so_far : {X Y : Type 0} (f : X → Y) (before : List Y) (all : List X) (i : ℕ) → i ≤ length all → length (before ++ map f (take i all)) ≡ length before + i
length_so_far f before all i low = length-append before (map f (take i all)) ∙ ap (λ n. length before + n) (length-map (take i all) f ∙ length-take-le i all low)
