-- The neighbours of a key at the last commit, as they are found between bounds.
use Rattle.std.proofs.Common.{◌≡◌, ℕ, List, [], ◌∷◌, ◌++◌, Option, Some, None, unwrap_or, option_map, slice_get, Ordering, Equal, refl, sym, ap, ◌∙◌}
use Rattle.std.specs.Map.Iter.{TakesFirst, TakesLast}
use Rattle.storage_db.specs.Notes.{AreAlike, IsAlike}
use Rattle.storage_db.specs.Rings.{last_of}
use Rattle.storage_db.proofs.Cases.{some_not_none}
use Rattle.storage_db.proofs.Copies.{zip_append}
use Rattle.storage_db.proofs.Lasts.{last_push}

module _ {A X : Type 0} (shows : A → X) where
  -- what an iterator takes is the first, or the last, of what it has
  pub first_of_taken : (s t : List X) (r : Option A) → TakesFirst shows s r t → option_map shows r ≡ slice_get s 0
  first_of_taken s t None takes = sym (ap (λ (l : List X). slice_get l 0) takes.0)
  first_of_taken s t (Some x) takes = sym (ap (λ (l : List X). slice_get l 0) takes)

  pub last_of_taken : (s t : List X) (r : Option A) → TakesLast shows s r t → option_map shows r ≡ last_of s
  last_of_taken s t None takes = sym (ap last_of takes.0)
  last_of_taken s t (Some x) takes = sym (ap last_of takes ∙ last_push t (shows x))

pub first_left : {X : Type 0} (xs ys : List X) (x : X) → Some x ≡ slice_get xs 0 → Some x ≡ slice_get (xs ++ ys) 0
first_left [] ys x is = absurd (some_not_none x is)
first_left (y ∷ xs) ys x is = is

pub first_right : {X : Type 0} (xs ys : List X) → None ≡ slice_get xs 0 → slice_get (xs ++ ys) 0 ≡ slice_get ys 0
first_right [] ys is = refl
first_right (x ∷ xs) ys is = absurd (some_not_none x (sym is))

module _ {K X : Type 0} (cmp : K → K → Ordering) where
  pub alike_append : (xs us ys vs : List (K × X)) → AreAlike cmp xs us → AreAlike cmp ys vs → AreAlike cmp (xs ++ ys) (us ++ vs)
  alike_append xs us ys vs h k = zip_append (IsAlike cmp) xs ys us vs h k

  -- the first keys are written alike
  pub next_written : (text : K → List ℕ) → ((a b : K) → cmp a b ≡ Equal → text a ≡ text b) → (key : K) (xs others : List (K × X))
      → AreAlike cmp xs others
      → text (unwrap_or (option_map (λ (c : K × X). c.0) (slice_get others 0)) key)
      ≡ text (unwrap_or (option_map (λ (c : K × X). c.0) (slice_get xs 0)) key)
  next_written text exact key [] [] alike = refl
  next_written text exact key [] (y ∷ ys) alike = absurd alike
  next_written text exact key (x ∷ xs) [] alike = absurd alike
  next_written text exact key (x ∷ xs) (y ∷ ys) alike = sym (exact x.0 y.0 alike.0.key)
