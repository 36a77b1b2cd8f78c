-- Peaks that are read as far as they can be had.
use Rattle.std.proofs.Common.{◌≡◌, ℕ, ◌+◌, ◌^◌, ◌++◌, List, [], ◌∷◌, length, map, Option, Some, None, option_map, IsSome, is_some, true, refl, sym, ap, ◌∙◌, arith, length-append, append_assoc, append-nil, inl, inr}
use Rattle.std.proofs.lemmas.List.{map-append}
use Rattle.storage_merkle.specs.Shape.{Shape}
use Rattle.storage_merkle.specs.Nodes.{placed}
use Rattle.storage_current.specs.GraftedTrees.{IsPeak}
use Rattle.storage_current.specs.NodeLists.{ArePeaksHad}
use Rattle.storage_current.proofs.NodeLists.{AreRead, AreSome, none_read, told_at}
use Rattle.storage_current.proofs.Places.{length-placed}
use Rattle.storage_current.proofs.Rebuilt.{map_some}

-- the peaks that are read so far, and those that are left: each of them has a digest, if all peaks have
pub record AreTaken {D : Type 0} (text : D → List ℕ) (S : Shape) (n : ℕ) (answers : ℕ → Option D) (read : List D)
    (left : List (ℕ × ℕ)) : Type 0 where
  pub some : ArePeaksHad S n answers → AreSome answers left
  pub count : length read + length left ≡ length (S.peaks n)
  pub texts : map (λ x. Some x) (map text read) ++ told_at (λ p. option_map text (answers p)) left
      ≡ told_at (λ p. option_map text (answers p)) (placed S 0 (S.peaks n))

module _ {D : Type 0} (text : D → List ℕ) (S : Shape) (n : ℕ) (answers : ℕ → Option D) where
  pub none_taken : (read : List D) (left : List (ℕ × ℕ)) → read ≡ [] → left ≡ placed S 0 (S.peaks n)
      → AreTaken text S n answers read left
  none_taken read left none all = record {
    some = λ had. (none_read text S n answers read left had none all).some;
    count = omega (arith, ap length none, ap length all, length-placed S 0 (S.peaks n));
    texts = rw (none, all) refl;
  }

  pub take_more : (read : List D) (p : ℕ × ℕ) (left all : List (ℕ × ℕ)) (o : Option D) (d : D)
      → AreTaken text S n answers read all → all ≡ p ∷ left → o ≡ answers p.0 → o ≡ Some d
      → AreTaken text S n answers (read ++ d ∷ []) left
  take_more read p left all o d so_far step is found =
      let told : ℕ → Option (List ℕ) = λ q. option_map text (answers q) in
      let k = rw step at so_far.count in
      let t = rw step at so_far.texts in
      let b = rw step at so_far.some in
      let same : told p.0 ≡ Some (text d) = ap (option_map text) (sym is ∙ found) in
      record {
        some = λ had. (b had).1;
        count = rw length-append (omega (arith, k));
        texts = ap (λ xs. xs ++ told_at told left) (ap (map (λ x. Some x)) (map-append text read (d ∷ []))
            ∙ map-append (λ x. Some x) (map text read) (text d ∷ []))
            ∙ append_assoc (map (λ x. Some x) (map text read)) (Some (text d) ∷ []) (told_at told left)
            ∙ ap (λ x. map (λ y. Some y) (map text read) ++ x ∷ told_at told left) (sym same) ∙ t;
      }

  -- where the next one cannot be had, not all can
  pub not_all : (read : List D) (p : ℕ × ℕ) (left all : List (ℕ × ℕ)) (o : Option D) → AreTaken text S n answers read all
      → all ≡ p ∷ left → o ≡ answers p.0 → o ≡ None → ArePeaksHad S n answers → ⊥
  not_all read p left all o so_far step is none had =
      let b = rw step at so_far.some in
      let some : is_some (answers p.0) ≡ true = (b had).0 in
      let gone : answers p.0 ≡ None = sym is ∙ none in
      absurd (let clash = sym some ∙ ap is_some gone in cc)

  some_at : (hs : List ℕ) (s : ℕ) (xs : List (List ℕ))
      → map (λ x. Some x) xs ≡ told_at (λ p. option_map text (answers p)) (placed S s hs)
      → (a k : ℕ) → IsPeak hs s a k → IsSome (answers (S.position a k))
  some_at [] s xs e a k i = absurd i
  some_at (h ∷ hs) s [] e a k i = absurd (cc)
  some_at (h ∷ hs) s (x ∷ xs) e a k (inl i) =
      let head : Some x ≡ option_map text (answers (S.position s h)) = cc in
      let here : is_some (answers (S.position s h)) ≡ true =
      sym (map_some text (answers (S.position s h))) ∙ ap is_some (sym head) in
      rw (← i.0, ← i.1) here
  some_at (h ∷ hs) s (x ∷ xs) e a k (inr i) =
      let tail : map (λ y. Some y) xs ≡ told_at (λ p. option_map text (answers p)) (placed S (s + 2 ^ h) hs) = cc in
      some_at hs (s + 2 ^ h) xs tail a k i

  -- once none is left, all are had
  pub all_had : (read : List D) (left : List (ℕ × ℕ)) → AreTaken text S n answers read left → left ≡ []
      → ArePeaksHad S n answers
  all_had read left taken none =
      let t = rw none at taken.texts in
      some_at (S.peaks n) 0 (map text read) (sym (append-nil (map (λ x. Some x) (map text read))) ∙ t)

  pub as_read : (read : List D) (left : List (ℕ × ℕ)) → AreTaken text S n answers read left → ArePeaksHad S n answers
      → AreRead text S n answers read left
  as_read read left taken had = record { some = taken.some had; count = taken.count; texts = taken.texts }
