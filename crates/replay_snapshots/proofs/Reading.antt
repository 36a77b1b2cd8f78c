-- Digests that are read one after another.
use Rattle.std.proofs.Common.{◌≡◌, ℕ, List, [], ◌∷◌, ◌++◌, map, Option, Some, inr, refl, ap, ◌∙◌}
use Rattle.storage_merkle.specs.Plans.{IsFirstAbsent}

seam : {D : Type 0} (xs : List D) (d : D) (ys : List (Option D))
    → map Some (xs ++ d ∷ []) ++ ys ≡ map Some xs ++ Some d ∷ ys
seam [] d ys = refl
seam (x ∷ xs) d ys = ap (λ z. Some x ∷ z) (seam xs d ys)

module _ {D : Type 0} (node : ℕ → Option D) where
  pub read_more : (xs : List D) (d : D) (q : ℕ) (rest left positions : List ℕ) → left ≡ q ∷ rest → Some d ≡ node q
      → map Some xs ++ map node left ≡ map node positions
      → map Some (xs ++ d ∷ []) ++ map node rest ≡ map node positions
  read_more xs d q rest left positions e f h =
      seam xs d (map node rest) ∙ ap (λ z. map Some xs ++ z ∷ map node rest) f ∙ rw e at h

  pub absent_later : (d : D) (q : ℕ) (rest left positions : List ℕ) → left ≡ q ∷ rest → Some d ≡ node q
      → ((p : ℕ) → IsFirstAbsent (λ q a. a ≡ node q) left p → IsFirstAbsent (λ q a. a ≡ node q) positions p) → (p : ℕ)
      → IsFirstAbsent (λ q a. a ≡ node q) rest p → IsFirstAbsent (λ q a. a ≡ node q) positions p
  absent_later d q rest left positions e f h p later = h p (rw e (inr (d, f, later)))
