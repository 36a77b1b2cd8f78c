-- Clones of byte vectors.
use Rattle.std.proofs.Common.{◌≡◌, ℕ, List, ap}
use Rattle.std.specs.List.{AllZip}
use Rattle.std.proofs.lemmas.List.Elements.{same_from_all_zip}
use Rattle.storage_codec.specs.Parts.{vector_text}

-- A clone holds the same bytes, and is written as they are.
pub vector_clones : (xs ys : List ℕ) → AllZip (λ x y. y ≡ x) xs ys → (ys ≡ xs) × (vector_text ys ≡ vector_text xs)
vector_clones xs ys all =
    let same = same_from_all_zip (λ x y. y ≡ x) xs ys all (λ x y e. e) in (same, ap vector_text same)
