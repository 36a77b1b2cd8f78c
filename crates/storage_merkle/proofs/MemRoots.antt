-- The root from the digests of the peaks that are kept.
use Rattle.std.proofs.Common.{◌≡◌, ℕ, List, length, ap, ◌∙◌, sym}
use Rattle.storage_codec.specs.Digests.{HashFunction}
use Rattle.storage_merkle.specs.Shape.{Shape}
use Rattle.storage_merkle.specs.declared.merkle.bagging.Bagging.{Bagging}
use Rattle.storage_merkle.specs.Trees.{Layout}
use Rattle.storage_merkle.specs.Hashing.{node_over, peak_digests, root_of}
use Rattle.storage_merkle.specs.Kept.{at_peaks}

module _ (h : HashFunction) (S : Shape) (T : Layout) (over : T.shape ≡ S) (chunk : ℕ → List ℕ) (b : Bagging)
    (list : List (List ℕ)) (i : ℕ) where
  pub rooted : (leaves : ℕ) (ds : List (List ℕ)) → leaves ≡ length list
      → ds ≡ at_peaks (node_over h T chunk list) 0 (S.peaks leaves)
      → root_of h T b leaves i ds ≡ root_of h T b (length list) i (peak_digests h T chunk list (length list))
  rooted leaves ds count are =
      let peaks : ds ≡ peak_digests h T chunk list leaves =
      are ∙ ap (at_peaks (node_over h T chunk list) 0) (sym (ap (λ (U : Shape). U.peaks leaves) over)) in
      ap (root_of h T b leaves i) peaks ∙ ap (λ n. root_of h T b n i (peak_digests h T chunk list n)) count
