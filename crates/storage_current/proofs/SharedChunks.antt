-- Proofs over chunks that are arrays, and proofs over chunks that are shared bytes, of a size that chunks may have.
use Rattle.std.proofs.Common.{◌≡◌, ℕ, ◌^◌, Bool, true, List, [], ◌∷◌, Option, Some, None, refl, ap, subst}
use Rattle.std.specs.Prelude.{MatchOption}
use Rattle.std.specs.Bool.{Decides, one_answer}
use Rattle.std.specs.Option.{is_some}
use Rattle.std.proofs.lemmas.Bool.{le-leb}
use Rattle.storage_codec.specs.Codec.{Answer}
use Rattle.storage_bitmap.specs.Chunks.{IsChunkSize}
use Rattle.storage_current.specs.CurrentWire.{operation_at, sized_operation_at}
use Rattle.storage_current.specs.KeyWire.{pair_at, exclusion_at}
use Rattle.storage_current.specs.SharedChunks.{AgreeWhereSeenAlike}
use Rattle.storage_current.specs.Snapshots.{OperationProof}

-- a size is one that chunks may have where the height of a chunk is some
pub chunk_size_is : {size : ℕ} (height : Option ℕ) → MatchOption height (IsChunkSize size → ⊥) (λ _. IsChunkSize size)
    → is_some height ≡ true → IsChunkSize size
chunk_size_is None is e = absurd (cc)
chunk_size_is (Some h) is e = is

module _ (there : Bool) (d size most : ℕ) (is : IsChunkSize size) where
  pub operations_alike : (bytes : List ℕ) → operation_at there d size most bytes
      ≡ sized_operation_at there d size most bytes
  operations_alike bytes = rw (is.0, le-leb size (2 ^ 59) is.1) refl

  same_pair : {X : Type 0} (read other : List ℕ → Answer OperationProof) (next : List ℕ → Answer X) (bytes : List ℕ)
      → read bytes ≡ other bytes → pair_at read next bytes ≡ pair_at other next bytes
  same_pair read other next bytes e = rw e refl

  same_exclusion : {U V : Type 0} (read other : List ℕ → Answer OperationProof) (update : List ℕ → Answer U)
      (value : List ℕ → Answer V) (tag : ℕ) (bytes : List ℕ) → read bytes ≡ other bytes
      → exclusion_at read update value (tag ∷ bytes) ≡ exclusion_at other update value (tag ∷ bytes)
  same_exclusion read other update value tag bytes e = rw e refl

  pub pairs_alike : {X : Type 0} (next : List ℕ → Answer X) (bytes : List ℕ)
      → pair_at (operation_at there d size most) next bytes ≡ pair_at (sized_operation_at there d size most) next bytes
  pairs_alike next bytes = same_pair (operation_at there d size most)
      (sized_operation_at there d size most) next bytes (operations_alike bytes)

  pub exclusions_alike : {U V : Type 0} (update : List ℕ → Answer U) (value : List ℕ → Answer V) (bytes : List ℕ)
      → exclusion_at (operation_at there d size most) update value bytes
      ≡ exclusion_at (sized_operation_at there d size most) update value bytes
  exclusions_alike update value [] = refl
  exclusions_alike update value (tag ∷ bytes) = same_exclusion (operation_at there d size most)
      (sized_operation_at there d size most) update value tag bytes (operations_alike bytes)

-- proofs agree that are written and checked by what is seen of them alone
pub agreeing : {A B X Claim : Type 0} (seen : A → X) (other_seen : B → X) (text : X → List ℕ) (Yes : Claim → X → Type 0)
    → AgreeWhereSeenAlike (λ a. text (seen a)) (λ b. text (other_seen b)) seen other_seen Yes
agreeing seen other_seen text Yes = record {
  written = λ a b same. ap text same;
  checked = λ a b same claim yes other is so.
      one_answer yes other (subst (λ x. Decides yes (Yes claim x)) same is) so;
}
