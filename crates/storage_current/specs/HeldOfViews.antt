-- Checks under supplied chunks: what holds of each grafted view with a root.
use Rattle.std.specs.Prelude.{ℕ, ◌+◌, ◌*◌, ◌≡◌, ◌≤◌, ◌^◌, ◌⊎◌, List, length}
use Rattle.storage_codec.specs.Digests.{HashFunction, Cross}
use Rattle.storage_merkle.specs.Shape.{Shape, max_leaves}
use Rattle.storage_merkle.specs.declared.merkle.bagging.Bagging.TheVariants.{BackwardFold}
use Rattle.storage_merkle.specs.RangeProofs.{AreDigests}
use Rattle.storage_merkle.specs.Trees.{Layout, Content, never, tree_root, tree_strings}
use Rattle.storage_merkle.specs.Chunked.{AreChunks}
use Rattle.storage_current.specs.Grafted.{grafted_over}
use Rattle.storage_current.specs.Snapshots.{graftable_at}

-- the chunks, of N bytes each, that are supplied from the chunk `first` on over nodes of a height are there over each leaf from low
-- to high - 1
pub record AreSupplied (N height first : ℕ) (chunks : List (List ℕ)) (low high : ℕ) : Type 0 where
  pub each : AreDigests N chunks
  pub from : first * 2 ^ height ≤ low
  pub to : high ≤ (first + length chunks) * 2 ^ height

-- the layout of a grafted view over n leaves, for chunks over nodes of a height
abbrev pub view_at : Shape → ℕ → ℕ → Layout
view_at S height n = record { shape = S; position = S.position; grafted = grafted_over height (graftable_at S height n) }

-- Of each grafted view with that root, with chunks of N bytes over nodes of a height, some property holds, or one of the strings
-- and a different one of the view have one digest.
abbrev pub HoldsOfViews : ℕ → HashFunction → Shape → ℕ → List (List ℕ) → List ℕ → (Layout → Content → ℕ → Type 0) → Type 0
HoldsOfViews N h S height strings root P =
    (content : Content) (inactive : ℕ) →
    AreChunks N (view_at S height (length content.elements)) (length content.elements) never content.chunk →
    length content.elements ≤ max_leaves → inactive ≤ length (S.peaks (length content.elements)) →
    tree_root h (view_at S height (length content.elements)) BackwardFold content inactive ≡ root →
    P (view_at S height (length content.elements)) content inactive
    ⊎ Cross h strings (tree_strings h (view_at S height (length content.elements)) BackwardFold content inactive)
