use Rattle.std.proofs.Common.{◌≡◌, ◌≤◌, ◌/◌, ◌*◌, List, Bool}
use Rattle.storage_merkle.specs.Kept.{StandsFor}
use Rattle.storage_merkle.specs.Mmr.{mmr}
use Rattle.storage_merkle.specs.Trees.{ungrafted}
use Rattle.storage_bitmap.specs.Chunks.{IsRest, bit_count}
use Rattle.storage_bitmap.specs.StandsForBits.{chunk_digests, chunk_nodes}
use Rattle.storage_bitmap.proofs.bitmap.authenticated.rehashed.add_chunks.Given as goal

abbrev pub invariant-loop-index : goal.invariant-loop-index
invariant-loop-index g l = record {
  place : l.tree.leaves ≡ l.index;
  order : l.bits.pruned ≤ l.index;
  within : l.index ≤ bit_count g.row.N l.bits / (8 * g.row.N);
  boundary : l.tree.boundary ≡ l.fn.tree.boundary;
  stands : g.H.Hasher.layout l.hasher ≡ ungrafted mmr → (list : List Bool) → IsRest g.row.N l.bits list
      → StandsFor g.D.Digest.text mmr (chunk_nodes g.H.Hasher.hash_of) l.fn.tree
      (chunk_digests g.H.Hasher.hash_of g.row.N list l.fn.tree.leaves) → StandsFor g.D.Digest.text mmr
      (chunk_nodes g.H.Hasher.hash_of) l.tree (chunk_digests g.H.Hasher.hash_of g.row.N list l.tree.leaves);
}
