use Rattle.std.proofs.Common.{◌≡◌, ◌-◌, ◌++◌}
use Rattle.storage_merkle.specs.Calc.{be8}
use Rattle.storage_merkle.specs.Mmr.{mmr}
use Rattle.storage_merkle.specs.Shape.{size}
use Rattle.storage_bitmap.specs.Chunks.{chunk}
use Rattle.storage_bitmap.proofs.Rehashing.{ZippedTo}
use Rattle.storage_bitmap.proofs.bitmap.authenticated.rehashed.chunk_leaves.Given as goal

abbrev pub invariant-loop-chunk : goal.invariant-loop-chunk
invariant-loop-chunk g l = ZippedTo (λ c u. (u.0 ≡ c) × (g.D.Digest.text u.1 ≡ g.H.Hasher.hash_of
    (be8 (size mmr c) ++ chunk g.row.N l.bits.bits (c - l.bits.pruned)))) l.chunks.keys l.chunk-iterator l.leaves.items
