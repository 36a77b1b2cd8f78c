use Rattle.std.proofs.Common.{◌≡◌, length, map}
use Rattle.storage_merkle.specs.Hashing.{folded_forward}
use Rattle.storage_merkle.proofs.merkle.hasher.fold_forward.Given as goal

abbrev pub invariant-loop-item : goal.invariant-loop-item
invariant-loop-item g l = folded_forward g.H.Hasher.hash_of (g.H.Digest.Digest.text l.folded)
    (map g.H.Digest.Digest.text l.left) ≡ folded_forward g.H.Hasher.hash_of (g.H.Digest.Digest.text l.initial.folded)
    (map g.H.Digest.Digest.text l.initial.left)

abbrev pub decreases-loop-item : goal.decreases-loop-item
decreases-loop-item g l = length l.left
