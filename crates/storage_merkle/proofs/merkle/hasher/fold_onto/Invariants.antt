use Rattle.std.proofs.Common.{◌≡◌, length, map, option_map}
use Rattle.storage_merkle.specs.Hashers.{folded_onto}
use Rattle.storage_merkle.proofs.merkle.hasher.fold_onto.Given as goal

abbrev pub invariant-loop-item : goal.invariant-loop-item
invariant-loop-item g l =
    folded_onto g.H.Hasher.hash_of (map g.H.Digest.Digest.text l.left) (option_map g.H.Digest.Digest.text l.folded)
    ≡ folded_onto g.H.Hasher.hash_of (map g.H.Digest.Digest.text l.fn.items) (option_map g.H.Digest.Digest.text l.fn.onto)

abbrev pub decreases-loop-item : goal.decreases-loop-item
decreases-loop-item g l = length l.left
