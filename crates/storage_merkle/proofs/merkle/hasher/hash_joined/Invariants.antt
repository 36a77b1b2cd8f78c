use Rattle.std.proofs.Common.{◌≡◌, ◌≤◌, take}
use Rattle.std.specs.Prelude.{flat_map}
use Rattle.storage_merkle.proofs.merkle.hasher.hash_joined.Given as goal

abbrev pub invariant-loop-part : goal.invariant-loop-part
invariant-loop-part g l = (l.used ≤ 64)
    × (take l.used l.string ≡ flat_map (λ part. part.now) (take l.part-index l.parts))
