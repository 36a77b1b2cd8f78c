use Rattle.std.proofs.Common.{take}
use Rattle.std.specs.Prelude.{flat_map}
use Rattle.sha2.specs.Hashers.{Holds256}
use Rattle.storage_codec.proofs.digest.sha256.Sha256Hasher.hash.Given as goal

abbrev pub invariant-loop-part : goal.invariant-loop-part
invariant-loop-part l = Holds256 l.hasher (flat_map (λ part. part.now) (take l.part-index l.parts))
