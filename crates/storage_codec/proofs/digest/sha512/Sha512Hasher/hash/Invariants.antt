use Rattle.std.proofs.Common.{take}
use Rattle.std.specs.Prelude.{flat_map}
use Rattle.sha2.specs.Hashers.{Holds512}
use Rattle.storage_codec.proofs.digest.sha512.Sha512Hasher.hash.Given as goal

abbrev pub invariant-loop-part : goal.invariant-loop-part
invariant-loop-part l = Holds512 l.hasher (flat_map (λ part. part.now) (take l.part-index l.parts))
