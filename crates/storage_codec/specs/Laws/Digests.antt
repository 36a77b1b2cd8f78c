-- A digest of SHA-256 has 32 bytes, and one of SHA-512 has 64.
use Rattle.std.proofs.Common.{refl}
use Rattle.sha2.specs.Sha256.{sha256, digest_bytes}
use Rattle.sha2.specs.Sha512.{sha512}
use Rattle.sha2.specs.Sha512 as S512
use Rattle.storage_codec.specs.Digests.{IsSized}

pub sha256_sized : IsSized 32 sha256
unfolding sha256 digest_bytes
sha256_sized x = refl

pub sha512_sized : IsSized 64 sha512
unfolding sha512 S512.digest_bytes
sha512_sized x = refl
