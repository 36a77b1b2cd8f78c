-- The digests of SHA-256 and SHA-512 as values, which their bytes determine.
use Rattle.std.proofs.Common.{◌≡◌, ℕ, ◌^◌, ◌≤◌, List, length, lit≤}
use Rattle.sha2.specs.Sha256.{sha256}
use Rattle.sha2.specs.Sha512.{sha512}
use Rattle.storage_codec.specs.Laws.Digests.{sha256_sized, sha512_sized}
use Rattle.storage_codec.specs.declared.codec.fixed.FixedBytes.{FixedBytes}

abbrev pub fixed_bytes : (n : ℕ) (bytes : List ℕ) → length bytes ≡ n → n ≤ 2 ^ 32 → FixedBytes n
fixed_bytes n bytes full small = record { bytes = bytes; full = full; small = small }

abbrev pub digest_32 : List ℕ → FixedBytes 32
digest_32 x = fixed_bytes 32 (sha256 x) (sha256_sized x) (lit≤ tt)

abbrev pub digest_64 : List ℕ → FixedBytes 64
digest_64 x = fixed_bytes 64 (sha512 x) (sha512_sized x) (lit≤ tt)
