-- What is agreed beforehand, and what is refused of it.
use Rattle.std.specs.Prelude.{◌≡◌, ◌==◌, ◌&&◌, ℕ, ℤ, Bool, true, false, not, List, length, Option, Some, None, if◌then◌else◌}
use Rattle.sha2.specs.Sha256.{sha256}
use Rattle.sha2.specs.Sha512.{sha512}
use Rattle.storage_codec.specs.Digests.{HashFunction}
use Rattle.storage_merkle.specs.Shape.{Shape}
use Rattle.storage_merkle.specs.Mmr.{mmr}
use Rattle.storage_merkle.specs.Mmb.{mmb}
use Rattle.light_questions.specs.Answers.{other_family, other_hash, other_root}
use Rattle.light_questions.specs.declared.agreed.Root.{Root}
use Rattle.light_questions.specs.declared.agreed.Root.TheVariants.{Of256, Of512}

-- the families: 0 is that of mountain ranges, 1 that of mountain belts
abbrev pub shape_of : ℕ → Shape
shape_of family = if family == 0 then mmr else mmb

abbrev pub has_pending_of : ℕ → Bool
has_pending_of family = if family == 0 then false else true

-- the digest functions: 0 is SHA-256, whose digests have 32 bytes, 1 is SHA-512, whose digests have 64
abbrev pub function_of : ℕ → HashFunction
function_of hash = if hash == 0 then sha256 else sha512

abbrev pub digest_size_of : ℕ → ℕ
digest_size_of hash = if hash == 0 then 32 else 64

-- what is refused of a family, a digest function and a root: the families and the digest functions are 0 and 1, and a root has as
-- many bytes as a digest
abbrev pub agreed_refusal : ℕ → ℕ → List ℕ → Option ℤ
agreed_refusal family hash root =
    if not (family == 0) && not (family == 1) then Some other_family
    else if not (hash == 0) && not (hash == 1) then Some other_hash
    else if not (length root == digest_size_of hash) then Some other_root
    else None

-- a root is a digest with these bytes, of a digest function
abbrev pub IsRoot : ℕ → List ℕ → Root → Type 0
IsRoot hash bytes (Of256 digest) = (hash ≡ 0) × (digest.bytes ≡ bytes)
IsRoot hash bytes (Of512 digest) = (hash ≡ 1) × (digest.bytes ≡ bytes)

-- the bytes of a root
abbrev pub root_bytes : Root → List ℕ
root_bytes (Of256 digest) = digest.bytes
root_bytes (Of512 digest) = digest.bytes
