-- Byte strings of the sizes that keys, and values of one size, have.
use Rattle.std.specs.Prelude.{◌==◌, ◌||◌, ℕ, ℤ, Bool, List, length, Option, Some, None, if◌then◌else◌}
use Rattle.light_questions.specs.Answers.{other_key, other_value}
use Rattle.light_questions.specs.declared.sized.Size.{Size}
use Rattle.light_questions.specs.declared.sized.Size.TheVariants.{Four, Eight, Twenty, ThirtyTwo}
use Rattle.light_questions.specs.declared.sized.SizedBytes.{SizedBytes}
use Rattle.light_questions.specs.declared.sized.SizedBytes.TheVariants.{Of4, Of8, Of20, Of32}

-- these sizes are 4, 8, 20 and 32 bytes
abbrev pub is_size : ℕ → Bool
is_size n = (n == 4) || (n == 8) || (n == 20) || (n == 32)

-- what is refused of a key, and of a size of values
abbrev pub key_refusal : List ℕ → Option ℤ
key_refusal key = if is_size (length key) then None else Some other_key

abbrev pub value_refusal : ℕ → Option ℤ
value_refusal size = if is_size size then None else Some other_value

-- the bytes of such a string
abbrev pub bytes_of : SizedBytes → List ℕ
bytes_of (Of4 sized) = sized.bytes
bytes_of (Of8 sized) = sized.bytes
bytes_of (Of20 sized) = sized.bytes
bytes_of (Of32 sized) = sized.bytes

-- a size in bytes
abbrev pub size_in_bytes : Size → ℕ
size_in_bytes Four = 4
size_in_bytes Eight = 8
size_in_bytes Twenty = 20
size_in_bytes ThirtyTwo = 32
