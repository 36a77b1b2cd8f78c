-- What a question is answered, as a number, and what is refused.
use Rattle.std.specs.Prelude.{◌≡◌, ◌==◌, ◌&&◌, ◌⊎◌, ℕ, ℤ, pos, negsuc, List, length, sum, Option, Some, None, if◌then◌else◌}

-- the answers; those below -1 are refusals, and say nothing of what is claimed
abbrev pub yes : ℤ
yes = pos 1

abbrev pub no : ℤ
no = pos 0

abbrev pub no_memory : ℤ
no_memory = negsuc 0

abbrev pub other_root : ℤ
other_root = negsuc 1

abbrev pub other_family : ℤ
other_family = negsuc 2

abbrev pub other_hash : ℤ
other_hash = negsuc 3

abbrev pub other_lengths : ℤ
other_lengths = negsuc 4

abbrev pub other_key : ℤ
other_key = negsuc 5

abbrev pub other_value : ℤ
other_value = negsuc 6

abbrev pub other_agreed : ℤ
other_agreed = negsuc 7

abbrev pub other_kind : ℤ
other_kind = negsuc 8

abbrev pub other_encoding : ℤ
other_encoding = negsuc 9

-- the answer says whether a check accepts, or that memory ran out
abbrev pub Says : ℤ → Type 0 → Type 0
Says answer Accepts = ((answer ≡ yes) × Accepts) ⊎ ((answer ≡ no) × ¬ Accepts) ⊎ (answer ≡ no_memory)

-- the same where nothing is refused, and else the refusal
abbrev pub IsTold : Option ℤ → ℤ → Type 0 → Type 0
IsTold None answer Told = Told
IsTold (Some code) answer Told = answer ≡ code

-- the first of two refusals
abbrev pub or_then : Option ℤ → Option ℤ → Option ℤ
or_then None second = second
or_then (Some code) second = Some code

-- what is refused of the lengths of two lists of byte strings: they add up to the bytes
abbrev pub lengths_refusal : List ℕ → List ℕ → List ℕ → List ℕ → Option ℤ
lengths_refusal operations operation_lengths chunks chunk_lengths =
    if (sum operation_lengths == length operations) && (sum chunk_lengths == length chunks) then None
    else Some other_lengths
