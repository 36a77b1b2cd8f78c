-- What places and pending slots are written as, and what reading answers.
use Rattle.std.specs.Prelude.{◌≡◌, ℕ, Bool, true, false, List, [], Option, None, Ok, Err, codes, nat_lt, if◌then◌else◌}
use Rattle.storage_codec.specs.Codec.{Answer, option_at, varint_at}
use Rattle.storage_codec.specs.Faults.{◌>>=◌, Invalid}
use Rattle.storage_codec.specs.Parts.{option_text}
use Rattle.storage_merkle.specs.Shape.{max_leaves}

-- the number of a location: a varint of at most 2 ^ 62
abbrev pub location_at : List ℕ → Answer ℕ
location_at bytes = varint_at bytes >>= λ n.
    if nat_lt max_leaves n.0 then Err (Invalid (codes "location") (codes "past the limit")) else Ok n

-- the slot of the pending chunk's digest: nothing in a family that never has one, else an option
abbrev pub slot_text : {A : Type 0} → Bool → (A → List ℕ) → Option A → List ℕ
slot_text false text slot = []
slot_text true text slot = option_text text slot

-- what reading the slot answers
abbrev pub slot_at : {V : Type 0} → Bool → (List ℕ → Answer V) → List ℕ → Answer (Option V)
slot_at false value bytes = Ok (None, bytes)
slot_at true value bytes = option_at value bytes

-- a family that never has a pending chunk has none in the slot
abbrev pub IsPendingSlot : {A : Type 0} → Bool → Option A → Type 0
IsPendingSlot false slot = slot ≡ None
IsPendingSlot true slot = Unit {0}
