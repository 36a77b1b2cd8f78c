-- How operations are displayed, from the texts of their parts.
use Rattle.std.specs.Prelude.{ℕ, List, ◌++◌, Some, None, codes}
use Rattle.std.specs.Fmt.{decimal}
use Rattle.storage_ops.specs.Operations.{OperationView, Delete, Update, CommitFloor}

-- [key:KEY value:VALUE]
abbrev pub shown_unordered : List ℕ → List ℕ → List ℕ
shown_unordered key value = codes "[key:" ++ key ++ codes " value:" ++ value ++ codes "]"

-- [key:KEY next_key:KEY value:VALUE]
abbrev pub shown_ordered : List ℕ → List ℕ → List ℕ → List ℕ
shown_ordered key next value = codes "[key:" ++ key ++ codes " next_key:" ++ next ++ codes " value:"
    ++ value ++ codes "]"

-- a deletion, an update as it is displayed itself, a commit with a value, or one with none
abbrev pub shown : OperationView (List ℕ) (List ℕ) (List ℕ) → List ℕ
shown (Delete key) = codes "[key:" ++ key ++ codes " <deleted>]"
shown (Update update) = update
shown (CommitFloor (Some value) floor) = codes "[commit " ++ value ++ codes " with inactivity floor: "
    ++ decimal floor ++ codes "]"
shown (CommitFloor None floor) = codes "[commit with inactivity floor: " ++ decimal floor ++ codes "]"
