-- Keys and their values, in the order of the keys.
use Rattle.std.specs.Prelude.{ℕ, List, map, Option, Some, None}
use Rattle.std.specs.declared.cmp.Ordering.{Ordering}
use Rattle.storage_db.specs.declared.db.active.Active.{Active}
use Rattle.storage_db.specs.declared.db.notes.Note.{Note}
use Rattle.storage_db.specs.Notes.{taken_back}
use Rattle.storage_db.specs.Orders.{Sorted}

-- keys, each with its value
abbrev pub pairs_of : {K W : Type 0} → List (K × Active W) → List (K × W)
pairs_of {K} {W} entries = map (λ (entry : K × Active W). (entry.0, entry.1.value)) entries

-- what they are written as, and what is seen of the values
abbrev pub seen_pairs : {K W Y : Type 0} → (K → List ℕ) → (W → Y) → List (K × W) → List (List ℕ × Y)
seen_pairs {K} {W} text seen pairs = map (λ (pair : K × W). (text pair.0, seen pair.1)) pairs

-- the pairs of entries, with the notes taken back if there are any
abbrev pub pairs_in : {K W : Type 0} → (K → K → Ordering) → List (K × Active W) → Option (List (K × Note W)) → List (K × W)
pairs_in cmp entries None = pairs_of entries
pairs_in cmp entries (Some notes) = pairs_of (taken_back cmp entries notes)

-- entries and notes that are in order
abbrev pub AreInOrder : {K W : Type 0} → (K → K → Ordering) → List (K × Active W) → Option (List (K × Note W)) → Type 0
AreInOrder cmp entries None = Unit {0}
AreInOrder cmp entries (Some notes) = Sorted cmp entries × Sorted cmp notes
