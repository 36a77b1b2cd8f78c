-- What is noted of the keys that have changed since the last commit, and the entries that it had.
use Rattle.std.specs.Prelude.{◌≡◌, ℕ, List, [], ◌∷◌, Option, Some, None, option_map}
use denote.Ref.{Bor}
use Rattle.std.specs.List.{AllZip}
use Rattle.std.specs.BTreeMap.{insert_entry, is_at}
use Rattle.std.specs.Map.{lookup, remove_entry, set_value}
use Rattle.std.specs.declared.cmp.Ordering.{Ordering}
use Rattle.std.specs.declared.cmp.Ordering.TheVariants.{Equal}
use Rattle.storage_db.specs.declared.db.active.Active.{Active}
use Rattle.storage_db.specs.declared.db.notes.Note.{Note}
use Rattle.storage_db.specs.declared.db.notes.Note.TheVariants.{Absent, Moved, Replaced}

-- a value and the location of its update, as they are lent; and with their key
abbrev pub held : {W : Type 0} → Bor W × ℕ → Active W
held lent = record { value = lent.0.now; location = lent.1 }

abbrev pub shown : {K W : Type 0} → Bor K × Bor W × ℕ → K × Active W
shown entry = (entry.0.now, record { value = entry.1.now; location = entry.2 })

-- what a key has, as an answer of an entry
abbrev pub answered : {K X : Type 0} → K → Option X → Option (Option (K × X))
answered key None = None
answered key (Some x) = Some (Some (key, x))

-- what the last commit had of a key, by what the key has now and its note
abbrev pub recalled : {W : Type 0} → Option (Active W) → Note W → Option (Active W)
recalled now Absent = None
recalled {W} now (Moved location) =
    option_map (λ (active : Active W). record { value = active.value; location = location }) now
recalled now (Replaced active) = Some active

-- what a note becomes as the value that its key had, if it had one, is no longer that of now
abbrev pub settled : {W : Type 0} → Option W → Note W → Note W
settled before Absent = Absent
settled None (Moved location) = Absent
settled (Some value) (Moved location) = Replaced (record { value = value; location = location })
settled before (Replaced active) = Replaced active

module _ {K W : Type 0} (cmp : K → K → Ordering) where
  -- the entries, where a key has from now on what an option holds
  abbrev pub put_at : Option (Active W) → K → List (K × Active W) → List (K × Active W)
  put_at None key entries = remove_entry (is_at (cmp key)) entries
  put_at (Some active) key entries = insert_entry cmp entries key active

  -- a note taken back: the key has what the note recalls
  abbrev pub back_at : List (K × Active W) → K → Note W → List (K × Active W)
  back_at entries key note = put_at (recalled (lookup (is_at (cmp key)) entries) note) key entries

  -- the entries of the last commit: those of now, with each note taken back
  abbrev pub taken_back : List (K × Active W) → List (K × Note W) → List (K × Active W)
  taken_back entries [] = entries
  taken_back entries (note ∷ notes) = taken_back (back_at entries note.0 note.1) notes

  -- the notes, with that of a key, if it has one, settled
  abbrev pub settled_to : Option (Note W) → Option W → K → List (K × Note W) → List (K × Note W)
  settled_to None before key notes = notes
  settled_to (Some note) before key notes = set_value (is_at (cmp key)) notes (settled before note)

-- the second has a key that compares as that of the first, and the same value and location
pub record IsAlike {K X : Type 0} (cmp : K → K → Ordering) (entry other : K × X) : Type 0 where
  pub key : cmp entry.0 other.0 ≡ Equal
  pub same : other.1 ≡ entry.1

abbrev pub AreAlike : {K X : Type 0} → (K → K → Ordering) → List (K × X) → List (K × X) → Type 0
AreAlike cmp entries others = AllZip (IsAlike cmp) entries others
