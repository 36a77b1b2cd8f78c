-- What a client's readers have to admit of the proofs of a database.
use Rattle.std.specs.Prelude.{◌≡◌, Option, Some, None, option_map}
use Rattle.storage_current.specs.Keys.{Keyed}
use Rattle.storage_db.specs.declared.db.active.Active.{Active}
use Rattle.storage_db.specs.Databases.{Committed}
use Rattle.storage_db.specs.Rings.{next_key, previous}

module _ {K W : Type 0} (e : Keyed K W) (Key : K → Type 0) where
  -- the key after this one, however it is held
  abbrev pub AdmitsNext : K → Committed K W → Type 0
  AdmitsNext key commit = (next : K) → e.key next ≡ e.key (next_key e.cmp commit.entries key) → Key next

  -- what an absence is shown by: the update of the key before, with that key, its value and the key after it; the commit's value,
  -- where no key is active
  module _ (Value Metadata : W → Type 0) where
    abbrev pub AdmitsShown : Committed K W → Option (K × Active W) → Type 0
    AdmitsShown commit None = (value : W) → option_map e.value (Some value) ≡ option_map e.value commit.metadata → Metadata value
    AdmitsShown commit (Some entry) = (key : K) (value : W) → e.key key ≡ e.key entry.0 → e.value value ≡ e.value entry.1.value
        → Key key × Value value × AdmitsNext entry.0 commit

    abbrev pub AdmitsAbsence : K → Committed K W → Type 0
    AdmitsAbsence key commit = AdmitsShown commit (previous e.cmp commit.entries key)
