-- An active update that is put again, as it is read and written.
use Rattle.std.specs.Prelude.{◌≡◌, ℕ, List, Option, Some, MatchOption, slice_get}
use Rattle.std.specs.Global.{Vec}
use Rattle.storage_current.specs.Keys.{Keyed, update_text}
use Rattle.storage_db.specs.declared.db.active.Active.{Active}
use Rattle.storage_db.specs.Compacting.{StandsAt}
use Rattle.storage_db.specs.Databases.{Command, Put}
use Rattle.storage_db.specs.Rings.{next_key}

-- an update of a key is read from an operation
abbrev pub ReadsKey : {K W : Type 0} → (List ℕ → Command K W → Type 0) → List ℕ → K → Type 0
ReadsKey {K} {W} reads operation key = (value : W) × reads operation (Put key value)

module _ {K W : Type 0} (e : Keyed K W) (entries : List (K × Active W)) where
  -- the update of a key whose active one stands at a location is written again, to the value that the key has
  pub record IsWrittenAgain (key : K) (location : ℕ) (bytes : Vec ℕ) : Type 0 where
    pub active : Active W
    pub stands : StandsAt e entries key location active
    pub written : bytes.items ≡ update_text e key active.value (next_key e.cmp entries key)

  -- so, or the active update of the key does not stand there
  abbrev pub IsAgain : K → ℕ → Option (Vec ℕ) → Type 0
  IsAgain key location written =
      MatchOption written ((active : Active W) → StandsAt e entries key location active → ⊥) (IsWrittenAgain key location)

  -- the key is read from the operation at a location, and its update is written again; else no update is read there of a key whose active
  -- one stands there
  abbrev pub IsAgainOf : (List ℕ → Command K W → Type 0) → List (List ℕ) → ℕ → Option (K × Vec ℕ) → Type 0
  IsAgainOf reads operations location found = MatchOption found
      ((operation : List ℕ) → slice_get operations location ≡ Some operation → (key : K) → ReadsKey reads operation key
      → (active : Active W) → StandsAt e entries key location active → ⊥)
      (λ f. IsWrittenAgain f.0 location f.1)
