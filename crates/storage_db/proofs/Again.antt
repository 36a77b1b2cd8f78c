-- An active update that is put again, as it is read and written.
use Rattle.std.proofs.Common.{◌≡◌, ℕ, ◌+◌, ◌≤◌, ◌^◌, true, false, List, [], ◌∷◌, ◌++◌, length, map, Option, Some, None, is_some, nat_lt, slice_get, Equal, refl, sym, ap, ◌∙◌, subst}
use Rattle.std.specs.BTreeMap.{is_at}
use Rattle.std.specs.Global.{Vec}
use Rattle.std.specs.Map.{lookup}
use Rattle.std.proofs.lemmas.Bool.{le-ltb}
use Rattle.std.proofs.lemmas.Option.{slice_get_past}
use Rattle.storage_current.specs.Keys.{Keyed, IsKeyed}
use Rattle.storage_db.specs.declared.db.active.Active.{Active}
use Rattle.storage_db.specs.declared.db.log.Log.{Log}
use Rattle.storage_db.specs.declared.db.ordered.compact.CompactError.TheVariants.{NotRead}
use Rattle.storage_db.specs.Rings.{next_key, previous}
use Rattle.storage_db.specs.Again.{IsAgainOf, IsWrittenAgain, ReadsKey}
use Rattle.storage_db.specs.Compacting.{IsNotMoved, PutsAgain, StandsAt}
use Rattle.storage_db.specs.Databases.{Command, Committed, Database, Put, done, relinked, updated, without}
use Rattle.storage_db.specs.Parts.{database_of, moved, texts}
use Rattle.storage_db.specs.Replays.{AreReadAlike}
use Rattle.storage_db.proofs.Cases.{cond_yes, some_not_none, somes}
use Rattle.storage_db.proofs.Changing.{count_of_texts, renewed_parts, same_database}
use Rattle.storage_db.proofs.Entries.{Sorted, lookup_alike}

-- ---- the key that is read

module _ {K W Y : Type 0} (e : Keyed K W) (is : IsKeyed e) (seen : W → Y) (reads : List ℕ → Command K W → Type 0)
    (one : AreReadAlike e seen reads) (entries : List (K × Active W)) (bytes : List ℕ) (location : ℕ) where
  -- where the active update of a key that is read stands elsewhere, that of each such key does
  pub none_again : (key : K) → ReadsKey reads bytes key → ((active : Active W) → StandsAt e entries key location active → ⊥)
      → (other : K) → ReadsKey reads bytes other → (active : Active W) → StandsAt e entries other location active → ⊥
  none_again key first none other read active stands =
      let alike = one bytes (Put key first.0) (Put other read.0) first.1 read.1 in
      let equal : e.cmp key other ≡ Equal = is.alike key other (sym alike.0) in
      none active (record {
        there = lookup_alike is.total key other equal entries ∙ stands.there;
        at = stands.at;
      })

-- ---- the update is put again

module _ {K W : Type 0} (e : Keyed K W) (is : IsKeyed e) (log room after : Log) (m n : List (K × Active W)) where
  pub again_is : room.operations.items ≡ log.operations.items → room.bits.items ≡ log.bits.items → Sorted e.cmp m
      → (key : K) (location : ℕ) (bytes : Vec ℕ) → IsWrittenAgain e m key location bytes
      → after.operations.items ≡ room.operations.items ++ bytes ∷ []
      → after.bits.items ≡ without (lookup (is_at (e.cmp key)) m) room.bits.items ++ true ∷ []
      → n ≡ moved (is_at (e.cmp key)) m (length room.operations.items)
      → (command : Command K W) × PutsAgain e m location command
      × ((last : Option (Committed K W)) → database_of after n last ≡ done e (database_of log m last) command)
  again_is same_operations same_bits sorted key location bytes written operations bits entries =
      let a : Active W = written.active in
      let next : K = next_key e.cmp m key in (
        Put key a.value,
        record { key = key; active = a; stands = written.stands; is = refl },
        λ last.
            let d : Database K W = database_of log m last in
            let whole : Database K W = updated e d key a.value next in
            renewed_parts e is room after m n last key (key, a) next next bytes refl sorted written.stands.there refl written.written
            operations bits entries
            ∙ ap (λ (x : Database K W). updated e x key a.value next) (same_database log room same_operations same_bits m last)
            ∙ sym (cond_yes _ whole (relinked e whole (previous e.cmp m key) key) (ap is_some written.stands.there)),
      )

-- ---- why it is not

module _ {K W : Type 0} (e : Keyed K W) (reads : List ℕ → Command K W → Type 0) (m : List (K × Active W)) (location : ℕ) where
  -- no operation stands there
  pub nothing_there : (operations : List (List ℕ)) → length operations ≤ location → IsAgainOf e m reads operations location None
  nothing_there operations past = λ operation at.
      absurd (some_not_none operation (sym at ∙ slice_get_past operations location past))

  -- the one that does tells no such key
  pub none_there : (operations : List (List ℕ)) (own : List ℕ) → slice_get operations location ≡ Some own
      → ((key : K) → ReadsKey reads own key → (active : Active W) → StandsAt e m key location active → ⊥)
      → IsAgainOf e m reads operations location None
  none_there operations own there none = λ operation at.
      subst (λ (b : List ℕ). (key : K) → ReadsKey reads b key → (active : Active W) → StandsAt e m key location active → ⊥)
      (somes own operation (sym there ∙ at)) none

  pub unread_told : (F : Type 0) (log room : Log) → room.operations.items ≡ log.operations.items
      → length log.operations.items + 1 ≤ 2 ^ 62 → IsAgainOf e m reads (texts room) location None → (place : ℕ) → place ≡ location
      → (last : Option (Committed K W)) → IsNotMoved e reads {F = F} (database_of log m last) location (NotRead place)
  unread_told F log room same few none place at last = (
    at,
    subst (λ (n : ℕ). nat_lt (2 ^ 62) (n + 1) ≡ false) (count_of_texts log) (le-ltb _ _ few),
    λ operation there key active stands value read.
        let all : texts log ≡ texts room = ap (map (λ (v : Vec ℕ). v.items)) (sym same) in
        none operation (ap (λ (l : List (List ℕ)). slice_get l location) (sym all) ∙ there) key (value, read) active stands,
  )
