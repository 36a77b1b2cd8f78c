-- What a put and a commit do, as the definitions say it. The lemmas on lists of commands stand on this, and the laws hand it to them: so a
-- definition that says something else is refused at the laws.
use Rattle.std.proofs.Common.{◌≡◌, cond, ◌++◌, ◌∷◌, [], true, length, Option, Some, is_some}
use Rattle.storage_current.specs.Keys.{Keyed, commit_text}
use Rattle.storage_db.specs.Rings.{next_key, previous}
use Rattle.storage_db.specs.Databases.{Database, active_at, updated, relinked, put, commit, least_location, without_commit}

module _ {K W : Type 0} (e : Keyed K W) where
  abbrev pub put_said : Database K W → K → W → Database K W
  put_said d key value =
      let after = updated e d key value (next_key e.cmp d.entries key) in
      cond (is_some (active_at e d.entries key)) after (relinked e after (previous e.cmp d.entries key) key)

  abbrev pub commit_said : Database K W → Option W → Database K W
  commit_said d metadata =
      let floor = least_location d.entries (length d.operations) in
      let operations = d.operations ++ commit_text e metadata floor ∷ [] in
      let bits = without_commit d.last d.bits ++ true ∷ [] in
      record {
        operations = operations;
        bits = bits;
        entries = d.entries;
        last = Some (record {
          metadata = metadata;
          entries = d.entries;
          snapshot = record { operations = operations; bits = bits; floor = floor };
        });
      }

  pub record AreSaid : Type 0 where
    pub put_is : (d : Database K W) (key : K) (value : W) → put e d key value ≡ put_said d key value
    pub commit_is : (d : Database K W) (metadata : Option W) → commit e d metadata ≡ commit_said d metadata
