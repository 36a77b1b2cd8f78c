-- A put or a deletion, of a database whose last commit's entries are found another way afterwards.
use Rattle.std.proofs.Common.{◌≡◌, ◌≤◌, ◌^◌, Bool, true, List, length, Option, is_some, refl, subst}
use Rattle.std.specs.Prelude.{Result, OnOk, OnErr}
use Rattle.storage_codec.specs.Digests.{HashFunction}
use Rattle.storage_current.specs.Keys.{Keyed, IsKeyed}
use Rattle.storage_current.specs.Snapshots.{Grafting}
use Rattle.storage_db.specs.declared.db.active.Active.{Active}
use Rattle.storage_db.specs.declared.db.log.Log.{Log}
use Rattle.storage_db.specs.Databases.{Command, Committed, Database, done}
use Rattle.storage_db.specs.Kept.{HeldCommit, IsDone, IsMade, KeptDatabase}
use Rattle.storage_db.specs.Notes.{AreAlike}
use Rattle.storage_db.specs.Parts.{GoesOn, IsSince, database_of, kept_of}
use Rattle.storage_db.proofs.Going.{since_on}
use Rattle.storage_db.proofs.Keeping.{done_ok, kept_err}
use Rattle.storage_db.proofs.Made.{made_either}
use Rattle.storage_db.proofs.Remembering.{err_with, ok_with, since_any, with_all}

module _ {K W Y : Type 0} (e : Keyed K W) (seen : W → Y) (is : IsKeyed e) (h : HashFunction) (g : Grafting)
    (command : Command K W) (log after : Log) (m n es fs : List (K × Active W)) (last : Option (HeldCommit W))
    {T E : Type 0} (r : Result T E) (since : IsSince log (with_all es last))
    (does : OnOk r ((l : Option (Committed K W)) → database_of after n l ≡ done e (database_of log m l) command))
    (few : length after.operations.items ≤ 2 ^ 62) (on : GoesOn log after)
    (noting : Bool) (told : noting ≡ is_some last) (alike : OnOk r (noting ≡ true → AreAlike e.cmp es fs))
    (same : OnErr r ((l : Option (Committed K W)) → database_of after n l ≡ database_of log m l))
    (stays : OnErr r (fs ≡ es)) where
  abbrev before : KeptDatabase K W
  before = kept_of log m (with_all es last)

  abbrev now : KeptDatabase K W
  now = kept_of after n (with_all fs last)

  abbrev step : Database K W → Database K W
  step d = done e d command

  pub command_ok : (old : KeptDatabase K W) → before ≡ old → OnOk r (IsDone e seen h g old now command)
  command_ok old view =
      ok_with e seen is h g after n es fs last old step r
      (subst (λ (b : Bool). OnOk r (b ≡ true → AreAlike e.cmp es fs)) told alike)
      (done_ok e seen h g command log after m n (with_all es last) old view r does few)

  pub command_err : (old : KeptDatabase K W) → before ≡ old → OnErr r (now ≡ old)
  command_err old view =
      err_with e seen is h g after n es fs last old step r stays
      (kept_err e seen h g step log after m n (with_all es last) old view r same)

  pub command_made : IsMade e seen h g before → IsMade e seen h g now
  command_made made =
      made_either e seen h g before now command r (command_ok before refl) (command_err before refl) made

  pub command_since : IsSince after (with_all fs last)
  command_since = since_any after es fs last (since_on log after (with_all es last) on since)
