-- A database in memory, once an active update was put again or that was refused.
use Rattle.std.proofs.Common.{◌≡◌, ℕ, ◌+◌, ◌≤◌, ◌^◌, Bool, true, false, List, length, Option, None, is_some, nat_lt, refl, sym, ap, ◌∙◌, subst, arith}
use Rattle.std.specs.Global.{Vec}
use Rattle.std.proofs.lemmas.List.{length-append}
use Rattle.std.specs.Prelude.{Result, Ok, Err, OnOk, OnErr, IfErr}
use Rattle.storage_codec.specs.Digests.{HashFunction}
use Rattle.storage_current.specs.Keys.{Keyed, IsKeyed}
use Rattle.storage_current.specs.Snapshots.{Grafting}
use Rattle.storage_db.specs.declared.db.active.Active.{Active}
use Rattle.storage_db.specs.declared.db.log.Log.{Log}
use Rattle.storage_db.specs.declared.db.ordered.compact.CompactError.{CompactError}
use Rattle.storage_db.specs.declared.db.ordered.compact.CompactError.TheVariants.{NotRead, Refused}
use Rattle.storage_db.specs.Compacting.{IsNotMoved, PutsAgain}
use Rattle.storage_db.specs.Databases.{Command, Commit, Committed, Database, done}
use Rattle.storage_db.specs.Kept.{HeldCommit, IsDone, IsMade, KeptDatabase, Keeps, pruned_of}
use Rattle.storage_db.specs.Logs.{IsTooMany}
use Rattle.storage_db.specs.Notes.{AreAlike}
use Rattle.storage_db.specs.Parts.{GoesOn, IsSince, database_of, kept_of, texts}
use Rattle.storage_db.proofs.Commands.{command_err, command_made, command_ok}
use Rattle.storage_db.proofs.Changing.{count_of_texts, same_parts}
use Rattle.storage_db.proofs.Forgetting.{forgetting_get, forgetting_length, lacking, pruned_within}
use Rattle.storage_db.proofs.Going.{since_on}
use Rattle.storage_db.proofs.Remembering.{since_any, with_all}

-- why it was refused where the first operations are forgotten, and the active update stands behind them
not_lacking : {K W F : Type 0} (e : Keyed K W) (reads : List ℕ → Command K W → Type 0) (n : ℕ) (d : Database K W) (location : ℕ)
    (error : CompactError F) → n ≤ length d.operations → n ≤ location → IsNotMoved e reads (lacking n d) location error
    → IsNotMoved e reads d location error
not_lacking e reads n d location (NotRead place) few behind why = (
  why.0,
  subst (λ (k : ℕ). nat_lt (2 ^ 62) (k + 1) ≡ false) (forgetting_length n d.operations few) why.1,
  λ operation there. why.2 operation (forgetting_get n location d.operations behind ∙ there),
)
not_lacking e reads n d location (Refused error) few behind why =
    subst (λ (k : ℕ). IsTooMany k (k + 1) error) (forgetting_length n d.operations few) why

module _ {K W Y : Type 0} (e : Keyed K W) (seen : W → Y) (is : IsKeyed e) (h : HashFunction) (g : Grafting) (log after : Log)
    (m n es fs : List (K × Active W)) (last : Option (HeldCommit W)) (since : IsSince log (with_all es last)) (location : ℕ)
    (few : length after.operations.items ≤ 2 ^ 62) (on : GoesOn log after) (noting : Bool) (told : noting ≡ is_some last) where
  abbrev before : KeptDatabase K W
  before = kept_of log m (with_all es last)

  abbrev now : KeptDatabase K W
  now = kept_of after n (with_all fs last)

  -- the command that puts it again was done
  abbrev Does : Type 0
  Does = (command : Command K W) × PutsAgain e m location command
      × ((l : Option (Committed K W)) → database_of after n l ≡ done e (database_of log m l) command)

  abbrev Stays : Type 0
  Stays = (l : Option (Committed K W)) → database_of after n l ≡ database_of log m l

  abbrev IsAgainDone : KeptDatabase K W → Type 0
  IsAgainDone old = (command : Command K W) × PutsAgain e old.entries location command × IsDone e seen h g old now command

  pub again_ok : {T E : Type 0} (r : Result T E) → OnOk r Does → OnOk r (noting ≡ true → AreAlike e.cmp es fs)
      → (old : KeptDatabase K W) → before ≡ old → OnOk r (IsAgainDone old)
  again_ok {T} {E} (Ok x) does alike old view =
      subst (λ (k : KeptDatabase K W). IsAgainDone k) view (
        does.0,
        does.1,
        command_ok e seen is h g does.0 log after m n es fs last {E = E} (Ok x) since does.2 few on noting told alike tt tt before refl,
      )
  again_ok (Err y) does alike old view = tt

  pub again_err : {T E : Type 0} (r : Result T E) → OnErr r Stays → OnErr r (fs ≡ es) → (old : KeptDatabase K W) → before ≡ old
      → OnErr r (now ≡ old)
  again_err (Ok x) same stays old view = tt
  again_err {T} {E} (Err y) same stays old view =
      command_err e seen is h g (Commit None) log after m n es fs last {T = T} (Err y) since tt few on noting told tt same stays old view

  pub again_made : {T E : Type 0} (r : Result T E) → OnOk r Does → OnOk r (noting ≡ true → AreAlike e.cmp es fs) → OnErr r Stays
      → OnErr r (fs ≡ es) → IsMade e seen h g before → IsMade e seen h g now
  again_made {T} {E} (Ok x) does alike same stays made =
      command_made e seen is h g does.0 log after m n es fs last {E = E} (Ok x) since does.2 few on noting told alike tt tt made
  again_made {T} {E} (Err y) does alike same stays made =
      command_made e seen is h g (Commit None) log after m n es fs last {T = T} (Err y) since tt few on noting told tt same stays made

  -- the operations only grow
  pub no_fewer : length (texts log) ≤ length (texts after)
  no_fewer =
      let grown : length after.operations.items ≡ length log.operations.items + length on.more
      = ap (λ (l : List (Vec ℕ)). length l) on.operations ∙ length-append log.operations.items on.more in
      omega (arith, grown, count_of_texts log, count_of_texts after)

  pub again_since : IsSince after (with_all fs last)
  again_since = since_any after es fs last (since_on log after (with_all es last) on since)

  -- why it was refused, of each database that is kept
  pub again_why : (reads : List ℕ → Command K W → Type 0) {T F : Type 0} (r : Result T (CompactError F))
      → IfErr r (λ error. (l : Option (Committed K W)) → IsNotMoved e reads (database_of log m l) location error)
      → pruned_of before.last ≤ location → (old : KeptDatabase K W) → before ≡ old
      → IfErr r (λ error. (d : Database K W) → Keeps e seen h g old d → IsNotMoved e reads d location error)
  again_why reads (Ok x) why behind old view = tt
  again_why reads (Err error) why behind old view = λ d keeps.
      let inside : Keeps e seen h g before d = subst (λ (k : KeptDatabase K W). Keeps e seen h g k d) (sym view) keeps in
      not_lacking e reads (pruned_of before.last) d location error (pruned_within e seen h g before d inside) behind
      (subst (λ (x : Database K W). IsNotMoved e reads x location error)
      (same_parts _ _ _ _ _ _ d.last inside.operations inside.bits inside.entries) (why d.last))
