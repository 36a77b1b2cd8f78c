-- A database that is made again, as its parts say what it is.
use Rattle.std.proofs.Common.{◌≡◌, ℕ, ◌+◌, ◌-◌, ◌<◌, ◌≤◌, ◌^◌, Bool, true, false, List, [], ◌∷◌, ◌++◌, length, slice_set, Option, Some, None, is_some, refl, sym, ap, ◌∙◌, subst, arith, true≢false}
use Rattle.std.specs.Prelude.{MatchBool, MatchOption, Result, Ok, Err, IfOk, IfErr, OnOk, IsOk}
use Rattle.std.specs.Option.{SomeIff}
use Rattle.std.specs.Result.{IsErrAnd}
use Rattle.std.specs.Global.{Vec}
use Rattle.std.proofs.lemmas.Bool.{le-ltb}
use Rattle.std.proofs.lemmas.List.{length-append, set-append_left}
use Rattle.storage_current.specs.Keys.{Keyed, commit_text}
use Rattle.storage_db.specs.declared.db.active.Active.{Active}
use Rattle.storage_db.specs.declared.db.error.Error.{Error}
use Rattle.storage_db.specs.declared.db.error.Error.TheVariants.{Full, Memory}
use Rattle.storage_db.specs.declared.db.log.Log.{Log}
use Rattle.storage_db.specs.Rings.{next_key, previous}
use Rattle.storage_db.specs.Databases.{Command, Commit, Committed, Database, Delete, Put, active_at, commit, delete, done, empty, least_location, put, relinked, removed, run, updated, without_commit}
use Rattle.storage_db.specs.Logs.{IsTooMany, cleared_at}
use Rattle.storage_db.specs.Opening.{own_text}
use Rattle.storage_db.specs.Parts.{database_of, texts}
use Rattle.storage_db.specs.Replays.{HasOwn, IsDoing, IsDoneOr, IsReplayOf}
use Rattle.storage_db.proofs.Cases.{by_bool, clash, cond_yes, cond_no, match_map}
use Rattle.storage_db.proofs.Changing.{count_of_texts, same_database, same_parts, texts_more}
use Rattle.storage_db.proofs.OpeningPaths.{after, after_doing, appends, by_doing}

-- what holds of a change that was done
pub passed : {T F : Type 0} {P : Type 0} (r : Result T (Error F)) (b : Bool)
    → MatchBool b (IsOk r) (IsErrAnd r (λ error. error ≡ Memory → ⊥)) → b ≡ true → OnOk r P → P
passed (Ok x) b told is holds = holds
passed (Err y) true told is holds = absurd (true≢false (sym told))
passed (Err y) false told is holds = absurd (true≢false (sym is))

-- where the last commit stands, from how many operations there are up to it
pub record IsPlace (committed : ℕ) (before : Option ℕ) : Type 0 where
  pub none : committed ≡ 0 → before ≡ None
  pub some : 0 < committed → before ≡ Some (committed - 1)

pub place_found : (committed : ℕ) (before : Option ℕ) → SomeIff before (1 ≤ committed) (committed - 1) → IsPlace committed before
place_found committed None fails = record { none = λ _. refl; some = λ positive. absurd (fails (omega arith)) }
place_found committed (Some x) holds =
    let positive : 1 ≤ committed = holds.0 in
    record { none = λ zero. absurd (omega arith); some = λ _. ap Some holds.1 }

-- ---- the last commit of what commands leave

module _ {K W : Type 0} where
  -- a commit of all that a database has
  abbrev pub commit_now : Database K W → Option W → ℕ → Committed K W
  commit_now d metadata floor = record {
    metadata = metadata;
    entries = d.entries;
    snapshot = record { operations = d.operations; bits = d.bits; floor = floor };
  }

  -- a commit has no more operations than the database, and one that has as many is of all that it has
  abbrev pub IsWholeAt : Database K W → Committed K W → Type 0
  IsWholeAt d c = (length c.snapshot.operations ≤ length d.operations)
      × (length c.snapshot.operations ≡ length d.operations → c ≡ commit_now d c.metadata c.snapshot.floor)

  abbrev pub IsWhole : Database K W → Type 0
  IsWhole d = MatchOption d.last (Unit {0}) (IsWholeAt d)

  longer_whole : (d n : Database K W) → n.last ≡ d.last → length d.operations < length n.operations → IsWhole d → IsWhole n
  longer_whole d n same longer whole =
      subst (λ (o : Option (Committed K W)). MatchOption o (Unit {0}) (IsWholeAt n)) (sym same)
      (match_map (IsWholeAt d) (IsWholeAt n) (λ c at.
      let few : length c.snapshot.operations ≤ length d.operations = at.0 in
      (omega arith, λ as_long. absurd (omega arith))) d.last whole)

module _ {K W : Type 0} (e : Keyed K W) where
  linked_last : (d : Database K W) (o : Option (K × Active W)) (n : K) → (relinked e d o n).last ≡ d.last
  linked_last d None n = refl
  linked_last d (Some entry) n = refl

  pub put_last : (d : Database K W) (key : K) (value : W) → (put e d key value).last ≡ d.last
  put_last d key value =
      let one : Database K W = updated e d key value (next_key e.cmp d.entries key) in
      let two : Database K W = relinked e one (previous e.cmp d.entries key) key in
      by_bool (is_some (active_at e d.entries key))
      (λ held. ap (λ (x : Database K W). x.last) (cond_yes _ one two held))
      (λ fresh. ap (λ (x : Database K W). x.last) (cond_no _ one two fresh) ∙ linked_last one (previous e.cmp d.entries key) key)

  pub delete_last : (d : Database K W) (key : K) → (delete e d key).last ≡ d.last
  delete_last d key =
      let two : Database K W = relinked e (removed e d key) (previous e.cmp d.entries key) (next_key e.cmp d.entries key) in
      by_bool (is_some (active_at e d.entries key))
      (λ held. ap (λ (x : Database K W). x.last) (cond_yes _ two d held)
      ∙ linked_last (removed e d key) (previous e.cmp d.entries key) (next_key e.cmp d.entries key))
      (λ absent. ap (λ (x : Database K W). x.last) (cond_no _ two d absent))

  pub longer : (d : Database K W) (command : Command K W) → HasOwn e d command
      → length d.operations < length (done e d command).operations
  longer d command own =
      let appended = appends e d command own in
      let count : length (done e d command).operations ≡ length d.operations + length (own_text e d command ∷ appended.more)
      = ap (λ (l : List (List ℕ)). length l) appended.are ∙ length-append d.operations (own_text e d command ∷ appended.more) in
      omega arith

  done_whole : (d : Database K W) (command : Command K W) → HasOwn e d command → IsWhole d → IsWhole (done e d command)
  done_whole d (Put key value) own whole =
      longer_whole d (put e d key value) (put_last d key value) (longer d (Put key value) own) whole
  done_whole d (Delete key) own whole = longer_whole d (delete e d key) (delete_last d key) (longer d (Delete key) own) whole
  done_whole d (Commit metadata) own whole = (omega arith, λ _. refl)

  run_whole : (commands : List (Command K W)) (d : Database K W) → IsWhole d → IsWhole (run e d commands)
  run_whole [] d whole = whole
  run_whole (c ∷ commands) d whole = run_whole commands (after e d c) (by_doing e d c
      (λ doing. subst IsWhole (sym (after_doing e d c doing)) (done_whole d c doing.own whole))
      (λ idle. subst IsWhole (sym idle) whole))

  pub each_whole : (commands : List (Command K W)) → IsWhole (run e empty commands)
  each_whole commands = run_whole commands empty tt

  -- ---- a command that is done again

  module _ (log new : Log) (m n : List (K × Active W)) (last : Option (Option W × ℕ)) (d : Database K W)
      (replay : IsReplayOf log m last d) (command : Command K W) where
    abbrev pub Steps : Type 0
    Steps = (l : Option (Committed K W)) → database_of new n l ≡ done e (database_of log m l) command

    pub count_log : length log.operations.items ≡ length d.operations
    count_log = count_of_texts log ∙ ap (λ (x : Database K W). length x.operations) replay.is

    whole_step : Steps → database_of new n d.last ≡ done e d command
    whole_step steps = steps d.last ∙ ap (λ (x : Database K W). done e x command) replay.is

    count_new : Steps → length new.operations.items ≡ length (done e d command).operations
    count_new steps = count_of_texts new ∙ ap (λ (x : Database K W). length x.operations) (whole_step steps)

    pub step_done : Steps → length new.operations.items ≤ 2 ^ 62 → new.committed ≡ log.committed → HasOwn e d command
        → (done e d command).last ≡ d.last → IsDoing e d command × IsReplayOf new n last (done e d command)
    step_done steps few committed own same =
        let count : length new.operations.items ≡ length (done e d command).operations = count_new steps in
        let before : length log.operations.items ≡ length d.operations = count_log in
        let grown : length d.operations < length (done e d command).operations = longer d command own in
        let P : Option (Committed K W) → Type 0 = λ o. MatchOption o ((new.committed ≡ 0) × (last ≡ None)) (λ c. (0 < new.committed)
        × (length c.snapshot.operations ≡ new.committed) × (last ≡ Some (c.metadata, c.snapshot.floor))) in
        let Q : ℕ → Type 0 = λ k. MatchOption d.last ((k ≡ 0) × (last ≡ None)) (λ c. (0 < k)
        × (length c.snapshot.operations ≡ k) × (last ≡ Some (c.metadata, c.snapshot.floor))) in (
          record {
            few = le-ltb _ _ (subst (λ (k : ℕ). k ≤ 2 ^ 62) count few);
            own = own;
          },
          record {
            is = ap (λ (l : Option (Committed K W)). database_of new n l) same ∙ whole_step steps;
            last_is = subst P (sym same) (subst Q (sym committed) replay.last_is);
            settled = λ all. absurd (omega (arith, log.within));
          },
        )

    pub step_refused : {F : Type 0} (error : Error F) → ((l : Option (Committed K W)) → IsTooMany (length log.operations.items)
        (length (done e (database_of log m l) command).operations) error)
        → (error ≡ Memory → ⊥) → IsDoing e d command → ⊥
    step_refused {F} error why other doing =
        let P : Database K W → Type 0 = λ x. IsTooMany (length log.operations.items) (length (done e x command).operations) error in
        let at : P d = subst P replay.is (why d.last) in
        other (at ∙ cond_no _ (Full (length log.operations.items)) Memory doing.few)

    -- as a call answered
    pub step_answered : {F E : Type 0} (r : Result (Unit {0}) (Error F)) (did : Result Bool E)
        → IfOk did (λ b. MatchBool b (IsOk r) (IsErrAnd r (λ error. error ≡ Memory → ⊥)))
        → OnOk r Steps → length new.operations.items ≤ 2 ^ 62 → new.committed ≡ log.committed
        → IfErr r (λ error. (l : Option (Committed K W)) → IsTooMany (length log.operations.items)
        (length (done e (database_of log m l) command).operations) error)
        → HasOwn e d command → (done e d command).last ≡ d.last
        → IfOk did (IsDoneOr e new n last d command)
    step_answered r (Err x) told ok few committed why own same = tt
    step_answered (Ok x) (Ok true) told ok few committed why own same = step_done ok few committed own same
    step_answered (Err y) (Ok true) told ok few committed why own same = absurd (true≢false (sym told))
    step_answered (Ok x) (Ok false) told ok few committed why own same = absurd told
    step_answered (Err y) (Ok false) told ok few committed why own same = step_refused y why told

  -- a deletion of a key that is not active is none that can be done
  pub absent_not_done : (log : Log) (m : List (K × Active W)) (last : Option (Option W × ℕ)) (d : Database K W)
      → IsReplayOf log m last d → (key : K) → is_some (active_at e m key) ≡ false → IsDoing e d (Delete key) → ⊥
  absent_not_done log m last d replay key absent doing =
      clash _ doing.own (ap (λ (x : Database K W). is_some (active_at e x.entries key)) (sym replay.is) ∙ absent)

  -- one of a key that is active has an operation of its own
  pub held_own : (log : Log) (m : List (K × Active W)) (last : Option (Option W × ℕ)) (d : Database K W)
      → IsReplayOf log m last d → (key : K) → is_some (active_at e m key) ≡ true → HasOwn e d (Delete key)
  held_own log m last d replay key held =
      ap (λ (x : Database K W). is_some (active_at e x.entries key)) (sym replay.is) ∙ held

  -- room that is made for more changes nothing
  pub room_replay : (log room : Log) (m : List (K × Active W)) (last : Option (Option W × ℕ)) (d : Database K W)
      → room.operations.items ≡ log.operations.items → room.bits.items ≡ log.bits.items → room.committed ≡ log.committed
      → room.cleared.items ≡ log.cleared.items → IsReplayOf log m last d → IsReplayOf room m last d
  room_replay log room m last d operations bits committed cleared replay =
      let Q : ℕ → Type 0 = λ k. MatchOption d.last ((k ≡ 0) × (last ≡ None)) (λ c. (0 < k)
      × (length c.snapshot.operations ≡ k) × (last ≡ Some (c.metadata, c.snapshot.floor))) in
      record {
        is = same_database log room operations bits m d.last ∙ replay.is;
        last_is = subst Q (sym committed) replay.last_is;
        settled = λ all. cleared ∙ replay.settled
            (sym committed ∙ all ∙ ap (λ (l : List (Vec ℕ)). length l) operations);
      }

  -- ---- a commit

  module _ (log new : Log) (m : List (K × Active W)) (last : Option (Option W × ℕ)) (d : Database K W)
      (replay : IsReplayOf log m last d) (metadata : Option W) (floor : ℕ) (bytes : Vec ℕ) (before : Option ℕ) where
    place_cleared : (o : Option (Committed K W)) → MatchOption o ((log.committed ≡ 0) × (last ≡ None)) (λ c. (0 < log.committed)
        × (length c.snapshot.operations ≡ log.committed) × (last ≡ Some (c.metadata, c.snapshot.floor)))
        → IsPlace log.committed before → cleared_at before (log.bits.items ++ true ∷ []) ≡ without_commit o log.bits.items ++ true ∷ []
    place_cleared None last_is place =
        ap (λ (b : Option ℕ). cleared_at b (log.bits.items ++ true ∷ [])) (place.none last_is.0)
    place_cleared (Some c) last_is place =
        let within : log.committed - 1 < length log.bits.items = omega (arith, last_is.0, log.within, log.each) in
        ap (λ (b : Option ℕ). cleared_at b (log.bits.items ++ true ∷ [])) (place.some last_is.0)
        ∙ set-append_left log.bits.items (true ∷ []) (log.committed - 1) false within
        ∙ ap (λ (k : ℕ). slice_set log.bits.items (k - 1) false ++ true ∷ []) (sym last_is.1)

    pub commit_done : length log.operations.items + 1 ≤ 2 ^ 62
        → floor ≡ least_location m (length log.operations.items) → bytes.items ≡ commit_text e metadata floor
        → IsPlace log.committed before
        → new.operations.items ≡ log.operations.items ++ bytes ∷ [] → new.bits.items ≡ cleared_at before (log.bits.items ++ true ∷ [])
        → new.committed ≡ length new.operations.items → new.cleared.items ≡ []
        → IsDoing e d (Commit metadata) × IsReplayOf new m (Some (metadata, floor)) (done e d (Commit metadata))
    commit_done few floor_is written place operations bits committed cleared =
        let d0 : Database K W = database_of log m d.last in
        let floors : floor ≡ least_location m (length (texts log)) = floor_is ∙ ap (least_location m) (count_of_texts log) in
        let all : texts new ≡ (commit e d0 metadata).operations
        = texts_more log new bytes operations ∙ ap (λ (t : List ℕ). texts log ++ t ∷ []) (written ∙ ap (commit_text e metadata) floors) in
        let all_bits : new.bits.items ≡ (commit e d0 metadata).bits = bits ∙ place_cleared d.last replay.last_is place in
        let count : length new.operations.items ≡ length (commit e d0 metadata).operations
        = count_of_texts new ∙ ap (λ (l : List (List ℕ)). length l) all in
        let one : length new.operations.items ≡ length log.operations.items + 1
        = ap (λ (l : List (Vec ℕ)). length l) operations ∙ length-append log.operations.items (bytes ∷ []) in
        let P : Database K W → Type 0
        = λ x. IsDoing e x (Commit metadata) × IsReplayOf new m (Some (metadata, floor)) (commit e x metadata) in
        let pair : Option W → ℕ → Option W × ℕ = λ v l. (v, l) in
        subst P replay.is (
          record {
            few = le-ltb _ _ (subst (λ (k : ℕ). k ≤ 2 ^ 62) (sym one ∙ count) few);
            own = tt;
          },
          record {
            is = same_parts _ _ _ _ m m (commit e d0 metadata).last all all_bits refl;
            last_is = (omega arith, sym count ∙ sym committed, ap (λ (f : ℕ). Some (pair metadata f)) floors);
            settled = λ _. cleared;
          },
        )
