-- Where operations end that have been followed, and where they stop.
use Rattle.std.proofs.Common.{◌≡◌, ℕ, ◌+◌, ◌<◌, List, [], ◌∷◌, ◌++◌, length, take, drop, inl, inr, Option, Some, None, vec_len, refl, sym, ap, ◌∙◌, subst, arith, append_assoc, append-nil}
use Rattle.std.specs.Prelude.{MatchOption, IsSomeAnd, Result, Ok, Err, IfErr}
use Rattle.std.proofs.lemmas.Bool.{cases_lt}
use Rattle.std.proofs.Math.Seq.{take-append_seam, take-length}
use Rattle.std.proofs.lemmas.List.{append_cancel_left, length-append, take-append-drop, take_all}
use Rattle.storage_codec.specs.Digests.{HashFunction}
use Rattle.storage_current.specs.Extended.{cleared}
use Rattle.storage_current.specs.Keys.{Keyed, IsKeyed}
use Rattle.storage_current.specs.Snapshots.{Grafting, Snapshot}
use Rattle.storage_db.specs.declared.db.active.Active.{Active}
use Rattle.storage_db.specs.declared.db.log.Log.{Log}
use Rattle.storage_db.specs.declared.db.ordered.opening.OpenError.{OpenError}
use Rattle.storage_db.specs.declared.db.ordered.opening.OpenError.TheVariants.{NotALog, Memory}
use Rattle.storage_db.specs.Databases.{Command, Committed, Database, empty, run}
use Rattle.storage_db.specs.Kept.{AreFirst, KeptCommit, Keeps, KeepsCommit, bits_of, forgetting, pruned_of}
use Rattle.storage_db.specs.Opening.{Begins, IsCommitted, IsOpenRefused, IsOpened, IsRefusedAt, IsSame, IsSameCommit, Leave}
use Rattle.storage_db.specs.Parts.{IsCommitOf, IsSince, database_of, kept_of}
use Rattle.storage_db.specs.Replays.{AreReadAlike, IsPath, IsReplayOf}
use Rattle.storage_db.proofs.Cases.{some_not_none}
use Rattle.storage_db.proofs.Changing.{count_of_texts}
use Rattle.storage_db.proofs.OpeningPaths.{reached_from, run_idle}
use Rattle.storage_db.proofs.OpeningReplays.{IsWhole, IsWholeAt, commit_now, each_whole}

none_longer : (a m : List (List ℕ)) → a ≡ a ++ m → m ≡ []
none_longer a m same = append_cancel_left a m [] (sym same ∙ sym (append-nil a))

none_first : (m n : List (List ℕ)) → m ++ n ≡ [] → m ≡ []
none_first [] n e = refl
none_first (x ∷ m) n e = absurd (cc)

positive : {A : Type 0} (o : Option A) (n : ℕ) → 0 < n → MatchOption o (Unit {0}) (λ _. 0 < n)
positive None n some = tt
positive (Some p) n some = some

none_by_count : {A : Type 0} (l : List A) → length l ≡ 0 → l ≡ []
none_by_count [] e = refl
none_by_count (x ∷ l) e = absurd (omega arith)

module _ {K W : Type 0} (e : Keyed K W) (reads : List ℕ → Command K W → Type 0) where
  -- ---- an operation that begins nothing

  module _ (before : List (List ℕ)) (d : Database K W) (path : IsPath e reads before d) where
    begun : (operations : List (List ℕ)) → operations ≡ before → Begins e reads operations
    begun operations same = record {
      commands = path.commands;
      more = path.rest;
      read = path.read;
      leave = ap (λ (x : Database K W). x.operations) path.leave ∙ path.begins
          ∙ ap (λ (x : List (List ℕ)). x ++ path.rest) (sym same);
    }

    pub refused_within : (all : List (List ℕ)) (own : List ℕ) (later : List (List ℕ)) → all ≡ before ++ own ∷ later
        → (Begins e reads (before ++ own ∷ []) → ⊥) → IsRefusedAt e reads all (length before)
    refused_within all own later is none =
        let count : length all ≡ length before + length (own ∷ later)
        = ap (λ (l : List (List ℕ)). length l) is ∙ length-append before (own ∷ later) in
        let first : take (length before) all ≡ before
        = ap (take (length before)) is ∙ take-append_seam before (own ∷ later) in
        let one_more : length before + 1 ≡ length (before ++ own ∷ []) = sym (length-append before (own ∷ [])) in
        let both : take (length before + 1) all ≡ before ++ own ∷ []
        = ap (λ (n : ℕ). take n all) one_more
        ∙ ap (take (length (before ++ own ∷ []))) (is ∙ sym (append_assoc before (own ∷ []) later))
        ∙ take-append_seam (before ++ own ∷ []) later in
        record {
          within = omega arith;
          before = begun (take (length before) all) first;
          apart = λ within begins. none (subst (λ (l : List (List ℕ)). Begins e reads l) both begins);
          unfinished = λ ended. absurd (omega arith);
        }

    refused_after : ((commands : List (Command K W)) → Leave e reads before commands → ⊥)
        → IsRefusedAt e reads before (length before)
    refused_after none = record {
      within = omega arith;
      before = begun (take (length before) before) (take-length before);
      apart = λ within. absurd (omega arith);
      unfinished = λ _. none;
    }

    -- ---- operations that end within a command

    all_of : path.rest ≡ [] → d.operations ≡ before
    all_of none = path.begins ∙ ap (λ (x : List (List ℕ)). before ++ x) none ∙ append-nil before

    -- where commands leave these, they are all that have been followed
    pub left_all : (commands : List (Command K W)) → Leave e reads before commands → d.operations ≡ before
    left_all commands leave =
        let forced = path.forced commands [] leave.read (leave.leave ∙ sym (append-nil before)) in
        let longer : before ≡ before ++ (path.rest ++ forced.0)
        = sym leave.leave ∙ forced.1 ∙ ap (λ (x : List (List ℕ)). x ++ forced.0) path.begins
        ∙ append_assoc before path.rest forced.0 in
        all_of (none_first path.rest forced.0 (none_longer before (path.rest ++ forced.0) longer))

    pub refused_cut : (length d.operations ≡ length before → ⊥) → IsRefusedAt e reads before (length before)
    refused_cut apart = refused_after (λ commands leave. apart (ap (λ (l : List (List ℕ)). length l) (left_all commands leave)))

    pub all_followed : length d.operations ≡ length before → d.operations ≡ before
    all_followed same =
        let count : length d.operations ≡ length before + length path.rest
        = ap (λ (l : List (List ℕ)). length l) path.begins ∙ length-append before path.rest in
        all_of (none_by_count path.rest (omega arith))

-- ---- operations that end after the last commit

module _ {K W Y : Type 0} (e : Keyed K W) (seen : W → Y) where
  by_both : (d c : Database K W) → IsSame e seen d c → (o p : Option (Committed K W))
      → MatchOption o (p ≡ None) (λ x. IsSomeAnd p (IsSameCommit e seen x))
      → MatchOption p (c.operations ≡ []) (λ x. x.snapshot.operations ≡ c.operations)
      → MatchOption o (d.operations ≡ []) (λ x. x.snapshot.operations ≡ d.operations)
  by_both d c same None None alike committed = sym same.operations ∙ committed
  by_both d c same None (Some y) alike committed = absurd (some_not_none y alike)
  by_both d c same (Some x) None alike committed = absurd alike
  by_both d c same (Some x) (Some y) alike committed =
      ap (λ (s : Snapshot). s.operations) (sym alike.snapshot) ∙ committed ∙ same.operations

  committed_same : (d c : Database K W) → IsSame e seen d c → IsCommitted c → IsCommitted d
  committed_same d c same committed = by_both d c same d.last c.last same.last committed

module _ {K W : Type 0} where
  committed_count : (log : Log) (last : Option (Option W × ℕ)) (operations : List (List ℕ)) (o : Option (Committed K W))
      → MatchOption o ((log.committed ≡ 0) × (last ≡ None)) (λ c. (0 < log.committed)
      × (length c.snapshot.operations ≡ log.committed) × (last ≡ Some (c.metadata, c.snapshot.floor)))
      → MatchOption o (operations ≡ []) (λ c. c.snapshot.operations ≡ operations) → log.committed ≡ length operations
  committed_count log last operations None is committed = is.0 ∙ sym (ap (λ (l : List (List ℕ)). length l) committed)
  committed_count log last operations (Some c) is committed =
      sym is.1 ∙ ap (λ (l : List (List ℕ)). length l) committed

  -- where there is a last commit there are operations
  some_of : (log : Log) (last : Option (Option W × ℕ)) (o : Option (Committed K W))
      → MatchOption o ((log.committed ≡ 0) × (last ≡ None)) (λ c. (0 < log.committed)
      × (length c.snapshot.operations ≡ log.committed) × (last ≡ Some (c.metadata, c.snapshot.floor)))
      → MatchOption last (Unit {0}) (λ _. 0 < length log.operations.items)
  some_of log last None is =
      subst (λ (l : Option (Option W × ℕ)). MatchOption l (Unit {0}) (λ _. 0 < length log.operations.items)) (sym is.1) tt
  some_of log last (Some c) is = positive last (length log.operations.items) (omega (arith, is.0, log.within))

  some_within : (log : Log) (last : Option (Option W × ℕ)) (o : Option (Committed K W))
      → MatchOption o ((log.committed ≡ 0) × (last ≡ None)) (λ c. (0 < log.committed)
      × (length c.snapshot.operations ≡ log.committed) × (last ≡ Some (c.metadata, c.snapshot.floor)))
      → MatchOption last (Unit {0}) (λ _. 0 < vec_len log.operations)
  some_within log last None is =
      subst (λ (l : Option (Option W × ℕ)). MatchOption l (Unit {0}) (λ _. 0 < vec_len log.operations)) (sym is.1) tt
  some_within log last (Some c) is = positive last (vec_len log.operations) (omega (arith, is.0, log.within))

  pub some_vec : (log : Log) (m : List (K × Active W)) (last : Option (Option W × ℕ)) (d : Database K W)
      → IsReplayOf log m last d → MatchOption last (Unit {0}) (λ _. 0 < vec_len log.operations)
  some_vec log m last d replay = some_within log last d.last replay.last_is

  pub some_operations : (log : Log) (m : List (K × Active W)) (last : Option (Option W × ℕ)) (d : Database K W)
      → IsReplayOf log m last d → MatchOption last (Unit {0}) (λ _. 0 < length log.operations.items)
  some_operations log m last d replay = some_of log last d.last replay.last_is

  committed_all : (log : Log) (last : Option (Option W × ℕ)) (d : Database K W) (o : Option (Committed K W))
      → MatchOption o ((log.committed ≡ 0) × (last ≡ None)) (λ c. (0 < log.committed)
      × (length c.snapshot.operations ≡ log.committed) × (last ≡ Some (c.metadata, c.snapshot.floor)))
      → MatchOption o (Unit {0}) (IsWholeAt d) → log.committed ≡ length d.operations
      → MatchOption o (d.operations ≡ []) (λ c. c.snapshot.operations ≡ d.operations)
  committed_all log last d None is whole all = none_by_count d.operations (sym all ∙ is.0)
  committed_all log last d (Some c) is whole all =
      ap (λ (x : Committed K W). x.snapshot.operations) (whole.1 (is.1 ∙ all))

-- ---- operations that end with the last commit

module _ {K W Y : Type 0} (e : Keyed K W) (seen : W → Y) (log : Log) (m : List (K × Active W)) (last : Option (Option W × ℕ))
    (d : Database K W) (replay : IsReplayOf log m last d) (whole : IsWhole d)
    (full : log.committed ≡ length log.operations.items) where
  count_all : log.committed ≡ length d.operations
  count_all = full ∙ count_of_texts log ∙ ap (λ (x : Database K W). length x.operations) replay.is

  pub settled : IsCommitted d
  settled = committed_all log last d d.last replay.last_is whole count_all

  module _ (h : HashFunction) (g : Grafting) (kept : Option (KeptCommit K W))
      (made : MatchOption last (kept ≡ None) (λ p. IsSomeAnd kept (IsCommitOf e seen h g log m None p.0 p.1))) where
    abbrev AreKept : Option (Committed K W) → Option (KeptCommit K W) → Type 0
    AreKept o k = MatchOption o (k ≡ None) (λ commit. IsSomeAnd k (λ c. KeepsCommit e seen h g c commit))

    made_at : (l : Option (Option W × ℕ)) → last ≡ l
        → MatchOption l (kept ≡ None) (λ p. IsSomeAnd kept (IsCommitOf e seen h g log m None p.0 p.1))
    made_at l same = subst (λ (x : Option (Option W × ℕ)). MatchOption x (kept ≡ None)
        (λ p. IsSomeAnd kept (IsCommitOf e seen h g log m None p.0 p.1))) same made

    keeps_now : (o : Option (Committed K W)) (metadata : Option W) (floor : ℕ) (k : Option (KeptCommit K W))
        → IsSomeAnd k (IsCommitOf e seen h g log m None metadata floor)
        → AreKept (Some (commit_now (database_of log m o) metadata floor)) k
    keeps_now o metadata floor None is_made = absurd is_made
    keeps_now o metadata floor (Some c) is_made = record {
      metadata = is_made.metadata_is;
      floor = is_made.floor_is;
      count = is_made.count ∙ count_of_texts log;
      pruned = omega (arith, is_made.pruned);
      entries = is_made.copies;
      whole = is_made.snapshot.0;
      snapshot = is_made.snapshot.1;
      bits = is_made.snapshot.2;
    }

    last_kept : (o : Option (Committed K W)) → MatchOption o ((log.committed ≡ 0) × (last ≡ None)) (λ c. (0 < log.committed)
        × (length c.snapshot.operations ≡ log.committed) × (last ≡ Some (c.metadata, c.snapshot.floor)))
        → MatchOption o (Unit {0}) (IsWholeAt d) → AreKept o kept
    last_kept None last_is wholly = made_at None last_is.1
    last_kept (Some c) last_is wholly =
        let now : commit_now d c.metadata c.snapshot.floor ≡ c
        = sym (wholly.1 (last_is.1 ∙ count_all)) in
        let parts : commit_now (database_of log m d.last) c.metadata c.snapshot.floor ≡ c
        = ap (λ (x : Database K W). commit_now x c.metadata c.snapshot.floor) replay.is ∙ now in
        subst (λ (x : Committed K W). AreKept (Some x) kept) parts
        (keeps_now d.last c.metadata c.snapshot.floor kept (made_at (Some (c.metadata, c.snapshot.floor)) last_is.2))

    first_all : (o : Option (Committed K W)) → MatchOption o (d.operations ≡ []) (λ c. c.snapshot.operations ≡ d.operations)
        → MatchOption o (Unit {0}) (AreFirst d.operations)
    first_all None committed_is = tt
    first_all (Some c) committed_is =
        committed_is ∙ sym (take-length d.operations)
        ∙ ap (λ (l : List (List ℕ)). take (length l) d.operations) (sym committed_is)

    -- nothing is forgotten
    none_pruned : (l : Option (Option W × ℕ)) (k : Option (KeptCommit K W))
        → MatchOption l (k ≡ None) (λ p. IsSomeAnd k (IsCommitOf e seen h g log m None p.0 p.1)) → pruned_of k ≡ 0
    none_pruned None k is_made = ap pruned_of is_made
    none_pruned (Some p) None is_made = absurd is_made
    none_pruned (Some p) (Some c) is_made = is_made.pruned

    pub keeps : Keeps e seen h g (kept_of log m kept) d
    keeps = record {
      operations = ap (λ (x : Database K W). x.operations) replay.is
          ∙ ap (λ (n : ℕ). forgetting n d.operations) (sym (none_pruned last kept made));
      bits = ap (λ (x : Database K W). x.bits) replay.is;
      entries = ap (λ (x : Database K W). x.entries) replay.is;
      last = last_kept d.last replay.last_is whole;
      prefix = first_all d.last settled;
    }

    since_at : (l : Option (Option W × ℕ)) (k : Option (KeptCommit K W))
        → MatchOption l (k ≡ None) (λ p. IsSomeAnd k (IsCommitOf e seen h g log m None p.0 p.1))
        → MatchOption l (Unit {0}) (λ _. 0 < length log.operations.items) → IsSince log k
    since_at None k is_made some = subst (λ (x : Option (KeptCommit K W)). IsSince log x) (sym is_made) tt
    since_at (Some p) None is_made some = absurd is_made
    since_at (Some p) (Some c) is_made some = record {
      some = subst (λ (n : ℕ). 0 < n) (sym is_made.count) some;
      committed = full ∙ sym is_made.count;
      cleared = take_all log.committed log.bits.items (omega (arith, log.each, full)) ∙ sym is_made.snapshot.2
          ∙ ap (λ (x : List ℕ). cleared x (bits_of c)) (sym (replay.settled full));
    }

    pub since_kept : IsSince log kept
    since_kept = since_at last kept made (some_operations log m last d replay)

-- ---- what is opened, and what is refused at the end

module _ {K W Y : Type 0} (e : Keyed K W) (seen : W → Y) (is : IsKeyed e) (reads : List ℕ → Command K W → Type 0)
    (one : AreReadAlike e seen reads) (all : List (List ℕ)) (d : Database K W) (path : IsPath e reads all d) where
  -- other commands that leave all of them leave the same
  same_left : d.operations ≡ all → (others : List (Command K W)) → Leave e reads all others
      → IsSame e seen d (run e empty others)
  same_left at others leave =
      let reached = reached_from e seen is reads one all d path at others leave.read []
      (leave.leave ∙ sym (append-nil all)) in
      let idle : run e reached.reached reached.later ≡ reached.reached = run_idle e reached.later reached.reached
      (ap (λ (x : Database K W). x.operations) reached.whole_is ∙ leave.leave ∙ sym at ∙ sym reached.same.operations) in
      subst (λ (x : Database K W). IsSame e seen d x) (sym idle ∙ reached.whole_is) reached.same

  module _ (log : Log) (m : List (K × Active W)) (last : Option (Option W × ℕ)) (replay : IsReplayOf log m last d) where
    count_is : length log.operations.items ≡ length d.operations
    count_is = count_of_texts log ∙ ap (λ (x : Database K W). length x.operations) replay.is

    -- they end after the last commit
    pub refused_uncommitted : (log.committed ≡ length all → ⊥) → IsRefusedAt e reads all (length all)
    refused_uncommitted apart = refused_after e reads all d path (λ others leave.
        let at : d.operations ≡ all = left_all e reads all d path others leave in
        apart (committed_count log last d.operations d.last replay.last_is
        (committed_same e seen d (run e empty others) (same_left at others leave) leave.committed)
        ∙ ap (λ (l : List (List ℕ)). length l) at))

    -- they end within a command
    pub refused_within_command : (length log.operations.items ≡ length all → ⊥) → IsRefusedAt e reads all (length all)
    refused_within_command apart = refused_cut e reads all d path (λ same. apart (count_is ∙ same))

    module _ (counted : length log.operations.items ≡ length all) (committed : log.committed ≡ length all) where
      at : d.operations ≡ all
      at = all_followed e reads all d path (sym count_is ∙ counted)

      whole : IsWhole d
      whole = subst IsWhole path.leave (each_whole e path.commands)

      full : log.committed ≡ length log.operations.items
      full = committed ∙ sym counted

      left : Leave e reads all path.commands
      left = record {
        read = path.read;
        leave = ap (λ (x : Database K W). x.operations) path.leave ∙ at;
        committed = subst IsCommitted (sym path.leave) (settled e seen log m last d replay whole full);
      }

      module _ (h : HashFunction) (g : Grafting) (kept : Option (KeptCommit K W))
          (made : MatchOption last (kept ≡ None) (λ p. IsSomeAnd kept (IsCommitOf e seen h g log m None p.0 p.1))) where
        pub opened : IsOpened e reads seen h g all (kept_of log m kept)
        opened = record {
          commands = path.commands;
          log = left;
          keeps = subst (λ (x : Database K W). Keeps e seen h g (kept_of log m kept) x) (sym path.leave)
              (keeps e seen log m last d replay whole full h g kept made);
          same = λ others leave. subst (λ (x : Database K W). IsSame e seen x (run e empty others)) (sym path.leave)
              (same_left at others leave);
        }

-- ---- operations that commands leave

module _ {K W : Type 0} (e : Keyed K W) (reads : List ℕ → Command K W → Type 0) (operations : List (List ℕ))
    (commands : List (Command K W)) (leave : Leave e reads operations commands) where
  -- they are refused nowhere
  not_refused : (place : ℕ) → IsRefusedAt e reads operations place → ⊥
  not_refused place refused = elim (cases_lt place (length operations)) [
    | inl within ↦ refused.apart within (record {
      commands = commands;
      more = drop (place + 1) operations;
      read = leave.read;
      leave = leave.leave ∙ sym (take-append-drop (place + 1) operations);
    })
    | inr past ↦ refused.unfinished (omega (arith, refused.within)) commands leave
  ]

  pub only_memory : {T F : Type 0} (r : Result T (OpenError F)) → IfErr r (IsOpenRefused e reads operations)
      → IfErr r (λ error. error ≡ Memory)
  only_memory (Ok x) why = tt
  only_memory (Err (NotALog place)) why = absurd (not_refused place why)
  only_memory (Err Memory) why = refl
