-- Commands that leave the same operations are alike, one after the other.
use Rattle.std.proofs.Common.{◌≡◌, ℕ, ◌+◌, List, [], ◌∷◌, ◌++◌, length, cond, Option, Some, None, is_some, refl, sym, ap, ◌∙◌, subst, arith, append_assoc, append-nil}
use Rattle.std.proofs.lemmas.List.{append_cancel_left, length-append}
use Rattle.storage_current.specs.Keys.{Keyed, IsKeyed}
use Rattle.storage_db.specs.declared.db.active.Active.{Active}
use Rattle.storage_db.specs.Rings.{next_key, previous}
use Rattle.storage_db.specs.Databases.{Command, Commit, Database, Delete, Put, active_at, done, empty, is_full, relinked, removed, run, updated}
use Rattle.storage_db.specs.Opening.{AreRead, Begins, IsSame, own_text}
use Rattle.storage_db.specs.Replays.{AreReadAlike, HasOwn, IsAlike, IsDoing, IsPath}
use Rattle.storage_db.proofs.Cases.{by_bool, cond_yes, cond_no, heads}
use Rattle.storage_db.proofs.Made.{run_more}
use Rattle.storage_db.proofs.OpeningSame.{done_same, doing_same, empty_same, own_same}

-- ---- what a command appends

-- operations with more behind them
pub record IsMore (operations longer : List (List ℕ)) : Type 0 where
  pub more : List (List ℕ)
  pub are : longer ≡ operations ++ more

more_none : (operations : List (List ℕ)) → IsMore operations operations
more_none operations = record { more = []; are = sym (append-nil operations) }

more_trans : (a b c : List (List ℕ)) → IsMore a b → IsMore b c → IsMore a c
more_trans a b c first second = record {
  more = first.more ++ second.more;
  are = second.are ∙ ap (λ (x : List (List ℕ)). x ++ second.more) first.are ∙ append_assoc a first.more second.more;
}

-- the same with this one first
pub record IsMoreFrom (operations : List (List ℕ)) (own : List ℕ) (longer : List (List ℕ)) : Type 0 where
  pub more : List (List ℕ)
  pub are : longer ≡ operations ++ own ∷ more

not_longer : (a : List (List ℕ)) (t : List ℕ) (m : List (List ℕ)) → a ≡ a ++ t ∷ m → ⊥
not_longer a t m same =
    let count : length a ≡ length a + length (t ∷ m) = ap (λ (l : List (List ℕ)). length l) same ∙ length-append a (t ∷ m) in
    absurd (omega arith)

module _ {K W : Type 0} (e : Keyed K W) where
  -- a database after a command, which changes nothing where it is one too many
  abbrev pub after : Database K W → Command K W → Database K W
  after d command = cond (is_full e d command) d (done e d command)

  linked_more : (d : Database K W) (o : Option (K × Active W)) (n : K) → IsMore d.operations (relinked e d o n).operations
  linked_more d None n = more_none d.operations
  linked_more d (Some entry) n = record { more = _; are = refl }

  linked_own : (operations : List (List ℕ)) (own : List ℕ) (d : Database K W) → d.operations ≡ operations ++ own ∷ []
      → (o : Option (K × Active W)) (n : K) → IsMoreFrom operations own (relinked e d o n).operations
  linked_own operations own d is o n =
      let linked = linked_more d o n in
      record {
        more = linked.more;
        are = linked.are ∙ ap (λ (l : List (List ℕ)). l ++ linked.more) is ∙ append_assoc operations (own ∷ []) linked.more;
      }

  -- what can be done appends its own operation, and perhaps one more
  pub appends : (d : Database K W) (command : Command K W) → HasOwn e d command
      → IsMoreFrom d.operations (own_text e d command) (done e d command).operations
  appends d (Put key value) own =
      let one : Database K W = updated e d key value (next_key e.cmp d.entries key) in
      let P : Database K W → Type 0 = λ x. IsMoreFrom d.operations (own_text e d (Put key value)) x.operations in
      by_bool (is_some (active_at e d.entries key))
      (λ held. subst P (sym (cond_yes _ one (relinked e one (previous e.cmp d.entries key) key) held)) (record { more = []; are = refl }))
      (λ fresh. subst P (sym (cond_no _ one (relinked e one (previous e.cmp d.entries key) key) fresh))
      (linked_own d.operations (own_text e d (Put key value)) one refl (previous e.cmp d.entries key) key))
  appends d (Delete key) own =
      let P : Database K W → Type 0 = λ x. IsMoreFrom d.operations (own_text e d (Delete key)) x.operations in
      let two : Database K W
      = relinked e (removed e d key) (previous e.cmp d.entries key) (next_key e.cmp d.entries key) in
      subst P (sym (cond_yes _ two d own))
      (linked_own d.operations (own_text e d (Delete key)) (removed e d key) refl (previous e.cmp d.entries key)
      (next_key e.cmp d.entries key))
  appends d (Commit metadata) own = record { more = []; are = refl }

  pub after_doing : (d : Database K W) (command : Command K W) → IsDoing e d command → after d command ≡ done e d command
  after_doing d command doing = cond_no _ d (done e d command) doing.few

  has_or : {A : Type 0} (d : Database K W) (command : Command K W) → (HasOwn e d command → A) → (done e d command ≡ d → A) → A
  has_or d (Put key value) has none = has tt
  has_or d (Delete key) has none = by_bool (is_some (active_at e d.entries key)) has
      (λ absent. none (cond_no _ (relinked e (removed e d key) (previous e.cmp d.entries key) (next_key e.cmp d.entries key)) d absent))
  has_or d (Commit metadata) has none = has tt

  -- a command is done, or changes nothing
  pub by_doing : {A : Type 0} (d : Database K W) (command : Command K W) → (IsDoing e d command → A) → (after d command ≡ d → A) → A
  by_doing d command does idle = by_bool (is_full e d command)
      (λ full. idle (cond_yes _ d (done e d command) full))
      (λ few. has_or d command (λ own. does (record { few = few; own = own }))
      (λ none. idle (cond_no _ d (done e d command) few ∙ none)))

  after_more : (d : Database K W) (command : Command K W) → IsMore d.operations (after d command).operations
  after_more d command = by_doing d command
      (λ doing.
      let own = appends d command doing.own in
      record { more = own_text e d command ∷ own.more; are = ap (λ (x : Database K W). x.operations) (after_doing d command doing) ∙ own.are })
      (λ idle. subst (λ (x : Database K W). IsMore d.operations x.operations) (sym idle) (more_none d.operations))

  pub run_grows : (commands : List (Command K W)) (d : Database K W) → IsMore d.operations (run e d commands).operations
  run_grows [] d = more_none d.operations
  run_grows (c ∷ commands) d =
      more_trans d.operations (after d c).operations (run e (after d c) commands).operations (after_more d c)
      (run_grows commands (after d c))

  -- commands that append nothing change nothing
  nothing_more : (a : List (List ℕ)) (t : List ℕ) (m n : List (List ℕ)) → (a ++ t ∷ m) ++ n ≡ a → ⊥
  nothing_more a t m n same = not_longer a t (m ++ n) (sym same ∙ append_assoc a (t ∷ m) n)

  pub run_idle : (commands : List (Command K W)) (d : Database K W) → (run e d commands).operations ≡ d.operations
      → run e d commands ≡ d
  run_idle [] d same = refl
  run_idle (c ∷ commands) d same = by_doing d c
      (λ doing.
      let own = appends d c doing.own in
      let grown = run_grows commands (after d c) in
      let first : (after d c).operations ≡ d.operations ++ own_text e d c ∷ own.more
      = ap (λ (x : Database K W). x.operations) (after_doing d c doing) ∙ own.are in
      absurd (nothing_more d.operations (own_text e d c) own.more grown.more
      (ap (λ (x : List (List ℕ)). x ++ grown.more) (sym first) ∙ sym grown.are ∙ same)))
      (λ idle.
      let P : Database K W → Type 0 = λ x. (run e x commands).operations ≡ d.operations in
      ap (λ (x : Database K W). run e x commands) idle ∙ run_idle commands d (subst P idle same))

-- ---- what other commands do next, where they leave the same operations and more

module _ {K W Y : Type 0} (e : Keyed K W) (seen : W → Y) (is : IsKeyed e) (reads : List ℕ → Command K W → Type 0)
    (one : AreReadAlike e seen reads) where
  -- a command is the next that is done, whose own operation is this one
  record IsNext (d whole : Database K W) (own : List ℕ) : Type 0 where
    command : Command K W
    doing : IsDoing e d command
    own_is : own_text e d command ≡ own
    read : reads (own_text e d command) command
    later : List (Command K W)
    later_read : AreRead e reads (done e d command) later
    whole_is : run e (done e d command) later ≡ whole

  next_done : (commands : List (Command K W)) (d : Database K W) → AreRead e reads d commands → (own : List ℕ)
      (more : List (List ℕ)) → (run e d commands).operations ≡ d.operations ++ own ∷ more → IsNext d (run e d commands) own
  next_done [] d read own more same = absurd (not_longer d.operations own more same)
  next_done (c ∷ commands) d read own more same = by_doing e d c
      (λ doing.
      let at : after e d c ≡ done e d c = after_doing e d c doing in
      let appended = appends e d c doing.own in
      let grown = run_grows e commands (done e d c) in
      let whole : run e (done e d c) commands ≡ run e (after e d c) commands
      = ap (λ (x : Database K W). run e x commands) (sym at) in
      let both : d.operations ++ own_text e d c ∷ (appended.more ++ grown.more) ≡ d.operations ++ own ∷ more
      = sym (append_assoc d.operations (own_text e d c ∷ appended.more) grown.more) ∙ ap (λ (x : List (List ℕ)). x ++ grown.more) (sym appended.are) ∙ sym grown.are
      ∙ ap (λ (x : Database K W). x.operations) whole ∙ same in
      record {
        command = c;
        doing = doing;
        own_is = heads (own_text e d c) own (appended.more ++ grown.more) more (append_cancel_left d.operations _ _ both);
        read = read.0;
        later = commands;
        later_read = subst (λ (x : Database K W). AreRead e reads x commands) at read.1;
        whole_is = whole;
      })
      (λ idle.
      let P : Database K W → Type 0 = λ x. IsNext d (run e x commands) own in
      let Q : Database K W → Type 0 = λ x. (run e x commands).operations ≡ d.operations ++ own ∷ more in
      subst P (sym idle) (next_done commands d (subst (λ (x : Database K W). AreRead e reads x commands) idle read.1) own more
      (subst Q idle same)))

  -- some of the commands leave a database that is the same, and the others the whole
  pub record IsReached (d whole : Database K W) : Type 0 where
    pub reached : Database K W
    pub same : IsSame e seen d reached
    pub later : List (Command K W)
    pub later_read : AreRead e reads reached later
    pub whole_is : run e reached later ≡ whole

  reached_by : (commands : List (Command K W)) (d c : Database K W) → IsSame e seen d c → AreRead e reads d commands
      → (others : List (Command K W)) → AreRead e reads c others → (more : List (List ℕ))
      → (run e c others).operations ≡ (run e d commands).operations ++ more → IsReached (run e d commands) (run e c others)
  reached_by [] d c same read others others_read more longer =
      record { reached = c; same = same; later = others; later_read = others_read; whole_is = refl }
  reached_by (k ∷ commands) d c same read others others_read more longer = by_doing e d k
      (λ doing.
      let at : after e d k ≡ done e d k = after_doing e d k doing in
      let appended = appends e d k doing.own in
      let grown = run_grows e commands (done e d k) in
      let whole : run e (after e d k) commands ≡ run e (done e d k) commands
      = ap (λ (x : Database K W). run e x commands) at in
      let mine : (run e (after e d k) commands).operations ≡ c.operations ++ own_text e d k ∷ (appended.more ++ grown.more)
      = ap (λ (x : Database K W). x.operations) whole ∙ grown.are ∙ ap (λ (x : List (List ℕ)). x ++ grown.more) appended.are
      ∙ append_assoc d.operations (own_text e d k ∷ appended.more) grown.more
      ∙ ap (λ (x : List (List ℕ)). x ++ own_text e d k ∷ (appended.more ++ grown.more)) (sym same.operations) in
      let theirs : (run e c others).operations ≡ c.operations ++ own_text e d k ∷ ((appended.more ++ grown.more) ++ more)
      = longer ∙ ap (λ (x : List (List ℕ)). x ++ more) mine
      ∙ append_assoc c.operations (own_text e d k ∷ (appended.more ++ grown.more)) more in
      let next = next_done others c others_read (own_text e d k) ((appended.more ++ grown.more) ++ more) theirs in
      let alike : IsAlike e seen k next.command = one (own_text e d k) k next.command read.0
      (subst (λ (t : List ℕ). reads t next.command) next.own_is next.read) in
      let P : Database K W → Type 0 = λ x. IsReached x (run e c others) in
      let Q : Database K W → Type 0 = λ x. x.operations ≡ (run e (done e d k) commands).operations ++ more in
      let R : Database K W → Type 0 = λ x. IsReached (run e (done e d k) commands) x in
      subst P (sym whole) (subst R next.whole_is
      (reached_by commands (done e d k) (done e c next.command) (done_same e seen is d c same k next.command alike)
      (subst (λ (x : Database K W). AreRead e reads x commands) at read.1) next.later next.later_read more
      (subst Q (sym next.whole_is) (longer ∙ ap (λ (x : Database K W). x.operations ++ more) whole)))))
      (λ idle.
      let whole : run e (after e d k) commands ≡ run e d commands = ap (λ (x : Database K W). run e x commands) idle in
      let P : Database K W → Type 0 = λ x. IsReached x (run e c others) in
      subst P (sym whole) (reached_by commands d c same (subst (λ (x : Database K W). AreRead e reads x commands) idle read.1)
      others others_read more (longer ∙ ap (λ (x : Database K W). x.operations ++ more) whole)))

  read_more : (commands : List (Command K W)) (d : Database K W) → AreRead e reads d commands
      → (command : Command K W) → reads (own_text e (run e d commands) command) command
      → AreRead e reads d (commands ++ command ∷ [])
  read_more [] d read command last = (last, tt)
  read_more (c ∷ commands) d read command last = (read.0, read_more commands (after e d c) read.1 command last)

  -- ---- a database whose operations are those that have been followed

  module _ (operations : List (List ℕ)) (d : Database K W) (path : IsPath e reads operations d) where
    pub reached_from : d.operations ≡ operations → (others : List (Command K W)) → AreRead e reads empty others
        → (more : List (List ℕ)) → (run e empty others).operations ≡ operations ++ more → IsReached d (run e empty others)
    reached_from all others others_read more longer =
        let P : Database K W → Type 0 = λ x. IsReached x (run e empty others) in
        let Q : Database K W → Type 0 = λ x. (run e empty others).operations ≡ x.operations ++ more in
        subst P path.leave (reached_by path.commands empty empty (empty_same e seen) path.read others others_read more
        (subst Q (sym path.leave) (longer ∙ ap (λ (x : List (List ℕ)). x ++ more) (sym all))))

    -- what other commands do next, where they leave these operations, this one and perhaps more
    record IsOther (own : List ℕ) (whole : Database K W) : Type 0 where
      from : Database K W
      same : IsSame e seen d from
      next : IsNext from whole own

    other_next : d.operations ≡ operations → (own : List ℕ) (others : List (Command K W)) → AreRead e reads empty others
        → (more : List (List ℕ)) → (run e empty others).operations ≡ (operations ++ own ∷ []) ++ more
        → IsOther own (run e empty others)
    other_next all own others others_read more longer =
        let grouped : (run e empty others).operations ≡ operations ++ own ∷ more
        = longer ∙ append_assoc operations (own ∷ []) more in
        let reached = reached_from all others others_read (own ∷ more) grouped in
        let P : Database K W → Type 0 = λ x. IsNext reached.reached x own in
        record {
          from = reached.reached;
          same = reached.same;
          next = subst P reached.whole_is (next_done reached.later reached.reached reached.later_read own more
              (ap (λ (x : Database K W). x.operations) reached.whole_is ∙ grouped
              ∙ ap (λ (x : List (List ℕ)). x ++ own ∷ more) (sym (reached.same.operations ∙ all))));
        }

    -- an operation that no command that can be done is read from begins nothing
    pub none_begins : d.operations ≡ operations → (own : List ℕ)
        → ((command : Command K W) → reads own command → IsDoing e d command → ⊥)
        → Begins e reads (operations ++ own ∷ []) → ⊥
    none_begins all own none begins =
        let other = other_next all own begins.commands begins.read begins.more begins.leave in
        let k : Command K W = other.next.command in
        let read : reads own k
        = subst (λ (t : List ℕ). reads t k) other.next.own_is other.next.read in
        none k read (doing_same e seen is d other.from other.same k k (one own k k read read) other.next.doing)

    -- a command that is read from an operation is what other commands do next
    module _ (all : d.operations ≡ operations) (own : List ℕ) (command : Command K W)
        (read : reads own command) (doing : IsDoing e d command) where
      alike_next : (others : List (Command K W)) → (other : IsOther own (run e empty others))
          → IsAlike e seen command other.next.command
      alike_next others other = one own command other.next.command read
          (subst (λ (t : List ℕ). reads t other.next.command) other.next.own_is other.next.read)

      -- one that is written otherwise begins nothing
      pub other_begins : (own_text e d command ≡ own → ⊥) → Begins e reads (operations ++ own ∷ []) → ⊥
      other_begins apart begins =
          let other = other_next all own begins.commands begins.read begins.more begins.leave in
          let alike = alike_next begins.commands other in
          apart (sym (own_same e seen is d other.from other.same command other.next.command alike) ∙ other.next.own_is)

      -- and with one that is written so the path goes on
      pub path_on : own_text e d command ≡ own → IsPath e reads (operations ++ own ∷ []) (done e d command)
      path_on written =
          let appended = appends e d command doing.own in
          let at : after e d command ≡ done e d command = after_doing e d command doing in
          record {
            commands = path.commands ++ command ∷ [];
            read = read_more path.commands empty path.read command (subst (λ (x : Database K W). reads
                (own_text e x command) command) (sym path.leave) (subst (λ (t : List ℕ). reads t command)
                (sym written) read));
            leave = run_more e path.commands command empty ∙ ap (λ (x : Database K W). after e x command) path.leave ∙ at;
            rest = appended.more;
            begins = appended.are ∙ ap (λ (x : List (List ℕ)). x ++ own_text e d command ∷ appended.more) all
                ∙ ap (λ (t : List ℕ). operations ++ t ∷ appended.more) written
                ∙ sym (append_assoc operations (own ∷ []) appended.more);
            forced = λ others more others_read longer.
                let other = other_next all own others others_read more longer in
                let alike = alike_next others other in
                let grown = run_grows e other.next.later (done e other.from other.next.command) in (
                  grown.more,
                  ap (λ (x : Database K W). x.operations) (sym other.next.whole_is) ∙ grown.are
                      ∙ ap (λ (x : List (List ℕ)). x ++ grown.more)
                      (done_same e seen is d other.from other.same command other.next.command alike).operations,
                );
          }

-- ---- an operation that the command before has appended already

module _ {K W : Type 0} (e : Keyed K W) (reads : List ℕ → Command K W → Type 0) (operations : List (List ℕ)) (d : Database K W)
    (path : IsPath e reads operations d) where
  -- another one begins nothing
  pub rest_begins : (own written : List ℕ) (rest : List (List ℕ)) → d.operations ≡ operations ++ written ∷ rest
      → (written ≡ own → ⊥) → Begins e reads (operations ++ own ∷ []) → ⊥
  rest_begins own written rest at apart begins =
      let longer : (run e empty begins.commands).operations ≡ operations ++ own ∷ begins.more
      = begins.leave ∙ append_assoc operations (own ∷ []) begins.more in
      let forced = path.forced begins.commands (own ∷ begins.more) begins.read longer in
      let both : operations ++ written ∷ (rest ++ forced.0) ≡ operations ++ own ∷ begins.more
      = sym (append_assoc operations (written ∷ rest) forced.0) ∙ ap (λ (x : List (List ℕ)). x ++ forced.0) (sym at) ∙ sym forced.1 ∙ longer in
      apart (heads written own (rest ++ forced.0) begins.more (append_cancel_left operations _ _ both))

  pub path_along : (own : List ℕ) (rest : List (List ℕ)) → d.operations ≡ operations ++ own ∷ rest
      → IsPath e reads (operations ++ own ∷ []) d
  path_along own rest at = record {
    commands = path.commands;
    read = path.read;
    leave = path.leave;
    rest = rest;
    begins = at ∙ sym (append_assoc operations (own ∷ []) rest);
    forced = λ others more others_read longer.
        path.forced others (own ∷ more) others_read (longer ∙ append_assoc operations (own ∷ []) more);
  }
