-- Databases in memory, once a command has been done or refused.
use Rattle.std.proofs.Common.{◌≡◌, ℕ, ◌+◌, ◌-◌, ◌≤◌, ◌^◌, Bool, true, false, List, [], ◌∷◌, ◌++◌, length, slice_set, Option, Some, None, option_map, nat_lt, refl, sym, ap, ap₂, ◌∙◌, subst, arith}
use Rattle.std.specs.Global.{Vec}
use Rattle.std.specs.List.{AllZip}
use Rattle.std.specs.Prelude.{MatchOption, IsSomeAnd, Result, Ok, Err, OnOk, OnErr, IfErr}
use Rattle.std.proofs.Math.Seq.{take-length}
use Rattle.std.proofs.lemmas.Bool.{le-ltb}
use Rattle.std.proofs.lemmas.List.{length-append, length-map}
use Rattle.storage_codec.specs.Digests.{HashFunction}
use Rattle.storage_current.specs.Keys.{Keyed, commit_text}
use Rattle.storage_current.specs.Snapshots.{Grafting, Snapshot}
use Rattle.storage_db.specs.declared.db.active.Active.{Active}
use Rattle.storage_db.specs.declared.db.error.Error.{Error}
use Rattle.storage_db.specs.declared.db.log.Log.{Log}
use Rattle.storage_db.specs.Databases.{Command, Committed, Database, without_commit, least_location, commit, done}
use Rattle.storage_db.specs.Logs.{IsTooMany, cleared_at}
use Rattle.storage_db.specs.Parts.{IsKeptOf, texts, database_of, kept_of}
use Rattle.storage_db.specs.Kept.{AreFirst, KeptDatabase, KeptCommit, IsCopy, IsDone, Keeps, KeepsCommit, forgetting, pruned_of}
use Rattle.storage_db.proofs.Changing.{same_parts, texts_more, count_of_texts}
use Rattle.storage_db.proofs.Forgetting.{IsChange, IsCounted, as_many, change_of, counted, forgetting_append, forgetting_length, lacking, pruned_within}
use Rattle.storage_db.proofs.Going.{first_more}

module _ {K W : Type 0} where
  -- a log and active keys that are as they were
  pub same_kept : (log after : Log) (m n : List (K × Active W)) (last : Option (KeptCommit K W))
      → ((l : Option (Committed K W)) → database_of after n l ≡ database_of log m l)
      → kept_of after n last ≡ kept_of log m last
  same_kept log after m n last same =
      ap (λ (d : Database K W). record {
        operations = d.operations;
        bits = d.bits;
        entries = d.entries;
        last = last;
      }) (same None)

module _ {K W Y : Type 0} (e : Keyed K W) (seen : W → Y) (h : HashFunction) (g : Grafting) where
  -- the database itself is what is kept and its last commit, but for operations that are forgotten
  same_database_of : (log : Log) (m : List (K × Active W)) (last : Option (KeptCommit K W)) (d : Database K W)
      → Keeps e seen h g (kept_of log m last) d → database_of log m d.last ≡ lacking (pruned_of last) d
  same_database_of log m last d keeps = same_parts _ _ _ _ _ _ d.last keeps.operations keeps.bits keeps.entries

  -- a command that only changes the log and the active keys
  module _ (step : Database K W → Database K W) (log after : Log) (m n : List (K × Active W)) (last : Option (KeptCommit K W))
      (d : Database K W) (keeps : Keeps e seen h g (kept_of log m last) d) where
    within : pruned_of last ≤ length d.operations
    within = pruned_within e seen h g (kept_of log m last) d keeps

    pub done_of : IsChange step → ((l : Option (Committed K W)) → database_of after n l ≡ step (database_of log m l))
        → length after.operations.items ≤ 2 ^ 62
        → (nat_lt (2 ^ 62) (length (step d).operations) ≡ false) × Keeps e seen h g (kept_of after n last) (step d)
    done_of change steps few =
        let p : ℕ = pruned_of last in
        let whole : database_of after n d.last ≡ lacking p (step d)
        = steps d.last ∙ ap step (same_database_of log m last d keeps) ∙ change.same p d within in
        let more = change.more d in
        let count : length after.operations.items ≡ length (step d).operations
        = sym (length-map _ _) ∙ ap (λ (x : Database K W). length x.operations) whole
        ∙ forgetting_length p (step d).operations (as_many step change p d within) in
        let same : d.last ≡ (step d).last = ap (λ (x : Database K W). x.last) whole in (
          le-ltb _ _ (subst (λ (x : ℕ). x ≤ 2 ^ 62) count few),
          record {
            operations = ap (λ (x : Database K W). x.operations) whole;
            bits = ap (λ (x : Database K W). x.bits) whole;
            entries = ap (λ (x : Database K W). x.entries) whole;
            last = subst (λ (o : Option (Committed K W)). MatchOption o (last ≡ None)
                (λ commit. IsSomeAnd last (λ c. KeepsCommit e seen h g c commit))) same keeps.last;
            prefix = subst (λ (o : Option (Committed K W)). MatchOption o (Unit {0}) (AreFirst (step d).operations)) same
                (first_more d.operations (step d).operations more.0 more.1 d.last keeps.prefix);
          },
        )

    pub refused_of : IsCounted step → {F : Type 0} (error : Error F)
        → ((l : Option (Committed K W)) → IsTooMany (length log.operations.items) (length (step (database_of log m l)).operations)
        error)
        → IsTooMany (length d.operations) (length (step d).operations) error
    refused_of counts error too_many =
        let p : ℕ = pruned_of last in
        let before : length log.operations.items ≡ length d.operations
        = count_of_texts log ∙ counted e seen h g (kept_of log m last) d keeps in
        let after_is : length (step (database_of log m d.last)).operations ≡ length (step d).operations
        = ap (λ (x : Database K W). length (step x).operations) (same_database_of log m last d keeps) ∙ counts p d within in
        subst (λ (x : ℕ). IsTooMany x (length (step d).operations) error) before
        (subst (λ (x : ℕ). IsTooMany (length log.operations.items) x error) after_is (too_many d.last))

  -- the same of what a call answers
  module _ (step : Database K W → Database K W) (log after : Log) (m n : List (K × Active W)) (last : Option (KeptCommit K W))
      (old : KeptDatabase K W) (is : kept_of log m last ≡ old) where
    keeps_inside : (d : Database K W) → Keeps e seen h g old d → Keeps e seen h g (kept_of log m last) d
    keeps_inside d keeps = subst (λ (k : KeptDatabase K W). Keeps e seen h g k d) (sym is) keeps

    pub done_from : IsChange step → ((l : Option (Committed K W)) → database_of after n l ≡ step (database_of log m l))
        → length after.operations.items ≤ 2 ^ 62 → (d : Database K W) → Keeps e seen h g old d
        → (nat_lt (2 ^ 62) (length (step d).operations) ≡ false) × Keeps e seen h g (kept_of after n last) (step d)
        × (pruned_of last ≡ pruned_of old.last)
    done_from change steps few d keeps =
        let result = done_of step log after m n last d (keeps_inside d keeps) change steps few in
        (result.0, result.1, ap (λ (k : KeptDatabase K W). pruned_of k.last) is)

    pub refused_from : IsCounted step → {F : Type 0} (error : Error F)
        → ((l : Option (Committed K W)) → IsTooMany (length log.operations.items) (length (step (database_of log m l)).operations)
        error)
        → (d : Database K W) → Keeps e seen h g old d
        → IsTooMany (length d.operations) (length (step d).operations) error
    refused_from counts error too_many d keeps =
        refused_of step log after m n last d (keeps_inside d keeps) counts error too_many

    pub kept_from : ((l : Option (Committed K W)) → database_of after n l ≡ database_of log m l)
        → kept_of after n last ≡ old
    kept_from same = same_kept log after m n last same ∙ is

    pub refused_err : IsCounted step → {T F : Type 0} (r : Result T (Error F))
        → IfErr r (λ error. (l : Option (Committed K W))
        → IsTooMany (length log.operations.items) (length (step (database_of log m l)).operations) error)
        → IfErr r (λ error. (d : Database K W) → Keeps e seen h g old d
        → IsTooMany (length d.operations) (length (step d).operations) error)
    refused_err counts (Ok x) why = tt
    refused_err counts (Err y) why = refused_from counts y why

    pub kept_err : {T E : Type 0} (r : Result T E)
        → OnErr r ((l : Option (Committed K W)) → database_of after n l ≡ database_of log m l)
        → OnErr r (kept_of after n last ≡ old)
    kept_err (Ok x) same = tt
    kept_err (Err y) same = kept_from same

  -- so of a command that leaves the last commit as it is
  pub done_ok : (command : Command K W) (log after : Log) (m n : List (K × Active W)) (last : Option (KeptCommit K W))
      (old : KeptDatabase K W) → kept_of log m last ≡ old → {T E : Type 0} (r : Result T E)
      → OnOk r ((l : Option (Committed K W)) → database_of after n l ≡ done e (database_of log m l) command)
      → length after.operations.items ≤ 2 ^ 62
      → OnOk r (IsDone e seen h g old (kept_of after n last) command)
  done_ok command log after m n last old is (Ok x) steps few =
      done_from (λ d. done e d command) log after m n last old is
      (change_of e command (database_of after n) (database_of log m) (λ l. refl) steps) steps few
  done_ok command log after m n last old is (Err y) steps few = tt

  -- the bit of the commit before is cleared
  cleared_is : (o : Option (Committed K W)) (l : Option (KeptCommit K W))
      → MatchOption o (l ≡ None) (λ commit. IsSomeAnd l (λ c. KeepsCommit e seen h g c commit)) → (bits : List Bool)
      → cleared_at (option_map (λ (c : KeptCommit K W). c.count - 1) l) bits ≡ without_commit o bits
  cleared_is None l keeps bits =
      ap (λ (x : Option (KeptCommit K W)). cleared_at (option_map (λ (c : KeptCommit K W). c.count - 1) x) bits) keeps
  cleared_is (Some commit) None keeps bits = absurd keeps
  cleared_is (Some commit) (Some c) keeps bits = ap (λ (n : ℕ). slice_set bits (n - 1) false) keeps.count

  -- a commit of these operations and active keys
  module _ (log after : Log) (m : List (K × Active W)) (last : Option (KeptCommit K W)) (d : Database K W)
      (keeps : Keeps e seen h g (kept_of log m last) d) (metadata : Option W) (c : KeptCommit K W) (bytes : Vec ℕ)
      (before : Option ℕ) where
    abbrev floor_of : ℕ
    floor_of = least_location m (length log.operations.items)

    abbrev snapshot_of : Snapshot
    snapshot_of = record {
      operations = d.operations ++ bytes.items ∷ [];
      bits = cleared_at before log.bits.items ++ true ∷ [];
      floor = floor_of;
    }

    pub committed_of : bytes.items ≡ commit_text e metadata floor_of
        → before ≡ option_map (λ (k : KeptCommit K W). k.count - 1) last
        → after.operations.items ≡ log.operations.items ++ bytes ∷ []
        → after.bits.items ≡ cleared_at before log.bits.items ++ true ∷ []
        → c.metadata ≡ metadata → c.floor ≡ floor_of → c.count ≡ length log.operations.items + 1
        → c.pruned ≡ pruned_of last → pruned_of last ≤ floor_of → AllZip (IsCopy e seen) m c.entries
        → IsKeptOf h g c snapshot_of → length after.operations.items ≤ 2 ^ 62
        → (nat_lt (2 ^ 62) (length (commit e d metadata).operations) ≡ false)
        × Keeps e seen h g (kept_of after m (Some c)) (commit e d metadata)
    committed_of written before_is operations bits metadata_is floor_is count_is pruned_is low copies stands few =
        let end : Database K W = commit e d metadata in
        let p : ℕ = pruned_of last in
        let within : p ≤ length d.operations = pruned_within e seen h g (kept_of log m last) d keeps in
        let count_log : length log.operations.items ≡ length d.operations
        = count_of_texts log ∙ counted e seen h g (kept_of log m last) d keeps in
        let floor : ℕ = least_location d.entries (length d.operations) in
        let floors : floor_of ≡ floor = ap₂ least_location keeps.entries count_log in
        let text : bytes.items ≡ commit_text e metadata floor = written ∙ ap (commit_text e metadata) floors in
        let all : d.operations ++ bytes.items ∷ [] ≡ end.operations = ap (λ (t : List ℕ). d.operations ++ t ∷ []) text in
        let cleared : cleared_at before log.bits.items ++ true ∷ [] ≡ end.bits
        = ap (λ (b : List Bool). b ++ true ∷ [])
        (ap (λ (o : Option ℕ). cleared_at o log.bits.items) before_is ∙ cleared_is d.last last keeps.last log.bits.items
        ∙ ap (without_commit d.last) keeps.bits) in
        let made : List (List ℕ) → List Bool → ℕ → Snapshot
        = λ o b f. record { operations = o; bits = b; floor = f } in
        let one : snapshot_of ≡ made end.operations end.bits floor
        = ap (λ (o : List (List ℕ)). made o (cleared_at before log.bits.items ++ true ∷ []) floor_of) all
        ∙ ap (λ (b : List Bool). made end.operations b floor_of) cleared
        ∙ ap (λ (f : ℕ). made end.operations end.bits f) floors in
        let there : IsKeptOf h g c (made end.operations end.bits floor) = subst (λ (x : Snapshot). IsKeptOf h g c x) one stands in
        let place : length log.operations.items + 1 ≡ length end.operations
        = ap (λ (n : ℕ). n + 1) count_log ∙ sym (length-append d.operations (commit_text e metadata floor ∷ [])) in
        let count : length after.operations.items ≡ length end.operations
        = ap (λ (l : List (Vec ℕ)). length l) operations ∙ length-append log.operations.items (bytes ∷ []) ∙ place in
        let texts_are : texts after ≡ forgetting c.pruned end.operations
        = texts_more log after bytes operations ∙ ap (λ (l : List (List ℕ)). l ++ bytes.items ∷ []) keeps.operations
        ∙ sym (forgetting_append p d.operations (bytes.items ∷ []) within)
        ∙ ap₂ forgetting (sym pruned_is) all in (
          le-ltb _ _ (subst (λ (x : ℕ). x ≤ 2 ^ 62) count few),
          record {
            operations = texts_are;
            bits = bits ∙ cleared;
            entries = keeps.entries;
            last = record {
              metadata = metadata_is;
              floor = floor_is ∙ floors;
              count = count_is ∙ place;
              pruned = omega (arith, pruned_is, low, floors);
              entries = subst (λ (es : List (K × Active W)). AllZip (IsCopy e seen) es c.entries) keeps.entries copies;
              whole = there.0;
              snapshot = there.1;
              bits = there.2;
            };
            prefix = sym (take-length end.operations);
          },
        )

-- what holds in any case holds after a refusal
pub on_err : {T E P : Type 0} (r : Result T E) → P → OnErr r P
on_err (Ok x) holds = tt
on_err (Err y) holds = holds
