-- A database of which more operations are forgotten is the same one.
use Rattle.std.proofs.Common.{◌≡◌, ℕ, ◌-◌, ◌*◌, ◌/◌, ◌^◌, ◌≤◌, min, max, Bool, false, List, length, take, drop, replicate, Option, Some, None, refl, sym, ap, ap₂, ◌∙◌, subst, arith}
use Rattle.std.specs.Prelude.{MatchOption, IsSomeAnd, Result, Ok, Err, OnOk, OnErr, IfErr}
use Rattle.std.proofs.Math.Nat.{div-mul-le_self, mul-le-mul_right}
use Rattle.std.proofs.lemmas.List.{take-replicate, take-take}
use Rattle.storage_codec.specs.Digests.{HashFunction}
use Rattle.storage_current.specs.Extended.{cleared}
use Rattle.storage_current.specs.Keys.{Keyed, IsKeyed}
use Rattle.storage_current.specs.Snapshots.{Grafting, graftable, height}
use Rattle.storage_db.specs.declared.db.active.Active.{Active}
use Rattle.storage_db.specs.declared.db.error.Error.{Error}
use Rattle.storage_db.specs.declared.db.error.Error.TheVariants.{NotCommitted}
use Rattle.storage_db.specs.declared.db.log.Log.{Log}
use Rattle.storage_db.specs.Databases.{Committed, Database, empty, run}
use Rattle.storage_db.specs.Kept.{HeldCommit, IsMade, KeepsCommit, Keeps, KeptCommit, KeptDatabase, bits_of, forgetting, with_keys}
use Rattle.storage_db.specs.Parts.{IsSince, IsSinceCommit, kept_of, texts}
use Rattle.storage_db.specs.Pruning.{ArePruned, IsCommitPruned, IsNotPruned, IsPruneRefused, IsPruned, IsPrunedOf, forgettable}
use Rattle.storage_db.proofs.Cases.{some_not_none}
use Rattle.storage_db.proofs.Extensions.{left_bits}
use Rattle.storage_db.proofs.Forgetting.{pruned_at}
use Rattle.storage_db.proofs.Inactive.{made_inactive}
use Rattle.storage_db.proofs.Remembering.{with_all}
use Rattle.storage_db.proofs.Said.{AreSaid}

-- ---- how many are forgotten

-- none behind the location
low_forgettable : (g : Grafting) (count location : ℕ) → forgettable g count location ≤ location
low_forgettable g count location =
    let m : ℕ = 2 ^ height g in
    let fewer : min (location / m) (graftable g count) * m ≤ location / m * m = mul-le-mul_right m (omega arith) in
    omega (arith, fewer, div-mul-le_self location m)

fewer_clear : (n m : ℕ) (bits : List Bool) → n ≤ m → take m bits ≡ replicate m false → take n bits ≡ replicate n false
fewer_clear n m bits less clear =
    sym (take-take n m bits less) ∙ ap (take n) clear ∙ take-replicate n m false less

-- ---- a log and its last commit

pub are_pruned : {W : Type 0} (h : HashFunction) (g : Grafting) (log after : Log) (old new : HeldCommit W) (location : ℕ)
    → IsCommitPruned h g old new location → (from to : ℕ) → from ≡ old.pruned → to ≡ new.pruned
    → ((all : List (List ℕ)) → texts log ≡ forgetting from all → from ≤ to → to ≤ length all → texts after ≡ forgetting to all)
    → after.bits.items ≡ log.bits.items → after.committed ≡ log.committed → after.cleared.items ≡ log.cleared.items
    → ArePruned h g log after old new location
are_pruned h g log after old new location commit from to from_is to_is forgets bits committed cleared_is = record {
  commit = commit;
  forgets = record {
    texts_are = λ all so_far few.
        let low : from ≤ to = omega (arith, from_is, to_is, commit.pruned) in
        forgets all (so_far ∙ ap (λ (n : ℕ). forgetting n all) (sym from_is)) low (omega (arith, few, to_is))
        ∙ ap (λ (n : ℕ). forgetting n all) to_is;
    bits = bits;
    committed = committed;
    cleared = cleared_is;
  };
}

-- ---- a database in memory and its last commit

module _ {K W Y : Type 0} (e : Keyed K W) (seen : W → Y) (h : HashFunction) (g : Grafting) (log after : Log)
    (m es : List (K × Active W)) (old new : HeldCommit W) (location : ℕ) (pruned : ArePruned h g log after old new location)
    (inactive : take old.floor (bits_of (with_keys {K = K} old es)) ≡ replicate old.floor false) where
  abbrev was : KeptCommit K W
  was = with_keys old es

  abbrev now : KeptCommit K W
  now = with_keys new es

  commit_pruned : (commit : Committed K W) → KeepsCommit e seen h g was commit → KeepsCommit e seen h g now commit
  commit_pruned commit keeps =
      let c : IsCommitPruned h g old new location = pruned.commit in
      let floor : new.floor ≡ old.floor = ap (λ (x : HeldCommit W). x.floor) c.same in
      let low : new.pruned ≤ commit.snapshot.floor
      = omega (arith, c.pruned, keeps.pruned, keeps.floor, c.fits, low_forgettable g old.snapshot.leaves location) in
      let stands = c.stands commit.snapshot keeps.whole keeps.snapshot in
      let clear : take commit.snapshot.floor commit.snapshot.bits ≡ replicate commit.snapshot.floor false
      = sym (ap₂ (λ (n : ℕ) (b : List Bool). take n b) keeps.floor keeps.bits) ∙ inactive
      ∙ ap (λ (n : ℕ). replicate n false) keeps.floor in
      record {
        metadata = ap (λ (x : HeldCommit W). x.metadata) c.same ∙ keeps.metadata;
        floor = floor ∙ keeps.floor;
        count = ap (λ (x : HeldCommit W). x.count) c.same ∙ keeps.count;
        pruned = low;
        entries = keeps.entries;
        whole = keeps.whole;
        snapshot = stands;
        bits = left_bits new.pruned commit.snapshot.bits new.snapshot.status.bits
            (fewer_clear new.pruned commit.snapshot.floor commit.snapshot.bits low clear)
            (stands.status.rest ∙ ap (λ (n : ℕ). drop n commit.snapshot.bits) c.chunks);
      }

  last_pruned : (o : Option (Committed K W)) → MatchOption o (Some was ≡ None) (λ commit. KeepsCommit e seen h g was commit)
      → MatchOption o (Some now ≡ None) (λ commit. KeepsCommit e seen h g now commit)
  last_pruned None keeps = absurd (some_not_none was keeps)
  last_pruned (Some commit) keeps = commit_pruned commit keeps

  told : (o : Option (Committed K W)) → MatchOption o (Some was ≡ None) (λ commit. KeepsCommit e seen h g was commit)
      → IsSomeAnd o (λ commit. (location ≤ commit.snapshot.floor)
      × (new.pruned ≡ max old.pruned (forgettable g (length commit.snapshot.operations) location)))
  told None keeps = absurd (some_not_none was keeps)
  told (Some commit) keeps = (
    omega (arith, pruned.commit.fits, keeps.floor),
    pruned.commit.pruned ∙ ap (λ (n : ℕ). max old.pruned (forgettable g n location)) keeps.snapshot.leaves,
  )

  same_bits : (o : Option (Committed K W)) → MatchOption o (Some was ≡ None) (λ commit. KeepsCommit e seen h g was commit)
      → bits_of was ≡ bits_of now
  same_bits None keeps = absurd (some_not_none was keeps)
  same_bits (Some commit) keeps = keeps.bits ∙ sym (commit_pruned commit keeps).bits

  module _ (d : Database K W) (keeps : Keeps e seen h g (kept_of log m (Some was)) d) where
    pub all_pruned : IsPrunedOf e seen h g (kept_of log m (Some was)) (kept_of after m (Some now)) location d
    all_pruned =
        let last = last_pruned d.last keeps.last in record {
          keeps = record {
            operations = pruned.forgets.texts_are d.operations keeps.operations
                (pruned_at e seen h g d.operations d.last (Some now) last keeps.prefix);
            bits = pruned.forgets.bits ∙ keeps.bits;
            entries = keeps.entries;
            last = last;
            prefix = keeps.prefix;
          };
          last = told d.last keeps.last;
        }

    pub since_pruned : IsSinceCommit log was → IsSinceCommit after now
    since_pruned since =
        let count : new.count ≡ old.count = ap (λ (x : HeldCommit W). x.count) pruned.commit.same in
        record {
          some = omega (arith, since.some, count);
          committed = pruned.forgets.committed ∙ since.committed ∙ sym count;
          cleared = ap₂ (λ (n : ℕ) (b : List Bool). take n b) pruned.forgets.committed pruned.forgets.bits ∙ since.cleared
              ∙ ap₂ (λ (l : List ℕ) (b : List Bool). cleared l b) (sym pruned.forgets.cleared) (same_bits d.last keeps.last);
        }

-- ---- as a call answered

module _ {K W Y : Type 0} (e : Keyed K W) (is : IsKeyed e) (said : AreSaid e) (seen : W → Y) (h : HashFunction) (g : Grafting)
    (log after : Log) (m es : List (K × Active W)) (last now : Option (HeldCommit W)) (location : ℕ) where
  abbrev Does : Type 0
  Does = IsSomeAnd last (λ o. IsSomeAnd now (λ n. ArePruned h g log after o n location))

  abbrev before : KeptDatabase K W
  before = kept_of log m (with_all es last)

  abbrev then : KeptDatabase K W
  then = kept_of after m (with_all es now)

  module _ (made : IsMade e seen h g before) where
    each_pruned : (l n : Option (HeldCommit W)) → last ≡ l → now ≡ n
        → IsSomeAnd l (λ o. IsSomeAnd n (λ x. ArePruned h g log after o x location)) → IsPruned e seen h g before then location
    each_pruned None n at to does = absurd does
    each_pruned (Some o) None at to does = absurd does
    each_pruned (Some o) (Some x) at to does = λ d keeps.
        let P : Option (HeldCommit W) → Option (HeldCommit W) → Type 0
        = λ a b. IsPrunedOf e seen h g (kept_of log m (with_all es a)) (kept_of after m (with_all es b)) location d in
        let inside : Keeps e seen h g (kept_of log m (Some (with_keys o es))) d
        = subst (λ (a : Option (HeldCommit W)). Keeps e seen h g (kept_of log m (with_all es a)) d) at keeps in
        let inactive = made_inactive e is said seen h g before made (with_keys o es) (ap (with_all es) at) in
        subst (λ (a : Option (HeldCommit W)). P a now) (sym at) (subst (λ (b : Option (HeldCommit W)). P (Some o) b) (sym to)
        (all_pruned e seen h g log after m es o x location does inactive d inside))

    pub prune_ok : {T E : Type 0} (r : Result T E) → OnOk r Does → (old : KeptDatabase K W) → before ≡ old
        → OnOk r (IsPruned e seen h g old then location)
    prune_ok (Ok x) does old view =
        subst (λ (k : KeptDatabase K W). IsPruned e seen h g k then location) view (each_pruned last now refl refl does)
    prune_ok (Err y) does old view = tt

    pub prune_made : {T E : Type 0} (r : Result T E) → OnOk r Does → OnErr r (then ≡ before) → IsMade e seen h g then
    prune_made (Ok x) does same =
        (made.0, (each_pruned last now refl refl does (run e empty made.0) made.1).keeps)
    prune_made (Err y) does same = subst (λ (k : KeptDatabase K W). IsMade e seen h g k) (sym same) made

    each_since : (l n : Option (HeldCommit W)) → last ≡ l → now ≡ n
        → IsSomeAnd l (λ o. IsSomeAnd n (λ x. ArePruned h g log after o x location)) → IsSince log (with_all es l)
        → IsSince after (with_all es n)
    each_since None n at to does since = absurd does
    each_since (Some o) None at to does since = absurd does
    each_since (Some o) (Some x) at to does since =
        let inside : Keeps e seen h g (kept_of log m (Some (with_keys o es))) (run e empty made.0)
        = subst (λ (a : Option (HeldCommit W)). Keeps e seen h g (kept_of log m (with_all es a)) (run e empty made.0)) at made.1 in
        let inactive = made_inactive e is said seen h g before made (with_keys o es) (ap (with_all es) at) in
        since_pruned e seen h g log after m es o x location does inactive (run e empty made.0) inside since

    pub prune_since : {T E : Type 0} (r : Result T E) → OnOk r Does → OnErr r (now ≡ last) → OnErr r (after ≡ log)
        → IsSince log (with_all es last) → IsSince after (with_all es now)
    prune_since (Ok x) does same logs since = each_since last now refl refl does since
    prune_since (Err y) does same logs since =
        subst (λ (l : Log). IsSince l (with_all es now)) (sym logs)
        (subst (λ (o : Option (HeldCommit W)). IsSince log (with_all es o)) (sym same) since)

  pub prune_err : {T E : Type 0} (r : Result T E) → OnErr r (now ≡ last) → OnErr r (after ≡ log) → (old : KeptDatabase K W)
      → before ≡ old → OnErr r (then ≡ old)
  prune_err (Ok x) same logs old view = tt
  prune_err (Err y) same logs old view =
      ap₂ (λ (l : Log) (o : Option (HeldCommit W)). kept_of l m (with_all es o)) logs same ∙ view

  refused_as : {F : Type 0} (error : Error F) (l : Option (HeldCommit W)) (o : Option (Committed K W))
      → MatchOption o (with_all es l ≡ None) (λ commit. IsSomeAnd (with_all es l) (λ c. KeepsCommit e seen h g c commit))
      → MatchOption l (error ≡ NotCommitted) (λ c. IsPruneRefused c.floor location error)
      → MatchOption o (error ≡ NotCommitted) (λ commit. IsPruneRefused commit.snapshot.floor location error)
  refused_as error None None keeps why = why
  refused_as error None (Some commit) keeps why = absurd keeps
  refused_as error (Some c) None keeps why = absurd (some_not_none (with_keys c es) keeps)
  refused_as error (Some c) (Some commit) keeps why =
      subst (λ (n : ℕ). IsPruneRefused n location error) keeps.floor why

  pub prune_why : {T F : Type 0} (r : Result T (Error F))
      → IfErr r (λ error. MatchOption last (error ≡ NotCommitted) (λ c. IsPruneRefused c.floor location error))
      → (old : KeptDatabase K W) → before ≡ old → IfErr r (IsNotPruned e seen h g old location)
  prune_why (Ok x) why old view = tt
  prune_why (Err y) why old view = λ d keeps.
      let inside : Keeps e seen h g before d = subst (λ (k : KeptDatabase K W). Keeps e seen h g k d) (sym view) keeps in
      refused_as y last d.last inside.last why
