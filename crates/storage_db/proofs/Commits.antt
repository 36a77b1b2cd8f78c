-- A commit, from what its steps say: the room for it is made first, and the last that may be refused is what is kept of it.
use Rattle.std.proofs.Common.{◌≡◌, ℕ, ◌+◌, ◌-◌, ◌≤◌, ◌^◌, Bool, true, false, List, [], ◌∷◌, ◌++◌, length, take, Option, Some, None, nat_lt, refl, sym, ap, ap₂, ◌∙◌, subst, arith}
use Rattle.std.specs.Global.{Vec}
use Rattle.std.specs.Prelude.{IsSomeAnd}
use Rattle.std.proofs.Math.Seq.{take-append_seam}
use Rattle.std.proofs.lemmas.List.{length-append}
use Rattle.storage_codec.specs.Digests.{HashFunction}
use Rattle.storage_current.specs.Keys.{Keyed, commit_text}
use Rattle.storage_current.specs.Snapshots.{Grafting, Snapshot}
use Rattle.storage_db.specs.declared.db.active.Active.{Active}
use Rattle.storage_db.specs.declared.db.log.Log.{Log}
use Rattle.storage_db.specs.Databases.{Command, Committed, Database, least_location, commit}
use Rattle.storage_db.specs.Floors.{floor_of}
use Rattle.storage_db.specs.Logs.{cleared_at}
use Rattle.storage_db.specs.Parts.{GoesOn, IsCommitOf, IsKeptOf, IsSince, database_of, kept_of, place_of, texts}
use Rattle.storage_db.specs.Kept.{IsDone, KeptDatabase, KeptCommit, Keeps, forgetting, pruned_of}
use Rattle.storage_db.proofs.Changing.{same_database, texts_more}
use Rattle.storage_db.proofs.Extensions.{kept_now, place_within, since_settled, snapshot_with}
use Rattle.storage_db.proofs.Forgetting.{forgetting_append, pruned_low, pruned_within}
use Rattle.storage_db.proofs.Going.{first_more, goes_appended, goes_same, since_on}
use Rattle.storage_db.proofs.Keeping.{same_kept, committed_of}
use Rattle.storage_db.proofs.Told.{no_more}

-- a log with room for more
pub record HasRoomMore (log room : Log) : Type 0 where
  pub operations : room.operations.items ≡ log.operations.items
  pub bits : room.bits.items ≡ log.bits.items
  pub committed : room.committed ≡ log.committed
  pub cleared : room.cleared.items ≡ log.cleared.items

-- a log with one operation more, which is active
pub record HasOneMore (room log : Log) (bytes : Vec ℕ) : Type 0 where
  pub operations : log.operations.items ≡ room.operations.items ++ bytes ∷ []
  pub bits : log.bits.items ≡ room.bits.items ++ true ∷ []
  pub committed : log.committed ≡ room.committed
  pub cleared : log.cleared ≡ room.cleared

-- a log whose operations are all those of the last commit
pub record IsSettled (log after : Log) (before : Option ℕ) : Type 0 where
  pub operations : after.operations ≡ log.operations
  pub bits : after.bits.items ≡ cleared_at before log.bits.items
  pub committed : after.committed ≡ length log.operations.items
  pub cleared : after.cleared.items ≡ []

pub room_goes : (log room : Log) → HasRoomMore log room → GoesOn log room
room_goes log room more = goes_same log room more.operations more.bits more.committed more.cleared

pub one_goes : (room log : Log) (bytes : Vec ℕ) → HasOneMore room log bytes → GoesOn room log
one_goes room log bytes one = goes_appended room log bytes true one.operations one.bits one.committed one.cleared

pub kept_same : {K W : Type 0} (log back : Log) (m : List (K × Active W)) (last now : Option (KeptCommit K W))
    → HasRoomMore log back → now ≡ last → kept_of back m now ≡ kept_of log m last
kept_same {K} {W} log back m last now more same =
    ap (λ (l : Option (KeptCommit K W)). kept_of back m l) same
    ∙ same_kept log back m m last (λ l. same_database log back more.operations more.bits m l)

pub since_same : {K W : Type 0} (log back : Log) (last now : Option (KeptCommit K W)) → HasRoomMore log back → now ≡ last
    → IsSince log last → IsSince back now
since_same {K} {W} log back last now more same since =
    subst (λ (l : Option (KeptCommit K W)). IsSince back l) (sym same) (since_on log back last (room_goes log back more) since)

module _ {K W Y : Type 0} (e : Keyed K W) (seen : W → Y) (h : HashFunction) (g : Grafting) where
  -- a command that is done after room has been made is done
  pub done_with_room : (log room : Log) (m : List (K × Active W)) (last : Option (KeptCommit K W)) (new : KeptDatabase K W)
      (command : Command K W) → HasRoomMore log room → IsDone e seen h g (kept_of room m last) new command
      → IsDone e seen h g (kept_of log m last) new command
  done_with_room log room m last new command more =
      subst (λ (k : KeptDatabase K W). IsDone e seen h g k new command) (kept_same log room m last last more refl)

  -- and what is kept is kept with the room
  pub keeps_with_room : (log room : Log) (m : List (K × Active W)) (last : Option (KeptCommit K W)) → HasRoomMore log room
      → (d : Database K W) → Keeps e seen h g (kept_of log m last) d → Keeps e seen h g (kept_of room m last) d
  keeps_with_room log room m last more d keeps =
      subst (λ (k : KeptDatabase K W). Keeps e seen h g k d) (sym (kept_same log room m last last more refl)) keeps

  module _ (room made after : Log) (m : List (K × Active W)) (last : Option (KeptCommit K W)) (bytes : Vec ℕ)
      (one : HasOneMore room made bytes) (since : IsSince room last) (before : Option ℕ)
      (before_is : before ≡ place_of last) (settled : IsSettled made after before) (metadata : Option W) (floor : ℕ) where
    since_made : IsSince made last
    since_made = since_on room made last (one_goes room made bytes one) since

    count_made : length made.operations.items ≡ length room.operations.items + 1
    count_made = ap (λ (l : List (Vec ℕ)). length l) one.operations ∙ length-append room.operations.items (bytes ∷ [])

    bits_made : cleared_at before made.bits.items ≡ cleared_at before room.bits.items ++ true ∷ []
    bits_made =
        ap (λ (b : List Bool). cleared_at before b) one.bits
        ∙ ap (λ (o : Option ℕ). cleared_at o (room.bits.items ++ true ∷ [])) before_is
        ∙ place_within room last true since
        ∙ ap (λ (o : Option ℕ). cleared_at o room.bits.items ++ true ∷ []) (sym before_is)

    -- what is kept now stands for the snapshot of the database's operations and this one
    stands_now : (c : KeptCommit K W) → IsCommitOf e seen h g made m last metadata floor c → (d : Database K W)
        → Keeps e seen h g (kept_of room m last) d
        → IsKeptOf h g c (snapshot_with (d.operations ++ bytes.items ∷ []) (cleared_at (place_of last) made.bits.items) floor)
    stands_now c is d keeps =
        let all : List (List ℕ) = d.operations ++ bytes.items ∷ [] in
        let within : pruned_of last ≤ length d.operations = pruned_within e seen h g (kept_of room m last) d keeps in
        let are : texts made ≡ forgetting (pruned_of last) all
        = texts_more room made bytes one.operations ∙ ap (λ (l : List (List ℕ)). l ++ bytes.items ∷ []) keeps.operations
        ∙ sym (forgetting_append (pruned_of last) d.operations (bytes.items ∷ []) within) in
        kept_now e seen h g made c (λ o. snapshot_with o (cleared_at (place_of last) made.bits.items) floor) all last d.last are
        keeps.last (first_more d.operations all (bytes.items ∷ []) refl d.last keeps.prefix) since_made is.snapshot

    -- what is kept now is that of the database after the commit
    one_committed : (c : KeptCommit K W) → floor_of last ≤ floor → floor ≡ least_location m (length room.operations.items)
        → bytes.items ≡ commit_text e metadata floor → IsCommitOf e seen h g made m last metadata floor c
        → (d : Database K W) → Keeps e seen h g (kept_of room m last) d
        → (nat_lt (2 ^ 62) (length (commit e d metadata).operations) ≡ false)
        × Keeps e seen h g (kept_of after m (Some c)) (commit e d metadata) × (pruned_of (Some c) ≡ pruned_of last)
    one_committed c later floor_is written is d keeps =
        let all : List (List ℕ) = d.operations ++ bytes.items ∷ [] in
        let least : ℕ = least_location m (length room.operations.items) in
        let moved : snapshot_with all (cleared_at (place_of last) made.bits.items) floor
        ≡ snapshot_with all (cleared_at before room.bits.items ++ true ∷ []) least
        = ap₂ (λ (b : List Bool) (f : ℕ). snapshot_with all b f)
        (ap (λ (o : Option ℕ). cleared_at o made.bits.items) (sym before_is) ∙ bits_made) floor_is in
        let there : IsKeptOf h g c (snapshot_with all (cleared_at before room.bits.items ++ true ∷ []) least)
        = subst (λ (s : Snapshot). IsKeptOf h g c s) moved (stands_now c is d keeps) in
        let low : pruned_of last ≤ floor_of last = pruned_low e seen h g d.last last keeps.last in
        let result = committed_of e seen h g room after m last d keeps metadata c bytes before
        (written ∙ ap (commit_text e metadata) floor_is) before_is
        (ap (λ (v : Vec (Vec ℕ)). v.items) settled.operations ∙ one.operations) (settled.bits ∙ bits_made)
        is.metadata_is (is.floor_is ∙ floor_is) (is.count ∙ count_made) is.pruned (omega (arith, low, later, floor_is)) is.copies
        there (no_more after) in
        (result.0, result.1, is.pruned)

    pub committed_with : (now : Option (KeptCommit K W)) → floor_of last ≤ floor
        → floor ≡ least_location m (length room.operations.items)
        → bytes.items ≡ commit_text e metadata floor → IsSomeAnd now (IsCommitOf e seen h g made m last metadata floor)
        → (d : Database K W) → Keeps e seen h g (kept_of room m last) d
        → (nat_lt (2 ^ 62) (length (commit e d metadata).operations) ≡ false)
        × Keeps e seen h g (kept_of after m now) (commit e d metadata) × (pruned_of now ≡ pruned_of last)
    committed_with None later floor_is written is d keeps = absurd is
    committed_with (Some c) later floor_is written is d keeps = one_committed c later floor_is written is d keeps

    pub since_now : (now : Option (KeptCommit K W)) → IsSomeAnd now (IsCommitOf e seen h g made m last metadata floor)
        → (d : Database K W) → Keeps e seen h g (kept_of room m last) d → IsSince after now
    since_now None is d keeps = absurd is
    since_now (Some c) is d keeps =
        since_settled made after last before c (omega (arith, count_made)) is.count (stands_now c is d keeps).2 before_is
        settled.operations settled.bits settled.committed settled.cleared

-- a commit that was refused has been taken back
module _ (log made back : Log) (bytes : Vec ℕ) (one : HasOneMore log made bytes)
    (operations : back.operations.items ≡ take (length made.operations.items - 1) made.operations.items)
    (bits : back.bits.items ≡ take (length made.operations.items - 1) made.bits.items)
    (committed : back.committed ≡ made.committed) (since : back.cleared ≡ made.cleared) where
  back_count : length made.operations.items - 1 ≡ length log.operations.items
  back_count =
      let made_count : length made.operations.items ≡ length log.operations.items + 1
      = ap (λ (l : List (Vec ℕ)). length l) one.operations ∙ length-append log.operations.items (bytes ∷ []) in
      omega (arith, made_count)

  cut : {X : Type 0} (whole old : List X) (x : X) (n : ℕ) → whole ≡ old ++ x ∷ [] → n ≡ length old → take n whole ≡ old
  cut {X} whole old x n appended count =
      ap₂ (λ (k : ℕ) (l : List X). take k l) count appended ∙ take-append_seam old (x ∷ [])

  pub taken_back : HasRoomMore log back
  taken_back =
      let as_many : length log.operations.items ≡ length log.bits.items = omega (arith, log.each) in
      record {
        operations = operations ∙ cut made.operations.items log.operations.items bytes _ one.operations back_count;
        bits = bits ∙ cut made.bits.items log.bits.items true _ one.bits (back_count ∙ as_many);
        committed = committed ∙ one.committed;
        cleared = ap (λ (v : Vec ℕ). v.items) (since ∙ one.cleared);
      }

-- how many operations a commit appends
pub commit_count : {K W : Type 0} (e : Keyed K W) (log : Log) (m : List (K × Active W)) (last : Option (Committed K W))
    (metadata : Option W) → length (texts log) + 1 ≡ length (commit e (database_of log m last) metadata).operations
commit_count e log m last metadata =
    sym (length-append (texts log) (commit_text e metadata (least_location m (length (texts log))) ∷ []))
