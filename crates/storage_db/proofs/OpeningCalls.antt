-- What the calls answer that follow operations.
use Rattle.std.proofs.Common.{◌≡◌, ℕ, ◌+◌, ◌<◌, ◌≤◌, Bool, Decides, true, false, List, [], ◌∷◌, ◌++◌, length, map, Option, Some, None, slice_get, refl, sym, ap, ◌∙◌, subst, arith, append-nil, append_assoc, true≢false}
use Rattle.std.specs.Prelude.{MatchBool, IsTrue, ◌↔◌, Result, IfOk}
use Rattle.std.proofs.Math.Seq.{get_or-append_seam}
use Rattle.std.specs.Global.{Vec}
use Rattle.std.proofs.lemmas.List.{length-append, length-map, map-append}
use Rattle.std.proofs.lemmas.Option.{slice_get-get_or, slice_get_past}
use Rattle.storage_ops.specs.Operations as operation
use Rattle.storage_ops.specs.Operations.{OperationView}
use Rattle.storage_current.specs.Keys.{Keyed, IsKeyed}
use Rattle.storage_db.specs.declared.db.active.Active.{Active}
use Rattle.storage_db.specs.declared.db.log.Log.{Log}
use Rattle.storage_db.specs.Databases.{Command, Commit, Database, Delete, Put, done, empty}
use Rattle.storage_db.specs.Opening.{Begins, IsRefusedAt, ReadsCommand, own_text}
use Rattle.storage_db.specs.Parts.{texts}
use Rattle.storage_db.specs.Replays.{AreReadAlike, IsDoing, IsDoneOr, IsFollowedBy, IsOnPath}
use Rattle.storage_db.proofs.Cases.{by_list, if_ok, some_not_none, somes}
use Rattle.storage_db.proofs.Changing.{count_of_texts}
use Rattle.storage_db.proofs.OpeningEnds.{all_followed, refused_within}
use Rattle.storage_db.proofs.OpeningPaths.{appends, none_begins, other_begins, path_along, path_on, rest_begins}
use Rattle.storage_db.proofs.OpeningSame.{doing_same, same_itself}

seam : (xs : List (List ℕ)) (y : List ℕ) (ys : List (List ℕ)) → slice_get (xs ++ y ∷ ys) (length xs) ≡ Some y
seam xs y ys =
    let within : length xs < length (xs ++ y ∷ ys) = omega (arith, length-append xs (y ∷ ys)) in
    slice_get-get_or (xs ++ y ∷ ys) (length xs) [] within ∙ ap Some (get_or-append_seam xs y ys [])

-- whether the operation at a place is written as another
pub has_at : (all : List (List ℕ)) (place : ℕ) (written own : List ℕ) → slice_get all place ≡ Some written → (r : Bool)
    → Decides r (written ≡ own) → (IsTrue r → slice_get all place ≡ Some own) × (slice_get all place ≡ Some own → IsTrue r)
has_at all place written own at r decides =
    (λ holds. at ∙ ap Some (decides.0 holds), λ same. decides.1 (somes written own (sym at ∙ same)))

pub has_not : (all : List (List ℕ)) (place : ℕ) (own : List ℕ) → length all ≤ place
    → (IsTrue false → slice_get all place ≡ Some own) × (slice_get all place ≡ Some own → IsTrue false)
has_not all place own past = (
  λ holds. absurd (true≢false (sym holds)),
  λ same. absurd (some_not_none own (sym same ∙ slice_get_past all place past)),
)

module _ {K W : Type 0} (e : Keyed K W) (reads : List ℕ → Command K W → Type 0) where
  -- no operations have been followed
  pub none_followed : (log : Log) (m : List (K × Active W)) → log.operations.items ≡ [] → log.bits.items ≡ []
      → log.cleared.items ≡ [] → m ≡ [] → IsOnPath e reads log m None []
  none_followed log m operations bits cleared entries = record {
    database = empty;
    path = record {
      commands = [];
      read = tt;
      leave = refl;
      rest = [];
      begins = refl;
      forced = λ others more read longer. (more, longer);
    };
    replay = record {
      is = ap (λ (o : List (List ℕ)). record { operations = o; bits = log.bits.items; entries = m; last = None })
          (ap (map (λ v. v.items)) operations)
          ∙ ap (λ (b : List Bool). record { operations = []; bits = b; entries = m; last = None }) bits
          ∙ ap (λ (n : List (K × Active W)). record { operations = []; bits = []; entries = n; last = None }) entries;
      last_is = (omega (arith, log.within, ap length operations), refl);
      settled = λ _. cleared;
    };
  }

  -- ---- an operation that is the first of a command

  module _ {Y : Type 0} (seen : W → Y) (is : IsKeyed e)
      (one : AreReadAlike e seen reads) (log new : Log) (m n : List (K × Active W)) (last later : Option (Option W × ℕ))
      (before : List (List ℕ)) (on : IsOnPath e reads log m last before) (own : List ℕ) where
    abbrev d : Database K W
    d = on.database

    count : length log.operations.items ≡ length d.operations
    count = count_of_texts log ∙ ap (λ (x : Database K W). length x.operations) on.replay.is

    -- whether the operations are on a path with this one
    abbrev pub IsTaken : Bool → Type 0
    IsTaken same = MatchBool same (IsOnPath e reads new n later (before ++ own ∷ []))
        (Begins e reads (before ++ own ∷ []) → ⊥)

    module _ (counted : length log.operations.items ≡ length before) where
      all : d.operations ≡ before
      all = all_followed e reads before d on.path (sym count ∙ counted)

      pub none_taken : IsFollowedBy e new n later reads d own false → IsTaken false
      none_taken none = none_begins e seen is reads one before d on.path all own none

      module _ (followed : IsFollowedBy e new n later reads d own true) where
        abbrev command : Command K W
        command = followed.0

        abbrev doing : IsDoing e d command
        doing = followed.2

        stands : slice_get (texts new) (length before) ≡ Some (own_text e d command)
        stands =
            let appended = appends e d command doing.own in
            ap (λ (l : List (List ℕ)). slice_get l (length before))
            (ap (λ (x : Database K W). x.operations) followed.3.is ∙ appended.are
            ∙ ap (λ (l : List (List ℕ)). l ++ own_text e d command ∷ appended.more) all)
            ∙ seam before (own_text e d command) appended.more

        taken : (same : Bool) → (IsTrue same ↔ (slice_get (texts new) (length before) ≡ Some own)) → IsTaken same
        taken true has = record {
          database = done e d command;
          path = path_on e seen is reads one before d on.path all own command followed.1 doing
              (somes _ _ (sym stands ∙ has.0 refl));
          replay = followed.3;
        }
        taken false has = other_begins e seen is reads one before d on.path all own command followed.1 doing
            (λ written. true≢false (sym (has.1 (stands ∙ ap Some written))))

        pub first_taken : (same : Bool) (place : ℕ) → place ≡ length before
            → (IsTrue same ↔ (slice_get (texts new) place ≡ Some own)) → IsTaken same
        first_taken same place at has =
            taken same (subst (λ (n : ℕ). IsTrue same ↔ (slice_get (texts new) n ≡ Some own)) at has)

  -- ---- one that the command before has appended already

  module _ (log : Log) (m : List (K × Active W)) (last : Option (Option W × ℕ))
      (before : List (List ℕ)) (on : IsOnPath e reads log m last before) (own : List ℕ) where
    abbrev at : Database K W
    at = on.database

    either : (same : Bool) → (IsTrue same ↔ (slice_get (texts log) (length before) ≡ Some own)) → (written : List ℕ)
        (rest : List (List ℕ)) → at.operations ≡ before ++ written ∷ rest
        → slice_get (texts log) (length before) ≡ Some written
        → MatchBool same (IsOnPath e reads log m last (before ++ own ∷ []))
        (Begins e reads (before ++ own ∷ []) → ⊥)
    either true has written rest begins stands = record {
      database = at;
      path = path_along e reads before at on.path own rest (begins
          ∙ ap (λ (t : List ℕ). before ++ t ∷ rest) (somes written own (sym stands ∙ has.0 refl)));
      replay = on.replay;
    }
    either false has written rest begins stands = rest_begins e reads before at on.path own written rest begins
        (λ same. true≢false (sym (has.1 (stands ∙ ap Some same))))

    pub rest_taken : (place : ℕ) → place ≡ length before → (place ≡ length log.operations.items → ⊥) → (same : Bool)
        → (IsTrue same ↔ (slice_get (texts log) place ≡ Some own))
        → MatchBool same (IsOnPath e reads log m last (before ++ own ∷ []))
        (Begins e reads (before ++ own ∷ []) → ⊥)
    rest_taken place here apart same has = by_list on.path.rest
        (λ none. absurd (apart (here ∙ sym (count_of_texts log ∙ ap (λ (x : Database K W). length x.operations) on.replay.is
        ∙ ap (λ (l : List (List ℕ)). length l)
        (on.path.begins ∙ ap (λ (l : List (List ℕ)). before ++ l) none ∙ append-nil before)))))
        (λ written rest are.
        let begins : at.operations ≡ before ++ written ∷ rest
        = on.path.begins ∙ ap (λ (l : List (List ℕ)). before ++ l) are in
        let stands : slice_get (texts log) (length before) ≡ Some written
        = ap (λ (l : List (List ℕ)). slice_get l (length before))
        (ap (λ (x : Database K W). x.operations) on.replay.is ∙ begins) ∙ seam before written rest in
        either same (subst (λ (n : ℕ). IsTrue same ↔ (slice_get (texts log) n ≡ Some own)) here has) written rest begins stands)

-- ---- operations one after the other

abbrev bytes_of : Vec ℕ → List ℕ
bytes_of v = v.items

-- the operations so far, this one and those behind it
split : (yielded rest later given : List (Vec ℕ)) (x : Vec ℕ) (own : List ℕ) → own ≡ x.items → rest ≡ x ∷ later
    → yielded ++ rest ≡ given → map bytes_of given ≡ map bytes_of yielded ++ own ∷ map bytes_of later
split yielded rest later given x own is next whole =
    ap (map bytes_of) (sym whole ∙ ap (λ (l : List (Vec ℕ)). yielded ++ l) next)
    ∙ map-append bytes_of yielded (x ∷ later)
    ∙ ap (λ (t : List ℕ). map bytes_of yielded ++ t ∷ map bytes_of later) (sym is)

module _ {K W : Type 0} (e : Keyed K W) (reads : List ℕ → Command K W → Type 0) where
  -- one that begins nothing is where they are refused
  pub stops_at : (yielded rest later all : List (Vec ℕ)) (x : Vec ℕ) (own : List ℕ) → own ≡ x.items → rest ≡ x ∷ later
      → yielded ++ rest ≡ all → (log : Log) (m : List (K × Active W)) (last : Option (Option W × ℕ))
      → IsOnPath e reads log m last (map bytes_of yielded)
      → (Begins e reads (map bytes_of yielded ++ own ∷ []) → ⊥) → (place : ℕ) → place ≡ length yielded
      → IsRefusedAt e reads (map bytes_of all) place
  stops_at yielded rest later all x own is next whole log m last on none place at =
      subst (λ (n : ℕ). IsRefusedAt e reads (map bytes_of all) n) (length-map yielded bytes_of ∙ sym at)
      (refused_within e reads (map bytes_of yielded) on.database on.path (map bytes_of all) own (map bytes_of later)
      (split yielded rest later all x own is next whole) none)

  -- the operations with one more
  pub goes_on : (yielded : List (Vec ℕ)) (x : Vec ℕ) (own : List ℕ) → own ≡ x.items → (log : Log) (m : List (K × Active W))
      (last : Option (Option W × ℕ)) → IsOnPath e reads log m last (map bytes_of yielded ++ own ∷ [])
      → IsOnPath e reads log m last (map bytes_of (yielded ++ x ∷ []))
  goes_on yielded x own is log m last on =
      subst (IsOnPath e reads log m last)
      (ap (λ (t : List ℕ). map bytes_of yielded ++ t ∷ []) is ∙ sym (map-append bytes_of yielded (x ∷ []))) on

pub one_further : (yielded : List (Vec ℕ)) (x : Vec ℕ) (place : ℕ) → place ≡ length yielded → place + 1 ≡ length (yielded ++ x ∷ [])
one_further yielded x place at = ap (λ (n : ℕ). n + 1) at ∙ sym (length-append yielded (x ∷ []))

pub rest_further : (yielded rest later given : List (Vec ℕ)) (x : Vec ℕ) → rest ≡ x ∷ later → yielded ++ rest ≡ given
    → (yielded ++ x ∷ []) ++ later ≡ given
rest_further yielded rest later given x next whole =
    append_assoc yielded (x ∷ []) later ∙ ap (λ (l : List (Vec ℕ)). yielded ++ l) (sym next) ∙ whole

pub fewer_left : (rest later : List (Vec ℕ)) (x : Vec ℕ) (n k : ℕ) → rest ≡ x ∷ later → n ≡ length rest → k + 1 ≡ n
    → k ≡ length later
fewer_left rest later x n k next counted one =
    let same : length rest ≡ length (x ∷ later) = ap (λ (l : List (Vec ℕ)). length l) next in
    omega arith

-- all of them have been taken
pub all_taken : (yielded rest all : List (Vec ℕ)) (n : ℕ) → yielded ++ rest ≡ all → n ≡ length rest → n ≡ 0 → yielded ≡ all
all_taken yielded [] all n whole counted zero = sym (append-nil yielded) ∙ whole
all_taken yielded (x ∷ rest) all n whole counted zero = absurd (omega arith)

-- ---- a command that is read from an operation

module _ {K W Y : Type 0} (e : Keyed K W) (seen : W → Y) (is : IsKeyed e) (reads : List ℕ → Command K W → Type 0)
    (one : AreReadAlike e seen reads)
    (new : Log) (m : List (K × Active W)) (last : Option (Option W × ℕ)) (d : Database K W) (bytes : List ℕ) where
  pub followed_as : (command : Command K W) → reads bytes command → (did : Bool) → IsDoneOr e new m last d command did
      → IsFollowedBy e new m last reads d bytes did
  followed_as command read true done_so = (command, read, done_so.0, done_so.1)
  followed_as command read false none = λ other other_read doing.
      none (doing_same e seen is d d (same_itself e seen d) command other (one bytes command other read other_read) doing)

  pub followed_if : {E : Type 0} (command : Command K W) → reads bytes command → (r : Result Bool E)
      → IfOk r (IsDoneOr e new m last d command) → IfOk r (IsFollowedBy e new m last reads d bytes)
  followed_if command read r = if_ok (IsDoneOr e new m last d command) (IsFollowedBy e new m last reads d bytes) r
      (followed_as command read)

-- nothing is read from bytes that are no operation
pub none_read : {K W U : Type 0} (reads : List ℕ → OperationView K U W → Type 0) (update : K → W → K → U) (bytes : List ℕ)
    → ((op : OperationView K U W) → reads bytes op → ⊥) → (command : Command K W) → ReadsCommand reads update bytes command → ⊥
none_read reads update bytes none (Put key value) read = none (operation.Update (update key value read.0)) read.1
none_read reads update bytes none (Delete key) read = none (operation.Delete key) read
none_read reads update bytes none (Commit metadata) read = none (operation.CommitFloor metadata read.0) read.1
