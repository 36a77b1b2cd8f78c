-- What an ordered database keeps to, whatever commands it is given.
use Rattle.std.specs.Prelude.{◌≡◌, ◌⊎◌, ℕ, List, [], ◌∷◌, ◌++◌, Option, Some, None, MatchOption, option_map}
use Rattle.storage_codec.specs.Digests.{HashFunction, Cross}
use Rattle.storage_current.specs.CurrentProofs.{IsActiveCurrent, operation_strings}
use Rattle.storage_current.specs.KeyProofs.{Exclusion, IsExcluded, MeansValue, MeansAbsent, proof_in, shown_text}
use Rattle.storage_current.specs.Keys.{Keyed, update_text, IsWellFormed, IsValue, IsAbsent}
use Rattle.storage_current.specs.Snapshots.{Grafting, IsGrafting, Snapshot, IsSnapshot, IsActive, OperationProof, canonical_root, own_operation_proof, snapshot_strings}
use Rattle.storage_db.specs.Databases.{Command, Committed, empty, run, value_at, no_maps, changed, maps_after}
use Rattle.storage_db.specs.Kept.{KeptDatabase, Keeps, IsDone}
use Rattle.storage_db.specs.Shown.{IsValueProof, IsAbsenceProof}

-- the snapshot's own proof of this operation, which is active in it
pub record IsOwnProof (h : HashFunction) (g : Grafting) (s : Snapshot) (proof : OperationProof) (operation : List ℕ) : Type 0 where
  pub own : proof ≡ own_operation_proof h g s proof.location
  pub active : IsActive s proof.location operation

module _ {K W : Type 0} (e : Keyed K W) where
  -- a well-formed snapshot, whose keys are those of a map, with their values
  pub record IsSnapshotOf (s : Snapshot) (map : K → Option W) : Type 0 where
    pub snapshot : IsSnapshot s
    pub well_formed : IsWellFormed e s
    pub values : (key : K) (value : W) → map key ≡ Some value → IsValue e s key value
    pub absent : (key : K) → map key ≡ None → IsAbsent e s key

  -- Each list of commands leaves the map that its puts and deletions make; and with a commit among them a well-formed snapshot
  -- whose ring of keys is the map at the last one.
  abbrev pub EachListIsKept : Type 0
  EachListIsKept = (commands : List (Command K W)) →
      let d = run e empty commands in
      let m = maps_after e empty no_maps commands in
      ((key : K) → value_at e d.entries key ≡ m.now key)
      × MatchOption d.last ((key : K) → m.committed key ≡ None)
      (λ last. IsSnapshotOf last.snapshot m.committed × ((key : K) → value_at e last.entries key ≡ m.committed key))

  -- A proof of the value of a key is accepted against the root of the last commit's snapshot, and so is one that it has none. Each is
  -- the snapshot's own of an operation that is active.
  pub record AreAccepted (h : HashFunction) (g : Grafting) (commit : Committed K W) : Type 0 where
    pub values : (key : K) (value : W) (next : K) (proof : OperationProof)
        → IsValueProof e h g commit key value next proof
        → IsActiveCurrent h g proof (update_text e key value next) (canonical_root h g commit.snapshot)
    pub absences : (key : K) (x : Exclusion (K × W × K) W) → IsAbsenceProof e h g commit key x
        → IsExcluded e h g x key (canonical_root h g commit.snapshot)
    pub own_values : (key : K) (value : W) (next : K) (proof : OperationProof)
        → IsValueProof e h g commit key value next proof
        → IsOwnProof h g commit.snapshot proof (update_text e key value next)
    pub own_absences : (key : K) (x : Exclusion (K × W × K) W) → IsAbsenceProof e h g commit key x
        → IsOwnProof h g commit.snapshot (proof_in x) (shown_text e x)

  -- Whatever commands were given, the proofs at the last commit are accepted.
  abbrev pub EachProofIsAccepted : HashFunction → Grafting → Type 0
  EachProofIsAccepted h g = (commands : List (Command K W)) → IsGrafting g
      → MatchOption (run e empty commands).last (Unit {0}) (AreAccepted h g)

  -- A client's yes against a snapshot's root, of a value or of an absence, states what a map has, or two strings cross.
  pub record AreTrueOf (h : HashFunction) (g : Grafting) (s : Snapshot) (map : K → Option W) : Type 0 where
    pub values : (key : K) (value : W) (next : K) (proof : OperationProof)
        → MeansValue e h g proof key value next (canonical_root h g s)
        → (option_map e.value (map key) ≡ Some (e.value value))
        ⊎ Cross h (operation_strings h g proof (update_text e key value next)) (snapshot_strings h g s)
    pub absences : (key : K) (x : Exclusion (K × W × K) W) → MeansAbsent e h g x key (canonical_root h g s)
        → (map key ≡ None) ⊎ Cross h (operation_strings h g (proof_in x) (shown_text e x)) (snapshot_strings h g s)

  -- Whatever commands were given, a yes against the root of the last commit states what the map had at that commit.
  abbrev pub EachYesIsTrue : HashFunction → Grafting → Type 0
  EachYesIsTrue h g = (commands : List (Command K W)) → MatchOption (run e empty commands).last (Unit {0})
      (λ last. AreTrueOf h g last.snapshot (maps_after e empty no_maps commands).committed)

-- A database in memory that commands left, and one command more: it leaves what the commands leave with it at their end, and the maps
-- change as it says.
abbrev pub EachCallIsKept : {K W Y : Type 0} → Keyed K W → (W → Y) → HashFunction → Grafting → Type 0
EachCallIsKept {K} {W} e seen h g = (old new : KeptDatabase K W) (command : Command K W) → IsDone e seen h g old new command →
    (commands : List (Command K W)) → Keeps e seen h g old (run e empty commands) →
    Keeps e seen h g new (run e empty (commands ++ command ∷ []))
    × (maps_after e empty no_maps (commands ++ command ∷ []) ≡ changed e (maps_after e empty no_maps commands) command)
