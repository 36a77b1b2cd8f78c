-- What a yes about a key means.
use Rattle.std.specs.Prelude.{◌≡◌, ◌⊎◌, ℕ, List, Option}
use Rattle.storage_codec.specs.Digests.{HashFunction, Cross}
use Rattle.storage_current.specs.Snapshots.{Grafting, Snapshot, IsSnapshot, IsActive, OperationProof, canonical_root, snapshot_strings, own_operation_proof}
use Rattle.storage_current.specs.CurrentProofs.{IsActiveCurrent, operation_strings}
use Rattle.storage_current.specs.Keys.{Keyed, update_text, commit_text, Excludes, IsWellFormed, IsValue, IsAbsent}

-- Of each snapshot with that root, the proof is its own, the operation is active, and the claim holds; or two strings cross.
abbrev pub Means : HashFunction → Grafting → OperationProof → List ℕ → List ℕ → (Snapshot → Type 0) → Type 0
Means h g proof operation root Claim =
    (s : Snapshot) → IsSnapshot s → canonical_root h g s ≡ root →
    (proof ≡ own_operation_proof h g s proof.location) × IsActive s proof.location operation × Claim s
    ⊎ Cross h (operation_strings h g proof operation) (snapshot_strings h g s)

-- what an exclusion proof shows: an update, or a commit with a value or none
pub data Exclusion (U V : Type 0) : Type 0 where
  KeyValue : OperationProof → U → Exclusion U V
  Commit : OperationProof → Option V → Exclusion U V

abbrev pub proof_in : {U V : Type 0} → Exclusion U V → OperationProof
proof_in (KeyValue proof update) = proof
proof_in (Commit proof value) = proof

module _ {K V : Type 0} (e : Keyed K V) where
  -- that update as it is written, or the commit whose floor is the proof's own location
  abbrev pub shown_text : Exclusion (K × V × K) V → List ℕ
  shown_text (KeyValue proof update) = update_text e update.0 update.1 update.2
  shown_text (Commit proof value) = commit_text e value proof.location

  -- an update's span has to hold the key, and a commit excludes each
  abbrev pub Allows : Exclusion (K × V × K) V → K → Type 0
  Allows (KeyValue proof update) key = Excludes e update.0 update.2 key
  Allows (Commit proof value) key = Unit {0}

  -- where the check of an exclusion says yes
  pub record IsExcluded (h : HashFunction) (g : Grafting) (x : Exclusion (K × V × K) V) (key : K)
      (root : List ℕ) : Type 0 where
    pub allowed : Allows x key
    pub accepted : IsActiveCurrent h g (proof_in x) (shown_text x) root

  -- an update of the key to the value, which of a well-formed snapshot is its value
  abbrev pub MeansValue : HashFunction → Grafting → OperationProof → K → V → K → List ℕ → Type 0
  MeansValue h g proof key value next root =
      Means h g proof (update_text e key value next) root (λ s. IsWellFormed e s → IsValue e s key value)

  -- an operation of an exclusion of the key, which of a well-formed snapshot is absent
  abbrev pub MeansAbsent : HashFunction → Grafting → Exclusion (K × V × K) V → K → List ℕ → Type 0
  MeansAbsent h g x key root = Means h g (proof_in x) (shown_text x) root (λ s. IsWellFormed e s → IsAbsent e s key)
