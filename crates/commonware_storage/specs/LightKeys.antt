-- What a client that trusts one digest learns of keys from bytes.
use Rattle.std.specs.Prelude.{◌≡◌, ℕ, Bool, List, [], ◌++◌, Ok}
use Rattle.storage_codec.specs.Digests.{HashFunction, IsSized}
use Rattle.storage_codec.specs.Codec.{Answer, whole}
use Rattle.storage_current.specs.Snapshots.{Grafting, IsGrafting, Snapshot, IsSnapshot, IsActive, OperationProof, canonical_root, own_operation_proof}
use Rattle.storage_current.specs.CurrentProofs.{IsActiveCurrent}
use Rattle.storage_current.specs.CurrentWire.{operation_text, sized_operation_at, max_digests}
use Rattle.storage_current.specs.OwnWire.{IsPrompt}
use Rattle.storage_current.specs.Keys.{Keyed, update_text, Updates}
use Rattle.storage_current.specs.KeyProofs.{Exclusion, Allows, IsExcluded, MeansValue, MeansAbsent, proof_in, shown_text}
use Rattle.storage_current.specs.KeyWire.{pair_at, exclusion_text, exclusion_at, exclusion_map, IsAdmittedExclusion}

module _ {K V X : Type 0} (e : Keyed K V) (view : K → X) (next_at : List ℕ → Answer X) where
  -- These bytes are one whole key-value proof over a chunk of so many bytes, with at most 128 digests of d bytes, and the check of
  -- that proof says yes for a key and a value against a root.
  pub record IsAcceptedValue (h : HashFunction) (g : Grafting) (has_pending : Bool) (d : ℕ) (bytes : List ℕ) (key : K)
      (value : V) (root : List ℕ) : Type 0 where
    pub proof : OperationProof
    pub next : K
    pub read : whole (pair_at (sized_operation_at has_pending d g.bytes max_digests) next_at bytes)
        ≡ Ok ((proof, view next), [])
    pub accepted : IsActiveCurrent h g proof (update_text e key value next) root

  -- What a yes means, whatever the bytes are.
  pub record IsTrueValue (h : HashFunction) (g : Grafting) (has_pending : Bool) (d : ℕ) (bytes : List ℕ) (key : K)
      (value : V) (root : List ℕ) : Type 0 where
    pub proof : OperationProof
    pub next : K
    pub read : whole (pair_at (sized_operation_at has_pending d g.bytes max_digests) next_at bytes)
        ≡ Ok ((proof, view next), [])
    pub meaning : MeansValue e h g proof key value next root

  -- The other half. A snapshot's own proof of the active update of a key, with the next key that it names, is accepted.
  abbrev pub OwnValuesAreAccepted : (K → Type 0) → Type 0
  OwnValuesAreAccepted Admits =
      (d : ℕ) (h : HashFunction) → IsSized d h → (g : Grafting) → IsGrafting g → (has_pending : Bool)
      → IsPrompt has_pending g.shape →
      (s : Snapshot) → IsSnapshot s → (location : ℕ) (key : K) (value : V) (next : K)
      → Updates e s location key value next → Admits next →
      IsAcceptedValue h g has_pending d (operation_text has_pending (own_operation_proof h g s location)
      ++ e.key next) key value (canonical_root h g s)

module _ {K V X Y : Type 0} (e : Keyed K V) (kview : K → X) (vview : V → Y) (update_at : List ℕ → Answer (X × Y × X))
    (value_at : List ℕ → Answer Y) where
  -- what is seen of an exclusion proof
  abbrev pub exclusion_view : Exclusion (K × V × K) V → Exclusion (X × Y × X) Y
  exclusion_view = exclusion_map (λ u. (kview u.0, vview u.1, kview u.2)) vview

  -- the same of exclusion proofs
  pub record IsAcceptedAbsence (h : HashFunction) (g : Grafting) (has_pending : Bool) (d : ℕ) (bytes : List ℕ) (key : K)
      (root : List ℕ) : Type 0 where
    pub proof : Exclusion (K × V × K) V
    pub read : whole (exclusion_at (sized_operation_at has_pending d g.bytes max_digests) update_at value_at bytes)
        ≡ Ok (exclusion_view proof, [])
    pub accepted : IsExcluded e h g proof key root

  pub record IsTrueAbsence (h : HashFunction) (g : Grafting) (has_pending : Bool) (d : ℕ) (bytes : List ℕ) (key : K)
      (root : List ℕ) : Type 0 where
    pub proof : Exclusion (K × V × K) V
    pub read : whole (exclusion_at (sized_operation_at has_pending d g.bytes max_digests) update_at value_at bytes)
        ≡ Ok (exclusion_view proof, [])
    pub meaning : MeansAbsent e h g proof key root

  -- A snapshot's own proof of an active operation that excludes a key is accepted: with the update whose span holds the key, or with
  -- the value of a commit at its own floor.
  abbrev pub OwnExclusionsAreAccepted : (K × V × K → Type 0) → (V → Type 0) → Type 0
  OwnExclusionsAreAccepted UpdateAdmits ValueAdmits =
      (d : ℕ) (h : HashFunction) → IsSized d h → (g : Grafting) → IsGrafting g → (has_pending : Bool)
      → IsPrompt has_pending g.shape →
      (s : Snapshot) → IsSnapshot s → (x : Exclusion (K × V × K) V) (key : K)
      → proof_in x ≡ own_operation_proof h g s (proof_in x).location →
      IsActive s (proof_in x).location (shown_text e x) → Allows e x key →
      IsAdmittedExclusion (λ _. Unit {0}) UpdateAdmits ValueAdmits x →
      IsAcceptedAbsence h g has_pending d
      (exclusion_text has_pending (λ u. e.key u.0 ++ e.value u.1 ++ e.key u.2) e.value x) key (canonical_root h g s)
