-- What the checks of a snapshot's own bytes about keys answer.
use Rattle.std.proofs.Common.{◌≡◌, ℕ, Bool, true, List, ◌++◌, sym, ap, ◌∙◌, subst, ◌↔◌}
use Rattle.std.specs.Bool.{IsTrue}
use Rattle.storage_codec.specs.Digests.{HashFunction, IsSized}
use Rattle.storage_codec.specs.Codec.{Answer}
use Rattle.storage_current.specs.Snapshots.{Grafting, IsGrafting, Snapshot, IsSnapshot, IsActive, OperationProof, canonical_root, own_operation_proof}
use Rattle.storage_current.specs.CurrentWire.{operation_text}
use Rattle.storage_current.specs.OwnWire.{IsPrompt}
use Rattle.storage_current.specs.Keys.{Keyed, Updates}
use Rattle.storage_current.specs.KeyProofs.{Exclusion, Allows, proof_in, shown_text}
use Rattle.storage_current.specs.KeyWire.{exclusion_text, IsAdmittedExclusion}
use Rattle.commonware_storage.specs.LightKeys.{IsAcceptedValue, IsAcceptedAbsence, OwnValuesAreAccepted, OwnExclusionsAreAccepted}

pub own_value_yes : {K V X : Type 0} (e : Keyed K V) (view : K → X) (next_at : List ℕ → Answer X) (admits : K → Type 0)
    → OwnValuesAreAccepted e view next_at admits
    → (d : ℕ) (h : HashFunction) → IsSized d h → (g : Grafting) → IsGrafting g → (has_pending : Bool)
    → IsPrompt has_pending g.shape
    → (s : Snapshot) → IsSnapshot s
    → (location : ℕ) (key : K) (value : V) (next : K) (bytes root : List ℕ) (proof : OperationProof)
    → Updates e s location key value next → admits next → bytes ≡ operation_text has_pending proof ++ e.key next
    → proof ≡ own_operation_proof h g s location → root ≡ canonical_root h g s
    → (answer : Bool) → (IsTrue answer ↔ IsAcceptedValue e view next_at h g has_pending d bytes key value root)
    → answer ≡ true
own_value_yes e view next_at admits accepted d h sized g grafting has_pending prompt s snapshot location key value next
    bytes root proof active admitted written own root_is answer exact =
    let law = accepted d h sized g grafting has_pending prompt s snapshot location key value next active admitted in
    let text : bytes ≡ operation_text has_pending (own_operation_proof h g s location) ++ e.key next =
    written ∙ ap (λ (p : OperationProof). operation_text has_pending p ++ e.key next) own in
    let at_text = subst (λ (b : List ℕ).
    IsAcceptedValue e view next_at h g has_pending d b key value (canonical_root h g s)) (sym text) law in
    exact.1 (subst (IsAcceptedValue e view next_at h g has_pending d bytes key value) (sym root_is) at_text)

pub own_absence_yes : {K V X Y : Type 0} (e : Keyed K V) (kview : K → X) (vview : V → Y)
    (update_at : List ℕ → Answer (X × Y × X)) (value_at : List ℕ → Answer Y)
    (update_admits : K × V × K → Type 0) (value_admits : V → Type 0)
    → OwnExclusionsAreAccepted e kview vview update_at value_at update_admits value_admits
    → (d : ℕ) (h : HashFunction) → IsSized d h → (g : Grafting) → IsGrafting g → (has_pending : Bool)
    → IsPrompt has_pending g.shape
    → (s : Snapshot) → IsSnapshot s → (x : Exclusion (K × V × K) V) (key : K) (bytes root : List ℕ)
    → proof_in x ≡ own_operation_proof h g s (proof_in x).location → IsActive s (proof_in x).location (shown_text e x)
    → Allows e x key
    → IsAdmittedExclusion (λ _. Unit {0}) update_admits value_admits x
    → bytes ≡ exclusion_text has_pending (λ u. e.key u.0 ++ e.value u.1 ++ e.key u.2) e.value x
    → root ≡ canonical_root h g s
    → (answer : Bool)
    → (IsTrue answer ↔ IsAcceptedAbsence e kview vview update_at value_at h g has_pending d bytes key root)
    → answer ≡ true
own_absence_yes e kview vview update_at value_at update_admits value_admits accepted d h sized g grafting has_pending
    prompt s snapshot x key bytes root own active allowed admitted written root_is answer exact =
    let law = accepted d h sized g grafting has_pending prompt s snapshot x key own active allowed admitted in
    let at_text = subst (λ (b : List ℕ). IsAcceptedAbsence e kview vview update_at value_at h g has_pending d b key
    (canonical_root h g s)) (sym written) law in
    exact.1
    (subst (IsAcceptedAbsence e kview vview update_at value_at h g has_pending d bytes key) (sym root_is) at_text)
