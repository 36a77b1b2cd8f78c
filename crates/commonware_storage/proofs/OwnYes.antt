-- What the check of a snapshot's own bytes answers.
use Rattle.std.proofs.Common.{◌≡◌, ℕ, Bool, true, List, sym, ap, ◌∙◌, subst, ◌↔◌}
use Rattle.std.specs.Bool.{IsTrue}
use Rattle.storage_codec.specs.Digests.{HashFunction, IsSized}
use Rattle.storage_current.specs.Snapshots.{Grafting, IsGrafting, Snapshot, IsSnapshot, IsActive, OperationProof, canonical_root, own_operation_proof}
use Rattle.storage_current.specs.CurrentWire.{operation_text}
use Rattle.storage_current.specs.OwnWire.{IsPrompt}
use Rattle.commonware_storage.specs.Light.{IsAcceptedAt, OwnProofsAreAccepted}

-- what the check is asked about, where its bytes are what a snapshot's own proof is written as
pub own_asked : (d : ℕ) (h : HashFunction) (g : Grafting) (has_pending : Bool) (s : Snapshot) (loc location : ℕ)
    (operation bytes root : List ℕ) (proof : OperationProof) → loc ≡ location
    → bytes ≡ operation_text has_pending proof → proof ≡ own_operation_proof h g s location
    → (answer : Bool) → (IsTrue answer ↔ IsAcceptedAt h g has_pending d loc bytes operation root)
    → IsTrue answer ↔ IsAcceptedAt h g has_pending d location
    (operation_text has_pending (own_operation_proof h g s location)) operation root
own_asked d h g has_pending s loc location operation bytes root proof at written own answer exact =
    let text : bytes ≡ operation_text has_pending (own_operation_proof h g s location) =
    written ∙ ap (operation_text has_pending) own in
    let of_text = subst (λ b. IsTrue answer ↔ IsAcceptedAt h g has_pending d loc b operation root) text exact in
    subst (λ l. IsTrue answer ↔ IsAcceptedAt h g has_pending d l
    (operation_text has_pending (own_operation_proof h g s location)) operation root) at of_text

pub own_yes : OwnProofsAreAccepted → (d : ℕ) (h : HashFunction) → IsSized d h → (g : Grafting) → IsGrafting g
    → (has_pending : Bool) → IsPrompt has_pending g.shape
    → (s : Snapshot) → IsSnapshot s → (loc location : ℕ) (operation bytes root : List ℕ) (proof : OperationProof)
    → loc ≡ location → IsActive s location operation
    → bytes ≡ operation_text has_pending proof → proof ≡ own_operation_proof h g s location
    → root ≡ canonical_root h g s
    → (answer : Bool) → (IsTrue answer ↔ IsAcceptedAt h g has_pending d loc bytes operation root) → answer ≡ true
own_yes accepted d h sized g grafting has_pending prompt s snapshot loc location operation bytes root proof at active
    written own root_is answer exact =
    let law = accepted d h sized g grafting has_pending prompt s snapshot location operation active in
    let text : bytes ≡ operation_text has_pending (own_operation_proof h g s location) =
    written ∙ ap (operation_text has_pending) own in
    let at_text =
    subst (λ b. IsAcceptedAt h g has_pending d location b operation (canonical_root h g s)) (sym text) law in
    let at_root = subst (IsAcceptedAt h g has_pending d location bytes operation) (sym root_is) at_text in
    exact.1 (subst (λ l. IsAcceptedAt h g has_pending d l bytes operation root) (sym at) at_root)
