-- A snapshot's own proof, written, is accepted.
use Rattle.std.proofs.Common.{◌≡◌, ℕ, Bool, List, [], Ok, refl, sym, ap, ◌∙◌, append-nil}
use Rattle.storage_codec.specs.Digests.{HashFunction, IsSized}
use Rattle.storage_codec.specs.Codec.{whole}
use Rattle.storage_current.specs.Snapshots.{Grafting, IsGrafting, Snapshot, IsSnapshot, IsActive, canonical_root, own_operation_proof}
use Rattle.storage_current.specs.CurrentSoundness.{OwnOperationProofsAreAccepted}
use Rattle.storage_current.specs.CurrentWire.{operation_text, sized_operation_at}
use Rattle.storage_current.specs.OwnWire.{IsPrompt, OwnOperationProofsAreReadAgain}
use Rattle.commonware_storage.specs.Light.{IsAcceptedAt}

pub own_accepted : OwnOperationProofsAreAccepted → OwnOperationProofsAreReadAgain → (d : ℕ) (h : HashFunction)
    → IsSized d h → (g : Grafting) → IsGrafting g → (has_pending : Bool) → IsPrompt has_pending g.shape
    → (s : Snapshot) → IsSnapshot s → (location : ℕ) (operation : List ℕ) → IsActive s location operation
    → IsAcceptedAt h g has_pending d location
    (operation_text has_pending (own_operation_proof h g s location)) operation (canonical_root h g s)
own_accepted accepted again d h sized g grafting has_pending prompt s snapshot location operation active =
    let p = own_operation_proof h g s location in
    let text = operation_text has_pending p in
    let none : List ℕ = [] in
    let read : sized_operation_at has_pending d g.bytes 128 text ≡ Ok (p, none) =
    ap (sized_operation_at has_pending d g.bytes 128) (sym (append-nil text))
    ∙ again d h sized g grafting has_pending prompt s snapshot location active.within none in
    record {
      proof = p;
      read = ap whole read;
      at = refl;
      accepted = accepted h g grafting s snapshot location operation active;
    }
