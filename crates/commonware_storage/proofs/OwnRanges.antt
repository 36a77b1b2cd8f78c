-- A snapshot's own range proof, written, is accepted.
use Rattle.std.proofs.Common.{◌≡◌, ℕ, ◌+◌, List, [], length, Ok, sym, ap, ◌∙◌, append-nil}
use Rattle.storage_codec.specs.Codec.{whole}
use Rattle.storage_current.specs.Snapshots.{own_range_proof}
use Rattle.storage_current.specs.CurrentSoundness.{OwnCurrentProofsAreAccepted}
use Rattle.storage_current.specs.CurrentWire.{range_proof_at}
use Rattle.storage_current.specs.OwnWire.{OwnCurrentProofsAreReadAgain}
use Rattle.commonware_storage.specs.LightRanges.{OwnRangesAreAccepted, own_range_text}

pub own_ranges : OwnCurrentProofsAreAccepted → OwnCurrentProofsAreReadAgain → OwnRangesAreAccepted
own_ranges accepted again d h sized g grafting has_pending prompt s snapshot most start operations chunks holds few small =
    let high = start + length operations in
    let p = own_range_proof h g s start high in
    let text = own_range_text h g has_pending s start high in
    let none : List ℕ = [] in
    let read : range_proof_at has_pending d most text ≡ Ok (p, none) =
    ap (range_proof_at has_pending d most) (sym (append-nil text))
    ∙ again d h sized g grafting has_pending prompt s snapshot start high most few small none in
    record {
      proof = p;
      read = ap whole read;
      accepted = accepted h g grafting s snapshot start operations chunks holds;
    }
