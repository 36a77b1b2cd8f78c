use Rattle.std.proofs.Common.{◌∙◌, ◌++◌, List, ℕ, ◌+◌, ap}
use Rattle.storage_merkle.specs.Mmb.{mmb_digits}
use Rattle.reference.proofs.Digits.{mmb_peaks_from}
use Rattle.reference.proofs.shape.mmb_heights.Goals as goal

pub returns : goal.returns
returns c =
    mmb_peaks_from c.args.leaves c.highest_place.result _ c.highest_place.ensures.value (c.in_ok-push_mmb_digits.ensures
    ∙ ap (λ (xs : List ℕ). xs ++ mmb_digits c.highest_place.result (c.args.leaves + 1)) c.new-heights.ensures.items)
