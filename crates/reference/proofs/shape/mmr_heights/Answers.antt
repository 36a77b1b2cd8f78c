use Rattle.std.proofs.Common.{◌∙◌, ◌++◌, List, ℕ, ap}
use Rattle.storage_merkle.specs.Mmr.{mmr_digits}
use Rattle.reference.proofs.Digits.{mmr_peaks_from}
use Rattle.reference.proofs.shape.mmr_heights.Goals as goal

pub returns : goal.returns
returns c = mmr_peaks_from c.args.leaves _ c.requires (c.in_ok-push_mmr_digits.ensures
    ∙ ap (λ (xs : List ℕ). xs ++ mmr_digits 63 c.args.leaves) c.new-heights.ensures.items)
