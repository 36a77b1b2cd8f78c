use Rattle.reference.proofs.Digits.{mmb_birth_fits}
use Rattle.reference.proofs.shape.MmbFamilyDigits.place.Goals as goal

pub mmb_heights-requires-2 : goal.mmb_heights-requires-2
mmb_heights-requires-2 c = mmb_birth_fits c.args.first c.args.height _ c.requires c.leaves_at_birth-birth.ensures

pub without_peaks-requires-2 : goal.without_peaks-requires-2
without_peaks-requires-2 c = mmb_birth_fits c.args.first c.args.height _ c.requires c.leaves_at_birth-birth.ensures
