use Rattle.std.proofs.Common.{ap, ◌∙◌}
use Rattle.storage_merkle.proofs.merkle.mem.Mem.leaves.Goals as goal

pub returns : goal.returns
returns g c = c.new.ensures ∙ ap (λ m. m.leaves) c.self.view_is
