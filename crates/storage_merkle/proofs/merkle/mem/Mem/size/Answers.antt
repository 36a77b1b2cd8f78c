use Rattle.std.proofs.Common.{ap, ◌∙◌}
use Rattle.storage_merkle.specs.Shape.{size}
use Rattle.storage_merkle.proofs.merkle.mem.Mem.size.Goals as goal

pub returns : goal.returns
returns g c = c.new.ensures ∙ c.nodes_over.ensures ∙ ap (λ m. size g.F.Family.shape m.leaves) c.self.view_is
