use Rattle.std.proofs.Common.{◌∙◌}
use Rattle.storage_stored.proofs.opening.is_at.Goals as goal

pub returns-then-are_one_location : goal.returns-then-are_one_location
returns-then-are_one_location g c = λ same d keeps. record {
  floor = c.are_one_location.ensures c.if-are_one_location.true ∙ c.floor.ensures d keeps;
  root = c.are_one_digest.ensures same ∙ c.root.ensures d keeps;
}
