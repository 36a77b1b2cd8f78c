use Rattle.std.proofs.Common.{rules, option_map, ap}
use Rattle.storage_db.proofs.db.strings.predecessor_update.Goals as goal

pub returns : goal.returns
returns g c = (_, ap (option_map _) c.in-Some.is, search rules, search rules)
