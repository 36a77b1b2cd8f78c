use Rattle.std.proofs.Common.{refl, rules}
use Rattle.storage_bitmap.proofs.bitmap.authenticated.merkleized.BitMap+D+N+Merkleized+D.root.Goals as goal

pub returns-clause-value : goal.returns-clause-value
returns-clause-value g c = rw (← c.self.view_is) refl

pub returns-clause-meaning : goal.returns-clause-meaning
returns-clause-meaning g c = search rules
