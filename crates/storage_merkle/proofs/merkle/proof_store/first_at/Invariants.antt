use Rattle.std.proofs.Common.{◌≡◌, drop}
use Rattle.storage_merkle.specs.Extracted.{by_bytes}
use Rattle.storage_merkle.specs.Stores.{entry_at}
use Rattle.storage_merkle.proofs.merkle.proof_store.first_at.Given as goal

abbrev pub invariant-loop-at : goal.invariant-loop-at
invariant-loop-at g l = entry_at l.position (by_bytes g.D.Digest.text l.entries)
    ≡ entry_at l.position (by_bytes g.D.Digest.text (drop l.at-index l.entries))
