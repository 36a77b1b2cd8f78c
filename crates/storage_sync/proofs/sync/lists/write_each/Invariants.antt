use Rattle.std.proofs.Common.{◌≡◌, ◌++◌, map, take}
use Rattle.storage_codec.specs.Parts.{vector_text}
use Rattle.storage_merkle.specs.ProofWire.{joined_text}
use Rattle.storage_sync.proofs.sync.lists.write_each.Given as goal

abbrev pub invariant-loop-string : goal.invariant-loop-string
invariant-loop-string l = l.out.items
    ≡ l.fn.out.items ++ joined_text (take l.string-index (map vector_text (map (λ s. s.items) l.strings)))
