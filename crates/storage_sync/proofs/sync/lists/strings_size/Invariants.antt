use Rattle.std.proofs.Common.{◌≡◌, ◌+◌, length, map, take}
use Rattle.storage_codec.specs.Parts.{size_of, varint_text, vector_text}
use Rattle.storage_merkle.specs.ProofWire.{joined_text}
use Rattle.storage_sync.proofs.sync.lists.strings_size.Given as goal

abbrev pub invariant-loop-string : goal.invariant-loop-string
invariant-loop-string l = l.size ≡ size_of (length (varint_text (length l.strings))
    + length (joined_text (take l.string-index (map vector_text (map (λ s. s.items) l.strings)))))
