use Rattle.std.proofs.Common.{◌≡◌, length, map, sum, drop, ◌++◌}
use Rattle.light_questions.specs.ByteStrings.{cut}
use Rattle.light_questions.proofs.byte_strings.cut_up.Given as goal

abbrev pub invariant-loop-length : goal.invariant-loop-length
invariant-loop-length l =
    (sum (drop l.length-index l.joined.lengths.now) ≡ length l.rest)
    × (map (λ s. s.now) l.strings.items ++ cut (drop l.length-index l.joined.lengths.now) l.rest ≡ cut l.joined.lengths.now l.joined.bytes.now)
