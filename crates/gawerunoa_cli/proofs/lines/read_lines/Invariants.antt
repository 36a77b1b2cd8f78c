use Rattle.gawerunoa_cli.proofs.Reading.{IsReadSoFar}
use Rattle.gawerunoa_cli.proofs.lines.read_lines.Given as goal

abbrev pub invariant-loop-number : goal.invariant-loop-number
invariant-loop-number g l = IsReadSoFar g.H.Hasher.hash_of g.F.Family.shape (g.B.Read.remaining l.initial.input) (g.B.Read.remaining l.input)
    l.operations.tree l.operations.bits.items
