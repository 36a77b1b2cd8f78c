use Rattle.std.proofs.Common.{◌≡◌, ◌++◌}
use Rattle.storage_merkle.specs.Rests.{peaks_from}
use Rattle.storage_merkle.proofs.Peaks.{Walk}
use Rattle.storage_merkle.proofs.Store.Steps.{past_positions}
use Rattle.storage_merkle.proofs.merkle.proof_store.add_past.Given as goal

abbrev pub invariant-loop-first : goal.invariant-loop-first
invariant-loop-first g l =
    let S = g.F.Family.shape in
    record {
      walk : Walk l.leaves l.first-iterator;
      sites : l.positions.items ++ past_positions S l.past l.folded l.first-iterator
          ≡ l.fn.positions.items ++ past_positions S l.past l.fn.folded (peaks_from S 0 l.leaves);
    }
