use Rattle.std.proofs.Common.{◌≡◌, ◌+◌, ◌++◌, ℕ, List, length, map}
use Rattle.storage_merkle.specs.Calc.{Site}
use Rattle.storage_merkle.specs.CheckParts.{Serves}
use Rattle.storage_merkle.specs.Multi.{Ascend}
use Rattle.storage_merkle.specs.Plans.{InTree}
use Rattle.storage_merkle.specs.Rests.{EachPeak, peaks_from}
use Rattle.storage_merkle.proofs.Multi.Nodes.{ThereIn, at_of, values_in}
use Rattle.storage_merkle.proofs.Peaks.{Walk}
use Rattle.storage_merkle.proofs.merkle.multi.Given.peaks.Given as goal

abbrev pub invariant-loop-first : goal.invariant-loop-first
invariant-loop-first g l =
    let S = g.F.Family.shape in
    let items = g.E.AsSlice.items in
    record {
      walk : Walk l.self.leaves l.first-iterator;
      each : EachPeak (InTree S l.self.leaves) l.first-iterator;
      rising : Ascend walk.first l.self.leaves (at_of items l.rest);
      present : ThereIn items S l.self.positions.now l.rest l.first-iterator;
      count : length l.peaks.items + length l.first-iterator ≡ length (S.peaks l.self.leaves);
      exact : (digest : Site → List ℕ) → Serves S digest l.self.positions.now (map g.D.Digest.text l.self.digests.now)
          → map g.D.Digest.text l.peaks.items ++ values_in items g.H.Hasher.hash_of (g.H.Hasher.layout l.hasher) digest
          (g.H.Hasher.chunk l.hasher) l.rest l.first-iterator
          ≡ values_in items g.H.Hasher.hash_of (g.H.Hasher.layout l.hasher) digest (g.H.Hasher.chunk l.hasher) l.claims
          (peaks_from S 0 l.self.leaves);
    }
