use Rattle.std.proofs.Common.{◌≡◌, ℕ, ◌≤◌, ◌++◌, List, length, map}
use Rattle.storage_merkle.specs.Calc.{Site}
use Rattle.storage_merkle.specs.CheckParts.{top_sites}
use Rattle.storage_merkle.specs.Extracted.{by_bytes}
use Rattle.storage_merkle.specs.Rests.{peaks_from}
use Rattle.storage_merkle.specs.StoreParts.{back_among}
use Rattle.storage_merkle.proofs.Store.Reads.{Reads, peak_entries}
use Rattle.storage_merkle.proofs.Walked.{PastIsLast, met_site}
use Rattle.storage_merkle.proofs.merkle.proof_store.construct.keep_peaks.Given as goal

abbrev pub invariant-loop-top : goal.invariant-loop-top
invariant-loop-top g l =
    let S = g.F.Family.shape in
    let tops = top_sites l.fn.start l.fn.end (peaks_from S l.fn.rest.first l.fn.rest.left) l.fn.rest.folded in
    record {
      last : PastIsLast l.top-iterator;
      enough : length l.top-iterator ≤ length l.digests;
      reads : (digest : Site → List ℕ) (later : List (List ℕ))
          → map g.D.Digest.text l.initial.digests ≡ map digest tops ++ later →
          Reads S digest later (map g.D.Digest.text l.digests) (by_bytes g.D.Digest.text l.kept.items)
          (by_bytes g.D.Digest.text l.fn.kept.items ++ peak_entries S digest later tops)
          (map met_site l.top-iterator) (back_among digest tops);
    }
