use Rattle.std.proofs.Common.{◌≡◌, option_map}
use Rattle.storage_merkle.specs.PlanParts.{peaks_by}
use Rattle.storage_merkle.proofs.Plan.Folds.{forward_from}
use Rattle.storage_merkle.proofs.Store.Range.{front_fold_of, kept_of}
use Rattle.storage_merkle.proofs.merkle.proof_store.ProofStore.fold_front.Given as goal

abbrev pub invariant-loop-first : goal.invariant-loop-first
invariant-loop-first g l = forward_from g.H.Hasher.hash_of (option_map g.D.Digest.text l.folded)
    (peaks_by (kept_of g.H.Hasher.hash_of g.F.Family.shape l.self) l.first-iterator)
    ≡ front_fold_of g.H.Hasher.hash_of g.F.Family.shape l.self l.fn.start
