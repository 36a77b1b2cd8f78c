use Rattle.std.proofs.Common.{◌≡◌, Option, Some, refl, sym, ap, ◌∙◌, subst}
use Rattle.std.specs.Prelude.{IsSomeAnd, MatchOption}
use Rattle.storage_current.specs.Snapshots.{grafting_of}
use Rattle.storage_db.specs.declared.db.error.Error.TheVariants.{NotCommitted}
use Rattle.storage_db.specs.Kept.{HeldCommit}
use Rattle.storage_db.specs.Pruning.{ArePruned, IsPruneRefused}
use Rattle.storage_db.proofs.Cases.{err_and}
use Rattle.storage_db.proofs.Keeping.{on_err}
use Rattle.storage_db.proofs.Pruning.{are_pruned}
use Rattle.storage_db.proofs.db.ordered.prune.forget.Goals as goal

pub returns-in_ok-prune-in-Some-clause-ok : goal.returns-in_ok-prune-in-Some-clause-ok
returns-in_ok-prune-in-Some-clause-ok g c =
    let h = g.H.Hasher.hash_of in
    let gr = grafting_of g.F.Family.shape g.row.N in
    subst (λ (o : Option (HeldCommit g.row.V-Value.Denot)). IsSomeAnd o (λ old. ArePruned h gr c.args.log.now c.forget.new.self old
    c.prune.new.self c.args.location)) (sym c.in-Some.is)
    (are_pruned h gr c.args.log.now c.forget.new.self _ c.prune.new.self c.args.location c.in_ok-prune-in-Some.ensures.ok
    c.pruned-before.result c.pruned.result c.pruned-before.ensures c.pruned.ensures c.forget.ensures.operations
    c.forget.ensures.bits c.forget.ensures.committed c.forget.ensures.cleared)

pub returns-in_err-prune-in-Some-clause-err : goal.returns-in_err-prune-in-Some-clause-err
returns-in_err-prune-in-Some-clause-err g c =
    on_err c.from_residual.result (ap Some c.in_err-prune-in-Some.ensures.err ∙ sym c.in-Some.is)

pub returns-in_err-prune-in-Some-clause-why : goal.returns-in_err-prune-in-Some-clause-why
returns-in_err-prune-in-Some-clause-why g c =
    err_and _ _ c.from_residual.result (λ error same.
    subst (λ (o : Option (HeldCommit g.row.V-Value.Denot)). MatchOption o (error ≡ NotCommitted)
    (λ k. IsPruneRefused k.floor c.args.location error)) (sym c.in-Some.is) (same ∙ c.in_err-prune-in-Some.ensures.why))
    c.from_residual.ensures.1

pub returns-in-None-clause-why : goal.returns-in-None-clause-why
returns-in-None-clause-why g c =
    subst (λ (o : Option (HeldCommit g.row.V-Value.Denot)). MatchOption o (NotCommitted ≡ NotCommitted)
    (λ k. IsPruneRefused k.floor c.args.location NotCommitted)) (sym c.in-None.is) refl
