use Rattle.std.proofs.Common.{Some, inl, inr, sym, ap, ◌∙◌, arith}
use Rattle.storage_merkle.specs.Extracted.{by_bytes}
use Rattle.storage_merkle.specs.Stores.{suffix_positions}
use Rattle.storage_merkle.proofs.Store.Steps.{needed_missing}
use Rattle.std.proofs.lemmas.Grind.{common_steps}
use Rattle.storage_merkle.proofs.merkle.proof_store.ProofStore.digests_at.Goals as goal

pub returns-in_default-clause-why : goal.returns-in_default-clause-why
returns-in_default-clause-why g c =
    elim c.missing.ensures [
      | inl e ↦ inl (c.loop-position.invariant.refusal
          ∙ needed_missing g.row.F.Denot c.args.self.now (by_bytes g.D.Digest.text c.args.peaks.now) (suffix_positions
          g.F.Family.shape c.args.self.now) c.args.positions.now c.loop-position.position-index c.position-item.result
          c.loop-position-test.true c.position-item.is (sym c.in_default.ensures) ∙ ap (λ x. Some x) (sym e))
      | inr e ↦ inr e
    ]

pub loop-position-preserved : goal.loop-position-preserved
loop-position-preserved g c = grind (arith, common_steps)

pub returns-clause-all : goal.returns-clause-all
returns-clause-all g c = grind (arith, common_steps)
