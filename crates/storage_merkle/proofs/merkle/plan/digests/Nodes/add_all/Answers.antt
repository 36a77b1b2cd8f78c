use Rattle.std.proofs.Common.{◌∷◌, [], ◌++◌, List, ap, ◌∙◌, refl, sym, append_assoc, append-nil}
use Rattle.storage_merkle.specs.PlanParts.{StandsAt}
use Rattle.storage_merkle.proofs.Plan.ByPosition.{zips_start, zips_more, zips_end, among_at}
use Rattle.storage_merkle.proofs.merkle.plan.digests.Nodes.add_all.Goals as goal

pub loop-position-init : goal.loop-position-init
loop-position-init g c = (
  [],
  sym (append-nil c.args.digests.now.items),
  zips_start c.args.positions.now (StandsAt c.args.self.now.positions.now c.args.self.now.digests.now) [] refl,
)

pub digest-requires-clause-among : goal.digest-requires-clause-among
digest-requires-clause-among g c = among_at c.args.self.now.positions.now c.args.positions.now c.requires.among
    c.loop-position.position-index c.position-item.result c.loop-position-test.true c.position-item.is

pub loop-position-preserved : goal.loop-position-preserved
loop-position-preserved g c =
    let added = c.loop-position.invariant.0 in (
      added ++ c.digest.result ∷ [],
      c.in_ok-push.ensures.items ∙ ap (λ (xs : List _). xs ++ c.digest.result ∷ []) c.loop-position.invariant.1
          ∙ append_assoc c.args.digests.now.items added (c.digest.result ∷ []),
      zips_more c.args.positions.now (StandsAt c.args.self.now.positions.now c.args.self.now.digests.now)
          c.loop-position.position-index c.position-item.result c.digest.result added _ c.loop-position-test.true
          c.position-item.is c.digest.ensures refl c.loop-position.invariant.2,
    )

pub returns : goal.returns
returns g c = (
  c.loop-position.invariant.0,
  c.loop-position.invariant.1,
  zips_end c.args.positions.now (StandsAt c.args.self.now.positions.now c.args.self.now.digests.now)
      c.loop-position.position-index c.loop-position.invariant.0 c.loop-position-test.false c.loop-position.invariant.2,
)
