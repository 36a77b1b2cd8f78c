use Rattle.std.proofs.Common.{◌≡◌, ◌∙◌, ap, inl, refl, Some}
use Rattle.storage_merkle.specs.Kept.{kept_at}
use Rattle.storage_merkle.proofs.Plan.ByPosition.{zips_start, zips_more, zips_end, skips_more, absent_at}
use Rattle.storage_merkle.proofs.merkle.mem.as_storage.look_up_all.Goals as goal

pub loop-position-init : goal.loop-position-init
loop-position-init g c =
    record {
      zips = zips_start c.args.positions.now _ c.in_ok-digests.digests.items c.in_ok-digests.ensures.items;
      skips = λ p a. a;
    }

pub returns-in_default-clause-why : goal.returns-in_default-clause-why
returns-in_default-clause-why g c =
    let kept = kept_at g.F.Family.shape c.args.boundary c.args.pinned.now c.args.nodes.now in
    inl (
      c.position-item.result,
      refl,
      absent_at c.args.positions.now (λ q a. a ≡ kept q) c.loop-position.position-index
          c.position-item.result c.loop-position-test.true c.position-item.is (c.in_default.ensures
          ∙ ap kept c.as_u64.ensures) c.loop-position.invariant.skips,
    )

pub loop-position-preserved : goal.loop-position-preserved
loop-position-preserved g c =
    let kept = kept_at g.F.Family.shape c.args.boundary c.args.pinned.now c.args.nodes.now in
    record {
      zips = zips_more c.args.positions.now (λ p d. Some d ≡ kept p) c.loop-position.position-index
          c.position-item.result c.in-Some.digest _ _ c.loop-position-test.true c.position-item.is (c.in-Some.ensures
          ∙ ap kept c.as_u64.ensures) c.in_ok-push.ensures.items c.loop-position.invariant.zips;
      skips = skips_more c.args.positions.now (λ q a. a ≡ kept q) c.loop-position.position-index c.position-item.result
          c.in-Some.digest c.loop-position-test.true c.position-item.is (c.in-Some.ensures
          ∙ ap kept c.as_u64.ensures) c.loop-position.invariant.skips;
    }

pub returns-clause-served : goal.returns-clause-served
returns-clause-served g c =
    zips_end c.args.positions.now (λ p d. Some d
    ≡ kept_at g.F.Family.shape c.args.boundary c.args.pinned.now c.args.nodes.now p) c.loop-position.position-index
    c.loop-position.digests.items c.loop-position-test.false c.loop-position.invariant.zips
