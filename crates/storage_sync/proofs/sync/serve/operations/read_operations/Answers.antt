use Rattle.std.proofs.Common.{◌≡◌, ◌∙◌, ◌-◌, arith, ap}
use Rattle.std.specs.List.{range_with_len}
use Rattle.storage_sync.proofs.Locations.{locations_more, held_locations, failed_within}
use Rattle.storage_sync.proofs.sync.serve.operations.read_operations.Goals as goal

pub loop-location-preserved : goal.loop-location-preserved
loop-location-preserved g c = c.in_ok-push.ensures.items ∙ locations_more c.loop-location.locations.items c.args.start
    c.loop-location.location c.loop-location.auto.location c.loop-location.invariant

pub read_many-requires-clause-within : goal.read_many-requires-clause-within
read_many-requires-clause-within g c =
    let end : c.loop-location.location ≡ c.args.end =
    omega (arith, c.loop-location-test.false, c.loop-location.auto.location-end c.requires.order) in
    held_locations (g.L.Contiguous.first c.args.log.now)
    (g.L.Contiguous.past c.args.log.now) c.args.start c.args.end c.deref.result.now
    (c.deref.ensures.value ∙ c.loop-location.invariant
    ∙ ap (λ l. range_with_len c.args.start (l - c.args.start)) end) c.requires.within

pub returns-in-Err-Fault-clause-why : goal.returns-in-Err-Fault-clause-why
returns-in-Err-Fault-clause-why g c =
    let end : c.loop-location.location ≡ c.args.end =
    omega (arith, c.loop-location-test.false, c.loop-location.auto.location-end c.requires.order) in
    failed_within (g.L.Contiguous.may_fail c.args.log.now) c.args.start c.args.end c.in-Err-Fault.code
    c.deref.result.now (c.deref.ensures.value ∙ c.loop-location.invariant
    ∙ ap (λ l. range_with_len c.args.start (l - c.args.start)) end) (c.in-Err-Fault.ensures.fault c.in-Err-Fault.code
    (let e = c.in-Err-Fault.field-0-is in cc))
