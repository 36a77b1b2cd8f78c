use Rattle.std.proofs.Common.{◌≡◌, map, take}
use Rattle.gawerunoa_cli.specs.Kept.{kept_at}
use Rattle.gawerunoa_cli.proofs.sync.log.copies_of.Given as goal

abbrev pub invariant-loop-location : goal.invariant-loop-location
invariant-loop-location l =
    map (λ o. o.items) l.copies.items ≡ map (kept_at (map (λ o. o.items) l.operations)) (take l.location-index l.locations)
