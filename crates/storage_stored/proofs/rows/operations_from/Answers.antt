use Rattle.std.proofs.Common.{drop, sym, ap, ◌∙◌}
use Rattle.storage_stored.proofs.Storing.{rest_behind}
use Rattle.storage_stored.proofs.rows.operations_from.Goals as goal

pub returns : goal.returns
returns g c = λ d keeps few.
    rest_behind (λ b. b.items) c.operations.result.now c.rest_of.result.now c.pruned-pruned.result c.args.location d.operations
    (c.operations.ensures d keeps ∙ ap (λ n. drop n d.operations) (sym c.pruned-pruned.ensures)) c.if-location-pruned.false few c.rest_of.ensures
