use Rattle.std.proofs.Common.{◌≡◌, ◌∙◌, refl}
use Rattle.storage_merkle.specs.Plans.{PlanOf}
use Rattle.gawerunoa_cli.proofs.Parts.{if_some}
use Rattle.gawerunoa_cli.proofs.shown.show_planned.Goals as goal

pub returns : goal.returns
returns g c = λ list over planned.
    let made = c.in_ok-snapshot.ensures list over in
    c.in_ok-proof.ensures _ made.0 made.1 refl
    (if_some c.args.plan (λ (p : PlanOf) count. count ∙ made.0.bit_each) planned)
