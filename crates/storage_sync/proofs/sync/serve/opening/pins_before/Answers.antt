use Rattle.std.proofs.Common.{◌∙◌, ℕ, ap, length, subst}
use Rattle.storage_current.specs.Beginnings.{IsPinsRefused}
use Rattle.storage_current.specs.KeptSnapshots.{pruned_operations}
use Rattle.storage_current.specs.Pins.{operation_pins}
use Rattle.storage_current.specs.Snapshots.{grafting_of}
use Rattle.storage_sync.proofs.Opened.{pins_memory}
use Rattle.storage_sync.proofs.sync.serve.opening.pins_before.Goals as goal

pub returns-in-Ok-clause-own : goal.returns-in-Ok-clause-own
returns-in-Ok-clause-own g c = λ s stands. c.in-Ok.ensures.own s stands
    ∙ ap (λ (b : ℕ). operation_pins g.H.Hasher.hash_of (grafting_of g.F.Family.shape g.row.N) s b) c.new.ensures

pub returns-in_default-clause-why : goal.returns-in_default-clause-why
returns-in_default-clause-why g c = λ s stands within behind.
    let kept = c.args.snapshot.now in
    let pruned : ℕ = pruned_operations (grafting_of g.F.Family.shape g.row.N) kept.status in
    let why : IsPinsRefused pruned (length s.operations) c.args.begin c.in-Err.error =
    subst (λ (n : ℕ). IsPinsRefused pruned n c.args.begin c.in-Err.error) stands.leaves
    (subst (λ (b : ℕ). IsPinsRefused pruned kept.leaves b c.in-Err.error) c.new.ensures c.in-Err.ensures.why) in
    absurd (c.in_default.not-Memory (pins_memory pruned (length s.operations) c.args.begin c.in-Err.error why behind within))
