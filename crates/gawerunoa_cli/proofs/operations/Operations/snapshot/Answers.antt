use Rattle.std.proofs.Common.{◌≡◌, ◌∙◌, ap}
use Rattle.storage_bitmap.specs.Chunks.{Retained}
use Rattle.gawerunoa_cli.proofs.operations.Operations.snapshot.Goals as goal

pub returns-in-Ok : goal.returns-in-Ok
returns-in-Ok g c = λ operations over.
    let bits : c.append.new.self.bits ≡ c.args.self.bits.items =
    ap (λ (r : Retained). r.bits) c.in_ok-append.ensures.ok ∙ rw c.new-status.ensures c.deref.ensures.value in
    rw (← bits, ← c.new.ensures) (c.in-Ok.ensures.stands operations over)
