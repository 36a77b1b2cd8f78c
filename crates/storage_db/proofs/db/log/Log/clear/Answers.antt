use Rattle.std.proofs.Common.{ℕ, [], ◌∷◌, ◌++◌, ap, ◌∙◌, arith}
use Rattle.std.specs.Global.{Vec}
use Rattle.storage_db.proofs.Going.{told_past, told_within}
use Rattle.storage_db.proofs.db.log.Log.clear.Goals as goal

pub returns-then-location-self-clause-cleared : goal.returns-then-location-self-clause-cleared
returns-then-location-self-clause-cleared c = λ base are.
    let old = c.args.self.now in
    let now = c.clear_bit.new.self in
    let told = rw c.unwrap.ensures at c.push.ensures.items in
    told_within old.committed now.committed c.args.location old.cleared.items c.push.new.self.items old.bits.items now.bits.items
    base (omega (arith, c.if-location-self.true, c.clear_bit.ensures.committed)) c.clear_bit.ensures.committed
    (told ∙ ap (λ (v : Vec ℕ). v.items ++ c.args.location ∷ []) c.clear_bit.ensures.cleared) c.clear_bit.ensures.bits are

pub returns-else-location-self-clause-cleared : goal.returns-else-location-self-clause-cleared
returns-else-location-self-clause-cleared c = λ base are.
    let old = c.args.self.now in
    let now = c.clear_bit.new.self in
    told_past old.committed now.committed c.args.location old.cleared.items now.cleared.items old.bits.items now.bits.items base
    (omega (arith, c.if-location-self.false, c.clear_bit.ensures.committed)) c.clear_bit.ensures.committed
    (ap (λ (v : Vec ℕ). v.items) c.clear_bit.ensures.cleared) c.clear_bit.ensures.bits are
