use Rattle.gawerunoa_cli.proofs.Reading.{finish, step}
use Rattle.gawerunoa_cli.proofs.lines.read_lines.Goals as goal

pub returns-in-Ok-false : goal.returns-in-Ok-false
returns-in-Ok-false g c =
    finish (g.B.Read.remaining c.args.input.now) (g.B.Read.remaining c.loop-number.input) c.loop-number.operations.tree
    c.loop-number.operations.bits.items c.loop-number.invariant (c.in-Ok-false.ensures.end c.in-Ok-false.field-0-test)

pub loop-number-preserved : goal.loop-number-preserved
loop-number-preserved g c =
    let row = rw c.in-Some.is at c.in_ok-active.ensures in
    step (g.B.Read.remaining c.args.input.now) (g.B.Read.remaining c.loop-number.input) (g.B.Read.remaining c.advance.new.input)
    c.loop-number.operations.tree c.add.new.self.tree c.loop-number.operations.bits.items c.add.new.self.bits.items
    c.advance.new.line.items c.deref-in-Some.result.now c.in-Some.active c.loop-number.invariant
    c.in_ok-add-in-Some.ensures.tree c.in_ok-add-in-Some.ensures.bits
    (rw (← c.deref.ensures.value, c.deref-in-Some.ensures.value) row)
    (c.in-Ok-true.ensures.line c.in-Ok-true.field-0-test)
