use Rattle.std.proofs.Common.{◌++◌, map, arith}
use Rattle.sqlite.specs.Held.{state}
use Rattle.sqlite.specs.State.{HasCleanDisk}
use Rattle.storage_file.proofs.statements.add_all.Goals as goal

pub returns-clause-added : goal.returns-clause-added
returns-clause-added g c clean kept made from number =
    let mid : HasCleanDisk (state g.S.Store c.add_operations.new.tx.conn.now) = omega (arith, clean, c.add_commit.ensures.inside.survives.clean) in
    c.in_ok-add_commit.ensures.added clean (record kept { operations = kept.operations ++ map (λ b. b.items) c.args.operations.now }) (c.in_ok-add_operations.ensures.added mid kept made from) number
