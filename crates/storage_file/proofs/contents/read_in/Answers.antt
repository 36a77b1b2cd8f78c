use Rattle.std.proofs.Common.{arith}
use Rattle.std.proofs.lemmas.Result.{err_from_is_err_and}
use Rattle.sqlite.specs.Held.{state}
use Rattle.sqlite.specs.State.{State, HasCleanDisk}
use Rattle.storage_file.specs.Tables.{Shows}
use Rattle.storage_file.proofs.contents.read_in.Goals as goal

pub returns-in_err-commits-clause-refused : goal.returns-in_err-commits-clause-refused
returns-in_err-commits-clause-refused g c clean kept is =
    let mid : State = state g.S.Store c.read_operations.new.conn in
    let mid_clean : HasCleanDisk mid = omega (arith, clean, c.read_commits.ensures.clean) in
    let shows : Shows mid kept = c.in_ok-operations.ensures.same mid_clean kept is in
    let p = err_from_is_err_and c.from_residual-in_err-commits.result c.from_residual-in_err-commits.ensures.1 in
    rw (p.1, p.2) (c.in_err-commits.ensures.refused clean kept shows)

pub returns-in_err-commits-clause-left : goal.returns-in_err-commits-clause-left
returns-in_err-commits-clause-left g c clean kept is live =
    let mid : State = state g.S.Store c.read_operations.new.conn in
    let mid_clean : HasCleanDisk mid = omega (arith, clean, c.read_commits.ensures.clean) in
    let shows : Shows mid kept = c.in_ok-operations.ensures.same mid_clean kept is in
    c.read_commits.ensures.left clean kept shows live

pub returns-in_err-commits-clause-crash : goal.returns-in_err-commits-clause-crash
returns-in_err-commits-clause-crash g c clean kept is db may =
    let mid : State = state g.S.Store c.read_operations.new.conn in
    let mid_clean : HasCleanDisk mid = omega (arith, clean, c.read_commits.ensures.clean) in
    let shows : Shows mid kept = c.in_ok-operations.ensures.same mid_clean kept is in
    c.read_commits.ensures.crash clean kept shows db may

pub returns-clause-read : goal.returns-clause-read
returns-clause-read g c clean kept is =
    let mid : State = state g.S.Store c.read_operations.new.conn in
    let mid_clean : HasCleanDisk mid = omega (arith, clean, c.read_commits.ensures.clean) in
    let shows : Shows mid kept = c.in_ok-operations.ensures.same mid_clean kept is in
    record { operations = c.in_ok-operations.ensures.read mid_clean kept is; commits = c.in_ok-commits.ensures.read clean kept shows }

pub returns-clause-same : goal.returns-clause-same
returns-clause-same g c clean kept is =
    let mid : State = state g.S.Store c.read_operations.new.conn in
    let mid_clean : HasCleanDisk mid = omega (arith, clean, c.read_commits.ensures.clean) in
    let shows : Shows mid kept = c.in_ok-operations.ensures.same mid_clean kept is in
    c.in_ok-commits.ensures.same clean kept shows

pub returns-clause-left : goal.returns-clause-left
returns-clause-left g c clean kept is live =
    let mid : State = state g.S.Store c.read_operations.new.conn in
    let mid_clean : HasCleanDisk mid = omega (arith, clean, c.read_commits.ensures.clean) in
    let shows : Shows mid kept = c.in_ok-operations.ensures.same mid_clean kept is in
    c.read_commits.ensures.left clean kept shows live

pub returns-clause-crash : goal.returns-clause-crash
returns-clause-crash g c clean kept is db may =
    let mid : State = state g.S.Store c.read_operations.new.conn in
    let mid_clean : HasCleanDisk mid = omega (arith, clean, c.read_commits.ensures.clean) in
    let shows : Shows mid kept = c.in_ok-operations.ensures.same mid_clean kept is in
    c.read_commits.ensures.crash clean kept shows db may
