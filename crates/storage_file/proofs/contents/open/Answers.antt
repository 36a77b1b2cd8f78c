use Rattle.std.proofs.Common.{arith}
use Rattle.std.proofs.lemmas.Result.{err_from_is_err_and}
use Rattle.sqlite.specs.Held.{state}
use Rattle.sqlite.specs.State.{State, HasCleanDisk}
use Rattle.storage_file.specs.Tables.{Shows}
use Rattle.storage_file.proofs.contents.open.Goals as goal

pub returns-in_err-contents-clause-refused : goal.returns-in_err-contents-clause-refused
returns-in_err-contents-clause-refused g c clean kept is =
    let mid : State = state g.S.Store c.compare_agreement.new.conn in
    let mid_clean : HasCleanDisk mid = omega (arith, clean, c.read_in.ensures.clean) in
    let shows : Shows mid kept = c.in_ok-compare_agreement.ensures.same mid_clean kept is in
    let p = err_from_is_err_and c.from_residual-in_err-contents.result c.from_residual-in_err-contents.ensures.1 in
    let why = c.in_err-contents.ensures.refused clean kept shows in
    rw (p.1, p.2) (why.0, λ foreign. absurd (why.1 foreign))

pub returns-in_err-contents-clause-left : goal.returns-in_err-contents-clause-left
returns-in_err-contents-clause-left g c clean kept is live =
    let mid : State = state g.S.Store c.compare_agreement.new.conn in
    let mid_clean : HasCleanDisk mid = omega (arith, clean, c.read_in.ensures.clean) in
    let shows : Shows mid kept = c.in_ok-compare_agreement.ensures.same mid_clean kept is in
    c.read_in.ensures.left clean kept shows live

pub returns-in_err-contents-clause-crash : goal.returns-in_err-contents-clause-crash
returns-in_err-contents-clause-crash g c clean kept is db may =
    let mid : State = state g.S.Store c.compare_agreement.new.conn in
    let mid_clean : HasCleanDisk mid = omega (arith, clean, c.read_in.ensures.clean) in
    let shows : Shows mid kept = c.in_ok-compare_agreement.ensures.same mid_clean kept is in
    c.read_in.ensures.crash clean kept shows db may

pub returns-clause-read : goal.returns-clause-read
returns-clause-read g c clean kept is =
    let mid : State = state g.S.Store c.compare_agreement.new.conn in
    let mid_clean : HasCleanDisk mid = omega (arith, clean, c.read_in.ensures.clean) in
    let shows : Shows mid kept = c.in_ok-compare_agreement.ensures.same mid_clean kept is in
    c.in_ok-contents.ensures.read clean kept shows

pub returns-clause-agreed : goal.returns-clause-agreed
returns-clause-agreed g c clean kept is =
    let mid : State = state g.S.Store c.compare_agreement.new.conn in
    let mid_clean : HasCleanDisk mid = omega (arith, clean, c.read_in.ensures.clean) in
    let shows : Shows mid kept = c.in_ok-compare_agreement.ensures.same mid_clean kept is in
    c.in_ok-compare_agreement.ensures.agreed mid_clean kept is

pub returns-clause-same : goal.returns-clause-same
returns-clause-same g c clean kept is =
    let mid : State = state g.S.Store c.compare_agreement.new.conn in
    let mid_clean : HasCleanDisk mid = omega (arith, clean, c.read_in.ensures.clean) in
    let shows : Shows mid kept = c.in_ok-compare_agreement.ensures.same mid_clean kept is in
    c.in_ok-contents.ensures.same clean kept shows

pub returns-clause-left : goal.returns-clause-left
returns-clause-left g c clean kept is live =
    let mid : State = state g.S.Store c.compare_agreement.new.conn in
    let mid_clean : HasCleanDisk mid = omega (arith, clean, c.read_in.ensures.clean) in
    let shows : Shows mid kept = c.in_ok-compare_agreement.ensures.same mid_clean kept is in
    c.read_in.ensures.left clean kept shows live

pub returns-clause-crash : goal.returns-clause-crash
returns-clause-crash g c clean kept is db may =
    let mid : State = state g.S.Store c.compare_agreement.new.conn in
    let mid_clean : HasCleanDisk mid = omega (arith, clean, c.read_in.ensures.clean) in
    let shows : Shows mid kept = c.in_ok-compare_agreement.ensures.same mid_clean kept is in
    c.read_in.ensures.crash clean kept shows db may
