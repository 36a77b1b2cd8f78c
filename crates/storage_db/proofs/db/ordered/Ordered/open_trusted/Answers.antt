use Rattle.std.proofs.lemmas.Bool.{false≢true}
use Rattle.storage_db.proofs.db.ordered.Ordered.open_trusted.Goals as goal

pub returns-then-not-has_root-clause-why : goal.returns-then-not-has_root-clause-why
returns-then-not-has_root-clause-why g c =
    let opened = c.in_ok-database.ensures.ok in
    (opened.commands, opened.log, λ has. false≢true ((c.if-not-has_root.ensures _ opened.keeps).1 has))

pub returns-clause-root : goal.returns-clause-root
returns-clause-root g c = λ d keeps. (c.has_root.ensures d keeps).0 c.if-not-has_root.false
