use Rattle.std.proofs.Common.{sym, ◌∙◌}
use Rattle.std.specs.BTreeMap.{is_at}
use Rattle.storage_db.proofs.Changing.{set_held}
use Rattle.storage_db.proofs.Keeping.{on_err}
use Rattle.storage_db.proofs.db.active.put_both.Goals as goal

pub returns-in_err-value-clause-kept : goal.returns-in_err-value-clause-kept
returns-in_err-value-clause-kept g c =
    on_err c.from_residual-in_err-value.result ((c.get_mut.follows.holds c.in-Some.note.now).0
    ∙ set_held (is_at (g.K.Ord.cmp c.args.key)) c.args.notes.now.entries c.in-Some.note.now (sym c.in-Some.ensures.value))
