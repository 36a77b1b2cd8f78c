use Rattle.std.proofs.Common.{◌<◌, length, Some, None, sym, ap, ◌∙◌}
use Rattle.std.specs.Map.Iter.{deref_pair}
use Rattle.storage_db.specs.declared.db.active.Active.{Active}
use Rattle.storage_db.specs.declared.db.notes.Note.{Note}
use Rattle.storage_db.specs.Notes.{answered, recalled, shown, taken_back}
use Rattle.storage_db.proofs.Stepping.{front_both, front_entry, front_later, front_none, first_taken, shorter, step_first}
use Rattle.storage_db.proofs.db.notes.first_step.Goals as goal

pub returns-in_default-first_of-clause-step : goal.returns-in_default-first_of-clause-step
returns-in_default-first_of-clause-step g c =
    let m : g.row.K.Denot × Note g.row.W.Denot = (c.in-Some.key.now, c.in-Some.note.now) in
    let notes = (first_taken deref_pair c.args.notes.now c.next-in_default-first_of.new.self c.in-Some.ensures.0 m c.next-in_default-first_of.result c.in-Some.ensures.1 c.next-in_default-first_of.ensures.steps) in
    step_first shown c.in-Some.key.now (length c.next-in_default-first_of.new.self < length c.args.notes.now) c.at_key.result (recalled None c.in-Some.note.now)
    (taken_back g.K.Ord.cmp c.args.entries.now c.args.notes.now) (taken_back g.K.Ord.cmp c.args.entries.now c.next-in_default-first_of.new.self)
    (c.at_key.ensures ∙ ap (answered c.in-Some.key.now) c.recall.ensures)
    (front_none g.met.K.Ord.total c.args.entries.now c.args.notes.now c.next-in_default-first_of.new.self m notes c.requires.notes c.in_default-first_of.ensures.1.0)
    (shorter c.args.notes.now c.next-in_default-first_of.new.self m notes)

pub returns-in-Less-clause-step : goal.returns-in-Less-clause-step
returns-in-Less-clause-step g c =
    let m : g.row.K.Denot × Note g.row.W.Denot = (c.in-Some.key.now, c.in-Some.note.now) in
    let entry : g.row.K.Denot × Active g.row.W.Denot = (c.in-Some-first_of.other.now, c.in-Some-first_of.active.now) in
    front_entry g.met.K.Ord.total c.args.entries.now c.args.notes.now c.in-Some.ensures.0 m c.next-in-Less.new.self entry
    (first_taken deref_pair c.args.entries.now c.next-in-Less.new.self c.in-Some-first_of.ensures.0 entry c.next-in-Less.result
    c.in-Some-first_of.ensures.1 c.next-in-Less.ensures.steps) c.in-Some.ensures.1 c.requires.notes (sym c.cmp.ensures ∙ c.in-Less.is)

pub returns-in-Equal-clause-step : goal.returns-in-Equal-clause-step
returns-in-Equal-clause-step g c =
    let m : g.row.K.Denot × Note g.row.W.Denot = (c.in-Some.key.now, c.in-Some.note.now) in
    let entry : g.row.K.Denot × Active g.row.W.Denot = (c.in-Some-first_of.other.now, c.in-Some-first_of.active.now) in
    let notes = (first_taken deref_pair c.args.notes.now c.next-in-Equal-2.new.self c.in-Some.ensures.0 m c.next-in-Equal-2.result c.in-Some.ensures.1 c.next-in-Equal-2.ensures.steps) in
    step_first shown c.in-Some-first_of.other.now (length c.next-in-Equal-2.new.self < length c.args.notes.now) c.at_key-in-Equal.result (recalled (Some c.in-Some-first_of.active.now) c.in-Some.note.now)
    (taken_back g.K.Ord.cmp c.args.entries.now c.args.notes.now) (taken_back g.K.Ord.cmp c.next-in-Equal.new.self c.next-in-Equal-2.new.self)
    (c.at_key-in-Equal.ensures ∙ ap (answered c.in-Some-first_of.other.now) c.recall-in-Equal.ensures)
    (front_both g.met.K.Ord.total c.args.entries.now c.args.notes.now c.next-in-Equal-2.new.self m c.next-in-Equal.new.self entry
    (first_taken deref_pair c.args.entries.now c.next-in-Equal.new.self c.in-Some-first_of.ensures.0 entry c.next-in-Equal.result
    c.in-Some-first_of.ensures.1 c.next-in-Equal.ensures.steps) notes c.requires.notes (sym c.cmp.ensures ∙ c.in-Equal.is))
    (shorter c.args.notes.now c.next-in-Equal-2.new.self m notes)

pub returns-in-Greater-clause-step : goal.returns-in-Greater-clause-step
returns-in-Greater-clause-step g c =
    let m : g.row.K.Denot × Note g.row.W.Denot = (c.in-Some.key.now, c.in-Some.note.now) in
    let entry : g.row.K.Denot × Active g.row.W.Denot = (c.in-Some-first_of.other.now, c.in-Some-first_of.active.now) in
    let notes = (first_taken deref_pair c.args.notes.now c.next-in-Greater.new.self c.in-Some.ensures.0 m c.next-in-Greater.result c.in-Some.ensures.1 c.next-in-Greater.ensures.steps) in
    step_first shown c.in-Some.key.now (length c.next-in-Greater.new.self < length c.args.notes.now) c.at_key-in-Greater.result (recalled None c.in-Some.note.now)
    (taken_back g.K.Ord.cmp c.args.entries.now c.args.notes.now) (taken_back g.K.Ord.cmp c.args.entries.now c.next-in-Greater.new.self)
    (c.at_key-in-Greater.ensures ∙ ap (answered c.in-Some.key.now) c.recall-in-Greater.ensures)
    (front_later g.met.K.Ord.total c.args.entries.now c.args.notes.now c.next-in-Greater.new.self m c.in-Some-first_of.ensures.0 entry c.in-Some-first_of.ensures.1 notes c.requires.entries c.requires.notes (sym c.cmp.ensures ∙ c.in-Greater.is))
    (shorter c.args.notes.now c.next-in-Greater.new.self m notes)
