use Rattle.std.proofs.Common.{◌<◌, length, Some, None, sym, ap, ◌∙◌}
use Rattle.std.specs.Map.Iter.{deref_pair}
use Rattle.storage_db.specs.declared.db.active.Active.{Active}
use Rattle.storage_db.specs.declared.db.notes.Note.{Note}
use Rattle.storage_db.specs.Notes.{answered, recalled, shown, taken_back}
use Rattle.storage_db.proofs.Stepping.{back_both, back_entry, back_later, back_none, last_was, shorter_front, sorted_after, step_last}
use Rattle.storage_db.proofs.db.notes.last_step.Goals as goal

pub returns-in_default-last_of-clause-step : goal.returns-in_default-last_of-clause-step
returns-in_default-last_of-clause-step g c =
    let m : g.row.K.Denot × Note g.row.W.Denot = (c.in-Some.key.now, c.in-Some.note.now) in
    let notes = (last_was deref_pair c.args.notes.now c.next_back-in_default-last_of.new.self c.in-Some.ensures.0 m c.next_back-in_default-last_of.result c.in-Some.ensures.1 c.next_back-in_default-last_of.ensures.steps) in
    step_last shown c.in-Some.key.now (length c.next_back-in_default-last_of.new.self < length c.args.notes.now) c.at_key.result (recalled None c.in-Some.note.now)
    (taken_back g.K.Ord.cmp c.args.entries.now c.args.notes.now) (taken_back g.K.Ord.cmp c.args.entries.now c.next_back-in_default-last_of.new.self)
    (c.at_key.ensures ∙ ap (answered c.in-Some.key.now) c.recall.ensures)
    (back_none g.met.K.Ord.total c.args.entries.now c.args.notes.now c.next_back-in_default-last_of.new.self m notes c.requires.notes c.in_default-last_of.ensures.1.0)
    (shorter_front c.args.notes.now c.next_back-in_default-last_of.new.self m notes)

pub returns-in-Greater-clause-step : goal.returns-in-Greater-clause-step
returns-in-Greater-clause-step g c =
    let m : g.row.K.Denot × Note g.row.W.Denot = (c.in-Some.key.now, c.in-Some.note.now) in
    let entry : g.row.K.Denot × Active g.row.W.Denot = (c.in-Some-last_of.other.now, c.in-Some-last_of.active.now) in
    back_entry g.met.K.Ord.total c.args.entries.now c.args.notes.now c.in-Some.ensures.0 m c.next_back-in-Greater.new.self entry
    (last_was deref_pair c.args.entries.now c.next_back-in-Greater.new.self c.in-Some-last_of.ensures.0 entry c.next_back-in-Greater.result
    c.in-Some-last_of.ensures.1 c.next_back-in-Greater.ensures.steps) c.in-Some.ensures.1 c.requires.notes (sym c.cmp.ensures ∙ c.in-Greater.is)

pub returns-in-Equal-clause-step : goal.returns-in-Equal-clause-step
returns-in-Equal-clause-step g c =
    let m : g.row.K.Denot × Note g.row.W.Denot = (c.in-Some.key.now, c.in-Some.note.now) in
    let entry : g.row.K.Denot × Active g.row.W.Denot = (c.in-Some-last_of.other.now, c.in-Some-last_of.active.now) in
    let notes = (last_was deref_pair c.args.notes.now c.next_back-in-Equal-2.new.self c.in-Some.ensures.0 m c.next_back-in-Equal-2.result c.in-Some.ensures.1 c.next_back-in-Equal-2.ensures.steps) in
    step_last shown c.in-Some-last_of.other.now (length c.next_back-in-Equal-2.new.self < length c.args.notes.now) c.at_key-in-Equal.result (recalled (Some c.in-Some-last_of.active.now) c.in-Some.note.now)
    (taken_back g.K.Ord.cmp c.args.entries.now c.args.notes.now) (taken_back g.K.Ord.cmp c.next_back-in-Equal.new.self c.next_back-in-Equal-2.new.self)
    (c.at_key-in-Equal.ensures ∙ ap (answered c.in-Some-last_of.other.now) c.recall-in-Equal.ensures)
    (back_both g.met.K.Ord.total c.args.entries.now c.args.notes.now c.next_back-in-Equal-2.new.self m c.next_back-in-Equal.new.self entry
    (last_was deref_pair c.args.entries.now c.next_back-in-Equal.new.self c.in-Some-last_of.ensures.0 entry c.next_back-in-Equal.result
    c.in-Some-last_of.ensures.1 c.next_back-in-Equal.ensures.steps) notes c.requires.entries c.requires.notes (sym c.cmp.ensures ∙ c.in-Equal.is))
    (shorter_front c.args.notes.now c.next_back-in-Equal-2.new.self m notes)

pub returns-in-Less-clause-step : goal.returns-in-Less-clause-step
returns-in-Less-clause-step g c =
    let m : g.row.K.Denot × Note g.row.W.Denot = (c.in-Some.key.now, c.in-Some.note.now) in
    let entry : g.row.K.Denot × Active g.row.W.Denot = (c.in-Some-last_of.other.now, c.in-Some-last_of.active.now) in
    let notes = (last_was deref_pair c.args.notes.now c.next_back-in-Less.new.self c.in-Some.ensures.0 m c.next_back-in-Less.result c.in-Some.ensures.1 c.next_back-in-Less.ensures.steps) in
    step_last shown c.in-Some.key.now (length c.next_back-in-Less.new.self < length c.args.notes.now) c.at_key-in-Less.result (recalled None c.in-Some.note.now)
    (taken_back g.K.Ord.cmp c.args.entries.now c.args.notes.now) (taken_back g.K.Ord.cmp c.args.entries.now c.next_back-in-Less.new.self)
    (c.at_key-in-Less.ensures ∙ ap (answered c.in-Some.key.now) c.recall-in-Less.ensures)
    (back_later g.met.K.Ord.total c.args.entries.now c.args.notes.now c.next_back-in-Less.new.self m c.in-Some-last_of.ensures.0 entry c.in-Some-last_of.ensures.1 notes c.requires.entries c.requires.notes (sym c.cmp.ensures ∙ c.in-Less.is))
    (shorter_front c.args.notes.now c.next_back-in-Less.new.self m notes)

pub returns-in_default-clause-entries : goal.returns-in_default-clause-entries
returns-in_default-clause-entries g c =
    sorted_after g.met.K.Ord.total deref_pair c.args.entries.now c.next_back.new.self c.next_back.result c.next_back.ensures.steps c.requires.entries

pub returns-in_default-last_of-clause-notes : goal.returns-in_default-last_of-clause-notes
returns-in_default-last_of-clause-notes g c =
    sorted_after g.met.K.Ord.total deref_pair c.args.notes.now c.next_back-in_default-last_of.new.self c.next_back-in_default-last_of.result c.next_back-in_default-last_of.ensures.steps c.requires.notes

pub returns-in-Greater-clause-entries : goal.returns-in-Greater-clause-entries
returns-in-Greater-clause-entries g c =
    sorted_after g.met.K.Ord.total deref_pair c.args.entries.now c.next_back-in-Greater.new.self c.next_back-in-Greater.result c.next_back-in-Greater.ensures.steps c.requires.entries

pub returns-in-Equal-clause-entries : goal.returns-in-Equal-clause-entries
returns-in-Equal-clause-entries g c =
    sorted_after g.met.K.Ord.total deref_pair c.args.entries.now c.next_back-in-Equal.new.self c.next_back-in-Equal.result c.next_back-in-Equal.ensures.steps c.requires.entries

pub returns-in-Equal-clause-notes : goal.returns-in-Equal-clause-notes
returns-in-Equal-clause-notes g c =
    sorted_after g.met.K.Ord.total deref_pair c.args.notes.now c.next_back-in-Equal-2.new.self c.next_back-in-Equal-2.result c.next_back-in-Equal-2.ensures.steps c.requires.notes

pub returns-in-Less-clause-notes : goal.returns-in-Less-clause-notes
returns-in-Less-clause-notes g c =
    sorted_after g.met.K.Ord.total deref_pair c.args.notes.now c.next_back-in-Less.new.self c.next_back-in-Less.result c.next_back-in-Less.ensures.steps c.requires.notes
