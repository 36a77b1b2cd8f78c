use Rattle.std.proofs.Common.{Option, sym, ap, ◌∙◌}
use Rattle.storage_db.specs.declared.db.active.Active.{Active}
use Rattle.storage_db.specs.declared.db.notes.Note.{Note}
use Rattle.storage_db.specs.Notes.{recalled}
use Rattle.storage_db.proofs.Notes.{look, look-taken, remembered}
use Rattle.storage_db.proofs.db.active.ActiveKeys.committed.Goals as goal

pub returns-in-Some : goal.returns-in-Some
returns-in-Some g c =
    let es = c.args.self.now.present.entries in
    let ns = c.args.self.now.notes.entries in
    c.recall.ensures ∙ ap (λ (a : Option (Active g.row.W.Denot)). recalled a c.in-Some.note.now) c.get-now.ensures.value
    ∙ ap (λ (n : Option (Note g.row.W.Denot)). remembered n (look g.K.Ord.cmp es c.args.key.now)) c.in-Some.ensures.value
    ∙ sym (look-taken g.met.K.Ord.total ns es c.are_sorted.ensures.present c.are_sorted.ensures.notes c.args.key.now)

pub returns-in-None : goal.returns-in-None
returns-in-None g c =
    let es = c.args.self.now.present.entries in
    let ns = c.args.self.now.notes.entries in
    c.lent.ensures ∙ c.get-now.ensures.value
    ∙ ap (λ (n : Option (Note g.row.W.Denot)). remembered n (look g.K.Ord.cmp es c.args.key.now)) c.in-None.ensures.value
    ∙ sym (look-taken g.met.K.Ord.total ns es c.are_sorted.ensures.present c.are_sorted.ensures.notes c.args.key.now)
