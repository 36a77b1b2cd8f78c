use Rattle.std.proofs.Common.{List, is_some, ap, ap₂, ◌∙◌}
use Rattle.storage_db.specs.declared.db.active.Active.{Active}
use Rattle.storage_db.specs.declared.db.notes.Note.{Note}
use Rattle.storage_db.specs.Notes.{taken_back}
use Rattle.storage_db.proofs.Cases.{either_way, err_both, ok_both}
use Rattle.storage_db.proofs.Notes.{look}
use Rattle.storage_db.proofs.Noting.{stay_noted, stays_put}
use Rattle.storage_db.proofs.db.active.ActiveKeys.insert.Goals as goal

pub returns-clause-others : goal.returns-clause-others
returns-clause-others g c = λ key held. either_way c.put_both.result
    (λ settles. stay_noted g.met.K.Ord.total c.args.self.now.present.entries c.put_both.new.present.entries c.args.self.now.notes.entries
    c.put_both.new.notes.entries c.are_sorted.ensures.notes c.args.key settles key held)
    (λ same. ap (λ (l : List (g.row.K.Denot × Note g.row.W.Denot)). is_some (look g.K.Ord.cmp l key)) same ∙ held)
    c.put_both.ensures.notes c.put_both.ensures.kept

pub returns-clause-committed : goal.returns-clause-committed
returns-clause-committed g c = ok_both c.put_both.result
    (λ settles puts noted. stays_put g.met.K.Ord.total c.args.self.now.present.entries c.put_both.new.present.entries c.args.self.now.notes.entries
    c.put_both.new.notes.entries c.are_sorted.ensures.notes c.args.key settles c.are_sorted.ensures.present
    (record { value = c.args.value; location = c.args.location }) puts noted)
    c.put_both.ensures.notes c.put_both.ensures.present

pub returns-clause-kept : goal.returns-clause-kept
returns-clause-kept g c = err_both c.put_both.result
    (λ entries notes. ap₂ (λ (x : List (g.row.K.Denot × Active g.row.W.Denot)) (y : List (g.row.K.Denot × Note g.row.W.Denot)).
    taken_back g.K.Ord.cmp x y) entries notes) c.put_both.ensures.err c.put_both.ensures.kept
