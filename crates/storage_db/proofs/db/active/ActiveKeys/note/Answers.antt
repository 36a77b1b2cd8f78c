use Rattle.std.proofs.Common.{◌≡◌, List, Option, Equal, is_some, sym, ap, ◌∙◌, subst}
use Rattle.storage_db.specs.declared.db.active.Active.{Active}
use Rattle.storage_db.specs.declared.db.notes.Note.{Note}
use Rattle.storage_db.specs.Notes.{recalled, taken_back}
use Rattle.storage_db.proofs.Cases.{on_ok}
use Rattle.storage_db.proofs.Notes.{look}
use Rattle.storage_db.proofs.Noting.{copy_equal, noted_now, nothing_changed, others_noted}
use Rattle.storage_db.proofs.db.active.ActiveKeys.note.Goals as goal

pub returns-clause-noted : goal.returns-clause-noted
returns-clause-noted g c =
    let same : g.K.Ord.cmp c.in_ok-copy.copy c.args.key.now ≡ Equal
    = copy_equal g.K.Write.text g.K.Ord.cmp g.K.PartialEq.eq g.met.K.Ord.matches_eq g.met.K.Key.same c.in_ok-copy.copy c.args.key.now
    (g.met.K.Key.clones c.args.key.now c.in_ok-copy.copy c.in_ok-copy.ensures.cases).1 in
    ap (λ (l : List (g.row.K.Denot × Note g.row.W.Denot)). is_some (look g.K.Ord.cmp l c.args.key.now))
    (on_ok _ c.insert.result (sym c.if-is_err.ensures.value) c.insert.ensures.entries)
    ∙ noted_now g.met.K.Ord.total c.args.self.now.present.entries c.args.self.now.notes.entries c.args.key.now
    c.in_ok-copy.copy same c.of-note.result

pub returns-clause-others : goal.returns-clause-others
returns-clause-others g c = λ key held.
    let same : g.K.Ord.cmp c.in_ok-copy.copy c.args.key.now ≡ Equal
    = copy_equal g.K.Write.text g.K.Ord.cmp g.K.PartialEq.eq g.met.K.Ord.matches_eq g.met.K.Key.same c.in_ok-copy.copy c.args.key.now
    (g.met.K.Key.clones c.args.key.now c.in_ok-copy.copy c.in_ok-copy.ensures.cases).1 in
    ap (λ (l : List (g.row.K.Denot × Note g.row.W.Denot)). is_some (look g.K.Ord.cmp l key))
    (on_ok _ c.insert.result (sym c.if-is_err.ensures.value) c.insert.ensures.entries)
    ∙ others_noted g.met.K.Ord.total c.args.self.now.present.entries c.args.self.now.notes.entries c.args.key.now
    c.in_ok-copy.copy same c.of-note.result key held

pub returns-clause-committed : goal.returns-clause-committed
returns-clause-committed g c =
    let same : g.K.Ord.cmp c.in_ok-copy.copy c.args.key.now ≡ Equal
    = copy_equal g.K.Write.text g.K.Ord.cmp g.K.PartialEq.eq g.met.K.Ord.matches_eq g.met.K.Key.same c.in_ok-copy.copy c.args.key.now
    (g.met.K.Key.clones c.args.key.now c.in_ok-copy.copy c.in_ok-copy.ensures.cases).1 in
    ap (λ (l : List (g.row.K.Denot × Note g.row.W.Denot)). taken_back g.K.Ord.cmp c.args.self.now.present.entries l)
    (on_ok _ c.insert.result (sym c.if-is_err.ensures.value) c.insert.ensures.entries)
    ∙ nothing_changed g.met.K.Ord.total c.args.self.now.present.entries c.args.self.now.notes.entries c.args.key.now
    c.in_ok-copy.copy same c.of-note.result c.are_sorted.ensures.present (sym c.contains_key.ensures ∙ c.if-contains_key.false)
    (subst (λ (a : Option (Active g.row.W.Denot)). recalled a c.of-note.result ≡ a) c.get.ensures.value c.of-note.ensures)
