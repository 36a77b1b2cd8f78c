use Rattle.std.proofs.Common.{Option, option_map, unwrap_or, is_eq, ap, ◌∙◌}
use Rattle.storage_db.specs.declared.db.active.Active.{Active}
use Rattle.storage_db.specs.Parts.{committed_of}
use Rattle.storage_db.specs.Rings.{around}
use Rattle.storage_db.proofs.Neighbouring.{next_written}
use Rattle.storage_db.proofs.db.active.ActiveKeys.next_committed_or_own.Goals as goal

pub returns-in_ok-clone-in-Some : goal.returns-in_ok-clone-in-Some
returns-in_ok-clone-in-Some g c =
    (g.met.K.Key.clones c.in-Some.next.now c.in_ok-clone-in-Some.field-0 c.in_ok-clone-in-Some.ensures.cases).1
    ∙ ap (λ (o : Option (g.row.K.Denot × Active g.row.W.Denot)). g.K.Write.text (unwrap_or (option_map (λ (x : g.row.K.Denot × Active g.row.W.Denot). x.0) o)
    c.args.key.now)) c.in-Some.ensures.2
    ∙ next_written g.K.Ord.cmp g.K.Write.text (λ a b e. (g.met.K.Key.same a b).0 (g.met.K.Ord.matches_eq a b ∙ ap is_eq e))
    c.args.key.now (around g.K.Ord.cmp (committed_of g.K.Ord.cmp c.args.self.now) c.args.key.now) c.in-Some.ensures.0 c.in-Some.ensures.1

pub returns-in_ok-clone-in-None : goal.returns-in_ok-clone-in-None
returns-in_ok-clone-in-None g c =
    (g.met.K.Key.clones c.args.key.now c.in_ok-clone-in-None.field-0 c.in_ok-clone-in-None.ensures.cases).1
    ∙ ap (λ (o : Option (g.row.K.Denot × Active g.row.W.Denot)). g.K.Write.text (unwrap_or (option_map (λ (x : g.row.K.Denot × Active g.row.W.Denot). x.0) o)
    c.args.key.now)) c.in-None.ensures.2
    ∙ next_written g.K.Ord.cmp g.K.Write.text (λ a b e. (g.met.K.Key.same a b).0 (g.met.K.Ord.matches_eq a b ∙ ap is_eq e))
    c.args.key.now (around g.K.Ord.cmp (committed_of g.K.Ord.cmp c.args.self.now) c.args.key.now) c.in-None.ensures.0 c.in-None.ensures.1
