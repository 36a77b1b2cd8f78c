use Rattle.std.proofs.Common.{◌++◌, sym, ◌∙◌}
use Rattle.std.specs.declared.ops.Bound.TheVariants.{Excluded, Unbounded}
use Rattle.std.specs.BTreeMap.Range.{entries_between}
use Rattle.storage_db.specs.Parts.{committed_of}
use Rattle.storage_db.proofs.Notes.{alike_itself}
use Rattle.storage_db.proofs.Cases.{last_left, last_right}
use Rattle.storage_db.proofs.Neighbouring.{alike_append}
use Rattle.storage_db.proofs.db.active.ActiveKeys.previous_committed.Goals as goal

pub returns-in-Some : goal.returns-in-Some
returns-in-Some g c =
    let last = c.in-Some.ensures in
    let rest = (entries_between g.K.Ord.cmp (Excluded c.args.key.now) Unbounded (committed_of g.K.Ord.cmp c.args.self.now)) in (
      rest ++ last.0,
      alike_append g.K.Ord.cmp rest rest (entries_between g.K.Ord.cmp Unbounded (Excluded c.args.key.now) (committed_of g.K.Ord.cmp c.args.self.now)) last.0 (alike_itself g.met.K.Ord.total rest) last.1,
      sym (last_right rest last.0 _ (sym last.2)),
    )

pub returns-in-None : goal.returns-in-None
returns-in-None g c =
    let last = c.in-None.ensures in
    let second = c.last_between-in-None.ensures in (
      second.0 ++ last.0,
      alike_append g.K.Ord.cmp (entries_between g.K.Ord.cmp (Excluded c.args.key.now) Unbounded (committed_of g.K.Ord.cmp c.args.self.now)) second.0 (entries_between g.K.Ord.cmp Unbounded (Excluded c.args.key.now) (committed_of g.K.Ord.cmp c.args.self.now)) last.0 second.1 last.1,
      second.2 ∙ sym (last_left second.0 last.0 (sym last.2)),
    )
