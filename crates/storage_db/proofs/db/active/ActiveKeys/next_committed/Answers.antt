use Rattle.std.proofs.Common.{◌++◌, sym, ◌∙◌}
use Rattle.std.specs.declared.ops.Bound.TheVariants.{Excluded, Unbounded}
use Rattle.std.specs.BTreeMap.Range.{entries_between}
use Rattle.storage_db.specs.Parts.{committed_of}
use Rattle.storage_db.proofs.Notes.{alike_itself}
use Rattle.storage_db.proofs.Neighbouring.{alike_append, first_left, first_right}
use Rattle.storage_db.proofs.db.active.ActiveKeys.next_committed.Goals as goal

pub returns-in-Some : goal.returns-in-Some
returns-in-Some g c =
    let first = c.in-Some.ensures in
    let rest = (entries_between g.K.Ord.cmp Unbounded (Excluded c.args.key.now) (committed_of g.K.Ord.cmp c.args.self.now)) in (
      first.0 ++ rest,
      alike_append g.K.Ord.cmp (entries_between g.K.Ord.cmp (Excluded c.args.key.now) Unbounded (committed_of g.K.Ord.cmp c.args.self.now)) first.0 rest rest first.1 (alike_itself g.met.K.Ord.total rest),
      first_left first.0 rest _ first.2,
    )

pub returns-in-None : goal.returns-in-None
returns-in-None g c =
    let first = c.in-None.ensures in
    let second = c.first_between-in-None.ensures in (
      first.0 ++ second.0,
      alike_append g.K.Ord.cmp (entries_between g.K.Ord.cmp (Excluded c.args.key.now) Unbounded (committed_of g.K.Ord.cmp c.args.self.now)) first.0 (entries_between g.K.Ord.cmp Unbounded (Excluded c.args.key.now) (committed_of g.K.Ord.cmp c.args.self.now)) second.0 first.1 second.1,
      second.2 ∙ sym (first_right first.0 second.0 first.2),
    )
