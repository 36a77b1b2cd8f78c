use Rattle.std.proofs.Common.{List, ap, ◌∙◌}
use Rattle.std.specs.BTreeMap.Range.{entries_between}
use Rattle.storage_db.specs.declared.db.active.Active.{Active}
use Rattle.storage_db.specs.Kept.{KeptDatabase}
use Rattle.storage_db.specs.Ranges.{pairs_of}
use Rattle.storage_db.proofs.db.ordered.Ordered.range.Goals as goal

pub returns : goal.returns
returns g c = λ d keeps bounds.
    c.entries_of.ensures bounds
    ∙ ap (λ (es : List (g.row.K.Denot × Active g.row.V-Value.Denot)). pairs_of (entries_between g.K.Ord.cmp
    (g.R.RangeBounds.start_bound c.args.range) (g.R.RangeBounds.end_bound c.args.range) es))
    (ap (λ (k : KeptDatabase g.row.K.Denot g.row.V-Value.Denot). k.entries) c.self.view_is ∙ keeps.entries)
