use Rattle.std.proofs.Common.{inl, inr}
use Rattle.storage_current.proofs.Joined.{joined_below, joined_above, joined_past, joined_invalid}
use Rattle.storage_current.proofs.laws.combined.joined_trees_meet_at_a_height.Goals as goal

pub returns-clause-none : goal.returns-clause-none
returns-clause-none g c height nodes position chunks operations why = elim why [
  | inl past ↦ joined_past g.F.Family.shape g.met.F.Family.laws height nodes chunks operations position past
  | inr invalid ↦ joined_invalid g.F.Family.shape g.met.F.Family.laws height nodes chunks operations position invalid
]

pub returns-clause-below : goal.returns-clause-below
returns-clause-below g c height nodes position first own chunks operations =
    joined_below g.F.Family.shape g.met.F.Family.laws height nodes chunks operations position first own

pub returns-clause-above : goal.returns-clause-above
returns-clause-above g c height nodes position over chunks operations =
    joined_above g.F.Family.shape g.met.F.Family.laws height nodes chunks operations position over
