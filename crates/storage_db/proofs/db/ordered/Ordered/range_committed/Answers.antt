use Rattle.std.proofs.Common.{refl, ap}
use Rattle.storage_current.specs.Keys.{Keyed, keyed_by}
use Rattle.storage_current.specs.Snapshots.{grafting_of}
use Rattle.storage_db.specs.Kept.{with_keys}
use Rattle.storage_db.specs.Parts.{committed_of}
use Rattle.storage_db.proofs.Remembering.{with_all}
use Rattle.storage_db.proofs.Ranges.{range_alike}
use Rattle.storage_db.proofs.Shown.{told_at_last, told_before}
use Rattle.storage_db.proofs.db.ordered.Ordered.range_committed.Goals as goal

pub returns-in-Some-clause-value : goal.returns-in-Some-clause-value
returns-in-Some-clause-value g c = λ d keeps.
    let e : Keyed g.row.K.Denot g.row.V-Value.Denot
    = keyed_by g.K.Write.text g.V.Value.Write.text g.V.OperationCodec.operation_text g.K.Ord.cmp in
    told_at_last e g.V.Value.Read.view g.H.Hasher.hash_of (grafting_of g.F.Family.shape g.row.N) _ _ c.self.view_is d keeps
    (with_keys c.in-Some.field-0 (committed_of g.K.Ord.cmp c.self.inside.active)) (ap (with_all (committed_of g.K.Ord.cmp c.self.inside.active)) c.in-Some.is) _ _ (λ commit kept bounds.
    let found = c.committed_entries_of.ensures bounds in
    range_alike e g.V.Value.Read.view c.operations_settle_keys.ensures g.V.Value.Read.view (λ x y copy. copy.seen_value)
    (g.R.RangeBounds.start_bound c.args.range) (g.R.RangeBounds.end_bound c.args.range) commit.entries
    (committed_of g.K.Ord.cmp c.self.inside.active) found.0 kept.entries found.1 c.committed_entries_of.result found.2)

pub returns-in-None-clause-value : goal.returns-in-None-clause-value
returns-in-None-clause-value g c = λ d keeps.
    told_before (keyed_by g.K.Write.text g.V.Value.Write.text g.V.OperationCodec.operation_text g.K.Ord.cmp) g.V.Value.Read.view
    g.H.Hasher.hash_of (grafting_of g.F.Family.shape g.row.N) _ _ c.self.view_is d keeps _ _ (ap (with_all (committed_of g.K.Ord.cmp c.self.inside.active)) c.in-None.is) refl

pub returns-in-Some-clause-text : goal.returns-in-Some-clause-text
returns-in-Some-clause-text g c = λ d keeps.
    let e : Keyed g.row.K.Denot g.row.V-Value.Denot
    = keyed_by g.K.Write.text g.V.Value.Write.text g.V.OperationCodec.operation_text g.K.Ord.cmp in
    told_at_last e g.V.Value.Read.view g.H.Hasher.hash_of (grafting_of g.F.Family.shape g.row.N) _ _ c.self.view_is d keeps
    (with_keys c.in-Some.field-0 (committed_of g.K.Ord.cmp c.self.inside.active)) (ap (with_all (committed_of g.K.Ord.cmp c.self.inside.active)) c.in-Some.is) _ _ (λ commit kept bounds.
    let found = c.committed_entries_of.ensures bounds in
    range_alike e g.V.Value.Read.view c.operations_settle_keys.ensures g.V.Value.Write.text (λ x y copy. copy.value)
    (g.R.RangeBounds.start_bound c.args.range) (g.R.RangeBounds.end_bound c.args.range) commit.entries
    (committed_of g.K.Ord.cmp c.self.inside.active) found.0 kept.entries found.1 c.committed_entries_of.result found.2)

pub returns-in-None-clause-text : goal.returns-in-None-clause-text
returns-in-None-clause-text g c = λ d keeps.
    told_before (keyed_by g.K.Write.text g.V.Value.Write.text g.V.OperationCodec.operation_text g.K.Ord.cmp) g.V.Value.Read.view
    g.H.Hasher.hash_of (grafting_of g.F.Family.shape g.row.N) _ _ c.self.view_is d keeps _ _ (ap (with_all (committed_of g.K.Ord.cmp c.self.inside.active)) c.in-None.is) refl
