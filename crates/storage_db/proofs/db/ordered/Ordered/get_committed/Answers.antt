use Rattle.std.proofs.Common.{ap}
use Rattle.storage_current.specs.Keys.{keyed_by}
use Rattle.storage_current.specs.Snapshots.{grafting_of}
use Rattle.storage_db.specs.Kept.{with_keys}
use Rattle.storage_db.specs.Parts.{committed_of}
use Rattle.storage_db.proofs.Remembering.{with_all}
use Rattle.storage_db.proofs.Recalled.{told_at_last, told_before}
use Rattle.storage_db.proofs.db.ordered.Ordered.get_committed.Goals as goal

pub returns-in-Some-clause-value : goal.returns-in-Some-clause-value
returns-in-Some-clause-value g c = λ d keeps.
    told_at_last (keyed_by g.K.Write.text g.V.Value.Write.text g.V.OperationCodec.operation_text g.K.Ord.cmp)
    g.V.Value.Read.view c.operations_settle_keys.ensures g.H.Hasher.hash_of (grafting_of g.F.Family.shape g.row.N)
    g.V.Value.Read.view (λ x y copy. copy.seen_value) _ _ c.self.view_is d keeps c.args.key.now (with_keys c.in-Some.field-0 (committed_of g.K.Ord.cmp c.self.inside.active)) (ap (with_all (committed_of g.K.Ord.cmp c.self.inside.active)) c.in-Some.is) _
    c.committed_value.result c.committed_value.ensures

pub returns-in-None-clause-value : goal.returns-in-None-clause-value
returns-in-None-clause-value g c = λ d keeps.
    told_before (keyed_by g.K.Write.text g.V.Value.Write.text g.V.OperationCodec.operation_text g.K.Ord.cmp)
    g.V.Value.Read.view c.operations_settle_keys.ensures g.H.Hasher.hash_of (grafting_of g.F.Family.shape g.row.N)
    g.V.Value.Read.view (λ x y copy. copy.seen_value) _ _ c.self.view_is d keeps c.args.key.now (ap (with_all (committed_of g.K.Ord.cmp c.self.inside.active)) c.in-None.is)

pub returns-in-Some-clause-text : goal.returns-in-Some-clause-text
returns-in-Some-clause-text g c = λ d keeps.
    told_at_last (keyed_by g.K.Write.text g.V.Value.Write.text g.V.OperationCodec.operation_text g.K.Ord.cmp)
    g.V.Value.Read.view c.operations_settle_keys.ensures g.H.Hasher.hash_of (grafting_of g.F.Family.shape g.row.N)
    g.V.Value.Write.text (λ x y copy. copy.value) _ _ c.self.view_is d keeps c.args.key.now (with_keys c.in-Some.field-0 (committed_of g.K.Ord.cmp c.self.inside.active)) (ap (with_all (committed_of g.K.Ord.cmp c.self.inside.active)) c.in-Some.is) _
    c.committed_value.result c.committed_value.ensures

pub returns-in-None-clause-text : goal.returns-in-None-clause-text
returns-in-None-clause-text g c = λ d keeps.
    told_before (keyed_by g.K.Write.text g.V.Value.Write.text g.V.OperationCodec.operation_text g.K.Ord.cmp)
    g.V.Value.Read.view c.operations_settle_keys.ensures g.H.Hasher.hash_of (grafting_of g.F.Family.shape g.row.N)
    g.V.Value.Write.text (λ x y copy. copy.value) _ _ c.self.view_is d keeps c.args.key.now (ap (with_all (committed_of g.K.Ord.cmp c.self.inside.active)) c.in-None.is)
