use Rattle.std.proofs.Common.{refl, ap}
use Rattle.storage_current.specs.Keys.{keyed_by}
use Rattle.storage_current.specs.Snapshots.{grafting_of}
use Rattle.storage_db.specs.Kept.{with_keys}
use Rattle.storage_db.specs.Parts.{committed_of}
use Rattle.storage_db.proofs.Remembering.{with_all}
use Rattle.storage_db.proofs.Cases.{if_ok, if_err}
use Rattle.storage_db.proofs.Shown.{shown_at_last, told_at_last, told_before}
use Rattle.storage_db.proofs.db.ordered.Ordered.prove_absence.Goals as goal

pub returns-in-Some-clause-own : goal.returns-in-Some-clause-own
returns-in-Some-clause-own g c = if_ok _ _ c.prove_absence.result (λ shown own d keeps.
    shown_at_last (keyed_by g.K.Write.text g.V.Value.Write.text g.V.OperationCodec.operation_text g.K.Ord.cmp) g.V.Value.Read.view
    g.H.Hasher.hash_of (grafting_of g.F.Family.shape g.row.N) _ _ c.self.view_is d keeps (with_keys c.in-Some.last (committed_of g.K.Ord.cmp c.self.inside.active)) (ap (with_all (committed_of g.K.Ord.cmp c.self.inside.active)) c.in-Some.is) _ own)
    c.prove_absence.ensures.own

pub returns-in-Some-clause-why : goal.returns-in-Some-clause-why
returns-in-Some-clause-why g c = if_err _ _ c.prove_absence.result (λ error why d keeps.
    told_at_last (keyed_by g.K.Write.text g.V.Value.Write.text g.V.OperationCodec.operation_text g.K.Ord.cmp) g.V.Value.Read.view
    g.H.Hasher.hash_of (grafting_of g.F.Family.shape g.row.N) _ _ c.self.view_is d keeps (with_keys c.in-Some.last (committed_of g.K.Ord.cmp c.self.inside.active)) (ap (with_all (committed_of g.K.Ord.cmp c.self.inside.active)) c.in-Some.is) _ _ why)
    c.prove_absence.ensures.why

pub returns-in-None-clause-why : goal.returns-in-None-clause-why
returns-in-None-clause-why g c = λ d keeps.
    told_before (keyed_by g.K.Write.text g.V.Value.Write.text g.V.OperationCodec.operation_text g.K.Ord.cmp) g.V.Value.Read.view
    g.H.Hasher.hash_of (grafting_of g.F.Family.shape g.row.N) _ _ c.self.view_is d keeps _ _ (ap (with_all (committed_of g.K.Ord.cmp c.self.inside.active)) c.in-None.is) refl
