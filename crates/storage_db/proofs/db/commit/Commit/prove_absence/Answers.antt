use Rattle.std.proofs.Common.{◌≡◌, Some, None, option_map, ap, ◌∙◌, refl, subst, sym}
use Rattle.storage_current.specs.HeldKeys.{exclusion_of}
use Rattle.storage_current.specs.Keys.{Keyed, keyed_by}
use Rattle.storage_current.specs.Snapshots.{grafting_of}
use Rattle.storage_db.specs.declared.db.error.Error.TheVariants.{Memory, Present}
use Rattle.storage_db.specs.Notes.{shown}
use Rattle.storage_db.specs.Parts.{committed_of}
use Rattle.storage_db.specs.Rings.{previous}
use Rattle.storage_db.proofs.Cases.{err_and, none_if, some_of}
use Rattle.storage_db.proofs.Copies.{AreCopied}
use Rattle.storage_db.proofs.Remembering.{previous_found}
use Rattle.storage_db.proofs.Shown.{absence_by_update, absence_by_commit, told_absent, told_present}
use Rattle.storage_db.proofs.db.commit.Commit.prove_absence.Goals as goal

pub returns-then-contains_committed-clause-why : goal.returns-then-contains_committed-clause-why
returns-then-contains_committed-clause-why g c = λ commit keeps.
    let there = some_of _ (sym c.contains_committed.ensures ∙ c.if-contains_committed.true) in
    told_present (keyed_by g.K.Write.text g.V.Value.Write.text g.V.OperationCodec.operation_text g.K.Ord.cmp) g.V.Value.Read.view
    c.operations_settle_keys.ensures g.H.Hasher.hash_of (grafting_of g.F.Family.shape g.row.N) _ _ refl commit keeps
    c.args.key.now _ _ there.0 there.1 refl

pub returns-in_err-absence_by_update-in-Some-clause-why : goal.returns-in_err-absence_by_update-in-Some-clause-why
returns-in_err-absence_by_update-in-Some-clause-why g c = err_and _ _ c.from_residual.result (λ error memory commit keeps.
    told_absent (keyed_by g.K.Write.text g.V.Value.Write.text g.V.OperationCodec.operation_text g.K.Ord.cmp) g.V.Value.Read.view
    c.operations_settle_keys.ensures g.H.Hasher.hash_of (grafting_of g.F.Family.shape g.row.N) _ _ refl commit keeps
    c.args.key.now (error ≡ Memory) (λ _. error ≡ Present)
    (none_if _ (sym c.contains_committed.ensures ∙ c.if-contains_committed.false)) memory) c.from_residual.ensures.1

pub returns-in_err-absence_by_commit-in-None-clause-why : goal.returns-in_err-absence_by_commit-in-None-clause-why
returns-in_err-absence_by_commit-in-None-clause-why g c = err_and _ _ c.from_residual-in_err-absence_by_commit-in-None.result (λ error memory commit keeps.
    told_absent (keyed_by g.K.Write.text g.V.Value.Write.text g.V.OperationCodec.operation_text g.K.Ord.cmp) g.V.Value.Read.view
    c.operations_settle_keys.ensures g.H.Hasher.hash_of (grafting_of g.F.Family.shape g.row.N) _ _ refl commit keeps
    c.args.key.now (error ≡ Memory) (λ _. error ≡ Present)
    (none_if _ (sym c.contains_committed.ensures ∙ c.if-contains_committed.false)) memory) c.from_residual-in_err-absence_by_commit-in-None.ensures.1

pub returns-in_ok-absence_by_update-in-Some-clause-own : goal.returns-in_ok-absence_by_update-in-Some-clause-own
returns-in_ok-absence_by_update-in-Some-clause-own g c = λ commit keeps.
    let e : Keyed g.row.K.Denot g.row.V-Value.Denot
    = keyed_by g.K.Write.text g.V.Value.Write.text g.V.OperationCodec.operation_text g.K.Ord.cmp in
    let found = c.previous_committed.ensures in
    let copied : AreCopied e g.V.Value.Read.view c.operations_settle_keys.ensures (previous g.K.Ord.cmp commit.entries c.args.key.now)
    (Some (shown c.in-Some.before))
    = subst (AreCopied e g.V.Value.Read.view c.operations_settle_keys.ensures (previous g.K.Ord.cmp commit.entries c.args.key.now))
    (sym found.2 ∙ ap (option_map shown) c.in-Some.is)
    (previous_found e g.V.Value.Read.view c.operations_settle_keys.ensures commit.entries (committed_of g.K.Ord.cmp c.args.active.now) found.0 keeps.entries
    c.args.key.now found.1) in
    absence_by_update e g.V.Value.Read.view c.operations_settle_keys.ensures g.H.Hasher.hash_of
    (grafting_of g.F.Family.shape g.row.N) _ _ refl commit keeps c.args.key.now
    (sym c.contains_committed.ensures ∙ c.if-contains_committed.false) (shown c.in-Some.before) copied
    (exclusion_of g.H.Digest.Digest.text (λ bytes. bytes) c.in_ok-absence_by_update-in-Some.field-0)
    (c.in_ok-absence_by_update-in-Some.ensures commit keeps)

pub returns-in_ok-absence_by_commit-in-None-clause-own : goal.returns-in_ok-absence_by_commit-in-None-clause-own
returns-in_ok-absence_by_commit-in-None-clause-own g c = λ commit keeps.
    let e : Keyed g.row.K.Denot g.row.V-Value.Denot
    = keyed_by g.K.Write.text g.V.Value.Write.text g.V.OperationCodec.operation_text g.K.Ord.cmp in
    let found = c.previous_committed.ensures in
    let copied : AreCopied e g.V.Value.Read.view c.operations_settle_keys.ensures (previous g.K.Ord.cmp commit.entries c.args.key.now)
    (None)
    = subst (AreCopied e g.V.Value.Read.view c.operations_settle_keys.ensures (previous g.K.Ord.cmp commit.entries c.args.key.now))
    (sym found.2 ∙ ap (option_map shown) c.in-None.is)
    (previous_found e g.V.Value.Read.view c.operations_settle_keys.ensures commit.entries (committed_of g.K.Ord.cmp c.args.active.now) found.0 keeps.entries
    c.args.key.now found.1) in
    absence_by_commit e g.V.Value.Read.view c.operations_settle_keys.ensures g.H.Hasher.hash_of
    (grafting_of g.F.Family.shape g.row.N) _ _ refl commit keeps c.args.key.now
    (sym c.contains_committed.ensures ∙ c.if-contains_committed.false) copied
    (exclusion_of g.H.Digest.Digest.text (λ bytes. bytes) c.in_ok-absence_by_commit-in-None.field-0)
    (c.in_ok-absence_by_commit-in-None.ensures (committed_of g.K.Ord.cmp c.args.active.now) commit keeps)
