use Rattle.std.proofs.Common.{◌≡◌, refl, sym}
use Rattle.storage_current.specs.Held.{operation_proof_of}
use Rattle.storage_current.specs.Keys.{Keyed, keyed_by}
use Rattle.storage_current.specs.Snapshots.{grafting_of}
use Rattle.storage_db.specs.declared.db.error.Error.TheVariants.{Absent, Memory}
use Rattle.storage_db.proofs.Cases.{err_and}
use Rattle.storage_db.specs.Parts.{committed_of}
use Rattle.storage_db.proofs.Recalled.{value_found}
use Rattle.storage_db.proofs.Shown.{keeps_inside, value_proof, told_absent, told_present}
use Rattle.storage_db.proofs.db.commit.Commit.prove_value.Goals as goal

pub returns-in_default-clause-why : goal.returns-in_default-clause-why
returns-in_default-clause-why g c = λ commit keeps.
    told_absent (keyed_by g.K.Write.text g.V.Value.Write.text g.V.OperationCodec.operation_text g.K.Ord.cmp) g.V.Value.Read.view
    c.operations_settle_keys.ensures g.H.Hasher.hash_of (grafting_of g.F.Family.shape g.row.N) _ _ refl commit keeps
    c.args.key.now _ _ (sym c.in_default.ensures) refl

pub returns-in_err-value-clause-why : goal.returns-in_err-value-clause-why
returns-in_err-value-clause-why g c = err_and _ _ c.from_residual.result (λ error memory commit keeps.
    told_present (keyed_by g.K.Write.text g.V.Value.Write.text g.V.OperationCodec.operation_text g.K.Ord.cmp) g.V.Value.Read.view
    c.operations_settle_keys.ensures g.H.Hasher.hash_of (grafting_of g.F.Family.shape g.row.N) _ _ refl commit keeps
    c.args.key.now (error ≡ Absent) (error ≡ Memory) (record { value = c.in-Some.value.now; location = c.in-Some.location }) (sym c.in-Some.ensures) memory) c.from_residual.ensures.1

pub returns-in_err-next_key-clause-why : goal.returns-in_err-next_key-clause-why
returns-in_err-next_key-clause-why g c = err_and _ _ c.from_residual-in_err-next_key.result (λ error memory commit keeps.
    told_present (keyed_by g.K.Write.text g.V.Value.Write.text g.V.OperationCodec.operation_text g.K.Ord.cmp) g.V.Value.Read.view
    c.operations_settle_keys.ensures g.H.Hasher.hash_of (grafting_of g.F.Family.shape g.row.N) _ _ refl commit keeps
    c.args.key.now (error ≡ Absent) (error ≡ Memory) (record { value = c.in-Some.value.now; location = c.in-Some.location }) (sym c.in-Some.ensures) memory) c.from_residual-in_err-next_key.ensures.1

pub returns-in_err-proof-clause-why : goal.returns-in_err-proof-clause-why
returns-in_err-proof-clause-why g c = err_and _ _ c.from_residual-in_err-proof.result (λ error memory commit keeps.
    told_present (keyed_by g.K.Write.text g.V.Value.Write.text g.V.OperationCodec.operation_text g.K.Ord.cmp) g.V.Value.Read.view
    c.operations_settle_keys.ensures g.H.Hasher.hash_of (grafting_of g.F.Family.shape g.row.N) _ _ refl commit keeps
    c.args.key.now (error ≡ Absent) (error ≡ Memory) (record { value = c.in-Some.value.now; location = c.in-Some.location }) (sym c.in-Some.ensures) memory) c.from_residual-in_err-proof.ensures.1

pub returns-clause-own : goal.returns-clause-own
returns-clause-own g c = λ commit keeps.
    value_proof (keyed_by g.K.Write.text g.V.Value.Write.text g.V.OperationCodec.operation_text g.K.Ord.cmp) g.V.Value.Read.view
    c.operations_settle_keys.ensures g.H.Hasher.hash_of (grafting_of g.F.Family.shape g.row.N) _ _ refl commit keeps
    c.args.key.now (record { value = c.in-Some.value.now; location = c.in-Some.location }) (sym c.in-Some.ensures) c.in_ok-value.value c.in_ok-next_key.next_key
    (operation_proof_of g.H.Digest.Digest.text (λ bytes. bytes) c.in_ok-proof.proof)
    (g.met.V.ValueEncoding.clones c.in-Some.value.now c.in_ok-value.value c.in_ok-value.ensures.cases).1
    c.in_ok-next_key.ensures (c.in_ok-proof.ensures (committed_of g.K.Ord.cmp c.args.active.now) commit keeps)

pub returns-clause-value : goal.returns-clause-value
returns-clause-value g c = λ commit keeps.
    let e : Keyed g.row.K.Denot g.row.V-Value.Denot = keyed_by g.K.Write.text g.V.Value.Write.text g.V.OperationCodec.operation_text g.K.Ord.cmp in
    let inside = keeps_inside e g.V.Value.Read.view g.H.Hasher.hash_of (grafting_of g.F.Family.shape g.row.N) _ _
    refl commit keeps in
    value_found e g.V.Value.Read.view c.operations_settle_keys.ensures g.V.Value.Read.view (λ x y copy. copy.seen_value)
    commit.entries _ inside.entries c.args.key.now (record { value = c.in-Some.value.now; location = c.in-Some.location }) (sym c.in-Some.ensures) c.in_ok-value.value
    (g.met.V.ValueEncoding.clones c.in-Some.value.now c.in_ok-value.value c.in_ok-value.ensures.cases).0
