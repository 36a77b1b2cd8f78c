use Rattle.std.proofs.Common.{◌≡◌, refl}
use Rattle.storage_current.specs.Held.{operation_proof_of}
use Rattle.storage_current.specs.Keys.{Keyed, keyed_by}
use Rattle.storage_current.specs.Snapshots.{Grafting, canonical_root, grafting_of}
use Rattle.storage_db.specs.declared.db.error.Error.TheVariants.{NotCommitted, Absent, Memory}
use Rattle.storage_db.specs.Databases.{Committed, Database, empty, run}
use Rattle.commonware_storage.proofs.DatabaseYes.{IsLast, value_shown, next_admitted, none_told, value_refused, err_and}
use Rattle.commonware_storage.proofs.laws.databases.proved_values_are_accepted.Goals as goal

pub returns-clause-accepted : goal.returns-clause-accepted
returns-clause-accepted g c = λ d keeps admits.
    let made = c.each_database_is_made.ensures.made in
    let e : Keyed g.row.K.Denot g.row.V-Value.Denot = keyed_by g.K.Write.text g.V.Value.Write.text g.V.OperationCodec.operation_text g.K.Ord.cmp in
    let h = g.H.Hasher.hash_of in
    let gr : Grafting = grafting_of g.F.Family.shape g.row.N in
    let d0 : Database g.row.K.Denot g.row.V-Value.Denot = run e empty made.0 in
    let last : IsLast e g.V.Value.Read.view h gr d0.last c.args.database.now.last (g.H.Digest.Digest.text c.in-Some.root) = record {
      keeps = made.1.last;
      accepted = c.each_proof_is_accepted.ensures made.0
          (record { laws = g.met.F.Family.laws; size = c.requires.size });
      root_is = c.in-Some.ensures d0 made.1;
    } in
    let proof = operation_proof_of g.H.Digest.Digest.text (λ bytes. bytes) c.in_ok-value.proof.proof in
    let own = c.in_ok-value.ensures.own in
    value_shown e g.V.Value.Read.view h gr d0.last c.args.database.now.last (g.H.Digest.Digest.text c.in-Some.root) last
    c.args.key c.in_ok-value.value c.in_ok-value.proof.next_key proof (own d0 made.1) _
    (λ s snapshot location is_own active root. c.in_ok-yes.ensures.accepted s snapshot location is_own active
    (next_admitted e h gr (g.K.Read.admits c.args.cfg.now) d.last c.args.key c.in_ok-value.value
    c.in_ok-value.proof.next_key proof (own d keeps) admits) root)

pub returns-in_default-clause-why : goal.returns-in_default-clause-why
returns-in_default-clause-why g c = λ d keeps.
    let e : Keyed g.row.K.Denot g.row.V-Value.Denot = keyed_by g.K.Write.text g.V.Value.Write.text g.V.OperationCodec.operation_text g.K.Ord.cmp in
    let h = g.H.Hasher.hash_of in
    let gr : Grafting = grafting_of g.F.Family.shape g.row.N in
    none_told (λ (commit : Committed g.row.K.Denot g.row.V-Value.Denot). canonical_root h gr commit.snapshot) d.last
    (c.in_default.ensures d keeps) _ _ refl

pub returns-in_err-yes-clause-why : goal.returns-in_err-yes-clause-why
returns-in_err-yes-clause-why g c = err_and _ _ c.from_residual-in_err-yes.result (λ error memory d keeps.
    let e : Keyed g.row.K.Denot g.row.V-Value.Denot = keyed_by g.K.Write.text g.V.Value.Write.text g.V.OperationCodec.operation_text g.K.Ord.cmp in
    let h = g.H.Hasher.hash_of in
    let gr : Grafting = grafting_of g.F.Family.shape g.row.N in
    value_refused e h gr d.last c.args.key c.in_ok-value.value c.in_ok-value.proof.next_key
    (operation_proof_of g.H.Digest.Digest.text (λ bytes. bytes) c.in_ok-value.proof.proof)
    (c.in_ok-value.ensures.own d keeps) (error ≡ NotCommitted) (error ≡ Absent) (error ≡ Memory) memory)
    c.from_residual-in_err-yes.ensures.1
