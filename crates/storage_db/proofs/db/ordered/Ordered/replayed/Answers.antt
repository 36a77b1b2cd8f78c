use Rattle.std.proofs.Common.{◌≡◌, ℕ, List, None, Option, length, ap, subst, sym, ◌∙◌}
use Rattle.std.specs.BTreeMap.{BTreeMap}
use Rattle.storage_ops.specs.Operations.{OperationView}
use Rattle.storage_current.specs.Keys.{Keyed, keyed_by}
use Rattle.storage_current.specs.Snapshots.{grafting_of}
use Rattle.storage_db.specs.Databases.{Database, empty, run}
use Rattle.storage_db.specs.Kept.{IsMade, KeptCommit, KeptDatabase}
use Rattle.storage_db.specs.Opening.{IsOpened, IsOpenRefused, IsRefusedAt, ReadsAs, ReadsCommand}
use Rattle.storage_db.specs.Parts.{IsCommitOf, committed_of, kept_of}
use Rattle.storage_db.specs.declared.db.active.Active.{Active}
use Rattle.storage_db.specs.declared.db.ordered.opening.OpenError.TheVariants.{Memory}
use Rattle.storage_db.proofs.Cases.{err_and}
use Rattle.storage_db.proofs.OpeningEnds.{keeps, opened, refused_uncommitted, refused_within_command, since_kept}
use Rattle.storage_db.proofs.OpeningReplays.{each_whole}
use Rattle.storage_db.proofs.Remembering.{forgotten, made_with, since_any, with_all}
use Rattle.storage_db.proofs.db.ordered.Ordered.replayed.Goals as goal
use Rattle.storage_db.proofs.db.ordered.Ordered.replayed.Goals.{then-len-count-via-then-len-count, then-len-count-via-else-len-count+then-log-count}

pub returns-then-len-count-clause-why : goal.returns-then-len-count-clause-why
returns-then-len-count-clause-why g c = λ cfg all counted on.
    let e : Keyed g.row.K.Denot g.row.V-Value.Denot
    = keyed_by g.K.Write.text g.V.Value.Write.text g.V.OperationCodec.operation_text g.K.Ord.cmp in
    let reads = ReadsCommand (ReadsAs (g.V.OperationCodec.operation_parse cfg) g.V.OperationCodec.operation_view)
    (λ k v n. record { key = k; value = v; next_key = n }) in
    let log = c.args.replay.log in
    let view = g.V.Value.Read.view in
    let one = c.bytes_settle_commands.ensures cfg in
    let at : length all ≡ c.new.result = sym counted ∙ sym c.new.ensures in
    elim c.then-len-count.branch [
      | then-len-count-via-then-len-count w ↦ subst (λ (n : ℕ). IsRefusedAt e reads all n) at
          (refused_within_command e view c.operations_settle_keys.ensures reads one all on.database on.path log
          c.args.replay.active.present.entries c.args.replay.last on.replay
          (λ same. w.if-len-count.true (c.len.ensures.count ∙ same ∙ sym counted)))
      | then-len-count-via-else-len-count+then-log-count w ↦ subst (λ (n : ℕ). IsRefusedAt e reads all n) at
          (refused_uncommitted e view c.operations_settle_keys.ensures reads one all on.database on.path log
          c.args.replay.active.present.entries c.args.replay.last on.replay
          (λ same. w.if-log-count.true (same ∙ sym counted)))
    ]

pub returns-in_err-last-clause-why : goal.returns-in_err-last-clause-why
returns-in_err-last-clause-why g c = λ cfg all counted on.
    let e : Keyed g.row.K.Denot g.row.V-Value.Denot
    = keyed_by g.K.Write.text g.V.Value.Write.text g.V.OperationCodec.operation_text g.K.Ord.cmp in
    let reads = ReadsCommand (ReadsAs (g.V.OperationCodec.operation_parse cfg) g.V.OperationCodec.operation_view)
    (λ k v n. record { key = k; value = v; next_key = n }) in
    err_and (λ error. error ≡ Memory) (λ error. IsOpenRefused e reads all error) c.from_residual.result
    (λ error same. subst (λ x. IsOpenRefused e reads all x) (sym same) tt) c.from_residual.ensures.1

pub returns-clause-ok : goal.returns-clause-ok
returns-clause-ok g c = λ cfg all counted on.
    let e : Keyed g.row.K.Denot g.row.V-Value.Denot
    = keyed_by g.K.Write.text g.V.Value.Write.text g.V.OperationCodec.operation_text g.K.Ord.cmp in
    let reads = ReadsCommand (ReadsAs (g.V.OperationCodec.operation_parse cfg) g.V.OperationCodec.operation_view)
    (λ k v n. record { key = k; value = v; next_key = n }) in
    let h = g.H.Hasher.hash_of in
    let grafting = grafting_of g.F.Family.shape g.row.N in
    let log = c.args.replay.log in
    let entries = c.args.replay.active.present.entries in
    subst (λ (k : KeptDatabase g.row.K.Denot g.row.V-Value.Denot). IsOpened e reads g.V.Value.Read.view h grafting all k)
    (sym (forgotten g.K.Ord.cmp c.forget.new.self entries log c.in_ok-last.last
    (ap (λ (b : BTreeMap g.row.K.Denot (Active g.row.V-Value.Denot)). b.entries) c.forget.ensures.present) c.forget.ensures.notes))
    (opened e g.V.Value.Read.view c.operations_settle_keys.ensures reads (c.bytes_settle_commands.ensures cfg) all on.database
    on.path log entries c.args.replay.last on.replay
    (sym c.len.ensures.count ∙ c.if-len-count.false ∙ counted) (c.if-log-count.false ∙ counted)
    h grafting (with_all entries c.in_ok-last.last)
    (made_with (λ p. IsCommitOf e g.V.Value.Read.view h grafting log entries None p.0 p.1) entries c.args.replay.last
    c.in_ok-last.last (c.in_ok-last.ensures entries)))

pub invariant_of-result : goal.invariant_of-result
invariant_of-result g c =
    let e : Keyed g.row.K.Denot g.row.V-Value.Denot
    = keyed_by g.K.Write.text g.V.Value.Write.text g.V.OperationCodec.operation_text g.K.Ord.cmp in
    let log = c.args.replay.log in
    let entries = c.args.replay.active.present.entries in
    let commands = c.requires.made.commands in
    let d : Database g.row.K.Denot g.row.V-Value.Denot = run e empty commands in
    let h = g.H.Hasher.hash_of in
    let grafting = grafting_of g.F.Family.shape g.row.N in
    let last : Option (KeptCommit g.row.K.Denot g.row.V-Value.Denot) = with_all entries c.in_ok-last.last in
    let made = made_with (λ p. IsCommitOf e g.V.Value.Read.view h grafting log entries None p.0 p.1) entries
    c.args.replay.last c.in_ok-last.last (c.in_ok-last.ensures entries) in
    let full : log.committed ≡ length log.operations.items
    = c.if-log-count.false ∙ sym c.if-len-count.false ∙ c.len.ensures.count in (
      c.requires.size,
      since_any log entries (committed_of g.K.Ord.cmp c.forget.new.self) c.in_ok-last.last
          (since_kept e g.V.Value.Read.view log entries c.args.replay.last d c.requires.made.replay (each_whole e commands) full
          h grafting last made),
      subst (λ (k : KeptDatabase g.row.K.Denot g.row.V-Value.Denot). IsMade
          (keyed_by g.K.Write.text g.V.Value.Write.text g.V.KeyedEncoding.keyed_text g.K.Ord.cmp) g.V.Value.Read.view h grafting k)
          (sym (forgotten g.K.Ord.cmp c.forget.new.self entries log c.in_ok-last.last
          (ap (λ (b : BTreeMap g.row.K.Denot (Active g.row.V-Value.Denot)). b.entries) c.forget.ensures.present)
          c.forget.ensures.notes))
          (subst (λ (t : OperationView (List ℕ) (List ℕ) (List ℕ) → List ℕ). IsMade
          (keyed_by g.K.Write.text g.V.Value.Write.text t g.K.Ord.cmp) g.V.Value.Read.view h grafting
          (kept_of log entries last)) g.met.V.OrderedCodec.agrees (
            commands,
            keeps e g.V.Value.Read.view log entries c.args.replay.last d c.requires.made.replay (each_whole e commands) full
                h grafting last made,
          )),
    )
