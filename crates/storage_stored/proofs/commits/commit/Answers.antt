use Rattle.std.proofs.Common.{inl, inr, ap, refl, sym, ◌∙◌, true≢false}
use Rattle.storage_current.specs.Keys.{Keyed, keyed_by}
use Rattle.storage_current.specs.Snapshots.{Grafting, grafting_of}
use Rattle.storage_db.specs.Databases.{Commit, done}
use Rattle.storage_stored.specs.Stored.{HoldsLast}
use Rattle.storage_stored.proofs.Back.{back_is}
use Rattle.storage_stored.proofs.Opened.{is_so}
use Rattle.storage_stored.proofs.Lists.{ahead}
use Rattle.storage_stored.proofs.Refused.{change_refused, err_told}
use Rattle.storage_stored.proofs.Storing.{holds_either, left_last, on_err}
use Rattle.storage_stored.proofs.commits.commit.Goals as goal

pub returns-then-tables-clause-kept : goal.returns-then-tables-clause-kept
returns-then-tables-clause-kept g c = λ clean live d stores. stores.shows

pub returns-then-tables-clause-crash : goal.returns-then-tables-clause-crash
returns-then-tables-clause-crash g c =
    let h = g.H.Hasher.hash_of in
    let gr : Grafting = grafting_of g.F.Family.shape g.row.N in
    λ clean d stores db may. inl (left_last h gr g.S.Store c.args.tables.now.journal d.last stores.shows (λ db. g.met.S.Store.settled c.args.tables.now.journal.conn.store db) db may)

pub returns-then-tables-clause-why : goal.returns-then-tables-clause-why
returns-then-tables-clause-why g c = inr (refl, refl, rw c.if-tables.true refl)

pub returns-in_err-commit-clause-kept : goal.returns-in_err-commit-clause-kept
returns-in_err-commit-clause-kept g c = λ clean live. on_err c.from_residual.result (λ d stores. stores.shows)

pub returns-in_err-commit-clause-crash : goal.returns-in_err-commit-clause-crash
returns-in_err-commit-clause-crash g c =
    let h = g.H.Hasher.hash_of in
    let gr : Grafting = grafting_of g.F.Family.shape g.row.N in
    λ clean d stores db may. inl (left_last h gr g.S.Store c.args.tables.now.journal d.last stores.shows (λ db. g.met.S.Store.settled c.args.tables.now.journal.conn.store db) db may)

pub returns-in_err-commit-clause-why : goal.returns-in_err-commit-clause-why
returns-in_err-commit-clause-why g c =
    let e : Keyed g.row.K.Denot g.row.V-Value.Denot = keyed_by g.K.Write.text g.V.Value.Write.text g.V.OperationCodec.operation_text g.K.Ord.cmp in
    let h = g.H.Hasher.hash_of in
    let gr : Grafting = grafting_of g.F.Family.shape g.row.N in
    err_told _ c.from_residual.result _ c.from_residual.ensures.1 (inr (
      c.in_err-commit.ensures.err,
      refl,
      change_refused e g.V.Value.Read.view h gr c.args.database.now _ c.args.tables.now.is_stopped (Commit c.args.metadata) c.if-tables.false c.in_err-commit.ensures.why,
    ))

pub returns-in-Err-clause-kept : goal.returns-in-Err-clause-kept
returns-in-Err-clause-kept g c = λ clean live d stores. record {
  lists = stores.shows.lists;
  shown = c.in-Err.ensures.kept clean stores.shows.lists stores.shows.shown live;
  are = stores.shows.are;
}

pub returns-in-Err-clause-crash : goal.returns-in-Err-clause-crash
returns-in-Err-clause-crash g c =
    let e : Keyed g.row.K.Denot g.row.V-Value.Denot = keyed_by g.K.Write.text g.V.Value.Write.text g.V.OperationCodec.operation_text g.K.Ord.cmp in
    let h = g.H.Hasher.hash_of in
    let gr : Grafting = grafting_of g.F.Family.shape g.row.N in
    λ clean d stores db may.
    let step = c.in_ok-commit.ensures.ok d stores.keeps in
    let on = ahead e g.V.Value.Read.view h gr c.args.database.now stores.shows.lists d c.args.metadata stores.keeps stores.shows.are in
    let after = done e d (Commit c.args.metadata) in
    holds_either h gr db stores.shows.lists d.last (HoldsLast h gr db after.last) stores.shows.are
    (c.store_commit.ensures.crash clean stores.shows.lists stores.shows.shown after step.1 on db may)

pub returns-in-Err-clause-why : goal.returns-in-Err-clause-why
returns-in-Err-clause-why g c = inl (c.if-tables.false, refl)

pub returns-in-Err-clause-back : goal.returns-in-Err-clause-back
returns-in-Err-clause-back g c =
    let e : Keyed g.row.K.Denot g.row.V-Value.Denot = keyed_by g.K.Write.text g.V.Value.Write.text g.V.OperationCodec.operation_text g.K.Ord.cmp in
    let h = g.H.Hasher.hash_of in
    let gr : Grafting = grafting_of g.F.Family.shape g.row.N in
    λ runs stopped found d stores.
    let lists = stores.shows.lists in
    let step = c.in_ok-commit.ensures.ok d stores.keeps in
    let on = ahead e g.V.Value.Read.view h gr c.args.database.now lists d c.args.metadata stores.keeps stores.shows.are in
    let after = done e d (Commit c.args.metadata) in
    let counted = c.mark_of-mark.ensures.count ∙ ap (λ k. k.operations) c.counts.ensures ∙ stores.shows.shown.counted.operations in
    back_is e _ h gr g.V.Value.Read.view g.S.Store _ _ lists d.last after _ _ _ stores.shows.are on counted (c.mark_of-mark.ensures.at d stores.keeps)
    (c.go_back.ensures (is_so _ found) after step.1) (λ clean live. c.in-Err.ensures.kept clean lists stores.shows.shown live)

pub returns-in-Ok-clause-ok : goal.returns-in-Ok-clause-ok
returns-in-Ok-clause-ok g c =
    let e : Keyed g.row.K.Denot g.row.V-Value.Denot = keyed_by g.K.Write.text g.V.Value.Write.text g.V.OperationCodec.operation_text g.K.Ord.cmp in
    let h = g.H.Hasher.hash_of in
    let gr : Grafting = grafting_of g.F.Family.shape g.row.N in
    λ clean d stores.
    let step = c.in_ok-commit.ensures.ok d stores.keeps in
    let on = ahead e g.V.Value.Read.view h gr c.args.database.now stores.shows.lists d c.args.metadata stores.keeps stores.shows.are in
    let after = done e d (Commit c.args.metadata) in
    (step.0, record { keeps = step.1; shows = c.in-Ok.ensures.stored clean stores.shows.lists stores.shows.shown after step.1 on })

pub returns-in-Ok-clause-durable : goal.returns-in-Ok-clause-durable
returns-in-Ok-clause-durable g c =
    let e : Keyed g.row.K.Denot g.row.V-Value.Denot = keyed_by g.K.Write.text g.V.Value.Write.text g.V.OperationCodec.operation_text g.K.Ord.cmp in
    let h = g.H.Hasher.hash_of in
    let gr : Grafting = grafting_of g.F.Family.shape g.row.N in
    λ clean d stores db may.
    let step = c.in_ok-commit.ensures.ok d stores.keeps in
    let on = ahead e g.V.Value.Read.view h gr c.args.database.now stores.shows.lists d c.args.metadata stores.keeps stores.shows.are in
    let after = done e d (Commit c.args.metadata) in
    c.in-Ok.ensures.durable clean stores.shows.lists stores.shows.shown after step.1 on db may

pub returns-in-Ok-clause-crash : goal.returns-in-Ok-clause-crash
returns-in-Ok-clause-crash g c =
    let e : Keyed g.row.K.Denot g.row.V-Value.Denot = keyed_by g.K.Write.text g.V.Value.Write.text g.V.OperationCodec.operation_text g.K.Ord.cmp in
    let h = g.H.Hasher.hash_of in
    let gr : Grafting = grafting_of g.F.Family.shape g.row.N in
    λ clean d stores db may.
    let step = c.in_ok-commit.ensures.ok d stores.keeps in
    let on = ahead e g.V.Value.Read.view h gr c.args.database.now stores.shows.lists d c.args.metadata stores.keeps stores.shows.are in
    let after = done e d (Commit c.args.metadata) in
    holds_either h gr db stores.shows.lists d.last (HoldsLast h gr db after.last) stores.shows.are
    (c.store_commit.ensures.crash clean stores.shows.lists stores.shows.shown after step.1 on db may)

pub returns-in-Ok-clause-serves : goal.returns-in-Ok-clause-serves
returns-in-Ok-clause-serves g c = (c.if-tables.false, c.if-tables.false, refl)

pub returns-then-tables-clause-back : goal.returns-then-tables-clause-back
returns-then-tables-clause-back g c = λ runs. absurd (true≢false (sym c.if-tables.true ∙ runs))

pub returns-in_err-commit-clause-back : goal.returns-in_err-commit-clause-back
returns-in_err-commit-clause-back g c = on_err c.from_residual.result (λ runs stopped. absurd (true≢false (sym stopped ∙ runs)))
