use Rattle.std.proofs.Common.{inl, ap, ◌∙◌, Some}
use Rattle.storage_current.specs.Snapshots.{Grafting, grafting_of}
use Rattle.storage_file.specs.Given.{commit_of}
use Rattle.storage_file.proofs.JournalLemmas.{leaves_lists}
use Rattle.storage_stored.specs.Stored.{IsLastRow}
use Rattle.storage_stored.proofs.Storing.{on_err, rest_is, holds_after, holds_or_after, shows_after}
use Rattle.storage_stored.proofs.store.store_commit.Goals as goal

pub returns-in_err-row-clause-crash : goal.returns-in_err-row-clause-crash
returns-in_err-row-clause-crash g c = λ clean lists is d keeps on db may. inl (leaves_lists g.S.Store c.args.journal.now lists is (λ db. g.met.S.Store.settled c.args.journal.now.conn.store db) db may)

pub returns-in_default-clause-crash : goal.returns-in_default-clause-crash
returns-in_default-clause-crash g c = λ clean lists is d keeps on db may. inl (leaves_lists g.S.Store c.args.journal.now lists is (λ db. g.met.S.Store.settled c.args.journal.now.conn.store db) db may)

pub returns-in_err-append-clause-crash : goal.returns-in_err-append-clause-crash
returns-in_err-append-clause-crash g c =
    let h = g.H.Hasher.hash_of in
    let gr : Grafting = grafting_of g.F.Family.shape g.row.N in
    λ clean lists is d keeps on db may.
    let row = commit_of c.in_ok-row.row in
    let last : IsLastRow h gr (Some row) d.last = c.in_ok-row.ensures d keeps on.committed in
    let rest = rest_is (λ b. b.items) c.in-Some.more.now c.counts-start.result.operations d.operations lists.operations
    (ap (λ k. k.operations) c.counts-start.ensures ∙ is.counted.operations) on.first (c.in-Some.ensures d keeps) in
    holds_or_after h gr lists d _ row on rest last db (c.append.ensures.crash clean lists is db may)

pub returns-clause-stored : goal.returns-clause-stored
returns-clause-stored g c =
    let h = g.H.Hasher.hash_of in
    let gr : Grafting = grafting_of g.F.Family.shape g.row.N in
    λ clean lists is d keeps on.
    let row = commit_of c.in_ok-row.row in
    let last : IsLastRow h gr (Some row) d.last = c.in_ok-row.ensures d keeps on.committed in
    let rest = rest_is (λ b. b.items) c.in-Some.more.now c.counts-start.result.operations d.operations lists.operations
    (ap (λ k. k.operations) c.counts-start.ensures ∙ is.counted.operations) on.first (c.in-Some.ensures d keeps) in
    shows_after h gr lists d _ row on rest last g.S.Store c.append.new.self (c.in_ok-append.ensures.added clean lists is)

pub returns-clause-durable : goal.returns-clause-durable
returns-clause-durable g c =
    let h = g.H.Hasher.hash_of in
    let gr : Grafting = grafting_of g.F.Family.shape g.row.N in
    λ clean lists is d keeps on db may.
    let row = commit_of c.in_ok-row.row in
    let last : IsLastRow h gr (Some row) d.last = c.in_ok-row.ensures d keeps on.committed in
    let rest = rest_is (λ b. b.items) c.in-Some.more.now c.counts-start.result.operations d.operations lists.operations
    (ap (λ k. k.operations) c.counts-start.ensures ∙ is.counted.operations) on.first (c.in-Some.ensures d keeps) in
    holds_after h gr lists d _ row on rest last db (c.in_ok-append.ensures.durable clean lists is db may)

pub returns-clause-crash : goal.returns-clause-crash
returns-clause-crash g c =
    let h = g.H.Hasher.hash_of in
    let gr : Grafting = grafting_of g.F.Family.shape g.row.N in
    λ clean lists is d keeps on db may.
    let row = commit_of c.in_ok-row.row in
    let last : IsLastRow h gr (Some row) d.last = c.in_ok-row.ensures d keeps on.committed in
    let rest = rest_is (λ b. b.items) c.in-Some.more.now c.counts-start.result.operations d.operations lists.operations
    (ap (λ k. k.operations) c.counts-start.ensures ∙ is.counted.operations) on.first (c.in-Some.ensures d keeps) in
    holds_or_after h gr lists d _ row on rest last db (c.append.ensures.crash clean lists is db may)

pub returns-in_err-append-clause-kept : goal.returns-in_err-append-clause-kept
returns-in_err-append-clause-kept g c = λ clean lists is live. on_err c.from_residual-in_err-append.result (c.in_err-append.ensures.kept clean lists is live)
