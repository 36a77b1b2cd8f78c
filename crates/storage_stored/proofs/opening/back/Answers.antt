use Rattle.std.proofs.Common.{◌≡◌, drop, take, ap, ◌∙◌, arith}
use Rattle.storage_current.specs.Keys.{Keyed, keyed_by}
use Rattle.storage_current.specs.Snapshots.{Grafting, grafting_of}
use Rattle.storage_db.specs.Databases.{empty, run}
use Rattle.storage_db.specs.Kept.{pruned_of}
use Rattle.storage_stored.proofs.Back.{first_texts}
use Rattle.storage_stored.proofs.Opened.{opened_same}
use Rattle.storage_stored.proofs.opening.back.Goals as goal

pub returns : goal.returns
returns g c =
    let e : Keyed g.row.K.Denot g.row.V-Value.Denot = keyed_by g.K.Write.text g.V.Value.Write.text g.V.OperationCodec.operation_text g.K.Ord.cmp in
    let h = g.H.Hasher.hash_of in
    let gr : Grafting = grafting_of g.F.Family.shape g.row.N in
    λ d keeps.
    let none : pruned_of c.args.database.last ≡ 0 = omega (arith, c.if-pruned-gt0.false, c.pruned.ensures) in
    let opened = c.in-Ok.ensures.ok in
    let first = first_texts (λ b. b.items) _ _ d.operations _ (c.into_operations-operations.ensures d keeps ∙ ap (λ n. drop n d.operations) none) c.truncate.ensures.items in
    (opened_same e g.V.Value.Read.view h gr _ _ _ (take c.args.mark.now.operations d.operations) first opened, c.is_at.ensures c.if-not-is_at.false (run e empty opened.commands) opened.keeps)

pub is_at-requires : goal.is_at-requires
is_at-requires g c = c.requires-raw.1.1.1.1.1.1.1.1.1.1.0
