use borrow.Rule.Slice.AtParam.{field_room}
use denote.Param.{layout, copied, param, number}
use Rattle.storage_stored.specs.contracts.stored.Stored.{the_row}
use Rattle.std.proofs.Common.{refl, sym, ◌∙◌}
use Rattle.storage_current.specs.Keys.{Keyed, keyed_by}
use Rattle.storage_current.specs.Snapshots.{Grafting, grafting_of}
use Rattle.storage_file.specs.Given.{agreement_of}
use Rattle.storage_file.specs.Kept.{made_new}
use Rattle.storage_file.proofs.JournalLemmas.{leaves_lists}
use Rattle.storage_stored.proofs.Opened.{not_opened, opened_empty}
use Rattle.storage_stored.proofs.Refused.{told_corrupted, told_foreign}
use Rattle.storage_stored.proofs.stored.Stored.open.Goals as goal

pub returns-in-Err-clause-refused : goal.returns-in-Err-clause-refused
returns-in-Err-clause-refused g c = λ clean lists is.
    let why = c.in-Err.ensures.refused clean lists is in
    record { foreign = λ told. why.1 (told_foreign _ (sym c.from.ensures ∙ told)); corrupted = λ told. absurd (why.0 (told_corrupted _ (sym c.from.ensures ∙ told))) }

pub returns-in-Ok-read-clause-opened : goal.returns-in-Ok-read-clause-opened
returns-in-Ok-read-clause-opened g c = λ clean lists is.
    let there = c.in-Ok.ensures.read clean lists is in
    let found = c.in-Ok-read.ensures.opened lists there.1 in
    (there.2, (found.0, record { lists = lists; shown = there.0; are = found.1 }))

pub returns-in-Ok-read-clause-made : goal.returns-in-Ok-read-clause-made
returns-in-Ok-read-clause-made g c =
    let e : Keyed g.row.K.Denot g.row.V-Value.Denot = keyed_by g.K.Write.text g.V.Value.Write.text g.V.OperationCodec.operation_text g.K.Ord.cmp in
    let h = g.H.Hasher.hash_of in
    let gr : Grafting = grafting_of g.F.Family.shape g.row.N in
    λ clean blank.
    let lists = made_new (agreement_of c.args.agreement.now) in
    let there = c.in-Ok.ensures.made clean blank in
    let found = c.in-Ok-read.ensures.opened lists there.1 in
    record { keeps = opened_empty e g.V.Value.Read.view h gr _ _ found.0; shows = record { lists = lists; shown = there.0; are = record { operations = refl; row = refl } } }

pub returns-in-Err-read-clause-refused : goal.returns-in-Err-read-clause-refused
returns-in-Err-read-clause-refused g c =
    let e : Keyed g.row.K.Denot g.row.V-Value.Denot = keyed_by g.K.Write.text g.V.Value.Write.text g.V.OperationCodec.operation_text g.K.Ord.cmp in
    let h = g.H.Hasher.hash_of in
    let gr : Grafting = grafting_of g.F.Family.shape g.row.N in
    λ clean lists is.
    let there = c.in-Ok.ensures.read (rw c.into_connection.ensures at clean) lists is in
    not_opened e _ h gr lists _ _ there.2 (c.in-Err-read.ensures.refused lists there.1)

pub returns-in-Err-read-clause-left : goal.returns-in-Err-read-clause-left
returns-in-Err-read-clause-left g c = λ clean lists is live.
    let there = c.in-Ok.ensures.read (rw c.into_connection.ensures at clean) lists is in
    rw c.into_connection.ensures there.0.shows

pub returns-in-Err-read-clause-crash : goal.returns-in-Err-read-clause-crash
returns-in-Err-read-clause-crash g c = λ clean lists is db may.
    let there = c.in-Ok.ensures.read (rw c.into_connection.ensures at clean) lists is in
    leaves_lists g.S.Store _ lists there.0 (λ db. g.met.S.Store.settled _ db) db (rw c.into_connection.ensures at may)

pub read-requires : goal.read-requires
read-requires g c =
    let stored = layout (the_row (copied 0 g.row.F) (param 1 g.row.H) (param 2 g.row.K) (param 3 g.row.V) (param 4 (number g.row.N))
    (param 5 g.row.S) (copied 6 g.row.H-Digest) (param 7 g.row.K-Cfg) (param 8 g.row.V-ReadCfg) (param 9 g.row.V-Value) (param 10 g.row.V-Value-Cfg)
    g.S.Store g.F.Graftable g.F.Family g.H.Hasher g.H.Digest.Digest g.H.Digest.PartialEq g.K.Key g.K.Write g.K.Read g.K.Clone g.K.Ord g.K.PartialEq g.K.PartialOrd g.K.Hash g.K.Debug g.V.Value.Write g.V.Value.Read g.V.Value.Clone
    g.V.KeyedEncoding) in
    let room = c.requires-raw.1.1.1.1.1.1.1.1.1.1.1.0 in
    (field_room stored 1 _ _ refl room, field_room stored 2 _ _ refl room)
