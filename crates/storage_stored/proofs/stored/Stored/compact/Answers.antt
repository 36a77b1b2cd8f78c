use borrow.Rule.Slice.AtParam.{field_room}
use denote.Param.{layout, copied, param, number}
use Rattle.storage_stored.specs.contracts.stored.Stored.{the_row}
use Rattle.std.proofs.Common.{refl}
use Rattle.storage_stored.proofs.stored.Stored.compact.Goals as goal

pub compact-requires : goal.compact-requires
compact-requires g c =
    let stored = layout (the_row (copied 0 g.row.F) (param 1 g.row.H) (param 2 g.row.K) (param 3 g.row.V) (param 4 (number g.row.N))
    (param 5 g.row.S) (copied 6 g.row.H-Digest) (param 7 g.row.K-Cfg) (param 8 g.row.V-ReadCfg) (param 9 g.row.V-Value) (param 10 g.row.V-Value-Cfg)
    g.S.Store g.F.Graftable g.F.Family g.H.Hasher g.H.Digest.Digest g.H.Digest.PartialEq g.K.Key g.K.Write g.K.Read g.K.Clone g.K.Ord g.K.PartialEq g.K.PartialOrd g.K.Hash g.K.Debug g.V.Value.Write g.V.Value.Read g.V.Value.Clone
    g.V.KeyedEncoding) in
    let room = c.requires-raw.1.1.1.1.1.1.1.1.1.1.1 in
    (field_room stored 1 _ _ refl room, field_room stored 2 _ _ refl room)

pub returns-clause-ok : goal.returns-clause-ok
returns-clause-ok g c = c.compact.ensures.ok

pub returns-clause-serves : goal.returns-clause-serves
returns-clause-serves g c = c.compact.ensures.serves

pub returns-clause-why : goal.returns-clause-why
returns-clause-why g c = c.compact.ensures.why
