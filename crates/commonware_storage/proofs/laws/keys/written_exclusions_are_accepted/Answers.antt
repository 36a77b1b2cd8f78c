use Rattle.std.proofs.Common.{ℕ, List, ◌++◌, ◌∙◌, ◌↔◌, ap, subst}
use Rattle.std.specs.Bool.{IsTrue}
use Rattle.storage_ops.specs.Updates.{ordered_at}
use Rattle.storage_current.specs.HeldKeys.{exclusion_of}
use Rattle.storage_current.specs.Snapshots.{Grafting, IsGrafting}
use Rattle.storage_current.specs.KeyWire.{exclusion_text}
use Rattle.commonware_storage.specs.LightKeys.{IsAcceptedAbsence}
use Rattle.commonware_storage.proofs.OwnKeyYes.{own_absence_yes}
use Rattle.commonware_storage.proofs.laws.keys.written_exclusions_are_accepted.Goals as goal

pub returns-clause-asked : goal.returns-clause-asked
returns-clause-asked g c =
    let text = g.H.Digest.Digest.text in
    let G : Grafting = record { shape = g.F.Family.shape; bytes = g.row.N } in
    let x = exclusion_of text (λ (b : List ℕ). b) c.args.proof.now in
    let key_cfg = g.V.UpdateCodec.key_cfg c.args.cfgs.now.0 in
    let value_cfg = g.V.UpdateCodec.value_cfg c.args.cfgs.now.0 in
    let written = c.deref.ensures.value ∙ c.in_ok-write.ensures.ok
    ∙ ap (λ (xs : List ℕ). xs ++ exclusion_text g.F.Graftable.has_pending (λ u. g.K.Write.text u.0
    ++ g.V.Value.Write.text u.1 ++ g.K.Write.text u.2) g.V.Value.Write.text x) c.new-bytes.ensures.items in
    subst (λ (b : List ℕ). IsTrue c.in_ok-yes.yes ↔ IsAcceptedAbsence (record {
      key = g.K.Write.text;
      value = g.V.Value.Write.text;
      operation = g.V.OperationCodec.operation_text;
      cmp = g.K.Ord.cmp;
    })
    g.K.Read.view g.V.Value.Read.view (ordered_at (g.K.Read.parse key_cfg) (g.V.Value.Read.parse value_cfg))
    (g.V.Value.Read.parse c.args.cfgs.now.1)
    g.H.Hasher.hash_of G g.F.Graftable.has_pending g.H.Digest.Digest.size b c.args.key.now (text c.args.root.now))
    written c.in_ok-yes.ensures.exact

pub returns-clause-accepted : goal.returns-clause-accepted
returns-clause-accepted g c = λ s snapshot own active allowed admitted root.
    let text = g.H.Digest.Digest.text in
    let G : Grafting = record { shape = g.F.Family.shape; bytes = g.row.N } in
    let grafting : IsGrafting G = record { laws = g.met.F.Family.laws; size = c.requires.size } in
    let x = exclusion_of text (λ (b : List ℕ). b) c.args.proof.now in
    let key_cfg = g.V.UpdateCodec.key_cfg c.args.cfgs.now.0 in
    let value_cfg = g.V.UpdateCodec.value_cfg c.args.cfgs.now.0 in
    let written = c.deref.ensures.value ∙ c.in_ok-write.ensures.ok
    ∙ ap (λ (xs : List ℕ). xs ++ exclusion_text g.F.Graftable.has_pending (λ u. g.K.Write.text u.0
    ++ g.V.Value.Write.text u.1 ++ g.K.Write.text u.2) g.V.Value.Write.text x) c.new-bytes.ensures.items in
    own_absence_yes (record {
      key = g.K.Write.text;
      value = g.V.Value.Write.text;
      operation = g.V.OperationCodec.operation_text;
      cmp = g.K.Ord.cmp;
    })
    g.K.Read.view g.V.Value.Read.view (ordered_at (g.K.Read.parse key_cfg) (g.V.Value.Read.parse value_cfg))
    (g.V.Value.Read.parse c.args.cfgs.now.1)
    (λ u. g.K.Read.admits key_cfg u.0 × g.V.Value.Read.admits value_cfg u.1 × g.K.Read.admits key_cfg u.2)
    (g.V.Value.Read.admits c.args.cfgs.now.1)
    (c.own_exclusions_are_accepted.ensures c.args.cfgs.now.0 c.args.cfgs.now.1)
    g.H.Digest.Digest.size g.H.Hasher.hash_of g.met.H.Hasher.sized G grafting g.F.Graftable.has_pending
    g.met.F.Graftable.prompt s snapshot x c.args.key.now _ (text c.args.root.now)
    own active allowed admitted written root c.in_ok-yes.yes c.in_ok-yes.ensures.exact
