use Rattle.std.proofs.Common.{ℕ, List, ◌++◌, ◌∙◌, ◌↔◌, ap, subst}
use Rattle.std.specs.Bool.{IsTrue}
use Rattle.storage_current.specs.Held.{operation_proof_of}
use Rattle.storage_current.specs.Snapshots.{Grafting, IsGrafting}
use Rattle.storage_current.specs.CurrentWire.{operation_text}
use Rattle.commonware_storage.specs.LightKeys.{IsAcceptedValue}
use Rattle.commonware_storage.proofs.OwnKeyYes.{own_value_yes}
use Rattle.commonware_storage.proofs.laws.keys.written_values_are_accepted.Goals as goal

pub returns-clause-asked : goal.returns-clause-asked
returns-clause-asked g c =
    let text = g.H.Digest.Digest.text in
    let G : Grafting = record { shape = g.F.Family.shape; bytes = g.row.N } in
    let proof = operation_proof_of text (λ (b : List ℕ). b) c.args.proof.now.proof in
    let next = c.args.proof.now.next_key in
    let written = c.deref.ensures.value ∙ c.in_ok-write.ensures.ok ∙ ap (λ (xs : List ℕ). xs
    ++ (operation_text g.F.Graftable.has_pending proof ++ g.K.Write.text next)) c.new-bytes.ensures.items in
    subst (λ (b : List ℕ). IsTrue c.in_ok-yes.yes ↔ IsAcceptedValue (record {
      key = g.K.Write.text;
      value = g.V.Value.Write.text;
      operation = g.V.OperationCodec.operation_text;
      cmp = g.K.Ord.cmp;
    })
    g.K.Read.view (g.K.Read.parse c.args.cfg.now) g.H.Hasher.hash_of G g.F.Graftable.has_pending
    g.H.Digest.Digest.size b c.args.key c.args.value (text c.args.root.now))
    written c.in_ok-yes.ensures.exact

pub returns-clause-accepted : goal.returns-clause-accepted
returns-clause-accepted g c = λ s snapshot location own active admitted root.
    let text = g.H.Digest.Digest.text in
    let G : Grafting = record { shape = g.F.Family.shape; bytes = g.row.N } in
    let grafting : IsGrafting G = record { laws = g.met.F.Family.laws; size = c.requires.size } in
    let proof = operation_proof_of text (λ (b : List ℕ). b) c.args.proof.now.proof in
    let next = c.args.proof.now.next_key in
    let written = c.deref.ensures.value ∙ c.in_ok-write.ensures.ok ∙ ap (λ (xs : List ℕ). xs
    ++ (operation_text g.F.Graftable.has_pending proof ++ g.K.Write.text next)) c.new-bytes.ensures.items in
    own_value_yes (record {
      key = g.K.Write.text;
      value = g.V.Value.Write.text;
      operation = g.V.OperationCodec.operation_text;
      cmp = g.K.Ord.cmp;
    })
    g.K.Read.view (g.K.Read.parse c.args.cfg.now) (g.K.Read.admits c.args.cfg.now)
    (c.own_values_are_accepted.ensures c.args.cfg.now)
    g.H.Digest.Digest.size g.H.Hasher.hash_of g.met.H.Hasher.sized G grafting g.F.Graftable.has_pending
    g.met.F.Graftable.prompt s snapshot location c.args.key c.args.value next _ (text c.args.root.now)
    proof active admitted written own root c.in_ok-yes.yes c.in_ok-yes.ensures.exact
