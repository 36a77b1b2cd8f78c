use Rattle.std.proofs.Common.{ℕ, List, ◌++◌, ◌∙◌, arith, ap}
use Rattle.storage_current.specs.Held.{operation_proof_of}
use Rattle.storage_current.specs.Snapshots.{Grafting, IsGrafting}
use Rattle.storage_current.specs.CurrentWire.{operation_text}
use Rattle.commonware_storage.proofs.OwnParts.{own_parts, refused_for_memory}
use Rattle.commonware_storage.proofs.OwnYes.{own_asked, own_yes}
use Rattle.commonware_storage.proofs.laws.built_proofs_are_accepted.Goals as goal

pub build-requires : goal.build-requires
build-requires g c = (omega (arith, c.requires.size.1), c.requires.callable)

pub returns-in-Err-clause-handed : goal.returns-in-Err-clause-handed
returns-in-Err-clause-handed g c = λ kept s snapshot handed active.
    let G : Grafting = record { shape = g.F.Family.shape; bytes = g.row.N } in
    refused_for_memory g.H.Digest.Digest.text _ g.H.Hasher.hash_of G g.met.F.Family.laws
    c.greatest_nodes_are_planned.ensures c.args.plan kept s snapshot handed.stands handed.count handed.nodes_are
    handed.from c.in-Err.error (g.R.Readable.retained c.args.status.now) handed.status_is c.in-Err.ensures.why

pub returns-clause-asked : goal.returns-clause-asked
returns-clause-asked g c = λ s parts.
    let h = g.H.Hasher.hash_of in
    let text = g.H.Digest.Digest.text in
    let G : Grafting = record { shape = g.F.Family.shape; bytes = g.row.N } in
    let written = c.deref.ensures.value ∙ c.in_ok-write.ensures.ok ∙ ap (λ (xs : List ℕ). xs ++ operation_text
    g.F.Graftable.has_pending (operation_proof_of text (λ (b : List ℕ). b) c.in-Ok.proof)) c.new-bytes.ensures.items in
    own_asked g.H.Digest.Digest.size h G g.F.Graftable.has_pending s _ c.args.plan.start c.args.operation.now _
    (text c.args.root.now)
    (operation_proof_of text (λ (b : List ℕ). b) c.in-Ok.proof) c.location-loc.ensures.value written
    (c.in-Ok.ensures.own s parts) c.in_ok-yes.yes c.in_ok-yes.ensures.exact

pub returns-clause-accepted : goal.returns-clause-accepted
returns-clause-accepted g c = λ s snapshot parts root active.
    let h = g.H.Hasher.hash_of in
    let text = g.H.Digest.Digest.text in
    let G : Grafting = record { shape = g.F.Family.shape; bytes = g.row.N } in
    let grafting : IsGrafting G = record { laws = g.met.F.Family.laws; size = c.requires.size } in
    let written = c.deref.ensures.value ∙ c.in_ok-write.ensures.ok ∙ ap (λ (xs : List ℕ). xs ++ operation_text
    g.F.Graftable.has_pending (operation_proof_of text (λ (b : List ℕ). b) c.in-Ok.proof)) c.new-bytes.ensures.items in
    own_yes c.own_proofs_are_accepted.ensures g.H.Digest.Digest.size h g.met.H.Hasher.sized G grafting
    g.F.Graftable.has_pending g.met.F.Graftable.prompt s snapshot _ c.args.plan.start c.args.operation.now _
    (text c.args.root.now)
    (operation_proof_of text (λ (b : List ℕ). b) c.in-Ok.proof) c.location-loc.ensures.value active written
    (c.in-Ok.ensures.own s parts) root c.in_ok-yes.yes c.in_ok-yes.ensures.exact

pub returns-clause-handed : goal.returns-clause-handed
returns-clause-handed g c = λ kept s snapshot handed active.
    let text = g.H.Digest.Digest.text in
    let G : Grafting = record { shape = g.F.Family.shape; bytes = g.row.N } in
    let parts =
    own_parts text _ g.H.Hasher.hash_of G g.met.F.Family.laws c.greatest_nodes_are_planned.ensures c.args.plan kept
    s snapshot handed.stands handed.count handed.nodes_are (g.R.Readable.retained c.args.status.now) c.args.floor
    (text c.args.ops_root) handed.status_is handed.floor_is (handed.ops_root_is ∙ handed.stands.ops_root) in
    returns-clause-accepted g c s snapshot parts (handed.root_is ∙ handed.stands.root) active
