use Rattle.std.proofs.Common.{ℕ, List, ◌++◌, ◌∙◌, ap}
use Rattle.storage_current.specs.Held.{range_proof_of}
use Rattle.storage_current.specs.Snapshots.{Grafting, IsGrafting}
use Rattle.storage_current.specs.CurrentWire.{range_proof_text}
use Rattle.commonware_storage.proofs.OwnParts.{own_parts}
use Rattle.commonware_storage.proofs.OwnRangeYes.{range_asked, range_refused_for_memory, range_yes}
use Rattle.commonware_storage.proofs.laws.ranges.built_ranges_are_accepted.Goals as goal

pub returns-in-Err-clause-handed : goal.returns-in-Err-clause-handed
returns-in-Err-clause-handed g c = λ kept s snapshot handed end holds few.
    let G : Grafting = record { shape = g.F.Family.shape; bytes = g.row.N } in
    range_refused_for_memory g.H.Digest.Digest.text _ g.H.Hasher.hash_of G g.met.F.Family.laws
    c.greatest_nodes_are_planned.ensures c.args.plan kept s snapshot handed.stands handed.count handed.nodes_are
    handed.from c.in-Err.error (g.R.Readable.retained c.args.status.now) handed.status_is c.in-Err.ensures.why

pub returns-clause-asked : goal.returns-clause-asked
returns-clause-asked g c = λ s parts.
    let h = g.H.Hasher.hash_of in
    let text = g.H.Digest.Digest.text in
    let G : Grafting = record { shape = g.F.Family.shape; bytes = g.row.N } in
    let proof = range_proof_of text c.in-Ok.proof in
    let written = c.deref.ensures.value ∙ c.in_ok-write.ensures.ok ∙ ap (λ (xs : List ℕ). xs
    ++ range_proof_text g.F.Graftable.has_pending proof) c.new-bytes.ensures.items in
    range_asked g.H.Digest.Digest.size h G g.F.Graftable.has_pending s c.args.max_digests _ c.args.plan.start
    c.args.plan.end _ _ _ (text c.args.root.now) proof c.start-start.ensures.value written
    (c.in-Ok.ensures.own s parts) c.in_ok-yes.yes c.in_ok-yes.ensures.exact

pub returns-clause-accepted : goal.returns-clause-accepted
returns-clause-accepted g c = λ s snapshot parts root end holds few.
    let G : Grafting = record { shape = g.F.Family.shape; bytes = g.row.N } in
    let grafting : IsGrafting G = record { laws = g.met.F.Family.laws; size = c.requires.size } in
    range_yes c.own_ranges_are_accepted.ensures g.H.Digest.Digest.size g.H.Hasher.hash_of g.met.H.Hasher.sized G
    grafting g.F.Graftable.has_pending g.met.F.Graftable.prompt s snapshot c.args.max_digests c.args.plan.start
    c.args.plan.end _ c.args.operations.now _ (g.H.Digest.Digest.text c.args.root.now) end holds few
    c.ranges.max_digests.fits root c.in_ok-yes.yes (returns-clause-asked g c s parts)

pub returns-clause-handed : goal.returns-clause-handed
returns-clause-handed g c = λ kept s snapshot handed end holds few.
    let text = g.H.Digest.Digest.text in
    let G : Grafting = record { shape = g.F.Family.shape; bytes = g.row.N } in
    let parts =
    own_parts text _ g.H.Hasher.hash_of G g.met.F.Family.laws c.greatest_nodes_are_planned.ensures c.args.plan kept
    s snapshot handed.stands handed.count handed.nodes_are (g.R.Readable.retained c.args.status.now) c.args.floor
    (text c.args.ops_root) handed.status_is handed.floor_is (handed.ops_root_is ∙ handed.stands.ops_root) in
    returns-clause-accepted g c s snapshot parts (handed.root_is ∙ handed.stands.root) end holds few
