use Rattle.std.proofs.Common.{◌≡◌, Some, sym, ap, ◌∙◌, rules}
use Rattle.storage_current.specs.CurrentWire.{operation_text}
use Rattle.storage_current.specs.NodeLists.{told_by}
use Rattle.storage_current.specs.Snapshots.{OperationProof, grafting_of}
use Rattle.gawerunoa_cli.proofs.Parts.{if_ok, parts_of}
use Rattle.gawerunoa_cli.proofs.shown.own_proof.Goals as goal

pub returns : goal.returns
returns g c =
    let h = g.H.Hasher.hash_of in
    let gr = grafting_of g.F.Family.shape g.row.N in
    let text = g.H.Digest.Digest.text in
    let nodes = c.args.snapshot.now.nodes in
    if_ok _ _ c.encode.result (λ bytes written s whole stands count floor.
    written ∙ ap (λ (p : OperationProof). operation_text g.F.Graftable.has_pending p) (c.in_ok-proof.ensures s (parts_of text _ h
    gr c.args.plan c.args.snapshot.now c.status-status.result.now c.args.floor (text c.ops_root-ops_root.result) s whole stands
    count c.status-status.ensures floor (c.ops_root-ops_root.ensures.stands s stands)
    (λ p d given. let found : Some (text d) ≡ told_by nodes p = search rules in sym found)))) c.encode.ensures.text
