use Rattle.std.proofs.Common.{◌≡◌, ◌+◌, ◌*◌, ◌∙◌, map, length, ap, arith}
use Rattle.std.proofs.lemmas.List.{length-map, map-id}
use Rattle.storage_current.specs.Held.{range_proof_of}
use Rattle.storage_current.specs.Snapshots.{grafting_of}
use Rattle.storage_sync.specs.Syncs.{Taken, place}
use Rattle.storage_sync.proofs.States.{said_alike}
use Rattle.storage_sync.proofs.sync.ask.Sync.is_proved.Goals as goal

pub returns : goal.returns
returns g c =
    let i = c.self.inside in
    let start : c.new-start.result ≡ i.status.pruned * (8 * g.row.N) + length (map (λ o. o.items) i.operations.items) =
    omega (
      arith,
      c.new-start.ensures,
      c.len.ensures.value,
      c.self.invariant.bit_each,
      length-map i.operations.items (λ o. o.items),
    ) in
    said_alike g.H.Hasher.hash_of (grafting_of g.F.Family.shape g.row.N)
    (range_proof_of g.H.Digest.Digest.text c.args.page.now.proof) _ _ _ _ _ _ _ _ c.verify_encoded.result
    (start ∙ ap place c.self.view_is) (ap (map (λ o. o.items)) c.deref.ensures.value)
    (map-id c.deref-2.result.now ∙ c.deref-2.ensures.value) (ap (λ (t : Taken). t.root) c.self.view_is)
    c.verify_encoded.ensures.exact
