use Rattle.std.proofs.Common.{◌∙◌, ap, ◌++◌}
use Rattle.storage_bitmap.proofs.Standing.{handed_out}
use Rattle.storage_bitmap.proofs.bitmap.authenticated.merkleized.BitMap+D+N+Merkleized+D.write_pruned.Goals as goal

pub returns-clause-kept : goal.returns-clause-kept
returns-clause-kept g c = (
  rw (← c.self.view_is) c.pruned_chunks.ensures.value,
  rw (← c.self.view_is) (c.in_ok-extend_from_slice.ensures.items
      ∙ ap (λ xs. xs ++ c.pinned_nodes.result.now) c.new-pinned.ensures.items ∙ c.pinned_nodes.ensures),
)

pub returns-clause-stands : goal.returns-clause-stands
returns-clause-stands g c h bits s =
    let i = c.self.invariant in
    handed_out g.D.Digest.text h g.row.N c.args.self.now bits c.pruned_chunks.result c.extend_from_slice.new.self.items
    (rw (← c.self.view_is) i.boundary) (rw (← c.self.view_is) i.order)
    (rw (← c.self.view_is) c.pruned_chunks.ensures.value)
    (rw (← c.self.view_is) (c.in_ok-extend_from_slice.ensures.items
    ∙ ap (λ xs. xs ++ c.pinned_nodes.result.now) c.new-pinned.ensures.items ∙ c.pinned_nodes.ensures)) s
