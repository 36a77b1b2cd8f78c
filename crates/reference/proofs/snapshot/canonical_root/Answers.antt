use Rattle.std.proofs.Common.{ℕ, ◌/◌, ◌%◌, length, map, ap, sym, ◌∙◌}
use Rattle.std.proofs.lemmas.List.{length-map}
use Rattle.reference.proofs.Snapshots.{canonical_from}
use Rattle.reference.proofs.snapshot.canonical_root.Goals as goal

pub returns : goal.returns
returns g c =
    let m = length c.args.of.now.operations.now in
    canonical_from g.H.Hasher.hash_of g.F.Family.shape c.args.of.now.chunk_size
    (map g.E.AsSlice.items c.args.of.now.operations.now) c.args.of.now.bits.now c.args.of.now.floor
    m c.height-height.result c.graftable-graftable.result (m / c.power.result) (m % c.power-2.result) _ _ _ _ _
    (sym (length-map c.args.of.now.operations.now g.E.AsSlice.items))
    (c.height-height.ensures.value g.F.Family.shape) c.graftable-graftable.ensures
    (ap (λ (d : ℕ). m / d) c.power.ensures) (ap (λ (d : ℕ). m % d) c.power-2.ensures)
    c.in_ok-ops_root.ensures c.in_ok-grafted_root.ensures c.in_ok-pending.ensures c.in_ok-partial.ensures
    (c.string_digest.ensures ∙ ap g.H.Hasher.hash_of (c.deref.ensures.value ∙ c.in_ok-string.ensures))
