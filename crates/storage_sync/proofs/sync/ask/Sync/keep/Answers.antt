use Rattle.std.specs.Option.{is_some}
use Rattle.std.proofs.Common.{◌++◌, map, ◌≡◌, ◌∙◌, ◌+◌, ◌*◌, ℕ, length, ap, sym, arith, lit<, length-append}
use Rattle.std.proofs.lemmas.List.{length-map, map-append}
use Rattle.storage_sync.specs.Syncs.{place}
use Rattle.storage_sync.proofs.States.{room_for, consistent_after, when_ok, seen_kept}
use Rattle.storage_sync.proofs.sync.ask.Sync.keep.Goals as goal

pub append-requires : goal.append-requires
append-requires g c =
    let i = c.self.inside in
    let count : ℕ = length c.args.operations.now.items in
    let next : place c.args.self.now ≡ i.status.pruned * (8 * g.row.N) + length i.operations.items =
    sym (ap place c.self.view_is)
    ∙ ap (λ (k : ℕ). i.status.pruned * (8 * g.row.N) + k) (length-map i.operations.items (λ o. o.items)) in (
      lit< tt,
      room_for g.row.N i.status (length i.operations.items) count c.args.leaves c.args.bits.now c.self.invariant.bit_each
          c.requires.bit_each (omega (arith, next, c.requires.asked.within)) c.requires.few,
    )

pub invariant_of-self-2 : goal.invariant_of-self-2
invariant_of-self-2 g c =
    let i = c.self.inside in
    let count : ℕ = length c.args.operations.now.items in
    let next : place c.args.self.now ≡ i.status.pruned * (8 * g.row.N) + length i.operations.items =
    sym (ap place c.self.view_is)
    ∙ ap (λ (k : ℕ). i.status.pruned * (8 * g.row.N) + k) (length-map i.operations.items (λ o. o.items)) in
    let ok = c.append-2.ensures.succeeds (omega (arith, c.in_ok-reserve.ensures.ok, c.len.ensures)) in
    let items = when_ok c.append-2.result _ _ _ ok c.append-2.ensures.items in
    let after : length c.append-2.new.self.items ≡ length i.operations.items + count = ap length items
    ∙ length-append c.reserve.new.self.items c.args.operations.now.items
    ∙ ap (λ xs. length xs + count) c.reserve.ensures.items in
    consistent_after g.row.N i.limits i.leaves (is_some i.ops_root) (length i.operations.items) count c.args.leaves
    (length c.append-2.new.self.items) c.args.self.now i.status c.append.new.self c.args.bits.now c.self.invariant
    c.requires.asked next c.requires.few c.requires.bit_each c.in_ok-append.ensures.ok after

pub returns-clause-ok : goal.returns-clause-ok
returns-clause-ok g c =
    let i = c.self.inside in
    let added = c.args.operations.now.items in
    let ok = c.append-2.ensures.succeeds (omega (arith, c.in_ok-reserve.ensures.ok, c.len.ensures)) in
    let items = when_ok c.append-2.result _ _ _ ok c.append-2.ensures.items in
    let begin : c.append.new.self.pruned * (8 * g.row.N) ≡ i.status.pruned * (8 * g.row.N) =
    ap (λ r. r.pruned * (8 * g.row.N)) c.in_ok-append.ensures.ok in
    rw begin (seen_kept g.H.Digest.Digest.text i.ops_root c.args.ops_root c.unwrap_or.result (g.H.Digest.Digest.text i.root) i.limits
    (i.status.pruned * (8 * g.row.N)) c.args.leaves i.leaves (map (λ o. o.items) c.append-2.new.self.items) (map (λ o. o.items) i.operations.items)
    (map (λ o. o.items) added) c.append.new.self.bits i.status.bits c.args.bits.now c.unwrap_or.ensures
    (ap (map (λ o. o.items)) items ∙ map-append (λ o. o.items) c.reserve.new.self.items added
    ∙ ap (λ xs. map (λ o. o.items) xs ++ map (λ o. o.items) added) c.reserve.ensures.items)
    (ap (λ r. r.bits) c.in_ok-append.ensures.ok) c.args.self.now c.self.view_is)
