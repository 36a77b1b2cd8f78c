use Rattle.std.proofs.Common.{◌≡◌, ◌≤◌, ◌∙◌, length, take, ap, arith, rules, sym}
use Rattle.std.proofs.lemmas.List.{take_all}
use Rattle.storage_merkle.specs.Laws.Hashing.{length-leaf_digests}
use Rattle.storage_merkle.specs.Trees.{ungrafted}
use Rattle.storage_current.specs.Snapshots.{Grafting, graftable}
use Rattle.storage_current.proofs.SnapshotTails.{behind_pins}
use Rattle.storage_current.proofs.qmdb.current.chunk_tree.chunks_behind.Goals as goal

pub append_grafts-requires : goal.append_grafts-requires
append_grafts-requires g c =
    let S = g.F.Family.shape in
    let G : Grafting = record { shape = S; bytes = g.row.N } in
    let start : c.in-Ok.chunks.leaves ≡ c.args.status.now.pruned =
    ap (λ m. m.leaves) c.in-Ok.ensures.kept ∙ c.new.ensures ∙ c.pruned_chunks-pruned.ensures.value in
    let kept : c.args.status.now.pruned ≤ c.in-Ok.chunks.leaves = omega (arith, start) in
    let within : c.in-Ok.chunks.leaves ≤ graftable G c.args.operations.now.leaves = omega (arith, start, c.requires.bits.few) in
    search rules

pub returns-clause-place : goal.returns-clause-place
returns-clause-place g c =
    let S = g.F.Family.shape in
    let at = c.new.ensures ∙ c.pruned_chunks-pruned.ensures.value in
    let made = rw at at c.in-Ok.ensures.kept in
    let all : take (length (S.peaks c.args.status.now.pruned)) c.args.pins.now ≡ c.args.pins.now =
    take_all (length (S.peaks c.args.status.now.pruned)) c.args.pins.now (omega (arith, c.requires.pins)) in
    let place = c.in_ok-append_grafts.ensures.place in (
      c.in_ok-append_grafts.ensures.count,
      place.0 ∙ ap (λ m. m.boundary) made,
      place.1 ∙ ap (λ m. m.pinned) made ∙ all,
    )

pub returns-clause-own : goal.returns-clause-own
returns-clause-own g c = λ s rest over pins_are.
    let S = g.F.Family.shape in
    let h = g.H.Hasher.hash_of in
    let G : Grafting = record { shape = S; bytes = g.row.N } in
    let all : take (length (S.peaks c.args.status.now.pruned)) c.args.pins.now ≡ c.args.pins.now =
    take_all (length (S.peaks c.args.status.now.pruned)) c.args.pins.now (omega (arith, c.requires.pins)) in
    let begun = rw (c.new.ensures, c.pruned_chunks-pruned.ensures.value, all) at c.in-Ok.ensures.stands in
    let n : c.args.operations.now.leaves ≡ length s.operations = over.count ∙ length-leaf_digests h (ungrafted S) 0 s.operations in
    behind_pins h G s c.args.status.now.pruned (rw (← n) c.requires.bits.few) g.H.Digest.Digest.text g.met.F.Family.laws
    c.args.operations.now c.in-Ok.chunks c.append_grafts.new.chunks c.args.status.now c.args.pins.now begun
    (λ list stands. c.in_ok-append_grafts.ensures.grafted list stands) c.in_ok-append_grafts.ensures.count rest over pins_are
