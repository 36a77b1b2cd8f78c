use Rattle.std.proofs.Common.{arith, length, map, sym}
use Rattle.std.proofs.lemmas.List.{length-map}
use Rattle.storage_current.specs.Laws.Grafting.{aligned-le}
use Rattle.reference.proofs.Snapshots.{grafted_from}
use Rattle.reference.proofs.snapshot.grafted_root.Goals as goal

pub tree_root-requires-clause-inactive : goal.tree_root-requires-clause-inactive
tree_root-requires-clause-inactive g c = omega (
  arith,
  aligned-le g.F.Family.shape
      (length c.args.of.now.operations.now) c.args.of.now.floor c.height-height.result,
  c.in_ok-inactive.ensures,
)

pub returns : goal.returns
returns g c = grafted_from g.H.Hasher.hash_of g.F.Family.shape c.args.of.now.chunk_size
    (map g.E.AsSlice.items c.args.of.now.operations.now) c.args.of.now.bits.now c.args.of.now.floor
    (length c.args.of.now.operations.now) c.height-height.result c.graftable-count.result c.in_ok-inactive.inactive _
    (sym (length-map c.args.of.now.operations.now g.E.AsSlice.items))
    (c.height-height.ensures.value g.F.Family.shape) c.graftable-count.ensures c.in_ok-inactive.ensures
    c.in_ok-root.ensures
