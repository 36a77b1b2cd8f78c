use Rattle.std.proofs.Common.{arith, length, map, sym}
use Rattle.std.proofs.lemmas.List.{length-map}
use Rattle.storage_current.specs.Laws.Grafting.{aligned-le}
use Rattle.reference.proofs.Snapshots.{range_from}
use Rattle.reference.proofs.snapshot.own_range.Goals as goal

pub own_proof-requires-clause-inactive : goal.own_proof-requires-clause-inactive
own_proof-requires-clause-inactive g c = omega (
  arith,
  aligned-le g.F.Family.shape
      (length c.args.of.now.operations.now) c.args.of.now.floor c.height-height.result,
  c.in_ok-inactive.ensures,
)

pub returns : goal.returns
returns g c = range_from g.H.Hasher.hash_of g.F.Family.shape c.args.of.now.chunk_size
    (map g.E.AsSlice.items c.args.of.now.operations.now) c.args.of.now.bits.now c.args.of.now.floor
    (length c.args.of.now.operations.now) c.height-height.result c.graftable.result c.in_ok-inactive.inactive c.args.low
    c.args.high _ (sym (length-map c.args.of.now.operations.now g.E.AsSlice.items))
    (c.height-height.ensures.value g.F.Family.shape) c.graftable.ensures c.in_ok-inactive.ensures c.in_ok-proof.ensures
