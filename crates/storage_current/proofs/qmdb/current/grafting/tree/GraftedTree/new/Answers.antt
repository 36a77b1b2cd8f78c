use Rattle.std.proofs.Common.{arith, ap, length, ◌^◌, rules}
use Rattle.storage_merkle.specs.Laws.Shape.{no_peaks}
use Rattle.storage_current.proofs.Pruning.{new_keeps, take_whole}
use Rattle.storage_current.proofs.qmdb.current.grafting.tree.GraftedTree.new.Goals as goal

pub invariant_of-result : goal.invariant_of-result
invariant_of-result g c =
    let e = ap length (no_peaks g.F.Family.shape g.met.F.Family.laws) in
    record {
      few = omega (arith, c.truncate.ensures.len);
      pins = omega (arith, e, c.new.ensures.len);
    }

pub returns-clause-stands : goal.returns-clause-stands
returns-clause-stands g c N few =
    rw (c.new.ensures.items, c.truncate.ensures.items, take_whole (2 ^ 62) c.args.leaves.items few)
    (new_keeps g.D.Digest.text g.F.Family.shape g.met.F.Family.laws N c.args.leaves.items)

pub returns-clause-kept : goal.returns-clause-kept
returns-clause-kept g c = search rules
