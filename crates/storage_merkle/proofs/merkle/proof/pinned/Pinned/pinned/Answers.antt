use Rattle.std.proofs.Common.{arith, map, length, ap}
use Rattle.storage_merkle.specs.Laws.Shape.{no_peaks}
use Rattle.storage_merkle.proofs.Pinned.Nodes.{some_left}
use Rattle.std.proofs.lemmas.Grind.{common_steps}
use Rattle.storage_merkle.proofs.merkle.proof.pinned.Pinned.pinned.Goals as goal

pub first_peak-peak-requires-clause-some : goal.first_peak-peak-requires-clause-some
first_peak-peak-requires-clause-some g c =
    let left = ap (map g.D.Digest.text) c.in-Some.ensures.cases.0 in
    some_left g.F.Family.shape c.args.first c.args.height (no_peaks g.F.Family.shape g.met.F.Family.laws)
    c.args.self.now.start _ c.loop-digest.place _ c.loop-digest.invariant (omega (arith, ap length left))

pub loop-digest-init : goal.loop-digest-init
loop-digest-init g c = grind (arith, common_steps)

pub returns : goal.returns
returns g c = grind (arith, common_steps)
