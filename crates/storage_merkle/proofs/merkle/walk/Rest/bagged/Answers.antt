use Rattle.storage_merkle.proofs.Walks.{all_peaks}
use Rattle.storage_merkle.proofs.Rests.{all_folded_forward, inactive_folded}
use Rattle.storage_merkle.proofs.merkle.walk.Rest.bagged.Goals as goal

pub returns-in-ForwardFold-clause-peaks : goal.returns-in-ForwardFold-clause-peaks
returns-in-ForwardFold-clause-peaks g c = all_peaks g.F.Family.shape g.met.F.Family.laws c.args.leaves

pub returns-in-ForwardFold-clause-folded : goal.returns-in-ForwardFold-clause-folded
returns-in-ForwardFold-clause-folded g c = all_folded_forward g.F.Family.shape _ c.args.inactive c.args.leaves _
    c.in-ForwardFold.is c.peak_count-folded.ensures

pub returns-in-BackwardFold-clause-peaks : goal.returns-in-BackwardFold-clause-peaks
returns-in-BackwardFold-clause-peaks g c = all_peaks g.F.Family.shape g.met.F.Family.laws c.args.leaves

pub returns-in-BackwardFold-clause-folded : goal.returns-in-BackwardFold-clause-folded
returns-in-BackwardFold-clause-folded g c =
    inactive_folded g.F.Family.shape _ c.args.inactive c.args.leaves c.in-BackwardFold.is
