use Rattle.std.proofs.Common.{rules, refl, ◌<◌, ◌^◌, ◌+◌, ◌-◌}
use Rattle.std.proofs.lemmas.Nat.{pow_pos}
use Rattle.storage_merkle.specs.PlanParts.{ArePlannedAll}
use Rattle.storage_merkle.specs.Rests.{peaks_from}
use Rattle.storage_merkle.specs.Laws.Shape.{step, no_peaks}
use Rattle.storage_merkle.proofs.Plan.Folds.{all_first, all_rest, back_more, back_none}
use Rattle.storage_merkle.proofs.merkle.plan.digests.Nodes.+fold_back.Goals as goal

pub returns-then-left-eq0 : goal.returns-then-left-eq0
returns-then-left-eq0 g t c = λ digest_of are. back_none g.F.Family.shape g.H.Hasher.hash_of digest_of c.args.first
    c.args.left (no_peaks g.F.Family.shape g.met.F.Family.laws) c.if-left-eq0.true

pub node-node-requires-clause-aligned : goal.node-node-requires-clause-aligned
node-node-requires-clause-aligned g t c = (step g.F.Family.shape g.met.F.Family.laws c.args.first c.args.left
    c.first_peak-height.result c.requires.few c.requires.aligned c.first_peak-height.ensures.first).aligned

pub node-node-requires-clause-among : goal.node-node-requires-clause-among
node-node-requires-clause-among g t c = all_first g.F.Family.shape c.args.first c.args.left c.first_peak-height.result
    c.first_peak-height.ensures.first c.args.self.now.positions.now c.requires.planned

pub fold_back-rest-requires : goal.fold_back-rest-requires
fold_back-rest-requires g t c κs within =
    let some : 0 < 2 ^ c.first_peak-height.result = pow_pos c.first_peak-height.result in
    let s = step g.F.Family.shape g.met.F.Family.laws c.args.first c.args.left c.first_peak-height.result c.requires.few
    c.requires.aligned c.first_peak-height.ensures.first in
    let planned : ArePlannedAll g.F.Family.shape c.args.self.now.positions.now (peaks_from g.F.Family.shape
    (c.args.first + 2 ^ c.first_peak-height.result) (c.args.left - 2 ^ c.first_peak-height.result)) =
    all_rest g.F.Family.shape c.args.first c.args.left c.first_peak-height.result c.first_peak-height.ensures.first
    c.args.self.now.positions.now c.requires.planned in
    rw (c.power.ensures, c.power-2.ensures) (search rules)

pub returns : goal.returns
returns g t c = λ digest_of are.
    let s = step g.F.Family.shape g.met.F.Family.laws c.args.first c.args.left c.first_peak-height.result c.requires.few
    c.requires.aligned c.first_peak-height.ensures.first in
    back_more g.F.Family.shape c.args.first c.args.left c.first_peak-height.result c.first_peak-height.ensures.first
    g.H.Hasher.hash_of digest_of c.power.result c.power-2.result _ _ _ c.power.ensures c.power-2.ensures
    (are _ c.args.first c.first_peak-height.result c.node-node.result c.node-node.ensures
    (record { aligned = s.aligned; at = refl })) (c.fold_back-rest.ensures digest_of are) c.join.ensures
