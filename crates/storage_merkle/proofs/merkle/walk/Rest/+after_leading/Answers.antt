use Rattle.std.proofs.Common.{◌≡◌, ◌+◌, ◌<◌, ◌≤◌, ◌^◌, [], arith, inl, inr, rules, subst, pow_pos}
use Rattle.storage_merkle.specs.Plans.{ArePeaks}
use Rattle.storage_merkle.proofs.Rests.{none_leads, one_leads}
use Rattle.storage_merkle.proofs.Walked.{leads_end, leads_not, leads_of, leads_unfolded}
use Rattle.storage_merkle.proofs.Walks.{peaks_next}
use Rattle.storage_merkle.proofs.merkle.walk.Rest.+after_leading.Goals as goal

pub returns-then-self-eq0-clause-after : goal.returns-then-self-eq0-clause-after
returns-then-self-eq0-clause-after g t c =
    let S = g.F.Family.shape in
    let r = c.args.self in
    let none : leads_of S c.args.start r.first r.left r.folded ≡ [] = elim c.then-self-eq0.either [
      | inl e ↦ leads_end S c.args.start r.first r.left g.met.F.Family.laws r.folded (omega (arith, e))
      | inr e ↦ leads_unfolded S c.args.start r.first r.left r.folded (omega (arith, e.1))
    ] in
    none_leads S c.args.start r.first r.left r.folded none

pub returns-then-self-power-clause-after : goal.returns-then-self-power-clause-after
returns-then-self-power-clause-after g t c =
    let r = c.args.self in
    none_leads g.F.Family.shape c.args.start r.first r.left r.folded
    (leads_not g.F.Family.shape c.args.start r.first r.left c.first_peak-height.result c.first_peak-height.ensures.first
    r.folded (omega (arith, c.if-self-power.true, c.power.ensures)))

pub after_leading-requires : goal.after_leading-requires
after_leading-requires g t c κs within =
    let S = g.F.Family.shape in
    let r = c.args.self in
    let n = c.next.result in
    let positive : 0 < 2 ^ c.first_peak-height.result = pow_pos c.first_peak-height.result in
    let sum : r.first + r.left ≡ n.first + n.left =
    omega (arith, c.next.ensures.first, c.next.ensures.left, c.first_peak-height.ensures.within) in
    let few : n.first + n.left ≤ 2 ^ 62 = omega (arith, sum, c.requires.few) in
    let peaks : ArePeaks S (n.first + n.left) n.first n.left = subst (λ m. ArePeaks S m n.first n.left) sum
    (rw (c.next.ensures.first, c.next.ensures.left) (peaks_next S g.met.F.Family.laws (r.first + r.left) r.first r.left
    c.first_peak-height.result c.requires.few c.requires.peaks c.first_peak-height.ensures.first)) in
    search rules

pub returns-clause-peaks : goal.returns-clause-peaks
returns-clause-peaks g t c =
    let sum : c.next.result.first + c.next.result.left ≡ c.args.self.first + c.args.self.left =
    omega (arith, c.next.ensures.first, c.next.ensures.left, c.first_peak-height.ensures.within) in
    subst (λ m. ArePeaks g.F.Family.shape m c.after_leading.result.first c.after_leading.result.left) sum
    c.after_leading.ensures.peaks

pub returns-clause-after : goal.returns-clause-after
returns-clause-after g t c =
    let r = c.args.self in
    let n = c.next.result in
    one_leads g.F.Family.shape c.args.start r.first r.left r.folded c.first_peak-height.result n.first n.left n.folded
    c.first_peak-height.ensures.first c.next.ensures.first c.next.ensures.left c.next.ensures.folded (omega arith)
    (omega (arith, c.if-self-power.false, c.power.ensures)) _ _ _ c.after_leading.ensures.after
