use Rattle.std.proofs.Common.{arith, ◌≡◌, suc, ◌-◌, ◌<◌, ◌≤◌, leb, take, le-leb}
use Rattle.std.proofs.lemmas.Bool.{lt-leb}
use Rattle.storage_merkle.specs.Shape.{leaves_under}
use Rattle.reference.proofs.Counts.{greatest_none, greatest_here, greatest_lower, leaves_take}
use Rattle.reference.proofs.count.+most_exact.Goals as goal

pub leaves_of-end-requires : goal.leaves_of-end-requires
leaves_of-end-requires t c = omega (arith, leaves_take c.args.bound c.args.heights.now, c.requires.few)

pub returns-then-bound-eq0 : goal.returns-then-bound-eq0
returns-then-bound-eq0 t c = greatest_none _ c.args.bound c.if-bound-eq0.true

pub returns-then-end-floor : goal.returns-then-end-floor
returns-then-end-floor t c =
    let s : c.args.bound ≡ suc (c.args.bound - 1) = omega arith in
    let l : leaves_under (take c.args.bound c.args.heights.now) ≤ c.args.floor =
    omega (arith, c.leaves_of-end.ensures, c.if-end-floor.true) in
    greatest_here (λ r. leb (leaves_under (take r c.args.heights.now)) c.args.floor) (c.args.bound - 1) c.args.bound s
    (le-leb _ _ l)

pub returns : goal.returns
returns t c =
    let s : c.args.bound ≡ suc (c.args.bound - 1) = omega arith in
    let l : c.args.floor < leaves_under (take c.args.bound c.args.heights.now) =
    omega (arith, c.leaves_of-end.ensures, c.if-end-floor.false) in
    greatest_lower (λ r. leb (leaves_under (take r c.args.heights.now)) c.args.floor) (c.args.bound - 1) c.args.bound _ s
    (lt-leb _ _ l) c.most_exact.ensures
