use Rattle.std.proofs.Common.{arith, refl, ◌≤◌, ◌-◌, ◌/◌, ◌^◌}
use Rattle.storage_merkle.specs.Laws.Multiples.{in_units}
use Rattle.storage_merkle.specs.Laws.Shape.{down, valid_height}
use Rattle.storage_current.specs.Combined.{IsRaised}
use Rattle.storage_current.specs.GraftedTrees.{IsKeptIn}
use Rattle.storage_current.proofs.Regrafting.{all_taken, had_at, under_raised}
use Rattle.storage_current.proofs.qmdb.current.grafting.storage.grafted_digest.Goals as goal

pub overflow_shr-first : goal.overflow_shr-first
overflow_shr-first g c =
    let k : c.args.own ≤ 62 = valid_height g.F.Family.shape g.met.F.Family.laws c.args.first c.args.own
    c.requires.aligned c.requires.valid in
    omega (arith, c.requires.above)

pub node_of-requires-clause-high : goal.node_of-requires-clause-high
node_of-requires-clause-high g c =
    let k : c.args.own ≤ 62 = valid_height g.F.Family.shape g.met.F.Family.laws c.args.first c.args.own
    c.requires.aligned c.requires.valid in
    omega arith

pub node_of-requires-clause-aligned : goal.node_of-requires-clause-aligned
node_of-requires-clause-aligned g c =
    (in_units c.args.first c.args.own c.args.height c.requires.above c.requires.aligned).1

pub node_of-requires-clause-fits : goal.node_of-requires-clause-fits
node_of-requires-clause-fits g c =
    (down g.F.Family.shape g.met.F.Family.laws c.args.first c.args.own c.args.height _
    (record { aligned = c.requires.aligned; at = refl }) c.requires.above c.requires.low c.requires.valid).fits

pub node_of-requires-clause-takes : goal.node_of-requires-clause-takes
node_of-requires-clause-takes g c =
    let S = g.F.Family.shape in
    rw c.new-hasher.ensures.height (all_taken (IsKeptIn S (g.R.Readable.node c.args.grafted_tree.now))
    (λ a k. IsRaised S (λ p. Unit {0}) c.args.height (S.position a k)) (c.args.own - c.args.height)
    (c.args.first / 2 ^ c.args.height)
    (in_units c.args.first c.args.own c.args.height c.requires.above c.requires.aligned).1
    (λ a k under. under_raised S g.met.F.Family.laws c.args.height c.args.first c.args.own a k c.requires.low
    c.requires.above c.requires.aligned c.requires.valid under))

pub returns : goal.returns
returns g c q covers =
    had_at g.F.Family.shape g.met.F.Family.laws g.H.Hasher.digest_of g.H.Digest.Digest.text g.H.Hasher.hash_of
    g.met.H.Hasher.told g.met.H.Digest.Digest.one c.args.height c.args.first c.args.own
    (g.R.Readable.node c.args.grafted_tree.now) c.node_of.result c.requires.above c.requires.aligned
    (rw c.new-hasher.ensures.height at c.node_of.ensures) q covers
