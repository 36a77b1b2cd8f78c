use Rattle.std.proofs.Common.{arith, refl}
use Rattle.storage_merkle.specs.Nodes.{IsNode}
use Rattle.storage_merkle.specs.Laws.Shape.{up, covers_up}
use Rattle.storage_current.proofs.qmdb.current.grafting.hasher.GraftedHasherHasher.node_digest_over.Goals as goal

pub power-requires : goal.power-requires
power-requires g c =
    let n : IsNode g.F.Family.shape (g.F.Family.shape.position c.args.first c.args.height) c.args.first c.args.height =
    record { aligned = c.requires.aligned; at = refl } in
    let u = up g.F.Family.shape g.met.F.Family.laws _ _ c.args.self.now.height _ n c.requires.takes.fits in
    omega (arith, u.small)

pub overflow_mul-first : goal.overflow_mul-first
overflow_mul-first g c =
    let n : IsNode g.F.Family.shape (g.F.Family.shape.position c.args.first c.args.height) c.args.first c.args.height =
    record { aligned = c.requires.aligned; at = refl } in
    let u = up g.F.Family.shape g.met.F.Family.laws _ _ c.args.self.now.height _ n c.requires.takes.fits in
    rw c.power.ensures (omega (arith, u.first))

pub overflow_add-height : goal.overflow_add-height
overflow_add-height g c =
    let n : IsNode g.F.Family.shape (g.F.Family.shape.position c.args.first c.args.height) c.args.first c.args.height =
    record { aligned = c.requires.aligned; at = refl } in
    let u = up g.F.Family.shape g.met.F.Family.laws _ _ c.args.self.now.height _ n c.requires.takes.fits in
    omega (arith, u.small)

pub node_digest_over-requires-clause-aligned : goal.node_digest_over-requires-clause-aligned
node_digest_over-requires-clause-aligned g c =
    let n : IsNode g.F.Family.shape (g.F.Family.shape.position c.args.first c.args.height) c.args.first c.args.height =
    record { aligned = c.requires.aligned; at = refl } in
    let u = up g.F.Family.shape g.met.F.Family.laws _ _ c.args.self.now.height _ n c.requires.takes.fits in
    rw c.power.ensures u.units

pub node_digest_over-requires-clause-fits : goal.node_digest_over-requires-clause-fits
node_digest_over-requires-clause-fits g c =
    let n : IsNode g.F.Family.shape (g.F.Family.shape.position c.args.first c.args.height) c.args.first c.args.height =
    record { aligned = c.requires.aligned; at = refl } in
    let u = up g.F.Family.shape g.met.F.Family.laws _ _ c.args.self.now.height _ n c.requires.takes.fits in
    rw c.power.ensures u.fits

pub node_digest_over-requires-clause-takes : goal.node_digest_over-requires-clause-takes
node_digest_over-requires-clause-takes g c =
    let n : IsNode g.F.Family.shape (g.F.Family.shape.position c.args.first c.args.height) c.args.first c.args.height =
    record { aligned = c.requires.aligned; at = refl } in
    rw c.power.ensures (c.requires.takes.taken _
    (covers_up g.F.Family.shape g.met.F.Family.laws _ _ c.args.self.now.height _ _ n refl))

pub returns : goal.returns
returns g c = rw c.power.ensures at c.node_digest_over.ensures
