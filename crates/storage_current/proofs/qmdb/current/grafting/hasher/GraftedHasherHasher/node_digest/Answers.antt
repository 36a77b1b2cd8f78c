use Rattle.std.proofs.Common.{◌+◌, ◌*◌, ◌^◌}
use Rattle.storage_current.proofs.Raised.{raised}
use Rattle.storage_current.proofs.qmdb.current.grafting.hasher.GraftedHasherHasher.node_digest.Goals as goal

pub grafted_to_ops_pos-position-requires-clause-fits : goal.grafted_to_ops_pos-position-requires-clause-fits
grafted_to_ops_pos-position-requires-clause-fits g c = c.requires.fits

pub node_digest-requires : goal.node_digest-requires
node_digest-requires g c = c.requires.taken _ c.grafted_to_ops_pos-position.ensures

pub returns : goal.returns
returns g c first height node = c.node_digest.ensures (first * 2 ^ c.args.self.now.height)
    (height + c.args.self.now.height) (raised g.F.Family.shape g.met.F.Family.laws _ _ _ first height
    c.grafted_to_ops_pos-position.ensures node)
