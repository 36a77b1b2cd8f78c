use Rattle.std.proofs.Common.{sym, ◌∙◌, rules}
use Rattle.storage_merkle.proofs.merkle.hasher.Hasher.node_digest_over.Goals as goal

pub returns : goal.returns
returns g c = c.node_digest.ensures c.args.first c.args.height
    (record { aligned = c.requires.aligned; at = sym (c.new.ensures ∙ c.position.ensures) })

pub position-requires-clause-fits : goal.position-requires-clause-fits
position-requires-clause-fits g c = search rules

pub node_digest-requires : goal.node_digest-requires
node_digest-requires g c = search rules
