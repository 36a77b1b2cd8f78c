use Rattle.storage_merkle.proofs.Check.Nodes.{search_finds, search_at, sibling_is}
use Rattle.storage_merkle.proofs.merkle.multi.Given.digest.Goals as goal

pub unwrap-index-requires : goal.unwrap-index-requires
unwrap-index-requires g c = search_finds c.args.self.now.positions.now c.args.position c.binary_search.result
    c.requires.given.rising c.requires.present c.binary_search.ensures.position

pub returns : goal.returns
returns g c = λ digest first height serves is.
    sibling_is g.F.Family.shape g.D.Digest.text digest c.args.self.now.positions.now c.args.self.now.digests.now
    c.args.position first height c.unwrap-index.result c.index-self-index.result serves is
    (search_at c.args.self.now.positions.now c.args.position c.binary_search.result c.unwrap-index.result
    c.requires.given.rising c.binary_search.ensures.position c.unwrap-index.ensures) c.requires.given.enough
