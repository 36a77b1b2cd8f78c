use Rattle.std.proofs.Common.{◌∷◌, [], map}
use Rattle.storage_merkle.specs.Mmr.{mmr}
use Rattle.storage_merkle.specs.Trees.{ungrafted}
use Rattle.storage_bitmap.proofs.BitPlain.{answered_at, answered_plain}
use Rattle.storage_bitmap.proofs.bitmap.authenticated.inclusion.chunks_root.Goals as goal

pub returns : goal.returns
returns g c = λ same.
    answered_at g.H.Digest.Digest.text c.recompute_root.result g.H.Hasher.hash_of (ungrafted mmr)
    (g.H.Hasher.bagging c.args.hasher.now) (map g.H.Digest.Digest.text c.args.digests.now)
    (c.args.chunk.now ∷ []) c.new.result c.args.complete c.new-2.result c.args.place c.new.ensures c.new-2.ensures
    (answered_plain g.H.Hasher.hash_of mmr (g.H.Hasher.bagging c.args.hasher.now)
    (record { leaves = c.new.result; inactive = 0; digests = map g.H.Digest.Digest.text c.args.digests.now })
    c.new-2.result (c.args.chunk.now ∷ []) (g.H.Hasher.chunk c.args.hasher.now)
    g.H.Digest.Digest.text c.recompute_root.result (g.H.Hasher.layout c.args.hasher.now) same
    c.recompute_root.ensures)
