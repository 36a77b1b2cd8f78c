use Rattle.std.proofs.Common.{[]}
use Rattle.storage_codec.specs.Laws.Codec.{front_is_whole}
use Rattle.storage_codec.proofs.laws.prefix_free.Goals as goal

pub returns : goal.returns
returns g c cfg x y rest hx hy e =
    front_is_whole g.T.Write.text g.T.Read.view (g.T.Read.parse cfg) x y rest (g.met.T.Codec.again cfg x rest hx)
    (g.met.T.Codec.again cfg y [] hy) e
