use Rattle.storage_codec.specs.Laws.Codec.{one_front}
use Rattle.storage_codec.proofs.laws.one_encoding_in_front.Goals as goal

pub returns : goal.returns
returns g c cfg x y r s hx hy e =
    one_front g.T.Write.text g.T.Read.view (g.T.Read.parse cfg) x y r s (g.met.T.Codec.again cfg x r hx)
    (g.met.T.Codec.again cfg y s hy) e
