use Rattle.std.proofs.Common.{◌≡◌, ℕ, List, Ok, subst, sym}
use Rattle.storage_codec.proofs.laws.read_exactly_where_written.Goals as goal

pub returns : goal.returns
returns g c cfg bytes x rest hx fits = (
  λ e. g.met.T.Canonical.back cfg bytes x rest fits e,
  λ e. subst (λ (t : List ℕ). g.T.Read.parse cfg t ≡ Ok (g.T.Read.view x, rest)) (sym e)
      (g.met.T.Codec.again cfg x rest hx),
)
