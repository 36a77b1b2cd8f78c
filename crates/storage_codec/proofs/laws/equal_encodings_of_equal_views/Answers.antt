use Rattle.std.proofs.Common.{[], subst, sym, ap, ◌++◌, List, ℕ}
use Rattle.std.proofs.lemmas.List.{append-nil}
use Rattle.storage_codec.specs.Parts.{IsBytes}
use Rattle.storage_codec.specs.Laws.Codec.{equal_views, one_front}
use Rattle.storage_codec.proofs.laws.equal_encodings_of_equal_views.Goals as goal

pub returns : goal.returns
returns g c cfg x y hx hy fits =
    let again_x = g.met.T.Codec.again cfg x [] hx in
    let again_y = g.met.T.Codec.again cfg y [] hy in
    let bytes : IsBytes (g.T.Write.text x ++ []) = subst IsBytes (sym (append-nil (g.T.Write.text x))) fits in (
      λ e. equal_views g.T.Write.text g.T.Read.view (g.T.Read.parse cfg) x y again_x
          (g.met.T.Canonical.back cfg (g.T.Write.text x ++ []) y [] bytes) e,
      λ e. (one_front g.T.Write.text g.T.Read.view (g.T.Read.parse cfg) x y [] [] again_x again_y
          (ap (λ (t : List ℕ). t ++ []) e)).0,
    )
