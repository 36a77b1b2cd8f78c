use Rattle.std.proofs.Common.{◌≡◌, ℕ, List, [], Ok, subst, ◌∙◌, refl}
use Rattle.std.proofs.lemmas.List.{append-nil}
use Rattle.storage_codec.specs.Laws.Codec.{whole_ok}
use Rattle.storage_codec.proofs.laws.whole_encoding.Goals as goal

pub returns : goal.returns
returns g c cfg bytes x hx fits =
    let again : g.T.Read.parse cfg (g.T.Write.text x) ≡ Ok (g.T.Read.view x, []) =
    subst (λ (t : List ℕ). g.T.Read.parse cfg t ≡ Ok (g.T.Read.view x, [])) (append-nil (g.T.Write.text x))
    (g.met.T.Codec.again cfg x [] hx) in (
      λ e. g.met.T.Canonical.back cfg bytes x [] fits (whole_ok (g.T.Read.parse cfg bytes) (g.T.Read.view x) [] e).0
          ∙ append-nil (g.T.Write.text x),
      λ e. rw (e, again) refl,
    )
