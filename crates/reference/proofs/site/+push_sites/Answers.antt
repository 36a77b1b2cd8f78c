use Rattle.std.proofs.Common.{◌++◌, ◌∷◌, [], map, ap, sym, ◌∙◌, arith}
use Rattle.std.proofs.lemmas.List.{map-append}
use Rattle.reference.specs.Sites.{site_of}
use Rattle.reference.specs.declared.site.Site.TheVariants.{Inner}
use Rattle.reference.proofs.Sites.{apart_sites}
use Rattle.std.proofs.lemmas.Grind.{common_steps}
use Rattle.reference.proofs.site.+push_sites.Goals as goal

pub returns-then-is_given : goal.returns-then-is_given
returns-then-is_given g t c = λ T.
    ap (map site_of) c.in_ok-push.ensures.items ∙ map-append site_of c.args.sites.now.items (Inner c.args.place ∷ [])
    ∙ ap (λ s. map site_of c.args.sites.now.items ++ s) (sym (apart_sites T
    (g.C.Cut.cut c.args.cut.now) c.args.place.height c.args.place.first (sym c.if-is_given.ensures)))

pub returns : goal.returns
returns g t c = grind (arith, common_steps)
