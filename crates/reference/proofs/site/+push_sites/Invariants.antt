use Rattle.reference.proofs.site.+push_sites.Given as goal

abbrev pub decreases-push_sites : goal.decreases-push_sites
decreases-push_sites g l = l.place.height
