use Rattle.std.proofs.Common.{sym, subst}
use Rattle.storage_merkle.specs.Shape.{Laws}
use Rattle.storage_merkle.proofs.Built.{built_accepted, built_again}
use Rattle.storage_merkle.proofs.laws.built_range_proofs_are_accepted.Goals as goal

pub returns-clause-accepted : goal.returns-clause-accepted
returns-clause-accepted g c = λ hasher get_node plan inactive proof claim content own is.
    let T = g.H.Hasher.layout hasher in
    built_accepted _ _ g.H.Hasher.hash_of T (subst Laws (sym (g.met.H.Hasher.over hasher)) g.met.F.Family.laws)
    (g.H.Hasher.bagging hasher) plan inactive proof claim content own is

pub returns-clause-read_again : goal.returns-clause-read_again
returns-clause-read_again g c = λ hasher get_node plan inactive proof claim content own is most rest all fits.
    let T = g.H.Hasher.layout hasher in
    built_again _ _ g.H.Hasher.hash_of T (subst Laws (sym (g.met.H.Hasher.over hasher)) g.met.F.Family.laws) (g.H.Hasher.bagging hasher) plan
    inactive proof claim content own is g.H.Digest.Digest.size g.met.H.Hasher.sized most rest all fits
