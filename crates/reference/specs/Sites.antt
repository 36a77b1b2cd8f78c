-- Sites of given digests, as the program has them.
use Rattle.std.specs.Prelude.{ℕ, List, [], ◌∷◌, ◌++◌, map, Option}
use Rattle.storage_codec.specs.Digests.{HashFunction}
use Rattle.storage_merkle.specs.Hashing.{folded_forward, folded_backward}
use Rattle.storage_merkle.specs.Calc.{Site as CalcSite, front, back, node, Calc, given}
use Rattle.storage_merkle.specs.Trees.{Layout, Peak, bag, part}
use Rattle.storage_merkle.specs.RangeProofs.{apart, leading, not_leading, up_to, trailing, one_for}
use Rattle.reference.specs.declared.site.Site.{Site}
use Rattle.reference.specs.declared.site.Site.TheVariants.{Front, Back, Inner}

-- the site that is meant
abbrev pub site_of : Site → CalcSite
site_of Front = front
site_of Back = back
site_of (Inner place) = node place.first place.height

-- the digest of items folded from the left, or from the right; that of no bytes for no items
abbrev pub forward_digest : HashFunction → List (List ℕ) → List ℕ
forward_digest h [] = h []
forward_digest h (x ∷ xs) = folded_forward h x xs

abbrev pub backward_digest : HashFunction → List (List ℕ) → List ℕ
backward_digest h [] = h []
backward_digest h (x ∷ xs) = folded_backward h x xs

-- what a check bags, where the peaks xs are folded from the left and the peaks ys from the right
abbrev pub bag_of_claim : Layout → ℕ → ℕ → List Peak → List Peak → Option Calc
bag_of_claim T low high xs ys = bag (one_for (given front) (leading low xs) ++ map (part T (apart low high)) (not_leading low xs))
    (map (part T (apart low high)) (up_to high ys) ++ one_for (given back) (trailing high ys))
