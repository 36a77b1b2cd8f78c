use Rattle.std.proofs.Common.{ℕ, ◌-◌, [], ◌++◌, List, map, get_or, ap, ◌∙◌}
use Rattle.storage_merkle.specs.Calc.{Values, eval, front, back, given}
use Rattle.storage_merkle.specs.RangeProofs.{apart, one_for, look_up}
use Rattle.storage_merkle.specs.Trees.{Layout, Peak, part}
use Rattle.reference.specs.Layouts.{laid_out, valued}
use Rattle.reference.specs.Sites.{site_of}
use Rattle.reference.proofs.Claims.{claimed_from}
use Rattle.reference.proofs.check.claimed_bag.Goals as goal

pub returns : goal.returns
returns g c =
    let h = g.H.Hasher.hash_of in
    let text = g.H.Digest.Digest.text in
    let claim = c.args.claim.now in
    let T : Layout = laid_out g.F.Family.shape (g.G.Grafts.grafted c.args.grafts.now) in
    let item : ℕ → List ℕ = λ j. get_or (map g.E.AsSlice.items claim.elements.now) (j - claim.low) [] in
    let chunk = g.G.Grafts.chunk c.args.grafts.now in
    let v : Values = valued (look_up (h []) (map site_of claim.sites.now) (map text claim.digests.now)) item chunk in
    let f : Peak → List ℕ = λ p. eval h v (part T (apart claim.low claim.high) p) in
    claimed_from h v T claim.low claim.high c.args.left.now c.args.right.now c.split_leading.result.0.now
    c.split_leading.result.1.now c.split_up_to.result.0.now c.split_up_to.result.1.now
    c.split_leading.ensures.front c.split_leading.ensures.others c.split_up_to.ensures.front
    c.split_up_to.ensures.others
    (map text c.deref.result.now) (map text c.deref-2.result.now) _
    (ap (map text) c.deref.ensures.value ∙ c.in_ok-push_digests.ensures
    ∙ ap (λ (ds : List (List ℕ)). ds ++ map f c.split_leading.result.1.now) (c.in_ok-push_front_fold.ensures item chunk ∙ ap
    (λ xs. map text xs ++ map (eval h v) (one_for (given front) c.split_leading.result.0.now)) c.new-front.ensures.items))
    (ap (map text) c.deref-2.ensures.value ∙ c.in_ok-push_back_fold.ensures item chunk
    ∙ ap (λ (ds : List (List ℕ)). ds ++ map (eval h v) (one_for (given back) c.split_up_to.result.1.now))
    (c.in_ok-push_digests-2.ensures
    ∙ ap (λ xs. map text xs ++ map f c.split_up_to.result.0.now) c.new-rest.ensures.items))
    c.bag.ensures
