use Rattle.std.proofs.Common.{◌++◌, map, ap, ◌∙◌}
use Rattle.storage_merkle.specs.Calc.{eval}
use Rattle.storage_merkle.specs.Trees.{Peak, part}
use Rattle.reference.specs.Layouts.{laid_out, valued}
use Rattle.reference.proofs.MultiParts.{bag_from}
use Rattle.reference.proofs.multi.part_bag.Goals as goal

pub returns : goal.returns
returns g c =
    let h = g.H.Hasher.hash_of in
    let text = g.H.Digest.Digest.text in
    let T = laid_out g.F.Family.shape (g.G.Grafts.grafted c.args.grafts.now) in
    let cut = g.S.Source.cut c.args.source.now in
    let v = valued (g.S.Source.digest c.args.source.now) (g.S.Source.item c.args.source.now)
    (g.G.Grafts.chunk c.args.grafts.now) in
    let each = λ (p : Peak). eval h v (part T cut p) in
    bag_from h v T cut c.args.left.now c.args.right.now (map text c.deref.result.now) (map text c.deref-2.result.now) _
    (ap (map text) c.deref.ensures.value ∙ c.in_ok-push_digests.ensures
    ∙ ap (λ xs. map text xs ++ map each c.args.left.now) c.new-front.ensures.items)
    (ap (map text) c.deref-2.ensures.value ∙ c.in_ok-push_digests-2.ensures
    ∙ ap (λ xs. map text xs ++ map each c.args.right.now) c.new-rest.ensures.items) c.bag.ensures
