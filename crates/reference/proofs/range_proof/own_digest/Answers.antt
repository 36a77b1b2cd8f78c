use Rattle.std.proofs.Common.{arith, ◌≡◌, ℕ, ◌++◌, [], List, length, map, get_or, ap, ◌∙◌}
use Rattle.storage_merkle.specs.Calc.{eval}
use Rattle.storage_merkle.specs.RangeProofs.{leading, trailing}
use Rattle.storage_merkle.specs.Trees.{Peak, part, never, folded, unfolded}
use Rattle.reference.specs.Layouts.{laid_out, valued}
use Rattle.reference.proofs.Nodes.{length-places}
use Rattle.reference.proofs.Sites.{own_front, own_back}
use Rattle.reference.proofs.range_proof.own_digest.Goals as goal

pub split_folded-requires : goal.split_folded-requires
split_folded-requires g c =
    let peaks : length c.deref.result.now ≡ length (g.F.Family.shape.peaks (length c.args.tree.now.elements.now)) =
    ap length (c.deref.ensures.value ∙ c.in_ok-peaks.ensures)
    ∙ length-places 0 (g.F.Family.shape.peaks (length c.args.tree.now.elements.now)) in
    omega (arith, c.requires.inactive)

pub returns-in-Front : goal.returns-in-Front
returns-in-Front g c =
    let D = g.H.Digest.Digest.text in
    let peaks = c.deref.ensures.value ∙ c.in_ok-peaks.ensures in
    let f : Peak → List ℕ = λ p. eval g.H.Hasher.hash_of (valued (λ s. g.H.Hasher.hash_of []) (λ j.
    get_or (map g.E.AsSlice.items c.args.tree.now.elements.now) j []) (g.G.Grafts.chunk c.args.tree.now.grafts.now))
    (part (laid_out g.F.Family.shape (g.G.Grafts.grafted c.args.tree.now.grafts.now)) never p) in
    own_front g.H.Hasher.hash_of
    (laid_out g.F.Family.shape (g.G.Grafts.grafted c.args.tree.now.grafts.now)) c.args.tree.now.bagging
    (record {
      elements = map g.E.AsSlice.items c.args.tree.now.elements.now;
      chunk = g.G.Grafts.chunk c.args.tree.now.grafts.now;
    })
    (length c.args.tree.now.elements.now) c.args.tree.now.inactive c.args.low c.args.high
    c.args.site c.split_leading.result.0.now _ _ c.in-Front.is
    (c.split_leading.ensures.front ∙ ap (leading c.args.low) (c.split_folded.ensures.left
    ∙ ap (folded c.args.tree.now.bagging c.args.tree.now.inactive) peaks))
    (ap (map D) c.deref-in-Front.ensures.value ∙ c.in_ok-push_digests-in-Front.ensures
    ∙ ap (λ xs. map D xs ++ map f c.split_leading.result.0.now) c.new-digests.ensures.items)
    c.forward_digest.ensures

pub returns-in-Back : goal.returns-in-Back
returns-in-Back g c =
    let D = g.H.Digest.Digest.text in
    let peaks = c.deref.ensures.value ∙ c.in_ok-peaks.ensures in
    let f : Peak → List ℕ = λ p. eval g.H.Hasher.hash_of (valued (λ s. g.H.Hasher.hash_of []) (λ j.
    get_or (map g.E.AsSlice.items c.args.tree.now.elements.now) j []) (g.G.Grafts.chunk c.args.tree.now.grafts.now))
    (part (laid_out g.F.Family.shape (g.G.Grafts.grafted c.args.tree.now.grafts.now)) never p) in
    own_back g.H.Hasher.hash_of
    (laid_out g.F.Family.shape (g.G.Grafts.grafted c.args.tree.now.grafts.now)) c.args.tree.now.bagging
    (record {
      elements = map g.E.AsSlice.items c.args.tree.now.elements.now;
      chunk = g.G.Grafts.chunk c.args.tree.now.grafts.now;
    })
    (length c.args.tree.now.elements.now) c.args.tree.now.inactive c.args.low c.args.high
    c.args.site c.split_up_to.result.1.now _ _ c.in-Back.is
    (c.split_up_to.ensures.others ∙ ap (trailing c.args.high) (c.split_folded.ensures.right
    ∙ ap (unfolded c.args.tree.now.bagging c.args.tree.now.inactive) peaks))
    (ap (map D) c.deref-in-Back.ensures.value ∙ c.in_ok-push_digests-in-Back.ensures
    ∙ ap (λ xs. map D xs ++ map f c.split_up_to.result.1.now) c.new-digests-in-Back.ensures.items)
    c.backward_digest.ensures
