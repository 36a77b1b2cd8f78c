use Rattle.std.proofs.Common.{arith, ◌≡◌, ℕ, ◌++◌, [], List, length, map, ap, sym, ◌∙◌, get_or}
use Rattle.std.proofs.lemmas.List.{length-map}
use Rattle.storage_merkle.specs.Trees.{Peak, part, never}
use Rattle.storage_merkle.specs.Calc.{eval}
use Rattle.reference.specs.Layouts.{laid_out, valued}
use Rattle.reference.proofs.Nodes.{length-places, root_from}
use Rattle.reference.proofs.tree.tree_root.Goals as goal

pub bag_peaks-bag-requires : goal.bag_peaks-bag-requires
bag_peaks-bag-requires g c =
    let T = g.H.Digest.Digest.text in
    let f : Peak → List ℕ = λ p. eval g.H.Hasher.hash_of (valued (λ s. g.H.Hasher.hash_of [])
    (λ j. get_or (map g.E.AsSlice.items c.args.elements.now) j []) (g.G.Grafts.chunk c.args.grafts.now))
    (part (laid_out g.F.Family.shape (g.G.Grafts.grafted c.args.grafts.now)) never p) in
    let all : map T c.deref-2.result.now ≡ map f c.deref.result.now = ap (map T) c.deref-2.ensures.value
    ∙ c.in_ok-push_digests.ensures ∙ ap (λ xs. map T xs ++ map f c.deref.result.now) c.new-digests.ensures.items in
    let count : length c.deref-2.result.now ≡ length c.deref.result.now =
    sym (length-map c.deref-2.result.now T) ∙ ap length all ∙ length-map c.deref.result.now f in
    let peaks : length c.deref.result.now ≡ length (g.F.Family.shape.peaks (length c.args.elements.now)) =
    ap length (c.deref.ensures.value ∙ c.in_ok-peaks.ensures)
    ∙ length-places 0 (g.F.Family.shape.peaks (length c.args.elements.now)) in
    omega (arith, c.requires.inactive)

pub returns : goal.returns
returns g c =
    let T = g.H.Digest.Digest.text in
    let f : Peak → List ℕ = λ p. eval g.H.Hasher.hash_of (valued (λ s. g.H.Hasher.hash_of [])
    (λ j. get_or (map g.E.AsSlice.items c.args.elements.now) j []) (g.G.Grafts.chunk c.args.grafts.now))
    (part (laid_out g.F.Family.shape (g.G.Grafts.grafted c.args.grafts.now)) never p) in
    root_from g.H.Hasher.hash_of (laid_out g.F.Family.shape (g.G.Grafts.grafted c.args.grafts.now)) c.args.bagging
    (record { elements = map g.E.AsSlice.items c.args.elements.now; chunk = g.G.Grafts.chunk c.args.grafts.now })
    c.args.inactive (length c.args.elements.now) _ _ _ c.deref.result.now
    (sym (length-map c.args.elements.now g.E.AsSlice.items)) (c.deref.ensures.value ∙ c.in_ok-peaks.ensures)
    (ap (map T) c.deref-2.ensures.value ∙ c.in_ok-push_digests.ensures
    ∙ ap (λ xs. map T xs ++ map f c.deref.result.now) c.new-digests.ensures.items)
    c.bag_peaks-bag.ensures c.root_over.ensures
