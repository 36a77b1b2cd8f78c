use Rattle.std.proofs.Common.{ℕ, ◌++◌, List, length, map, ap, sym, ◌∙◌}
use Rattle.std.proofs.lemmas.List.{length-map}
use Rattle.storage_merkle.specs.Calc.{Site as CalcSite}
use Rattle.storage_merkle.specs.RangeProofs.{own_digest}
use Rattle.storage_merkle.specs.Trees.{Content}
use Rattle.reference.specs.Layouts.{laid_out}
use Rattle.reference.specs.Sites.{site_of}
use Rattle.reference.proofs.Sites.{own_from}
use Rattle.reference.proofs.range_proof.own_proof.Goals as goal

pub returns : goal.returns
returns g c =
    let D = g.H.Digest.Digest.text in
    let T = laid_out g.F.Family.shape (g.G.Grafts.grafted c.args.tree.now.grafts.now) in
    let content : Content = record {
      elements = map g.E.AsSlice.items c.args.tree.now.elements.now;
      chunk = g.G.Grafts.chunk c.args.tree.now.grafts.now;
    } in
    let n = length c.args.tree.now.elements.now in
    let own : CalcSite → List ℕ = own_digest g.H.Hasher.hash_of T c.args.tree.now.bagging content n
    c.args.tree.now.inactive c.args.low c.args.high in
    own_from g.H.Hasher.hash_of T c.args.tree.now.bagging content n c.args.tree.now.inactive c.args.low c.args.high
    (map site_of c.deref.result.now) _ c.new.result
    c.new.ensures (sym (length-map c.args.tree.now.elements.now g.E.AsSlice.items))
    (ap (map site_of) c.deref.ensures.value ∙ c.in_ok-sites.ensures (g.G.Grafts.grafted c.args.tree.now.grafts.now))
    (c.in_ok-push_own.ensures
    ∙ ap (λ xs. map D xs ++ map own (map site_of c.deref.result.now)) c.new-digests.ensures.items)
