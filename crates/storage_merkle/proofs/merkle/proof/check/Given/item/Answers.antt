use Rattle.std.proofs.Common.{arith, map, refl, sym, []}
use Rattle.storage_merkle.specs.Calc.{node}
use Rattle.storage_merkle.specs.CheckParts.{given_values}
use Rattle.storage_merkle.proofs.Check.Nodes.{node_sibling, first_of}
use Rattle.storage_merkle.proofs.Walks.{in_tree_leaves}
use Rattle.storage_merkle.proofs.Found.{adds_nothing, adds_then, found_apart, found_not_apart}
use Rattle.std.proofs.lemmas.Grind.{common_steps}
use Rattle.storage_merkle.proofs.merkle.proof.check.Given.item.Goals as goal

pub is_apart-requires-clause-within : goal.is_apart-requires-clause-within
is_apart-requires-clause-within g c = omega (
  arith,
  in_tree_leaves g.F.Family.shape g.met.F.Family.laws
      c.args.self.now.leaves c.args.first c.args.height c.requires.within,
  c.requires.given.few,
)

pub returns-then-is_apart-clause-exact : goal.returns-then-is_apart-clause-exact
returns-then-is_apart-clause-exact g c = λ digest later serves tops. (
  node_sibling g.H.Hasher.hash_of (g.H.Hasher.layout c.args.hasher.now) c.args.self.now.start c.args.self.now.end
      (given_values digest c.args.self.now.start (map g.E.AsSlice.items c.args.self.now.elements.now)
      (g.H.Hasher.chunk c.args.hasher.now))
      c.args.height c.args.first _ c.if-is_apart.ensures
      (first_of g.D.Digest.text c.args.tops.now c.index-tops-0.result (digest (node c.args.first c.args.height))
      (map digest later) c.index-tops-0.is (tops (sym c.if-is_apart.ensures))),
  adds_nothing _ c.args.found.now _
      (found_apart g.H.Hasher.hash_of (g.H.Hasher.layout c.args.hasher.now) c.args.self.now.start c.args.self.now.end
      (given_values digest c.args.self.now.start (map g.E.AsSlice.items c.args.self.now.elements.now)
      (g.H.Hasher.chunk c.args.hasher.now)) c.args.height c.args.first c.if-is_apart.ensures),
)

pub returns-in_ok-node-clause-exact : goal.returns-in_ok-node-clause-exact
returns-in_ok-node-clause-exact g c = λ digest later serves tops.
    let is = c.in_ok-node.ensures digest serves in (
      is.0,
      adds_then _ c.args.found.now c.args.found.now c.node.new.found [] _ _ (found_not_apart g.H.Hasher.hash_of
          (g.H.Hasher.layout c.args.hasher.now) c.args.self.now.start c.args.self.now.end (given_values digest
          c.args.self.now.start (map g.E.AsSlice.items c.args.self.now.elements.now) (g.H.Hasher.chunk c.args.hasher.now))
          c.args.height c.args.first c.if-is_apart.ensures) (adds_nothing _ c.args.found.now [] refl) is.1,
    )

pub returns-then-is_apart-clause-left : goal.returns-then-is_apart-clause-left
returns-then-is_apart-clause-left g c = grind (arith, common_steps)
