use Rattle.std.proofs.Common.{arith, ◌≤◌, ◌-◌, ◌/◌, ◌^◌, sym, refl, ◌∙◌, rules}
use Rattle.storage_merkle.specs.Shape.{size}
use Rattle.storage_merkle.specs.Nodes.{CoversSame}
use Rattle.storage_merkle.specs.Laws.Shape.{covers_down}
use Rattle.storage_current.specs.GraftedTrees.{regrafted}
use Rattle.storage_current.proofs.Joined.{joined_below, joined_above}
use Rattle.storage_current.proofs.qmdb.current.grafting.storage.look_up.Goals as goal

pub returns-then-own-height-clause-look : goal.returns-then-own-height-clause-look
returns-then-own-height-clause-look g c operations =
    let valid : c.args.position ≤ size g.F.Family.shape (2 ^ 62) = c.if-not-is_valid.ensures.0 refl in
    joined_below g.F.Family.shape g.met.F.Family.laws c.args.height c.args.nodes
    (regrafted g.H.Hasher.digest_of g.H.Digest.Digest.text g.F.Family.shape c.args.height
    (g.R.Readable.node c.args.grafted_tree.now)) operations c.args.position c.node_at-first.result.0
    c.node_at-first.result.1 (omega arith) valid (rw c.as_u64-3.ensures at c.node_at-first.ensures.node) c.if-own-height.true

pub returns-then-own-height-clause-below : goal.returns-then-own-height-clause-below
returns-then-own-height-clause-below g c same = record {
  within = omega arith;
  valid = c.if-not-is_valid.ensures.0 refl;
  below =
      (c.node_at-first.result.0, c.node_at-first.result.1, rw c.as_u64-3.ensures at c.node_at-first.ensures.node, c.if-own-height.true);
}

pub returns-in-None-clause-look : goal.returns-in-None-clause-look
returns-in-None-clause-look g c operations =
    let S = g.F.Family.shape in
    let valid : c.args.position ≤ size S (2 ^ 62) = c.if-not-is_valid.ensures.0 refl in
    let node = rw c.as_u64-3.ensures at c.node_at-first.ensures.node in
    let q = S.position (c.node_at-first.result.0 / 2 ^ c.args.height) (c.node_at-first.result.1 - c.args.height) in
    let covers : CoversSame S c.args.height q c.args.position =
    covers_down S g.met.F.Family.laws _ _ c.args.height c.args.position q node c.if-own-height.false refl in
    joined_above S g.met.F.Family.laws c.args.height c.args.nodes
    (regrafted g.H.Hasher.digest_of g.H.Digest.Digest.text S c.args.height
    (g.R.Readable.node c.args.grafted_tree.now)) operations c.args.position q (omega arith) valid covers
    ∙ sym (c.grafted_digest.ensures q (rw node.at covers)) ∙ c.in-None.is

pub returns-in-Some-clause-look : goal.returns-in-Some-clause-look
returns-in-Some-clause-look g c operations =
    let S = g.F.Family.shape in
    let valid : c.args.position ≤ size S (2 ^ 62) = c.if-not-is_valid.ensures.0 refl in
    let node = rw c.as_u64-3.ensures at c.node_at-first.ensures.node in
    let q = S.position (c.node_at-first.result.0 / 2 ^ c.args.height) (c.node_at-first.result.1 - c.args.height) in
    let covers : CoversSame S c.args.height q c.args.position =
    covers_down S g.met.F.Family.laws _ _ c.args.height c.args.position q node c.if-own-height.false refl in
    joined_above S g.met.F.Family.laws c.args.height c.args.nodes
    (regrafted g.H.Hasher.digest_of g.H.Digest.Digest.text S c.args.height
    (g.R.Readable.node c.args.grafted_tree.now)) operations c.args.position q (omega arith) valid covers
    ∙ sym (c.grafted_digest.ensures q (rw node.at covers)) ∙ c.in-Some.is

pub returns-then-as_u64-clause-look : goal.returns-then-as_u64-clause-look
returns-then-as_u64-clause-look g c = search rules
