use Rattle.std.proofs.Common.{arith, ◌≡◌, ◌^◌, ◌≤◌, inl, ◌∷◌, [], ◌++◌, refl, ap, ◌∙◌, sym}
use Rattle.storage_merkle.specs.declared.merkle.error.Error.TheVariants.{LocationOverflow}
use Rattle.storage_ops.specs.declared.qmdb.error.Error.TheVariants.{Merkle}
use Rattle.storage_current.proofs.MemViews.{succeeded, over_more, over_tree, tree_over}
use Rattle.storage_current.proofs.qmdb.current.operation_tree.OperationTree.add.Goals as goal

pub returns-then-as_u64-ge-MAX_LEAVES-clause-why : goal.returns-then-as_u64-ge-MAX_LEAVES-clause-why
returns-then-as_u64-ge-MAX_LEAVES-clause-why g c =
    let few = c.self.invariant.grown.few in
    let leaves : c.leaves-leaves.result ≡ c.args.self.now.leaves =
    c.leaves-leaves.ensures ∙ ap (λ t. t.leaves) c.self.view_is in
    let most : c.leaves-leaves.result ≤ 2 ^ 62 = omega (arith, c.leaves-leaves.ensures, few) in
    let full : c.args.self.now.leaves ≡ 2 ^ 62 = omega (arith, c.if-as_u64-ge-MAX_LEAVES.true, c.as_u64.ensures) in
    inl (full, ap (λ n. Merkle (LocationOverflow n)) leaves)

pub invariant_of-self-2 : goal.invariant_of-self-2
invariant_of-self-2 g c =
    let before = c.self.invariant in
    let is_ok = sym (c.if-is_err.ensures.value) in
    let place = succeeded c.add.result _ is_ok c.add.ensures.place in
    let fits = succeeded c.add.result _ is_ok c.add.ensures.fits in
    record {
      grown = record {
        few = omega (arith, place.0, fits);
        list = _;
        stands = succeeded c.add.result _ is_ok c.add.ensures.grown before.grown.list [] before.grown.stands;
      };
      all = record { unpruned = place.1 ∙ before.all.unpruned; unpinned = place.2 ∙ before.all.unpinned };
    }

pub returns-clause-grown : goal.returns-clause-grown
returns-clause-grown g c operations over =
    let S = g.F.Family.shape in
    let h = g.H.Hasher.hash_of in
    let text = g.H.Digest.Digest.text in
    let before = c.self.invariant in
    let m = c.self.inside.operations in
    let is_ok = sym (c.if-is_err.ensures.value) in
    let place = succeeded c.add.result _ is_ok c.add.ensures.place in
    let over' = over_tree text h S m c.args.self.now operations before.all.unpruned before.all.unpinned
    (ap (λ t. t.leaves) c.self.view_is) (ap (λ t. t.nodes) c.self.view_is) over in
    tree_over text h S c.add.new.self _ (operations ++ c.args.operation.now ∷ []) (place.1 ∙ before.all.unpruned)
    (place.2 ∙ before.all.unpinned) refl refl
    (over_more text h S g.met.F.Family.laws m c.add.new.self operations c.args.operation.now
    (succeeded c.add.result _ is_ok c.add.ensures.grown) over')
