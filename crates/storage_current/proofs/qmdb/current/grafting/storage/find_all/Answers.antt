use Rattle.std.proofs.Common.{arith, ◌≡◌, ◌∷◌, [], List, ℕ, length, refl}
use Rattle.std.proofs.lemmas.List.Elements.{All-push}
use Rattle.storage_current.specs.Combined.{IsOfOperations, joined}
use Rattle.storage_current.specs.GraftedTrees.{regrafted}
use Rattle.storage_current.proofs.Splitting.{more_found, more_below}
use Rattle.storage_current.proofs.qmdb.current.grafting.storage.find_all.Goals.{in-Some+in-Absent, in_default}
use Rattle.storage_current.proofs.qmdb.current.grafting.storage.find_all.Goals as goal

empty : (xs : List ℕ) → length xs ≡ 0 → xs ≡ []
empty [] e = refl
empty (x ∷ xs) e = absurd (omega arith)

pub loop-position-preserved-in_ok-push-in-Below-2 : goal.loop-position-preserved-in_ok-push-in-Below-2
loop-position-preserved-in_ok-push-in-Below-2 g c = record {
  split = λ operations.
      let node =
      joined g.F.Family.shape c.args.height c.args.size (regrafted g.H.Hasher.digest_of g.H.Digest.Digest.text g.F.Family.shape
      c.args.height (g.R.Readable.node c.args.grafted_tree.now)) operations in
      let here = rw c.in-Some.ensures.cases.0 at (c.loop-position.invariant.split operations) in
      rw (c.in_ok-push-in-Below-2.ensures.items, c.in_ok-push-in-Below.ensures.items)
      (more_below node operations c.in-Some.position.now c.in-Some.rest.now c.loop-position.nodes.items
      c.args.positions.now c.loop-position.below.items (c.in-Below.ensures.look operations) here);
  none = c.loop-position.invariant.none;
  below = rw c.in_ok-push-in-Below.ensures.items (All-push (IsOfOperations g.F.Family.shape c.args.height c.args.size)
      c.loop-position.below.items c.in-Some.position.now c.loop-position.invariant.below
      (c.in-Below.ensures.below refl));
}

pub loop-position-preserved : goal.loop-position-preserved
loop-position-preserved g c = record {
  split = λ operations.
      let node =
      joined g.F.Family.shape c.args.height c.args.size (regrafted g.H.Hasher.digest_of g.H.Digest.Digest.text g.F.Family.shape
      c.args.height (g.R.Readable.node c.args.grafted_tree.now)) operations in
      let here = rw c.in-Some.ensures.cases.0 at (c.loop-position.invariant.split operations) in
      rw c.in_ok-push-in-Found.ensures.items (more_found node operations c.in-Some.position.now c.in-Found.digest
      c.in-Some.rest.now c.loop-position.nodes.items c.args.positions.now c.loop-position.below.items
      (c.in-Found.ensures.look operations) here);
  none = c.loop-position.invariant.none;
  below = c.loop-position.invariant.below;
}

pub returns-clause-found : goal.returns-clause-found
returns-clause-found g c operations =
    let node =
    joined g.F.Family.shape c.args.height c.args.size (regrafted g.H.Hasher.digest_of g.H.Digest.Digest.text g.F.Family.shape
    c.args.height (g.R.Readable.node c.args.grafted_tree.now)) operations in
    let here = c.loop-position.invariant.split operations in
    elim c.match-split_first.branch [
      | in-Some+in-Absent w ↦ (
        c.loop-position.left.now,
        here,
        rw w.missing-is (w.in-Some.rest.now, w.in-Some.ensures.cases.0, w.in-Absent.ensures.look operations),
      )
      | in_default w ↦ (
        c.loop-position.left.now,
        here,
        rw (w.missing-is, c.loop-position.invariant.none) (empty c.loop-position.left.now w.in_default.ensures.cases),
      )
    ]
