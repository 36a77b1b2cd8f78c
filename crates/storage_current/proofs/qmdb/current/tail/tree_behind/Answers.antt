use Rattle.std.proofs.Common.{◌≡◌, ◌<◌, ◌+◌, ◌++◌, ◌∷◌, [], ℕ, List, length, map, take, get_or, append-nil, append_assoc, ap, sym, ◌∙◌, arith, add-one}
use Rattle.std.proofs.Math.Seq.{take-suc}
use Rattle.std.proofs.lemmas.List.{get_or-map, length-map, take_all}
use Rattle.storage_merkle.specs.Hashing.{leaf_digests}
use Rattle.storage_merkle.specs.Laws.Hashing.{length-leaf_digests}
use Rattle.storage_merkle.specs.Trees.{ungrafted}
use Rattle.storage_current.specs.NodeLists.{plain_over}
use Rattle.storage_current.proofs.MemViews.{over_more, succeeded}
use Rattle.storage_current.proofs.qmdb.current.tail.tree_behind.Goals as goal

pub loop-operation-init : goal.loop-operation-init
loop-operation-init g c =
    let h = g.H.Hasher.hash_of in
    let S = g.F.Family.shape in
    let T = ungrafted S in
    let pins = c.args.pins.now in
    let all : take (length (S.peaks c.args.begin)) pins ≡ pins =
    take_all (length (S.peaks c.args.begin)) pins (omega (arith, c.requires.pins)) in
    let kept = rw (c.new.ensures, all) at c.in-Ok.ensures.kept in
    let stands = rw (c.new.ensures, all) at c.in-Ok.ensures.stands in
    record {
      count = omega (arith, ap (λ m. m.leaves) kept);
      boundary = ap (λ m. m.boundary) kept;
      pinned = ap (λ m. m.pinned) kept;
      over = λ first len are. rw (append-nil first)
          (stands (plain_over h S) (leaf_digests h T 0 first) (length-leaf_digests h T 0 first ∙ len) are);
    }

pub loop-operation-preserved : goal.loop-operation-preserved
loop-operation-preserved g c =
    let text = g.H.Digest.Digest.text in
    let h = g.H.Hasher.hash_of in
    let S = g.F.Family.shape in
    let operations = c.args.operations.now in
    let elements : List (List ℕ) = map g.E.AsSlice.items operations in
    let i : ℕ = c.loop-operation.operation-index in
    let before = c.loop-operation.invariant in
    let x : List ℕ = c.as_slice.result.now in
    let within : i < length operations = c.loop-operation-test.true in
    let here : get_or elements i [] ≡ x =
    get_or-map g.E.AsSlice.items operations i c.operation-item.result [] within
    ∙ ap g.E.AsSlice.items (sym c.operation-item.is) ∙ sym c.as_slice.ensures in
    let step : take (i + 1) elements ≡ take i elements ++ x ∷ [] =
    ap (λ (j : ℕ). take j elements) (add-one i)
    ∙ take-suc elements i [] (omega (arith, within, length-map operations g.E.AsSlice.items))
    ∙ ap (λ y. take i elements ++ y ∷ []) here in
    let is_ok = sym (c.if-is_err.ensures.value) in
    let place = succeeded c.add.result _ is_ok c.add.ensures.place in
    let grown = succeeded c.add.result _ is_ok c.add.ensures.grown in
    record {
      count = omega (arith, place.0, before.count);
      boundary = place.1 ∙ before.boundary;
      pinned = place.2 ∙ before.pinned;
      over = λ first len are. rw (step, ← append_assoc first (take i elements) (x ∷ []))
          (over_more text h S g.met.F.Family.laws c.loop-operation.tree c.add.new.self (first ++ take i elements) x grown
          (before.over first len are));
    }
