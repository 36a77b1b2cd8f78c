use Rattle.std.proofs.Common.{◌≡◌, ◌≤◌, ◌<◌, ◌+◌, ◌^◌, ◌++◌, ◌∷◌, [], ℕ, List, length, map, take, get_or, append-nil, append_assoc, ap, sym, ◌∙◌, refl, arith, add-one, true}
use Rattle.std.proofs.Math.Seq.{take-suc}
use Rattle.std.proofs.lemmas.List.{get_or-map, length-map, take_all}
use Rattle.storage_merkle.specs.Kept.{HasRoomFor}
use Rattle.storage_merkle.specs.Shape.{size}
use Rattle.storage_merkle.specs.Laws.Shape.{grows_at_most}
use Rattle.storage_current.proofs.MemViews.{granted, over_more}
use Rattle.storage_current.proofs.qmdb.current.snapshot.extend.add_all.Goals as goal

pub loop-operation-init : goal.loop-operation-init
loop-operation-init g c = record {
  count = omega arith;
  room = omega arith;
  boundary = refl;
  grown = c.requires.grown;
  over = λ elements over. rw (append-nil elements) over;
}

pub loop-operation-preserved : goal.loop-operation-preserved
loop-operation-preserved g c =
    let text = g.H.Digest.Digest.text in
    let h = g.H.Hasher.hash_of in
    let S = g.F.Family.shape in
    let L = g.met.F.Family.laws in
    let operations = c.args.operations.now in
    let elements : List (List ℕ) = map g.E.AsSlice.items operations in
    let i : ℕ = c.loop-operation.operation-index in
    let n : ℕ = length operations in
    let before = c.loop-operation.invariant in
    let old = c.args.tree.now in
    let k = c.loop-operation.tree in
    let x : List ℕ = c.as_slice.result.now in
    let within : i < n = omega (arith, c.loop-operation-test.true) in
    let here : get_or elements i [] ≡ x =
    get_or-map g.E.AsSlice.items operations i c.operation-item.result [] within
    ∙ ap g.E.AsSlice.items (sym c.operation-item.is) ∙ sym c.as_slice.ensures in
    let step : take (i + 1) elements ≡ take i elements ++ x ∷ [] =
    ap (λ (j : ℕ). take j elements) (add-one i)
    ∙ take-suc elements i [] (omega (arith, within, length-map operations g.E.AsSlice.items))
    ∙ ap (λ y. take i elements ++ y ∷ []) here in
    let less : k.leaves < 2 ^ 62 = omega (arith, before.count, within, c.requires.few) in
    let most : size S (k.leaves + 1) ≤ size S (old.leaves + n) =
    grows_at_most (size S) L.grows (k.leaves + 1) (old.leaves + n) (omega (arith, before.count, within)) in
    let start : size S k.boundary ≡ size S old.boundary =
    ap (size S) before.boundary in
    let one : HasRoomFor S 1 k = omega (arith, most, c.requires.room, before.room, start) in
    let ok = c.add.ensures.succeeds less one in
    let place = granted c.add.result _ ok c.add.ensures.place in
    let grown = granted c.add.result _ ok c.add.ensures.grown in
    record {
      count = omega (arith, place.0, before.count);
      room = omega (arith, before.room, c.add.ensures.room);
      boundary = place.1 ∙ before.boundary;
      grown = record {
        few = omega (arith, place.0, less);
        list = _;
        stands = grown before.grown.list [] before.grown.stands;
      };
      over = λ xs over. rw (step, ← append_assoc xs (take i elements) (x ∷ []))
          (over_more text h S L k c.add.new.self (xs ++ take i elements) x grown (before.over xs over));
    }

pub returns-clause-over : goal.returns-clause-over
returns-clause-over g c xs over =
    let operations = c.args.operations.now in
    let elements : List (List ℕ) = map g.E.AsSlice.items operations in
    let i : ℕ = c.loop-operation.operation-index in
    let all : take i elements ≡ elements = take_all i elements
    (omega (arith, c.loop-operation-test.false, length-map operations g.E.AsSlice.items)) in
    rw all at (c.loop-operation.invariant.over xs over)

pub returns-clause-count : goal.returns-clause-count
returns-clause-count g c = omega (arith, c.loop-operation-test.false, c.loop-operation.auto.operation-index-end, c.loop-operation.invariant.count)
