use Rattle.std.proofs.Common.{◌≡◌, ◌+◌, ◌<◌, ℕ, List, [], ◌∷◌, ◌++◌, map, take, length, get_or, ap, sym, ◌∙◌, arith, add-one, rules}
use Rattle.std.proofs.Math.Seq.{take-suc}
use Rattle.std.proofs.lemmas.List.{get_or-map, length-map, take_all}
use Rattle.std.proofs.lemmas.Result.{IfOk-weaker}
use Rattle.storage_current.specs.NodeLists.{IsTreeOver}
use Rattle.storage_current.proofs.MemViews.{succeeded}
use Rattle.storage_current.proofs.qmdb.current.snapshot.Snapshot.new.Goals as goal

pub loop-operation-preserved : goal.loop-operation-preserved
loop-operation-preserved g c =
    let operations = c.args.operations.now in
    let elements : List (List ℕ) = map g.E.AsSlice.items operations in
    let i : ℕ = c.loop-operation.operation-index in
    let within : i < length operations = omega (arith, c.loop-operation-test.true) in
    let here : get_or elements i [] ≡ c.as_slice.result.now =
    get_or-map g.E.AsSlice.items operations i c.operation-item.result [] within
    ∙ ap g.E.AsSlice.items (sym c.operation-item.is) ∙ sym c.as_slice.ensures in
    let step : take (i + 1) elements ≡ take i elements ++ c.as_slice.result.now ∷ [] =
    ap (λ n. take n elements) (add-one i)
    ∙ take-suc elements i [] (omega (arith, within, length-map operations g.E.AsSlice.items))
    ∙ ap (λ x. take i elements ++ x ∷ []) here in
    rw step (succeeded c.add.result _ (sym c.if-is_err.ensures.value) c.add.ensures.grown (take i elements)
    c.loop-operation.invariant)

pub returns-clause-stands : goal.returns-clause-stands
returns-clause-stands g c =
    let operations = c.args.operations.now in
    let elements : List (List ℕ) = map g.E.AsSlice.items operations in
    let i : ℕ = c.loop-operation.operation-index in
    let all : take i elements ≡ elements = take_all i elements
    (omega (
      arith,
      c.loop-operation-test.false,
      c.loop-operation.auto.operation-index-end,
      length-map operations g.E.AsSlice.items,
    )) in
    let whole : IsTreeOver g.H.Hasher.hash_of g.F.Family.shape c.loop-operation.tree elements =
    rw all at c.loop-operation.invariant in
    IfOk-weaker c.of_tree.result _ _ (λ kept stands. stands elements whole) c.of_tree.ensures.stands

pub returns-clause-why : goal.returns-clause-why
returns-clause-why g c =
    let operations = c.args.operations.now in
    let elements : List (List ℕ) = map g.E.AsSlice.items operations in
    let i : ℕ = c.loop-operation.operation-index in
    let moved = length-map operations g.E.AsSlice.items in
    let all : take i elements ≡ elements = take_all i elements
    (omega (arith, c.loop-operation-test.false, c.loop-operation.auto.operation-index-end, moved)) in
    rw (c.loop-operation.invariant.leaves ∙ ap length all ∙ moved) at c.of_tree.ensures.why

pub returns-then-is_err-clause-why : goal.returns-then-is_err-clause-why
returns-then-is_err-clause-why g c = search rules
