use Rattle.std.proofs.Common.{◌∙◌, ◌++◌, ap, ◌<◌, ◌≤◌, ℕ, List, map, length, arith}
use Rattle.std.proofs.lemmas.List.{length-map}
use Rattle.storage_codec.specs.Laws.Parts.{starts_none}
use Rattle.storage_current.specs.CurrentWire.{as_is}
use Rattle.storage_sync.proofs.Lists.{on_err, item_at, writing_next, writing_stops, writing_end}
use Rattle.storage_sync.proofs.sync.lists.write_bytes.Goals as goal

pub returns-in_err-extend_from_slice-clause-err : goal.returns-in_err-extend_from_slice-clause-err
returns-in_err-extend_from_slice-clause-err c =
    let chunks : List (List ℕ) = c.args.chunks.now in
    let texts : List (List ℕ) = map as_is chunks in
    let i : ℕ = c.loop-chunk.chunk-index in
    let within : i < length texts = omega (arith, c.loop-chunk-test.true, length-map chunks as_is) in
    on_err c.from_residual.result _ (writing_stops _ _ _ texts i c.chunk-item.result within c.loop-chunk.invariant
    (item_at chunks as_is i c.chunk-item.result c.loop-chunk-test.true c.chunk-item.is)
    (starts_none c.chunk-item.result c.in_err-extend_from_slice.ensures.items))

pub loop-chunk-preserved : goal.loop-chunk-preserved
loop-chunk-preserved c =
    let chunks : List (List ℕ) = c.args.chunks.now in
    let texts : List (List ℕ) = map as_is chunks in
    let i : ℕ = c.loop-chunk.chunk-index in
    let within : i < length texts = omega (arith, c.loop-chunk-test.true, length-map chunks as_is) in
    writing_next _ _ _ texts i c.chunk-item.result within c.loop-chunk.invariant
    (item_at chunks as_is i c.chunk-item.result c.loop-chunk-test.true c.chunk-item.is)
    (c.in_ok-extend_from_slice.ensures.items ∙ ap (λ (b : List ℕ). c.loop-chunk.out.items ++ b) c.bytes.ensures)

pub returns-clause-ok : goal.returns-clause-ok
returns-clause-ok c =
    let chunks : List (List ℕ) = c.args.chunks.now in
    let texts : List (List ℕ) = map as_is chunks in
    let all : length texts ≤ c.loop-chunk.chunk-index = omega (arith, c.loop-chunk-test.false, length-map chunks as_is) in
    writing_end _ _ texts c.loop-chunk.chunk-index all c.loop-chunk.invariant
