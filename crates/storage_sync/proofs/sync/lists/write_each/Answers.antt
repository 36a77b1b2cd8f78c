use Rattle.std.proofs.Common.{◌<◌, ◌≤◌, ℕ, List, map, length, arith}
use Rattle.storage_codec.specs.Parts.{vector_text}
use Rattle.storage_sync.proofs.Lists.{on_err, text_at, length-texts, writing_next, writing_stops, writing_end}
use Rattle.storage_sync.proofs.sync.lists.write_each.Goals as goal

pub returns-in_err-write-clause-err : goal.returns-in_err-write-clause-err
returns-in_err-write-clause-err c =
    let strings = c.args.strings.now in
    let texts : List (List ℕ) = map vector_text (map (λ s. s.items) strings) in
    let i : ℕ = c.loop-string.string-index in
    let within : i < length texts = omega (arith, c.loop-string-test.true, length-texts vector_text strings (λ s. s.items)) in
    on_err c.from_residual.result _ (writing_stops _ _ _ texts i (vector_text c.string-item.result.items) within
    c.loop-string.invariant
    (text_at vector_text strings (λ s. s.items) i c.string-item.result c.loop-string-test.true c.string-item.is)
    c.in_err-write.ensures.err)

pub loop-string-preserved : goal.loop-string-preserved
loop-string-preserved c =
    let strings = c.args.strings.now in
    let texts : List (List ℕ) = map vector_text (map (λ s. s.items) strings) in
    let i : ℕ = c.loop-string.string-index in
    let within : i < length texts = omega (arith, c.loop-string-test.true, length-texts vector_text strings (λ s. s.items)) in
    writing_next _ _ _ texts i (vector_text c.string-item.result.items) within c.loop-string.invariant
    (text_at vector_text strings (λ s. s.items) i c.string-item.result c.loop-string-test.true c.string-item.is)
    c.in_ok-write.ensures.ok

pub returns-clause-ok : goal.returns-clause-ok
returns-clause-ok c =
    let strings = c.args.strings.now in
    let texts : List (List ℕ) = map vector_text (map (λ s. s.items) strings) in
    let all : length texts ≤ c.loop-string.string-index
    = omega (arith, c.loop-string-test.false, length-texts vector_text strings (λ s. s.items)) in
    writing_end _ _ texts c.loop-string.string-index all c.loop-string.invariant
