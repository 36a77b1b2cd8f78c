use Rattle.std.proofs.Common.{◌<◌, ◌≤◌, ◌++◌, ◌∙◌, ℕ, List, ap, map, length, arith}
use Rattle.storage_codec.specs.Laws.Parts.{starts_none}
use Rattle.storage_current.specs.CurrentWire.{as_is}
use Rattle.storage_sync.proofs.Lists.{length-texts, on_err, text_at, writing_end, writing_next, writing_stops}
use Rattle.storage_sync.proofs.sync.pins.write_each.Goals as goal

pub returns-in_err-extend_from_slice-clause-err : goal.returns-in_err-extend_from_slice-clause-err
returns-in_err-extend_from_slice-clause-err g c =
    let text = g.D.Digest.text in
    let pins = c.args.pins.now in
    let texts : List (List ℕ) = map as_is (map text pins) in
    let i : ℕ = c.loop-pin.pin-index in
    let within : i < length texts = omega (arith, c.loop-pin-test.true, length-texts as_is pins text) in
    on_err c.from_residual.result _ (writing_stops _ _ _ texts i (text c.pin-item.result) within c.loop-pin.invariant
    (text_at as_is pins text i c.pin-item.result c.loop-pin-test.true c.pin-item.is)
    (starts_none (text c.pin-item.result) c.in_err-extend_from_slice.ensures.items))

pub loop-pin-preserved : goal.loop-pin-preserved
loop-pin-preserved g c =
    let text = g.D.Digest.text in
    let pins = c.args.pins.now in
    let texts : List (List ℕ) = map as_is (map text pins) in
    let i : ℕ = c.loop-pin.pin-index in
    let within : i < length texts = omega (arith, c.loop-pin-test.true, length-texts as_is pins text) in
    writing_next _ _ _ texts i (text c.pin-item.result) within c.loop-pin.invariant
    (text_at as_is pins text i c.pin-item.result c.loop-pin-test.true c.pin-item.is)
    (c.in_ok-extend_from_slice.ensures.items ∙ ap (λ (b : List ℕ). c.loop-pin.out.items ++ b) c.bytes.ensures)

pub returns-clause-ok : goal.returns-clause-ok
returns-clause-ok g c =
    let text = g.D.Digest.text in
    let pins = c.args.pins.now in
    let texts : List (List ℕ) = map as_is (map text pins) in
    let all : length texts ≤ c.loop-pin.pin-index = omega (arith, c.loop-pin-test.false, length-texts as_is pins text) in
    writing_end _ _ texts c.loop-pin.pin-index all c.loop-pin.invariant
