use Rattle.std.proofs.Common.{◌≡◌, ◌+◌, ◌∙◌, ◌<◌, ◌≤◌, ℕ, List, map, length, ap, sym, arith, length-append}
use Rattle.std.proofs.lemmas.List.{length-map, take_all}
use Rattle.storage_codec.specs.Parts.{size_of, varint_text}
use Rattle.storage_current.specs.CurrentWire.{as_is}
use Rattle.storage_merkle.specs.ProofWire.{joined_text}
use Rattle.storage_sync.proofs.Lists.{length-texts, size_known, size_next, text_at}
use Rattle.storage_sync.proofs.sync.pins.pins_size.Goals as goal

pub loop-pin-init : goal.loop-pin-init
loop-pin-init g c =
    let count : ℕ = length (varint_text (length c.args.pins.now)) in
    c.encode_size-size.ensures ∙ ap size_of (let e : count ≡ count + 0 = omega arith in e)

pub loop-pin-preserved : goal.loop-pin-preserved
loop-pin-preserved g c =
    let text = g.D.Digest.text in
    let pins = c.args.pins.now in
    let texts : List (List ℕ) = map as_is (map text pins) in
    let i : ℕ = c.loop-pin.pin-index in
    let within : i < length texts = omega (arith, c.loop-pin-test.true, length-texts as_is pins text) in
    let bytes : length c.bytes.result.now ≡ length (text c.pin-item.result) = ap length c.bytes.ensures in
    c.sum-size.ensures _ _ c.loop-pin.invariant (size_known _ _ bytes (omega arith))
    ∙ ap size_of (size_next texts i (length (varint_text (length pins))) (text c.pin-item.result) within
    (text_at as_is pins text i c.pin-item.result c.loop-pin-test.true c.pin-item.is))

pub returns : goal.returns
returns g c =
    let text = g.D.Digest.text in
    let pins = c.args.pins.now in
    let texts : List (List ℕ) = map as_is (map text pins) in
    let all : length texts ≤ c.loop-pin.pin-index = omega (arith, c.loop-pin-test.false, length-texts as_is pins text) in
    let n : length pins ≡ length (map text pins) = sym (length-map pins text) in
    c.loop-pin.invariant
    ∙ ap (λ (ts : List (List ℕ)). size_of (length (varint_text (length pins)) + length (joined_text ts)))
    (take_all c.loop-pin.pin-index texts all)
    ∙ ap (λ (k : ℕ). size_of (length (varint_text k) + length (joined_text texts))) n
    ∙ ap size_of (sym (length-append (varint_text (length (map text pins))) (joined_text texts)))
