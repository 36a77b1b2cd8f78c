use Rattle.std.proofs.Common.{◌≡◌, ◌+◌, ◌∙◌, ◌<◌, ◌≤◌, ℕ, List, map, length, ap, sym, arith, length-append}
use Rattle.std.proofs.lemmas.List.{length-map, take_all}
use Rattle.storage_codec.specs.Parts.{size_of, varint_text}
use Rattle.storage_merkle.specs.ProofWire.{joined_text}
use Rattle.storage_current.specs.CurrentWire.{as_is}
use Rattle.storage_sync.proofs.Lists.{item_at, size_known, size_next}
use Rattle.storage_sync.proofs.sync.lists.chunks_size.Goals as goal

pub loop-chunk-init : goal.loop-chunk-init
loop-chunk-init c =
    let count : ℕ = length (varint_text (length c.args.chunks.now)) in
    c.encode_size-size.ensures ∙ ap size_of (let e : count ≡ count + 0 = omega arith in e)

pub loop-chunk-preserved : goal.loop-chunk-preserved
loop-chunk-preserved c =
    let chunks : List (List ℕ) = c.args.chunks.now in
    let texts : List (List ℕ) = map as_is chunks in
    let i : ℕ = c.loop-chunk.chunk-index in
    let within : i < length texts = omega (arith, c.loop-chunk-test.true, length-map chunks as_is) in
    let bytes : length c.bytes.result.now ≡ length c.chunk-item.result = ap length c.bytes.ensures in
    c.sum-size.ensures _ _ c.loop-chunk.invariant (size_known _ _ bytes (omega arith))
    ∙ ap size_of (size_next texts i (length (varint_text (length chunks))) c.chunk-item.result within
    (item_at chunks as_is i c.chunk-item.result c.loop-chunk-test.true c.chunk-item.is))

pub returns : goal.returns
returns c =
    let chunks : List (List ℕ) = c.args.chunks.now in
    let texts : List (List ℕ) = map as_is chunks in
    let all : length texts ≤ c.loop-chunk.chunk-index = omega (arith, c.loop-chunk-test.false, length-map chunks as_is) in
    c.loop-chunk.invariant
    ∙ ap (λ (ts : List (List ℕ)). size_of (length (varint_text (length chunks)) + length (joined_text ts)))
    (take_all c.loop-chunk.chunk-index texts all)
    ∙ ap size_of (sym (length-append (varint_text (length chunks)) (joined_text texts)))
