use Rattle.std.proofs.Common.{◌≡◌, ◌+◌, ◌∙◌, ◌<◌, ◌≤◌, ℕ, List, map, length, ap, sym, arith, length-append}
use Rattle.std.proofs.lemmas.List.{length-map, take_all}
use Rattle.storage_codec.specs.Parts.{size_of, varint_text, vector_text}
use Rattle.storage_merkle.specs.ProofWire.{joined_text}
use Rattle.storage_sync.proofs.Lists.{text_at, length-texts, size_next}
use Rattle.storage_sync.proofs.sync.lists.strings_size.Goals as goal

pub loop-string-init : goal.loop-string-init
loop-string-init c =
    let count : ℕ = length (varint_text (length c.args.strings.now)) in
    c.encode_size-size.ensures ∙ ap size_of (let e : count ≡ count + 0 = omega arith in e)

pub loop-string-preserved : goal.loop-string-preserved
loop-string-preserved c =
    let strings = c.args.strings.now in
    let texts : List (List ℕ) = map vector_text (map (λ s. s.items) strings) in
    let i : ℕ = c.loop-string.string-index in
    let within : i < length texts = omega (arith, c.loop-string-test.true, length-texts vector_text strings (λ s. s.items)) in
    c.sum-size.ensures _ _ c.loop-string.invariant c.encode_size.ensures
    ∙ ap size_of (size_next texts i (length (varint_text (length strings))) (vector_text c.string-item.result.items) within
    (text_at vector_text strings (λ s. s.items) i c.string-item.result c.loop-string-test.true c.string-item.is))

pub returns : goal.returns
returns c =
    let strings = c.args.strings.now in
    let texts : List (List ℕ) = map vector_text (map (λ s. s.items) strings) in
    let all : length texts ≤ c.loop-string.string-index
    = omega (arith, c.loop-string-test.false, length-texts vector_text strings (λ s. s.items)) in
    let n : length strings ≡ length (map (λ s. s.items) strings) = sym (length-map strings (λ s. s.items)) in
    c.loop-string.invariant
    ∙ ap (λ (ts : List (List ℕ)). size_of (length (varint_text (length strings)) + length (joined_text ts)))
    (take_all c.loop-string.string-index texts all)
    ∙ ap (λ (k : ℕ). size_of (length (varint_text k) + length (joined_text texts))) n
    ∙ ap size_of (sym (length-append (varint_text (length (map (λ s. s.items) strings))) (joined_text texts)))
