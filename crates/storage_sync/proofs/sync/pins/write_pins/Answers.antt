use Rattle.std.proofs.Common.{◌≡◌, ◌++◌, ◌∙◌, ℕ, List, map, length, ap, sym, subst, append_assoc}
use Rattle.std.proofs.lemmas.List.{length-map}
use Rattle.storage_codec.specs.Parts.{AppendsStart, varint_text}
use Rattle.storage_codec.specs.Laws.Parts.{starts_then, starts_first}
use Rattle.storage_current.specs.CurrentWire.{as_is}
use Rattle.storage_merkle.specs.ProofWire.{joined_text}
use Rattle.storage_sync.proofs.Lists.{on_err}
use Rattle.storage_sync.proofs.sync.pins.write_pins.Goals as goal

pub returns-in_err-write-clause-err : goal.returns-in_err-write-clause-err
returns-in_err-write-clause-err g c =
    let pins : List (List ℕ) = map g.D.Digest.text c.args.pins.now in
    let n : length c.args.pins.now ≡ length pins = sym (length-map c.args.pins.now g.D.Digest.text) in
    on_err c.from_residual.result _ (starts_first (joined_text (map as_is pins))
    (subst (λ (k : ℕ). AppendsStart c.args.out.now.items c.write.new.out.items (varint_text k)) n c.in_err-write.ensures.err))

pub returns-in_err-write_each-clause-err : goal.returns-in_err-write_each-clause-err
returns-in_err-write_each-clause-err g c =
    let pins : List (List ℕ) = map g.D.Digest.text c.args.pins.now in
    let n : length c.args.pins.now ≡ length pins = sym (length-map c.args.pins.now g.D.Digest.text) in
    on_err c.from_residual-in_err-write_each.result _ (starts_then (varint_text (length pins)) (joined_text (map as_is pins))
    (c.in_ok-write.ensures.ok ∙ ap (λ (k : ℕ). c.args.out.now.items ++ varint_text k) n) c.in_err-write_each.ensures.err)

pub returns-clause-ok : goal.returns-clause-ok
returns-clause-ok g c =
    let pins : List (List ℕ) = map g.D.Digest.text c.args.pins.now in
    let n : length c.args.pins.now ≡ length pins = sym (length-map c.args.pins.now g.D.Digest.text) in
    let items = joined_text (map as_is pins) in
    c.in_ok-write_each.ensures.ok
    ∙ ap (λ (o : List ℕ). o ++ items) (c.in_ok-write.ensures.ok ∙ ap (λ (k : ℕ). c.args.out.now.items ++ varint_text k) n)
    ∙ append_assoc c.args.out.now.items (varint_text (length pins)) items
