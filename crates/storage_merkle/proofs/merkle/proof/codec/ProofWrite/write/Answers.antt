use Rattle.std.proofs.Common.{◌≡◌, length, map, ◌++◌, arith, ap, subst, ◌∙◌}
use Rattle.std.proofs.lemmas.List.{length-map}
use Rattle.storage_codec.specs.Parts.{AppendsStart, varint_text}
use Rattle.storage_codec.specs.Laws.Parts.{starts_then, starts_first}
use Rattle.storage_merkle.specs.ProofWire.{joined_text}
use Rattle.storage_merkle.proofs.Written.{on_err, on_err_to}
use Rattle.std.proofs.lemmas.Grind.{common_steps}
use Rattle.storage_merkle.proofs.merkle.proof.codec.ProofWrite.write.Goals as goal

pub returns-in_err-write-3-clause-err : goal.returns-in_err-write-3-clause-err
returns-in_err-write-3-clause-err g c =
    let p = c.args.self.now in
    let ds = map g.D.Digest.text p.digests.items in
    let n : c.len.result ≡ length ds =
    omega (arith, c.len.ensures, length-map c.args.self.now.digests.items g.D.Digest.text) in
    let count = varint_text (length ds) in
    let inactive = varint_text p.inactive_peaks in
    on_err c.from_residual-in_err-write-3.result _
    (starts_then (varint_text p.leaves) (inactive ++ (count ++ joined_text ds)) c.in_ok-write.ensures.ok
    (starts_then inactive (count ++ joined_text ds) c.in_ok-write-2.ensures.ok
    (starts_first (joined_text ds) (subst (λ k.
    AppendsStart c.write-2.new.out.items c.write-3.new.out.items (varint_text k)) n c.in_err-write-3.ensures.err))))

pub returns-clause-err : goal.returns-clause-err
returns-clause-err g c =
    let p = c.args.self.now in
    let T = g.D.Digest.text in
    let ds = map T p.digests.items in
    let n : c.len.result ≡ length ds =
    omega (arith, c.len.ensures, length-map c.args.self.now.digests.items g.D.Digest.text) in
    let count = varint_text (length ds) in
    let inactive = varint_text p.inactive_peaks in
    on_err_to c.write_digests.result _ _
    (λ a. starts_then (varint_text p.leaves) (inactive ++ (count ++ joined_text ds)) c.in_ok-write.ensures.ok
    (starts_then inactive (count ++ joined_text ds) c.in_ok-write-2.ensures.ok
    (starts_then count (joined_text ds) (c.in_ok-write-3.ensures.ok
    ∙ ap (λ k. c.write-2.new.out.items ++ varint_text k) n)
    (subst (λ xs. AppendsStart c.write-3.new.out.items c.write_digests.new.out.items
    (joined_text (map g.D.Digest.text xs))) c.deref.ensures.value a))))
    c.write_digests.ensures.err

pub returns-in_err-write-clause-err : goal.returns-in_err-write-clause-err
returns-in_err-write-clause-err g c = grind (arith, common_steps)

pub returns-in_err-write-2-clause-err : goal.returns-in_err-write-2-clause-err
returns-in_err-write-2-clause-err g c = grind (arith, starts_then, starts_first)

pub returns-clause-ok : goal.returns-clause-ok
returns-clause-ok g c = grind (arith, common_steps)
