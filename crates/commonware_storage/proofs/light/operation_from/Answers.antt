use Rattle.std.proofs.Common.{◌≡◌, ℕ, ◌<◌, List, length, false, true, sym, arith, rules, eq-eqb}
use Rattle.std.proofs.lemmas.Bool.{eqb-true}
use Rattle.storage_current.specs.Held.{operation_proof_of}
use Rattle.commonware_storage.proofs.Answers.{accepted_exactly, all_read, elsewhere, left_over, true_of}
use Rattle.commonware_storage.proofs.light.operation_from.Goals as goal
use Rattle.commonware_storage.proofs.light.operation_from.Goals.{then-remaining-eq0+else-eq, else-remaining-eq0}

pub returns-in-Ok-clause-exact : goal.returns-in-Ok-clause-exact
returns-in-Ok-clause-exact g c =
    let read = all_read _ _ _ c.in-Ok.ensures.gives (omega (arith, c.if-remaining-eq0.true, c.remaining.ensures)) in
    accepted_exactly g.H.Hasher.hash_of g.F.Family.shape c.args.chunk_size g.F.Graftable.has_pending
    g.H.Digest.Digest.size c.args.loc (g.B.Buf.unread c.args.buf) c.args.operation.now
    (g.H.Digest.Digest.text c.args.root.now)
    (operation_proof_of g.H.Digest.Digest.text (λ (b : List ℕ). b) c.in-Ok.proof) read
    (eqb-true _ _ (sym c.if-eq.ensures)) c.verify_encoded.result c.verify_encoded.ensures.exact

pub returns-in-Ok-clause-meaning : goal.returns-in-Ok-clause-meaning
returns-in-Ok-clause-meaning g c = λ fits wide.
    let read = all_read _ _ _ c.in-Ok.ensures.gives (omega (arith, c.if-remaining-eq0.true, c.remaining.ensures)) in
    true_of g.H.Hasher.hash_of g.F.Family.shape c.args.chunk_size g.F.Graftable.has_pending g.H.Digest.Digest.size
    c.args.loc (g.B.Buf.unread c.args.buf) c.args.operation.now (g.H.Digest.Digest.text c.args.root.now)
    (operation_proof_of g.H.Digest.Digest.text (λ (b : List ℕ). b) c.in-Ok.proof) read
    (eqb-true _ _ (sym c.if-eq.ensures)) fits c.verify_encoded.result (c.verify_encoded.ensures.meaning wide)

pub returns-in-Ok-clause-whole : goal.returns-in-Ok-clause-whole
returns-in-Ok-clause-whole g c =
    let read = all_read _ _ _ c.in-Ok.ensures.gives (omega (arith, c.if-remaining-eq0.true, c.remaining.ensures)) in
    let at = eqb-true _ _ (sym c.if-eq.ensures) in
    search (rules, read, at)

pub returns-in-Ok-2-clause-exact : goal.returns-in-Ok-2-clause-exact
returns-in-Ok-2-clause-exact g c = (
  λ t. absurd (let same : false ≡ true = t in cc),
  λ a. absurd (elim c.if-remaining-eq0.branch [
    | then-remaining-eq0+else-eq w ↦
        let read = all_read _ _ _ c.in-Ok-2.ensures.gives
        (omega (arith, w.if-remaining-eq0.true, c.remaining.ensures)) in
        elsewhere g.H.Hasher.hash_of g.F.Family.shape c.args.chunk_size g.F.Graftable.has_pending
        g.H.Digest.Digest.size c.args.loc (g.B.Buf.unread c.args.buf) c.args.operation.now
        (g.H.Digest.Digest.text c.args.root.now) _ read
        (λ same. let t = eq-eqb _ _ same in let f = w.if-eq.ensures in cc) a
    | else-remaining-eq0 w ↦
        let some : 0 < length (g.B.Buf.unread c.read_cfg.new.buf) =
        omega (arith, w.if-remaining-eq0.false, c.remaining.ensures) in
        left_over _ _ _ _ c.in-Ok-2.ensures.gives some a.read
  ]),
)
