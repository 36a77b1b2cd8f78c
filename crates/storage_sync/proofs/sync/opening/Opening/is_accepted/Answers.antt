use Rattle.std.specs.Prelude.{◌↔◌, IfOk, IsTrue}
use Rattle.std.proofs.Common.{◌≡◌, ◌*◌, ◌%◌, ℕ, List, subst, arith}
use Rattle.std.proofs.lemmas.Result.{IfOk-weaker}
use Rattle.storage_current.specs.Openings.{IsOpeningAccepted, MeansOpening}
use Rattle.storage_sync.specs.Held.{opening_of}
use Rattle.storage_sync.proofs.States.{said_of_opening}
use Rattle.storage_sync.proofs.sync.opening.Opening.is_accepted.Goals as goal

pub returns-clause-exact : goal.returns-clause-exact
returns-clause-exact g c =
    let text = g.D.Digest.text in
    let o = opening_of text c.args.self.now in
    let P : List (List ℕ) → List (List ℕ) → Type 0 = λ xs pins. IfOk c.verify_pins.result (λ yes. IsTrue yes
    ↔ IsOpeningAccepted g.H.Hasher.hash_of g.F.Family.shape o.witness o.ops_root o.proof o.begin xs pins (text c.args.root.now)) in
    let begins : c.as_u64.result % (8 * g.row.N) ≡ 0 = omega (arith, c.if-as_u64-ne0.false) in
    let boundary : o.begin % (8 * g.row.N) ≡ 0 = subst (λ k. k % (8 * g.row.N) ≡ 0) c.as_u64.ensures begins in
    IfOk-weaker c.verify_pins.result _ _
    (λ yes both. (λ t. record { boundary = boundary; accepted = both.0 t }, λ is. both.1 is.accepted))
    (said_of_opening text P _ _ _ _ c.deref.ensures.value c.deref-2.ensures.value c.verify_pins.ensures.exact)

pub returns-clause-meaning : goal.returns-clause-meaning
returns-clause-meaning g c = λ some.
    let text = g.D.Digest.text in
    let o = opening_of text c.args.self.now in
    let P : List (List ℕ) → List (List ℕ) → Type 0 = λ xs pins. IfOk c.verify_pins.result (λ yes. IsTrue yes
    → MeansOpening g.H.Hasher.hash_of g.F.Family.shape o.witness o.ops_root o.proof o.begin xs pins (text c.args.root.now)) in
    said_of_opening text P _ _ _ _ c.deref.ensures.value c.deref-2.ensures.value (c.verify_pins.ensures.meaning some)
