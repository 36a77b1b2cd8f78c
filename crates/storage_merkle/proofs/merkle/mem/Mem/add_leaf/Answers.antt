use Rattle.std.proofs.Common.{arith, ℕ, subst, ◌≡◌, ◌+◌, ◌∷◌, [], ◌++◌, Result, Ok, Err, IfOk, false, map, ap, sym}
use Rattle.std.specs.Result.{is_err}
use Rattle.std.proofs.lemmas.List.{length-append}
use Rattle.storage_merkle.specs.Calc.{be8}
use Rattle.storage_merkle.specs.Hashing.{node_over}
use Rattle.storage_merkle.specs.Kept.{HoldsDigests}
use Rattle.storage_merkle.specs.Shape.{size}
use Rattle.storage_merkle.proofs.merkle.mem.Mem.add_leaf.Goals as goal

succeeded : {A E : Type 0} (r : Result A E) (Q : Type 0) → is_err r ≡ false → IfOk r (λ _. Q) → Q
succeeded (Ok x) Q e h = h
succeeded (Err x) Q e h = absurd (cc)

pub returns-clause-grown : goal.returns-clause-grown
returns-clause-grown g c list dirty s =
    let S = g.F.Family.shape in
    let f = g.D.Digest.text in
    let N = node_over g.H.Hasher.hash_of (g.H.Hasher.layout c.args.hasher.now) (g.H.Hasher.chunk c.args.hasher.now) in
    let s' = rw (← c.self.view_is) at s in
    let grown = succeeded c.grow.result _ (sym (c.if-is_err.ensures.value)) c.grow.ensures.grown in
    let more = rw c.deref.ensures.value at (grown list dirty (sym s'.count) (rw c.deref.ensures.value s'.holds)) in
    record { count = rw length-append (omega (arith, s'.count)); holds = more }
