use Rattle.std.proofs.Common.{arith, ◌≡◌, ℕ, ◌<◌, ◌⊎◌, List, [], ◌∷◌, length, Option, inl, inr, subst, None, eqb, if◌then◌else◌}
use Rattle.std.specs.List.{slice_get}
use Rattle.storage_merkle.specs.Plans.{IsFirstAbsent, IsFirstFault}
use Rattle.storage_merkle.specs.declared.merkle.error.Error.TheVariants.{ElementPruned, Memory}
use Rattle.replay_snapshots.proofs.faulty.FaultyStorage.get_nodes.Goals as goal

at_once : {D : Type 0} (answers : ℕ → Option D → Type 0) (own : ℕ) (positions : List ℕ) (code : ℕ) → 0 < length positions
    → code ≡ own → IsFirstFault answers (λ _ c. c ≡ own) positions code
at_once answers own [] code some is = absurd (omega arith)
at_once answers own (q ∷ qs) code some is = inl is

pub returns-then-not-takes-clause-fault : goal.returns-then-not-takes-clause-fault
returns-then-not-takes-clause-fault g c code same =
    at_once (λ q a. a ≡ (if eqb q c.args.self.now.lacks then None else slice_get c.args.self.now.nodes.items q))
    c.args.self.now.code c.args.positions.now code (let few = c.takes.ensures.refused c.if-not-takes.true in omega (arith, few)) (cc)

pub returns-in-Err-clause-answers : goal.returns-in-Err-clause-answers
returns-in-Err-clause-answers g c =
    let of_nodes = subst (λ v. ((p : ℕ) × (c.in-Err.error ≡ ElementPruned p) × IsFirstAbsent (λ q a. a ≡ (if eqb q
    c.takes.new.self.lacks then None else slice_get v.items q)) c.args.positions.now p) ⊎ (c.in-Err.error ≡ Memory))
    c.takes.ensures.nodes c.in-Err.ensures.why in
    let of_old = subst (λ l. ((p : ℕ) × (c.in-Err.error ≡ ElementPruned p) × IsFirstAbsent (λ q a. a ≡ (if eqb q
    l then None else slice_get c.args.self.now.nodes.items q)) c.args.positions.now p) ⊎ (c.in-Err.error ≡ Memory))
    c.takes.ensures.lacks of_nodes in
    elim of_old [
      | inl absent ↦ inl absent
      | inr memory ↦ inr (inr memory)
    ]
