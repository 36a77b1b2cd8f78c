use Rattle.std.proofs.Common.{ap, ◌≡◌, ◌∙◌, inl}
use Rattle.storage_merkle.specs.Stores.{is_among, suffix_positions}
use Rattle.storage_merkle.proofs.Store.Steps.{chosen_first, chosen_second}
use Rattle.storage_merkle.proofs.merkle.proof_store.ProofStore.missing.Goals as goal

pub returns-then-contains : goal.returns-then-contains
returns-then-contains g c =
    let e : c.contains.result ≡ is_among c.args.position (suffix_positions g.F.Family.shape c.args.self.now) =
    c.contains.ensures.value ∙ ap (is_among c.args.position) (c.deref.ensures.value ∙ c.in-Ok.ensures) in
    inl (chosen_first _ _ _ _ c.if-contains.true e)

pub returns-in-Ok : goal.returns-in-Ok
returns-in-Ok g c =
    let e : c.contains.result ≡ is_among c.args.position (suffix_positions g.F.Family.shape c.args.self.now) =
    c.contains.ensures.value ∙ ap (is_among c.args.position) (c.deref.ensures.value ∙ c.in-Ok.ensures) in
    inl (chosen_second _ _ _ _ c.if-contains.false e)
